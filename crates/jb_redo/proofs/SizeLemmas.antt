-- The lengths that a record sets.
use Rattle.std.proofs.Common.{◌≡◌, ◌≢◌, ◌⊎◌, inl, inr, ℕ, ◌≤◌, List, [], ◌∷◌, ◌++◌, All, refl, sym, ◌∙◌, arith}
use Rattle.std.proofs.lemmas.Bool.{cases_eq}
use Rattle.std.proofs.lemmas.Bool.Decides.{nat_tests}
use Rattle.std.proofs.lemmas.List.Elements.{All-head, All-tail}
use Rattle.jb_disk.specs.declared.file.FileId.{FileId}
use Rattle.jb_disk.specs.declared.piece.Length.{Length}
use Rattle.jb_disk.specs.declared.version.Version.{Version}
use Rattle.jb_disk.specs.Files.{file_number}
use Rattle.jb_redo.specs.Rules.{with_size, new_sizes, IsLegalLength}

-- the file that is set
pub with_size-here : (entry : Length) (sizes : FileId → ℕ) (file : FileId) → file_number file ≡ file_number entry.file → with_size entry sizes file ≡ entry.len
with_size-here entry sizes file same = grind (arith, nat_tests)

-- the files that are not
pub with_size-other : (entry : Length) (sizes : FileId → ℕ) (file : FileId) → file_number file ≢ file_number entry.file → with_size entry sizes file ≡ sizes file
with_size-other entry sizes file other = grind (arith, nat_tests)

-- a new length more
pub new_sizes-push : (lengths : List Length) (entry : Length) (sizes : FileId → ℕ) → new_sizes (lengths ++ entry ∷ []) sizes ≡ with_size entry (new_sizes lengths sizes)
new_sizes-push [] entry sizes = refl
new_sizes-push (first ∷ lengths) entry sizes = new_sizes-push lengths entry (with_size first sizes)

-- a file is given a length, whatever it had, or keeps its own
pub given_or_not : (lengths : List Length) (file : FileId) → ((sizes other : FileId → ℕ) → new_sizes lengths sizes file ≡ new_sizes lengths other file)
    ⊎ ((sizes : FileId → ℕ) → new_sizes lengths sizes file ≡ sizes file)
given_or_not [] file = inr (λ sizes. refl)
given_or_not (entry ∷ lengths) file = elim (given_or_not lengths file) [
  | inl given ↦ inl (λ sizes other. given (with_size entry sizes) (with_size entry other))
  | inr kept ↦ elim (cases_eq (file_number file) (file_number entry.file)) [
    | inl same ↦ inl (λ sizes other. kept (with_size entry sizes) ∙ with_size-here entry sizes file same ∙ sym (with_size-here entry other file same) ∙ sym (kept (with_size entry other)))
    | inr apart ↦ inr (λ sizes. kept (with_size entry sizes) ∙ with_size-other entry sizes file apart)
  ]
]

-- the journal and the shadow of the texts are given none
pub not_given : {version : Version} (lengths : List Length) (sizes : FileId → ℕ) (file : FileId) → All (IsLegalLength version) lengths → 4 ≤ file_number file → new_sizes lengths sizes file ≡ sizes file
not_given [] sizes file legal high = refl
not_given {version} (entry ∷ lengths) sizes file legal high =
    let of_base = (All-head (IsLegalLength version) entry lengths legal).of_base in
    not_given lengths (with_size entry sizes) file (All-tail (IsLegalLength version) entry lengths legal) high ∙ with_size-other entry sizes file (λ same. omega (arith, same, of_base))
