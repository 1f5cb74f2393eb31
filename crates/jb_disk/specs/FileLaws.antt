-- Two files are one or another, and a change of one leaves the others.
use Rattle.std.proofs.Common.{◌≡◌, ◌≢◌, ◌⊎◌, inl, inr, zero, suc, ℕ, ◌+◌, ◌≤◌, List, length, refl, sym, ◌∙◌, ap, subst, arith}
use Rattle.std.proofs.lemmas.List.{places}
use Rattle.std.proofs.lemmas.Bool.{cases_eq}
use Rattle.std.proofs.lemmas.Bool.Decides.{nat_tests}
use Rattle.jb_disk.specs.declared.file.FileId.{FileId}
use Rattle.jb_disk.specs.declared.file.FileId.TheVariants.{Jhr, Jdt, Jdx, Jlr, Jnl, Ndt}
use Rattle.jb_disk.specs.Files.{Files, file_number, with_file, overwritten, InFile}
use Rattle.jb_disk.specs.Memory.{of_length}

-- the file of a number
abbrev of_number : ℕ → FileId
of_number zero = Jhr
of_number (suc zero) = Jdt
of_number (suc (suc zero)) = Jdx
of_number (suc (suc (suc zero))) = Jlr
of_number (suc (suc (suc (suc zero)))) = Jnl
of_number (suc (suc (suc (suc (suc more))))) = Ndt

-- a file's number tells the file
back : (file : FileId) → of_number (file_number file) ≡ file
back Jhr = refl
back Jdt = refl
back Jdx = refl
back Jlr = refl
back Jnl = refl
back Ndt = refl

-- two files of one number are the same
pub number-injective : (f g : FileId) → file_number f ≡ file_number g → f ≡ g
number-injective f g e = sym (back f) ∙ ap of_number e ∙ back g

-- two files are the same or not
pub same_file : (f g : FileId) → (f ≡ g) ⊎ (f ≢ g)
same_file f g = elim (cases_eq (file_number f) (file_number g)) [
  | inl same ↦ inl (number-injective f g same)
  | inr other ↦ inr (λ is. other (ap file_number is))
]

-- the file that is replaced
pub with_file-here : (f : FileId) (bytes : List ℕ) (files : Files) → with_file f bytes files f ≡ bytes
with_file-here f bytes files = grind (arith, nat_tests)

-- the files that are not
pub with_file-other : (f g : FileId) (bytes : List ℕ) (files : Files) → g ≢ f → with_file f bytes files g ≡ files g
with_file-other f g bytes files ne =
    let apart : file_number g ≢ file_number f = λ same. ne (number-injective g f same) in
    grind (arith, nat_tests)

-- two families of files with the same bytes in each are one
pub same_files : (a b : Files) → ((file : FileId) → a file ≡ b file) → a ≡ b
same_files a b each = λ i. λ file. each file i

-- a replaced file has changed as its bytes have
pub InFile-with : (f : FileId) (bytes : List ℕ) (files : Files) (change : List ℕ → List ℕ → Type 0) → change (files f) bytes → InFile f change files (with_file f bytes files)
InFile-with f bytes files change changed = record {
  here = subst (change (files f)) (sym (with_file-here f bytes files)) changed;
  others = λ g ne. with_file-other f g bytes files ne;
}

-- files that stay as they are
pub InFile-refl : (f : FileId) (files : Files) (change : List ℕ → List ℕ → Type 0) → change (files f) (files f) → InFile f change files files
InFile-refl f files change changed = record { here = changed; others = λ g ne. refl }

-- a write within a file keeps its length
pub length-overwritten : (at : ℕ) (bytes old : List ℕ) → at + length bytes ≤ length old → length (overwritten at bytes old) ≡ length old
unfolding overwritten
length-overwritten at bytes old within = grind (arith, places)

-- a file that was cut or grown has the length
pub length-of_length : (len : ℕ) (old : List ℕ) → length (of_length len old) ≡ len
unfolding of_length
length-of_length len old = grind (arith, places)
