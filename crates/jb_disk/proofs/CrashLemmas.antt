-- What is picked of the images of a disk in memory is one of them.
use Rattle.std.proofs.Common.{◌≡◌, ◌⊎◌, inl, inr, zero, suc, ℕ, ◌+◌, ◌<◌, ◌≤◌, List, [], ◌∷◌, ◌++◌, length, refl, sym, ◌∙◌, ap, subst, arith}
use Rattle.std.specs.Prelude.{take, drop, reverse, slice_index}
use Rattle.std.proofs.lemmas.Bool.{cases_lt}
use Rattle.std.proofs.lemmas.List.{places, reverse-append, take-append-drop}
use Rattle.jb_disk.specs.declared.file.FileId.{FileId}
use Rattle.jb_disk.specs.declared.file.FileId.TheVariants.{Jhr, Jdt, Jdx, Jlr, Jnl, Ndt}
use Rattle.jb_disk.specs.declared.call.Call.{Call}
use Rattle.jb_disk.specs.declared.call.Call.TheVariants.{NoChange, Wrote, Resized, Synced}
use Rattle.jb_disk.specs.Files.{Files}
use Rattle.jb_disk.specs.Images.{Unsynced, Images, Range, IsWritten, IsLeft, IsImage, just_synced, torn, cut, with_image}
use Rattle.jb_disk.specs.Moments.{MightLeave}
use Rattle.jb_disk.specs.Memory.{files_of_list, contents_after, images_after, earlier_after, Recording, memory_device}
use Rattle.jb_disk.specs.MemoryLaws.{image-contents}
use Rattle.jb_disk.specs.FileLaws.{same_file}
use Rattle.jb_disk.specs.ImageLaws.{with_image-here, with_image-other}
use Rattle.jb_disk.specs.Crash.{IsMarred, IsPicked, first_calls, images_at, contents_at}

-- the synced length lies between the least and the greatest
abbrev pub IsBetween : Unsynced → Type 0
IsBetween u = (u.least ≤ length u.synced) × (length u.synced ≤ u.greatest)

-- one file's image changes
between-with : (f : FileId) (change : Unsynced → Unsynced) (images : Images) → ((g : FileId) → IsBetween (images g)) → IsBetween (change (images f)) → (g : FileId) → IsBetween (with_image f change images g)
between-with f change images all now g = elim (same_file g f) [
  | inl same ↦ subst (λ (h : FileId). IsBetween (with_image f change images h)) (sym same) (subst IsBetween (sym (with_image-here f change images)) now)
  | inr other ↦ subst IsBetween (sym (with_image-other f g change images other)) (all g)
]

-- a change of length keeps the synced length between
between-cut : (len : ℕ) (u : Unsynced) → IsBetween u → IsBetween (cut len u)
between-cut len u was =
    let a = was.0 in
    let b = was.1 in
    (omega arith, omega arith)

-- so it is after any calls
pub between : (first : Files) (calls : List Call) (f : FileId) → IsBetween (images_after first calls f)
between first [] f = (omega arith, omega arith)
between first (NoChange ∷ earlier) f = between first earlier f
between first (Wrote file at bytes done ∷ earlier) f = between-with file (torn at (length bytes.items)) (images_after first earlier) (between first earlier) (between first earlier file) f
between first (Resized file len done ∷ earlier) f = between-with file (cut len) (images_after first earlier) (between first earlier) (between-cut len (images_after first earlier file) (between first earlier file)) f
between first (Synced file ∷ earlier) f =
    between-with file (λ _. just_synced (contents_after first earlier file)) (images_after first earlier) (between first earlier) (omega arith, omega arith) f

-- the least length is at most the greatest
pub least-greatest : (u : Unsynced) → IsBetween u → u.least ≤ u.greatest
least-greatest u was =
    let a = was.0 in
    let b = was.1 in
    omega arith

-- a place is in some range or in none
written_or_not : (ranges : List Range) (i : ℕ) → IsWritten ranges i ⊎ (IsWritten ranges i → ⊥)
written_or_not [] i = inr (λ none. none)
written_or_not (range ∷ ranges) i = elim (written_or_not ranges i) [
  | inl there ↦ inl (inr there)
  | inr not ↦ elim (cases_lt i range.at) [
    | inl under ↦ inr (λ some. elim some [ inl here ↦ (let low = here.0 in omega arith) | inr there ↦ not there ])
    | inr over ↦ elim (cases_lt i (range.at + range.len)) [
      | inl inside ↦ inl (inl (over, inside))
      | inr past ↦ inr (λ some. elim some [ inl here ↦ (let low = here.1 in omega arith) | inr there ↦ not there ])
    ]
  ]
]

-- the marred file may be left
left-marred : (u : Unsynced) (bytes : List ℕ) → IsBetween u → IsMarred u bytes → IsLeft u bytes
left-marred u bytes was marred =
    let least = least-greatest u was in
    let size = marred.longest in
    record {
      no_shorter = omega arith;
      no_longer = omega arith;
      same = λ i low. elim (written_or_not u.ranges i) [ inl there ↦ inl there | inr not ↦ inr (marred.kept i low not) ];
    }

-- the file as it was synced may be left
left-as_synced : (u : Unsynced) → IsBetween u → IsLeft u u.synced
left-as_synced u was = record { no_shorter = was.0; no_longer = was.1; same = λ i low. inr refl }

-- a place below the cut
get-shortest : (n : ℕ) (l : List ℕ) (i : ℕ) → i < n → slice_index (take n l) i ≡ slice_index l i
get-shortest n l i low = grind (arith, places)

-- the file as it was written may be left, cut to the least length
left-shortest : (u : Unsynced) (written : List ℕ) → IsBetween u → IsLeft u written → IsLeft u (take u.least written)
left-shortest u written was left =
    let least = least-greatest u was in
    let a = left.no_shorter in
    let size : length (take u.least written) ≡ u.least = grind (arith, places) in
    record {
      no_shorter = omega arith;
      no_longer = omega arith;
      same = λ i low. elim (left.same i low) [ inl there ↦ inl there | inr is ↦ inr (get-shortest u.least written i low ∙ is) ];
    }

-- what is picked may be left
pub picked-left : (pick : ℕ) (u : Unsynced) (written bytes : List ℕ) → IsBetween u → IsLeft u written → IsPicked pick u written bytes → IsLeft u bytes
picked-left zero u written bytes was left is = subst (IsLeft u) (sym is) (left-as_synced u was)
picked-left (suc zero) u written bytes was left is = subst (IsLeft u) (sym is) left
picked-left (suc (suc zero)) u written bytes was left marred = left-marred u bytes was marred
picked-left (suc (suc (suc more))) u written bytes was left is = subst (IsLeft u) (sym is) (left-shortest u written was left)

-- what is picked of each file is an image
pub picked-image : (pick after : ℕ) (disk : Recording) (files : Files) → ((file : FileId) → IsPicked pick (images_at after disk file) (contents_at after disk file) (files file)) → IsImage (images_at after disk) files
picked-image pick after disk files picked = λ file.
    picked-left pick (images_at after disk file) (contents_at after disk file) (files file) (between (files_of_list disk.first) (first_calls after disk) file)
    (image-contents (files_of_list disk.first) (first_calls after disk) file) (picked file)

-- an image after some calls is one of a moment so far
among : (first : Files) (later earlier : List Call) (files : Files) → IsImage (images_after first earlier) files → MightLeave (images_after first (later ++ earlier) ∷ earlier_after first (later ++ earlier)) files
among first [] earlier files image = inl image
among first (NoChange ∷ later) earlier files image = among first later earlier files image
among first (Wrote file at bytes done ∷ later) earlier files image = inr (among first later earlier files image)
among first (Resized file len done ∷ later) earlier files image = inr (among first later earlier files image)
among first (Synced file ∷ later) earlier files image = inr (among first later earlier files image)

-- so an image after the first calls is
pub image-moment : (after : ℕ) (disk : Recording) (files : Files) → IsImage (images_at after disk) files → MightLeave (memory_device disk).moments files
image-moment after disk files image =
    let parts : reverse (drop after disk.calls) ++ reverse (take after disk.calls) ≡ reverse disk.calls =
    sym (reverse-append (take after disk.calls) (drop after disk.calls)) ∙ ap reverse (take-append-drop after disk.calls) in
    subst (λ (calls : List Call). MightLeave (images_after (files_of_list disk.first) calls ∷ earlier_after (files_of_list disk.first) calls) files) parts
    (among (files_of_list disk.first) (reverse (drop after disk.calls)) (reverse (take after disk.calls)) files image)

-- a fact of each of six files
pub each_of_six : (P : FileId → List ℕ → Type 0) (a b c d e f : List ℕ) → P Jhr a → P Jdt b → P Jdx c → P Jlr d → P Jnl e → P Ndt f
    → (file : FileId) → P file (files_of_list (a ∷ b ∷ c ∷ d ∷ e ∷ f ∷ []) file)
each_of_six P a b c d e f pa pb pc pd pe pf Jhr = pa
each_of_six P a b c d e f pa pb pc pd pe pf Jdt = pb
each_of_six P a b c d e f pa pb pc pd pe pf Jdx = pc
each_of_six P a b c d e f pa pb pc pd pe pf Jlr = pd
each_of_six P a b c d e f pa pb pc pd pe pf Jnl = pe
each_of_six P a b c d e f pa pb pc pd pe pf Ndt = pf
