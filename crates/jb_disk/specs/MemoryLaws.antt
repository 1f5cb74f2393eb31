-- What a disk in memory reads is one of its images.
use Rattle.std.proofs.Common.{◌≡◌, inl, inr, ℕ, ◌+◌, ◌≤◌, List, [], ◌∷◌, ◌++◌, length, refl, sym, ◌∙◌, ap, subst, true, false, Bool, Some, None}
use Rattle.std.specs.Prelude.{reverse, if◌then◌else◌}
use Rattle.std.proofs.lemmas.List.{reverse-append}
use Rattle.std.proofs.lemmas.Bool.{and_parts, leb-true}
use Rattle.jb_disk.specs.declared.file.FileId.{FileId}
use Rattle.jb_disk.specs.declared.call.Call.{Call}
use Rattle.jb_disk.specs.declared.call.Call.TheVariants.{NoChange, Wrote, Resized, Synced}
use Rattle.jb_disk.specs.Files.{Files, with_file, overwritten, written}
use Rattle.jb_disk.specs.Images.{Unsynced, Images, IsLeft, IsImage, just_synced, torn, cut, with_image}
use Rattle.jb_disk.specs.Device.{TellsAnImage}
use Rattle.jb_disk.specs.Memory.{files_of_list, of_length, contents_after, images_after, earlier_after, Recording, memory_device}
use Rattle.jb_disk.specs.Moments.{AtEach, IsPossible}
use Rattle.jb_disk.specs.FileLaws.{same_file, with_file-here, with_file-other}
use Rattle.jb_disk.specs.ImageLaws.{with_image-here, with_image-other, left-synced, left-torn, left-overwritten, left-cut, left-resized}

-- one file and its image change, and the others do not
image-with : (f : FileId) (change : Unsynced → Unsynced) (bytes : List ℕ) (images : Images) (files : Files) → IsImage images files
    → IsLeft (change (images f)) bytes → IsImage (with_image f change images) (with_file f bytes files)
image-with f change bytes images files was now g = elim (same_file g f) [
  | inl same ↦ subst (λ (h : FileId). IsLeft (with_image f change images h) (with_file f bytes files h)) (sym same)
      (subst (λ (u : Unsynced). IsLeft u (with_file f bytes files f)) (sym (with_image-here f change images))
      (subst (λ (l : List ℕ). IsLeft (change (images f)) l) (sym (with_file-here f bytes files)) now))
  | inr other ↦ subst (λ (u : Unsynced). IsLeft u (with_file f bytes files g)) (sym (with_image-other f g change images other))
      (subst (λ (l : List ℕ). IsLeft (images g) l) (sym (with_file-other f g bytes files other)) (was g))
]

-- one file's image changes, and no file does
image-same : (f : FileId) (change : Unsynced → Unsynced) (images : Images) (files : Files) → IsImage images files
    → IsLeft (change (images f)) (files f) → IsImage (with_image f change images) files
image-same f change images files was now g = elim (same_file g f) [
  | inl same ↦ subst (λ (h : FileId). IsLeft (with_image f change images h) (files h)) (sym same)
      (subst (λ (u : Unsynced). IsLeft u (files f)) (sym (with_image-here f change images)) now)
  | inr other ↦ subst (λ (u : Unsynced). IsLeft u (files g)) (sym (with_image-other f g change images other)) (was g)
]

-- an image after a write that was done or not
image-wrote : (b : Bool) (f : FileId) (at : ℕ) (bytes : List ℕ) (images : Images) (files : Files) → (b ≡ true → at + length bytes ≤ length (files f)) → IsImage images files
    → IsImage (with_image f (torn at (length bytes)) images) (if b then written f at bytes files else files)
image-wrote true f at bytes images files within was =
    image-with f (torn at (length bytes)) (overwritten at bytes (files f)) images files was (left-overwritten at bytes (images f) (files f) (within refl) (was f))
image-wrote false f at bytes images files within was = image-same f (torn at (length bytes)) images files was (left-torn at (length bytes) (images f) (files f) (was f))

-- an image after a change of length that was done or not
image-resized : (b : Bool) (f : FileId) (len : ℕ) (images : Images) (files : Files) → IsImage images files
    → IsImage (with_image f (cut len) images) (if b then with_file f (of_length len (files f)) files else files)
image-resized true f len images files was = image-with f (cut len) (of_length len (files f)) images files was (left-resized len (images f) (files f) (was f))
image-resized false f len images files was = image-same f (cut len) images files was (left-cut len (images f) (files f) (was f))

-- what is read after these calls is one of the images
pub image-contents : (first : Files) (calls : List Call) → IsImage (images_after first calls) (contents_after first calls)
image-contents first [] = λ file. left-synced (first file)
image-contents first (NoChange ∷ earlier) = image-contents first earlier
image-contents first (Wrote file at bytes done ∷ earlier) =
    image-wrote _ file at bytes.items (images_after first earlier) (contents_after first earlier) (λ both. leb-true _ _ (and_parts _ _ both).1) (image-contents first earlier)
image-contents first (Resized file len done ∷ earlier) = image-resized done file len (images_after first earlier) (contents_after first earlier) (image-contents first earlier)
image-contents first (Synced file ∷ earlier) =
    image-same file (λ _. just_synced (contents_after first earlier file)) (images_after first earlier) (contents_after first earlier) (image-contents first earlier) (left-synced (contents_after first earlier file))

-- at each moment so far a read gave one of the images
pub each-possible : (first : Files) (calls : List Call) → AtEach IsPossible (images_after first calls ∷ earlier_after first calls)
each-possible first [] = (record { files = first; image = image-contents first [] }, tt)
each-possible first (NoChange ∷ earlier) = each-possible first earlier
each-possible first (Wrote file at bytes done ∷ earlier) = (record { files = _; image = image-contents first (Wrote file at bytes done ∷ earlier) }, each-possible first earlier)
each-possible first (Resized file len done ∷ earlier) = (record { files = _; image = image-contents first (Resized file len done ∷ earlier) }, each-possible first earlier)
each-possible first (Synced file ∷ earlier) = (record { files = _; image = image-contents first (Synced file ∷ earlier) }, each-possible first earlier)

-- the newest of some moments
abbrev newest_of : List Images → Images → Images
newest_of [] none = none
newest_of (now ∷ earlier) none = now

-- what a disk in memory reads is one of the images that it tells
pub tells_an_image : (disk : Recording) → TellsAnImage (memory_device disk)
tells_an_image disk =
    let first = files_of_list disk.first in
    let calls = reverse disk.calls in
    record {
      read = λ files now earlier contents moments.
          let same : contents_after first calls ≡ files = cc in
          let newest : images_after first calls ≡ now = ap (λ (l : List Images). newest_of l now) moments in
          subst (λ (images : Images). IsImage images files) newest (subst (IsImage (images_after first calls)) same (image-contents first calls));
      both = λ contents. absurd (none_told contents);
      each = each-possible first calls;
    }
  where
    none_told : {A : Type 0} {a : A} → Some a ≡ None → ⊥
    none_told is = cc

-- a call put behind others is the newest
pub newest : (calls : List Call) (call : Call) (now : List Call) → now ≡ calls ++ call ∷ [] → reverse now ≡ call ∷ reverse calls
newest calls call now is = ap reverse is ∙ reverse-append calls (call ∷ [])
