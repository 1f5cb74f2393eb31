-- What a crash may leave of one file after a write, a change of its length and a sync.
use Rattle.std.proofs.Common.{◌≡◌, ◌≢◌, inl, inr, ℕ, ◌+◌, ◌<◌, ◌≤◌, List, length, refl, ◌∙◌, arith}
use Rattle.std.specs.Prelude.{slice_index}
use Rattle.std.proofs.lemmas.Bool.{cases_lt}
use Rattle.std.proofs.lemmas.Bool.Decides.{nat_tests}
use Rattle.std.proofs.lemmas.List.{places}
use Rattle.jb_disk.specs.declared.file.FileId.{FileId}
use Rattle.jb_disk.specs.Files.{file_number, overwritten}
use Rattle.jb_disk.specs.Images.{Unsynced, Images, IsLeft, just_synced, torn, cut, with_image}
use Rattle.jb_disk.specs.Memory.{of_length}
use Rattle.jb_disk.specs.FileLaws.{number-injective, length-overwritten, length-of_length}

-- the file whose image is changed
pub with_image-here : (f : FileId) (change : Unsynced → Unsynced) (images : Images) → with_image f change images f ≡ change (images f)
with_image-here f change images = grind (arith, nat_tests)

-- the files whose images are not
pub with_image-other : (f g : FileId) (change : Unsynced → Unsynced) (images : Images) → g ≢ f → with_image f change images g ≡ images g
with_image-other f g change images ne =
    let apart : file_number g ≢ file_number f = λ same. ne (number-injective g f same) in
    grind (arith, nat_tests)

-- a synced file is left as it is
pub left-synced : (bytes : List ℕ) → IsLeft (just_synced bytes) bytes
left-synced bytes = record { no_shorter = omega arith; no_longer = omega arith; same = λ i low. inr refl }

-- a write that is not seen
pub left-torn : (at len : ℕ) (u : Unsynced) (bytes : List ℕ) → IsLeft u bytes → IsLeft (torn at len u) bytes
left-torn at len u bytes left = record {
  no_shorter = left.no_shorter;
  no_longer = left.no_longer;
  same = λ i low. elim (left.same i low) [ inl was ↦ inl (inr was) | inr is ↦ inr is ];
}

-- a place before a write
pub get-before : (at : ℕ) (bytes old : List ℕ) → at + length bytes ≤ length old → (i : ℕ) → i < at → slice_index (overwritten at bytes old) i ≡ slice_index old i
unfolding overwritten
get-before at bytes old within i low = grind (arith, places)

-- a place behind a write
pub get-behind : (at : ℕ) (bytes old : List ℕ) → at + length bytes ≤ length old → (i : ℕ) → at + length bytes ≤ i → slice_index (overwritten at bytes old) i ≡ slice_index old i
unfolding overwritten
get-behind at bytes old within i high = grind (arith, places)

-- a write that is seen
pub left-overwritten : (at : ℕ) (bytes : List ℕ) (u : Unsynced) (old : List ℕ) → at + length bytes ≤ length old → IsLeft u old → IsLeft (torn at (length bytes) u) (overwritten at bytes old)
left-overwritten at bytes u old within left =
    let size = length-overwritten at bytes old within in
    let a = left.no_shorter in
    let b = left.no_longer in
    record {
      no_shorter = omega (arith, size);
      no_longer = omega (arith, size);
      same = λ i low. elim (cases_lt i at) [
        | inl under ↦ elim (left.same i low) [ inl was ↦ inl (inr was) | inr is ↦ inr (get-before at bytes old within i under ∙ is) ]
        | inr over ↦ elim (cases_lt i (at + length bytes)) [
          | inl inside ↦ inl (inl (over, inside))
          | inr past ↦ elim (left.same i low) [ inl was ↦ inl (inr was) | inr is ↦ inr (get-behind at bytes old within i past ∙ is) ]
        ]
      ];
    }

-- a change of length that is not seen
pub left-cut : (len : ℕ) (u : Unsynced) (bytes : List ℕ) → IsLeft u bytes → IsLeft (cut len u) bytes
left-cut len u bytes left =
    let a = left.no_shorter in
    let b = left.no_longer in
    record {
      no_shorter = omega arith;
      no_longer = omega arith;
      same = λ i low. left.same i (omega arith);
    }

-- a place that both lengths have
pub get-of_length : (len : ℕ) (old : List ℕ) (i : ℕ) → i < len → i < length old → slice_index (of_length len old) i ≡ slice_index old i
unfolding of_length
get-of_length len old i low within = grind (arith, places)

-- a change of length that is seen
pub left-resized : (len : ℕ) (u : Unsynced) (old : List ℕ) → IsLeft u old → IsLeft (cut len u) (of_length len old)
left-resized len u old left =
    let size = length-of_length len old in
    let a = left.no_shorter in
    let b = left.no_longer in
    record {
      no_shorter = omega (arith, size);
      no_longer = omega (arith, size);
      same = λ i low. elim (left.same i (omega arith)) [ inl was ↦ inl was | inr is ↦ inr (get-of_length len old i (omega arith) (omega arith) ∙ is) ];
    }
