-- What the pieces make of one file.
use Rattle.std.proofs.Common.{◌≡◌, ◌⊎◌, inl, inr, ℕ, ◌+◌, ◌≤◌, List, [], ◌∷◌, length, refl, sym, ◌∙◌, subst, arith}
use Rattle.std.specs.Prelude.{slice_index}
use Rattle.std.proofs.lemmas.Bool.{cases_lt}
use Rattle.std.proofs.lemmas.List.{same_lists, places}
use Rattle.jb_disk.specs.Files.{overwritten}
use Rattle.jb_disk.specs.FileLaws.{length-overwritten, length-of_length}
use Rattle.jb_disk.specs.ImageLaws.{get-before, get-behind}
use Rattle.jb_disk.specs.Memory.{of_length}
use Rattle.jb_disk.specs.Steps.{Span, IsCovered, AreWithin, patched}
use Rattle.jb_redo.specs.OnTheWay.{IsFileBetween}
use Rattle.jb_redo.proofs.WayLemmas.{resized_with_zeros}
use Rattle.jb_redo.proofs.ApplyLemmas.{length-patched}

-- and each byte that none of them has
pub patched-frame : (spans : List Span) (old : List ℕ) (i : ℕ) → AreWithin spans (length old) → IsCovered spans i ⊎ (slice_index (patched spans old) i ≡ slice_index old i)
patched-frame [] old i within = inr refl
patched-frame (span ∷ spans) old i within =
    let size = length-overwritten span.at span.bytes old within.0 in
    elim (patched-frame spans (overwritten span.at span.bytes old) i (subst (AreWithin spans) (sym size) within.1)) [
      | inl covered ↦ inl (inr covered)
      | inr kept ↦ elim (cases_lt i span.at) [
        | inl under ↦ inr (kept ∙ get-before span.at span.bytes old within.0 i under)
        | inr over ↦ elim (cases_lt i (span.at + length span.bytes)) [
          | inl inside ↦ inl (inl (over, inside))
          | inr past ↦ inr (kept ∙ get-behind span.at span.bytes old within.0 i past)
        ]
      ]
    ]

-- a file made of its new length and then patched is on the way
pub between_patched_end : (len : ℕ) (spans : List Span) (old : List ℕ) → AreWithin spans len → IsFileBetween len spans old (patched spans (of_length len old))
between_patched_end len spans old within =
    let resized = resized_with_zeros len old in
    let room : AreWithin spans (length (of_length len old)) = subst (AreWithin spans) (sym (length-of_length len old)) within in
    let size : length (patched spans (of_length len old)) ≡ len = length-patched spans (of_length len old) room ∙ length-of_length len old in
    record {
      no_shorter = omega (arith, size);
      no_longer = omega (arith, size);
      same = λ i low short. elim (patched-frame spans (of_length len old) i room) [
        | inl covered ↦ inl covered
        | inr kept ↦ inr (kept ∙ resized.same i low short)
      ];
    }

-- the first byte written
pub first_written : (byte : ℕ) (bytes : List ℕ) → 1 ≤ length bytes → slice_index (overwritten 0 (byte ∷ []) bytes) 0 ≡ byte
unfolding overwritten
first_written byte bytes some = grind (arith, places)

-- the first byte written over one written before
pub written_over : (first second : ℕ) (bytes : List ℕ) → 1 ≤ length bytes → overwritten 0 (second ∷ []) (overwritten 0 (first ∷ []) bytes) ≡ overwritten 0 (second ∷ []) bytes
unfolding overwritten
written_over first second bytes some = same_lists _ _ (grind (arith, places)) (λ k d h. grind (arith, places))
