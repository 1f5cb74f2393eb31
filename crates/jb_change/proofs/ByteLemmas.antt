-- Bytes of a file after a write, outside what was written and within it.
use Rattle.std.proofs.Common.{◌≡◌, ◌⊎◌, inl, inr, ℕ, ◌+◌, ◌<◌, ◌≤◌, List, length, drop, ap, ◌∙◌, sym, arith, length-take, length-drop}
use Rattle.std.specs.Prelude.{slice_index}
use Rattle.std.proofs.lemmas.Bool.{cases_lt}
use Rattle.std.proofs.lemmas.Grind.{same_number_lists}
use Rattle.std.proofs.lemmas.List.{places}
use Rattle.jb_disk.specs.Files.{overwritten}
use Rattle.jb_disk.specs.FileLaws.{length-overwritten}
use Rattle.jb_disk.specs.ImageLaws.{get-before, get-behind}
use Rattle.jb_disk.specs.Steps.{Torn}
use Rattle.jb_image.specs.Places.{bytes_at}
use Rattle.jb_image.proofs.FileBytes.{length-bytes_at}
use Rattle.jb_disk.proofs.StepLemmas.{get-inside}

-- one of them
pub get-bytes_at : (at len : ℕ) (bytes : List ℕ) (k : ℕ) → k < len → slice_index (bytes_at at len bytes) k ≡ slice_index bytes (at + k)
get-bytes_at at len bytes k low = grind (arith, places)

-- two files of one length give the same bytes where they have the same ones
pub same_bytes : (from len : ℕ) (one other : List ℕ) → length one ≡ length other
    → ((i : ℕ) → from ≤ i → i < from + len → slice_index one i ≡ slice_index other i) → bytes_at from len one ≡ bytes_at from len other
same_bytes from len one other size same =
    let one_len = length-take len (drop from one) in
    let one_from = length-drop from one in
    let other_len = length-take len (drop from other) in
    let other_from = length-drop from other in
    same_number_lists (bytes_at from len one) (bytes_at from len other) (omega arith) (λ k low.
    let short : k < len = omega arith in
    get-bytes_at from len one k short ∙ same (from + k) (omega arith) (omega arith) ∙ sym (get-bytes_at from len other k short))

-- bytes that have no place in the range of a write are as they were
pub bytes_kept : (at len from n : ℕ) (old new : List ℕ) → Torn at len old new → ((i : ℕ) → from ≤ i → i < from + n → at ≤ i → i < at + len → ⊥)
    → bytes_at from n new ≡ bytes_at from n old
bytes_kept at len from n old new torn apart = same_bytes from n new old torn.size (λ i over under. elim (cases_lt i at) [
  | inl low ↦ torn.below i low
  | inr high ↦ elim (cases_lt i (at + len)) [
    | inl inside ↦ absurd (apart i over under high inside)
    | inr past ↦ torn.above i past
  ]
])

-- so are those before it or behind it
pub bytes_beside : (at len from n : ℕ) (old new : List ℕ) → Torn at len old new → (from + n ≤ at) ⊎ (at + len ≤ from) → bytes_at from n new ≡ bytes_at from n old
bytes_beside at len from n old new torn (inl before) = bytes_kept at len from n old new torn (λ i a b c d. omega (arith, before))
bytes_beside at len from n old new torn (inr behind) = bytes_kept at len from n old new torn (λ i a b c d. omega (arith, behind))

-- a write within a file
pub torn-overwritten : (at : ℕ) (bytes old : List ℕ) → at + length bytes ≤ length old → Torn at (length bytes) old (overwritten at bytes old)
torn-overwritten at bytes old within = record {
  size = length-overwritten at bytes old within;
  below = get-before at bytes old within;
  above = get-behind at bytes old within;
}

-- a write in a part of a range is one in the range
pub torn-wider : (at len from n : ℕ) (old new : List ℕ) → from ≤ at → at + len ≤ from + n → Torn at len old new → Torn from n old new
torn-wider at len from n old new low high torn = record {
  size = torn.size;
  below = λ i under. torn.below i (omega (arith, under, low));
  above = λ i past. torn.above i (omega (arith, past, high));
}

-- one write after another
pub torn-then : (at len : ℕ) (old now new : List ℕ) → Torn at len old now → Torn at len now new → Torn at len old new
torn-then at len old now new first second = record {
  size = second.size ∙ first.size;
  below = λ i under. second.below i under ∙ first.below i under;
  above = λ i past. second.above i past ∙ first.above i past;
}

-- bytes within what was written are those that were
pub bytes_inside : (at : ℕ) (bytes old : List ℕ) (from r n : ℕ) → at + length bytes ≤ length old → from ≡ at + r → r + n ≤ length bytes
    → bytes_at from n (overwritten at bytes old) ≡ bytes_at r n bytes
bytes_inside at bytes old from r n within is room =
    let size = length-overwritten at bytes old within in
    let here = length-bytes_at from n (overwritten at bytes old) (omega (arith, size)) in
    let there = length-bytes_at r n bytes room in
    same_number_lists (bytes_at from n (overwritten at bytes old)) (bytes_at r n bytes) (here ∙ sym there) (λ k low.
    let short : k < n = omega (arith, here, low) in
    get-bytes_at from n (overwritten at bytes old) k short
    ∙ get-inside at bytes old within (from + k) (r + k) (omega arith) (omega arith)
    ∙ sym (get-bytes_at r n bytes k short))

-- a part of a part
pub bytes_within : (at len r n : ℕ) (bytes : List ℕ) → at + len ≤ length bytes → r + n ≤ len → bytes_at r n (bytes_at at len bytes) ≡ bytes_at (at + r) n bytes
bytes_within at len r n bytes room within =
    let whole = length-bytes_at at len bytes room in
    let here = length-bytes_at r n (bytes_at at len bytes) (omega (arith, whole)) in
    let there = length-bytes_at (at + r) n bytes (omega arith) in
    same_number_lists (bytes_at r n (bytes_at at len bytes)) (bytes_at (at + r) n bytes) (here ∙ sym there) (λ k low.
    let short : k < n = omega (arith, here, low) in
    get-bytes_at r n (bytes_at at len bytes) k short
    ∙ get-bytes_at at len bytes (r + k) (omega arith)
    ∙ ap (slice_index bytes) (omega arith)
    ∙ sym (get-bytes_at (at + r) n bytes k short))
