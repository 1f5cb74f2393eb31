-- How a piece is cut into lines, and a text into pieces, from its front.
use Rattle.std.proofs.Common.{◌≡◌, ℕ, zero, suc, ◌+◌, ◌-◌, ◌*◌, ◌<◌, ◌≤◌, ◌≢◌, ◌==◌, inl, inr, Bool, false, if◌then◌else◌, List, [], ◌∷◌, length, take, drop, map, refl, ap, sym, ◌∙◌, arith}
use Rattle.std.specs.List.{All, position_or_len, range_with_len, slice_split}
use Rattle.std.proofs.Math.ListN.{drop_of_length-le}
use Rattle.std.proofs.lemmas.Bool.{cases_lt}
use Rattle.std.proofs.lemmas.Bool.Decides.{nat_tests}
use Rattle.std.proofs.lemmas.List.{drop-drop, length-drop, take_all}
use Rattle.std.proofs.lemmas.List.Splits.{length-slice_split, slice_split_first, slice_split_none}
use Rattle.std.proofs.lemmas.List.Sums.{fails_before_first}
use Rattle.jb_text.specs.Letter.{ends_line, line_count, lines_of, pieces_of, without_empty_end}

-- a piece of at most 79 bytes is one line
pub lines_of_short : (bytes : List ℕ) → length bytes ≤ 79 → lines_of bytes ≡ bytes ∷ []
lines_of_short bytes short =
    let one : line_count (length bytes) ≡ 1 = omega arith in
    ap (λ (n : ℕ). map (λ (k : ℕ). take 79 (drop (79 * k) bytes)) (range_with_len 0 n)) one
    ∙ ap (λ (l : List ℕ). l ∷ []) (take_all 79 bytes short)

-- a list made from the places after the first
later_places : {X : Type 0} (f : ℕ → X) (a n : ℕ) → map f (range_with_len (a + 1) n) ≡ map (λ k. f (k + 1)) (range_with_len a n)
later_places f a zero = refl
later_places f a (suc n) = ap (λ l. f (a + 1) ∷ l) (later_places f (a + 1) n)

-- a longer one is a line of 79 bytes, and the lines of the rest
pub lines_of_long : (bytes : List ℕ) → 79 < length bytes → lines_of bytes ≡ take 79 bytes ∷ lines_of (drop 79 bytes)
lines_of_long bytes long =
    let rest = line_count (length (drop 79 bytes)) in
    let left : length (drop 79 bytes) ≡ length bytes - 79 = length-drop 79 bytes in
    let one_more : line_count (length bytes) ≡ suc rest = omega arith in
    let cut : ℕ → List ℕ = λ k. take 79 (drop (79 * k) bytes) in
    let swap : (k : ℕ) → 79 * k + 79 ≡ 79 + 79 * k = λ k. omega arith in
    let shifted : (k : ℕ) → cut (k + 1) ≡ take 79 (drop (79 * k) (drop 79 bytes)) =
    λ k. let e : 79 * (k + 1) ≡ 79 * k + 79 = omega arith in
    ap (λ (n : ℕ). take 79 (drop n bytes)) e ∙ ap (take 79) (ap (λ (n : ℕ). drop n bytes) (swap k) ∙ sym (drop-drop (79 * k) 79 bytes)) in
    ap (λ (n : ℕ). map cut (range_with_len 0 n)) one_more
    ∙ ap (λ (l : List (List ℕ)). take 79 bytes ∷ l) (later_places cut 0 rest ∙ ap (λ (f : ℕ → List ℕ). map f (range_with_len 0 rest)) (λ i. λ k. shifted k i))

-- an empty end is dropped behind a piece as it is dropped alone
behind : (piece : List ℕ) (pieces : List (List ℕ)) → 0 < length pieces → without_empty_end (piece ∷ pieces) ≡ piece ∷ without_empty_end pieces
behind piece [] some = absurd (omega arith)
behind piece (next ∷ pieces) some = refl

-- two numbers that differ
differs : (m n : ℕ) → m ≢ n → (m == n) ≡ false
differs m n apart = grind (arith, nat_tests)

-- a last piece of some bytes stays
alone : (piece : List ℕ) → 0 < length piece → without_empty_end (piece ∷ []) ≡ piece ∷ []
alone piece some =
    let apart : length piece ≢ 0 = omega arith in
    ap (λ (b : Bool). if b then [] else piece ∷ []) (differs (length piece) 0 apart)

-- no byte before the end of the first piece ends a line
none_before : (text : List ℕ) → length text ≤ position_or_len ends_line text → All (λ byte. ends_line byte ≡ false) text
none_before text whole = λ k d h. let before : k < position_or_len ends_line text = omega arith in fails_before_first ends_line text k d before

-- a text of some bytes is its first piece, and the pieces of what stands behind its end
pub pieces_of_some : (text : List ℕ) → 0 < length text
    → pieces_of text ≡ take (position_or_len ends_line text) text ∷ pieces_of (drop (position_or_len ends_line text + 1) text)
pieces_of_some text some =
    let end = position_or_len ends_line text in
    let rest = drop (end + 1) text in
    elim (cases_lt end (length text)) [
      | inl within ↦
          let more : 0 < length (slice_split ends_line rest) = omega (arith, length-slice_split ends_line rest) in
          ap without_empty_end (slice_split_first ends_line text 0 within) ∙ behind (take end text) (slice_split ends_line rest) more
      | inr whole ↦
          let over : length text ≤ end + 1 = omega arith in
          let gone : rest ≡ [] = drop_of_length-le text over in
          ap without_empty_end (slice_split_none ends_line text (none_before text whole)) ∙ alone text some
          ∙ ap (λ (l : List ℕ). l ∷ []) (sym (take_all end text whole)) ∙ ap (λ (l : List ℕ). take end text ∷ pieces_of l) (sym gone)
    ]
