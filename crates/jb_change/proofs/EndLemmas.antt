-- Bytes written behind the old end of a file that was made longer for them.
use Rattle.std.proofs.Common.{◌≡◌, ℕ, ◌+◌, ◌-◌, ◌≤◌, List, [], ◌∷◌, ◌++◌, length, take, drop, refl, ap, sym, ◌∙◌, arith, append_assoc, length-append, length-drop}
use Rattle.std.specs.Prelude.{replicate}
use Rattle.std.proofs.lemmas.List.{append-nil, take_all, take_at, take-append-le, drop_at, drop-append-le, drop-drop, drop-replicate}
use Rattle.jb_disk.specs.Files.{overwritten}
use Rattle.jb_disk.specs.Memory.{of_length}
use Rattle.jb_disk.specs.Steps.{patched}
use Rattle.jb_image.specs.Places.{bytes_at}

-- a longer file has zeros behind the old bytes
longer : (old : List ℕ) (n : ℕ) → of_length (length old + n) old ≡ old ++ replicate n 0
unfolding of_length
longer old n =
    let whole = take_all (length old + n) old (omega arith) in
    let gap : length old + n - length old ≡ n = omega arith in
    λ i. whole i ++ replicate (gap i) 0

-- bytes over the first of the zeros
over_zeros : (old bytes : List ℕ) (n : ℕ) → overwritten (length old) bytes (old ++ replicate (length bytes + n) 0) ≡ (old ++ bytes) ++ replicate n 0
unfolding overwritten
over_zeros old bytes n =
    let zeros : List ℕ = replicate (length bytes + n) 0 in
    let first = take_at old zeros (length old) refl in
    let gap : length bytes + n - length bytes ≡ n = omega arith in
    let rest : drop (length old + length bytes) (old ++ zeros) ≡ replicate n 0 =
    sym (drop-drop (length bytes) (length old) (old ++ zeros)) ∙ ap (drop (length bytes)) (drop_at old zeros (length old) refl)
    ∙ drop-replicate (length bytes) (length bytes + n) 0 ∙ ap (λ (k : ℕ). replicate k 0) gap in
    λ i. first i ++ bytes ++ rest i

-- the room for bytes, as zeros
room_for : (old : List ℕ) (n len : ℕ) → len ≡ length old + n → of_length len old ≡ old ++ replicate n 0
room_for old n len len_is = ap (λ (k : ℕ). of_length k old) len_is ∙ longer old n

-- a file of the length that it has
pub same_length : (old : List ℕ) → patched [] (of_length (length old) old) ≡ old
same_length old = room_for old 0 (length old) (omega arith) ∙ append-nil old

-- a file that takes bytes behind its end
pub one_behind : (old bytes : List ℕ) (at len : ℕ) → at ≡ length old → len ≡ length old + length bytes
    → patched (record { at = at; bytes = bytes } ∷ []) (of_length len old) ≡ old ++ bytes
one_behind old bytes at len at_is len_is =
    let room = room_for old (length bytes + 0) len (omega arith) in
    (λ i. overwritten (at_is i) bytes (room i)) ∙ over_zeros old bytes 0 ∙ append-nil (old ++ bytes)

-- the bytes of a file with others behind it
pub kept_behind : (old new more : List ℕ) → new ≡ old ++ more → take (length old) new ≡ old
kept_behind old new more is = ap (take (length old)) is ∙ take_at old more (length old) refl

-- and of one that is as it was
pub kept_same : (old new : List ℕ) → new ≡ old → take (length old) new ≡ old
kept_same old new is = ap (take (length old)) is ∙ take_all (length old) old (omega arith)

-- below the old end a longer file reads the same
pub below_end : (old new more : List ℕ) (at len : ℕ) → new ≡ old ++ more → at + len ≤ length old → bytes_at at len new ≡ bytes_at at len old
below_end old new more at len is within =
    let part : take len (drop at old ++ more) ≡ take len (drop at old) = take-append-le len (drop at old) more (omega (arith, length-drop at old)) in
    ap (bytes_at at len) is ∙ ap (take len) (drop-append-le at old more (omega arith)) ∙ part

-- at the old end it reads what was written first
pub at_end : (old new first behind : List ℕ) (at len : ℕ) → new ≡ old ++ (first ++ behind) → at ≡ length old → len ≡ length first → bytes_at at len new ≡ first
at_end old new first behind at len is at_is len_is =
    ap (bytes_at at len) is ∙ ap (take len) (drop_at old (first ++ behind) at (sym at_is)) ∙ take_at first behind len (sym len_is)

-- and behind that what was written next
pub past_end : (old new first behind : List ℕ) (at len : ℕ) → new ≡ old ++ (first ++ behind) → at ≡ length old + length first → len ≡ length behind → bytes_at at len new ≡ behind
past_end old new first behind at len is at_is len_is =
    let place : length (old ++ first) ≡ at = length-append old first ∙ sym at_is in
    ap (bytes_at at len) (is ∙ sym (append_assoc old first behind)) ∙ ap (take len) (drop_at (old ++ first) behind at place) ∙ take_all len behind (omega arith)
