-- Bytes that were read, as the beginning of those that stand there.
use Rattle.std.proofs.Common.{◌≡◌, ◌⊎◌, inl, inr, ℕ, ◌-◌, ◌<◌, ◌≤◌, List, ◌++◌, length, take, drop, get_or, ap, sym, ◌∙◌, arith}
use Rattle.std.proofs.lemmas.List.{take-append-drop, length-append, length-drop, places}
use Rattle.std.specs.Prelude.{Option, Some, None, IfNone, IfSome, slice_index}
use Rattle.jb_redo.specs.Reading.{BeginsWith}
use Rattle.jb_redo.proofs.Spelling.{same_front}

-- what was read stands there
pub begins_read : (bytes into : List ℕ) (n : ℕ) → into ≡ take n bytes → BeginsWith bytes into
begins_read bytes into n read = record {
  behind = drop n bytes;
  is = sym (take-append-drop n bytes) ∙ ap (λ (l : List ℕ). l ++ drop n bytes) (sym read);
}

-- bytes that begin with others are no shorter
pub begins_long : (bytes first : List ℕ) → BeginsWith bytes first → length first ≤ length bytes
begins_long bytes first begins = omega (arith, ap length begins.is, length-append first begins.behind)

-- of one length, only one string stands there
pub begins_same : (bytes one other : List ℕ) → length one ≡ length other → BeginsWith bytes one → BeginsWith bytes other → one ≡ other
begins_same bytes one other size begins begins' = (same_front one other begins.behind begins'.behind size (sym begins.is ∙ begins'.is)).0

-- past the end, or with too few bytes behind
pub cut_short : (bytes : List ℕ) (end at n : ℕ) → 0 < n → end ≡ length bytes → (end < at) ⊎ (end - at < n) → length (drop at bytes) < n
cut_short bytes end at n some is (inl past) = omega (arith, length-drop at bytes)
cut_short bytes end at n some is (inr few) = omega (arith, length-drop at bytes)

-- the second byte, where what was read begins there
pub second_read : (bytes into : List ℕ) → 0 < length into → BeginsWith (drop 1 bytes) into → slice_index into 0 ≡ slice_index bytes 1
second_read bytes into some begins =
    let is : get_or (drop 1 bytes) 0 0 ≡ get_or (into ++ begins.behind) 0 0 = ap (λ (l : List ℕ). get_or l 0 0) begins.is in
    let first : get_or (into ++ begins.behind) 0 0 ≡ get_or into 0 0 = grind (arith, places) in
    let second : get_or (drop 1 bytes) 0 0 ≡ get_or bytes 1 0 = grind (arith, places) in
    sym first ∙ sym is ∙ second

-- and where there is none
pub second_none : (bytes : List ℕ) → length (drop 1 bytes) < 1 → slice_index bytes 1 ≡ 0
second_none bytes few = grind (arith, places)

-- nothing was found, so what follows from that holds
pub on_none : {X : Type 0} (found : Option X) (P Q : Type 0) → IfNone found P → (P → Q) → IfNone found Q
on_none None P Q none follows = follows none
on_none (Some value) P Q none follows = tt

-- what was found is so, and what follows from that is too
pub on_some : {X : Type 0} (found : Option X) (P Q : X → Type 0) → IfSome found P → ((x : X) → P x → Q x) → IfSome found Q
on_some None P Q some follows = tt
on_some (Some value) P Q some follows = follows value some
