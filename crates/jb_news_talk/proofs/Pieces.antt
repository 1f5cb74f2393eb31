-- That the pieces of a rising list, one behind the last number of another, are the whole list.
use Rattle.std.proofs.Common.{◌≡◌, ℕ, zero, suc, ◌+◌, ◌<◌, ◌≤◌, Bool, true, false, cond, List, [], ◌∷◌, ◌++◌, length, take, get_or, Option, Some, None, refl, sym, ap, subst, ◌∙◌, arith}
use Rattle.std.specs.Prelude.{nat_le, nat_lt, not, filter, ◌&&◌, ◌||◌, if◌then◌else◌}
use Rattle.std.specs.List.{list_any}
use Rattle.std.proofs.lemmas.Bool.{le-leb, leb-false, leb-true, lt-leb, ltb-false, ltb-true}
use Rattle.std.proofs.lemmas.List.{append-nil}
use Rattle.std.proofs.lemmas.List.Elements.{filter-append}
use Rattle.jb_state.specs.declared.summary.Summary.{Summary}
use Rattle.jb_news.specs.declared.numbers.NumberRange.{NumberRange}
use Rattle.jb_news_talk.specs.Telling.{behind_last, goes_on_from, has_none, last_number, up_to}
use Rattle.jb_news_talk.specs.Turns.{piece}
use Rattle.jb_news_talk.specs.Whole.{IsRising, in_range}

-- the messages from a number on
abbrev pub from : ℕ → List Summary → List Summary
from first messages = filter (λ (one : Summary). nat_le first one.number) messages

-- each number is above this one, and each below those behind it
abbrev Above : ℕ → List Summary → Type 0
Above floor [] = Unit
Above floor (one ∷ rest) = (floor ≤ one.number) × Above (one.number + 1) rest

above_of : (floor : ℕ) (messages : List Summary) → IsRising messages
    → ((k : ℕ) (d : Summary) → k < length messages → floor ≤ (get_or messages k d).number) → Above floor messages
above_of floor [] rising high = tt
above_of floor (one ∷ rest) rising high = (
  high 0 one (omega arith),
  above_of (one.number + 1) rest (λ i j d before within. rising (suc i) (suc j) d (omega (arith, before)) (omega (arith, within)))
      (λ k d within.
      let below : one.number < (get_or rest k d).number = rising 0 (suc k) d (omega arith) (omega (arith, within)) in
      omega (arith, below)),
)

-- a rising list
pub above : (messages : List Summary) → IsRising messages → Above 0 messages
above messages rising = above_of 0 messages rising (λ k d within. omega arith)

-- the same above a lower number
lower : (floor higher : ℕ) (messages : List Summary) → floor ≤ higher → Above higher messages → Above floor messages
lower floor higher [] le is = tt
lower floor higher (one ∷ rest) le is = (omega (arith, le, is.0), is.1)

-- all of them, where none is below
all_from : (floor : ℕ) (messages : List Summary) → Above floor messages → from floor messages ≡ messages
all_from floor [] is = refl
all_from floor (one ∷ rest) is =
    ap (λ (b : Bool). cond b (one ∷ from floor rest) (from floor rest)) (le-leb floor one.number is.0)
    ∙ ap (λ (w : List Summary). one ∷ w) (all_from floor rest (lower floor (one.number + 1) rest (omega (arith, is.0)) is.1))

kept_above : (b : Bool) (floor first : ℕ) (one : Summary) (rest : List Summary) → nat_le first one.number ≡ b → floor ≤ one.number
    → Above (one.number + 1) (from first rest) → Above floor (cond b (one ∷ from first rest) (from first rest))
kept_above true floor first one rest is le kept = (le, kept)
kept_above false floor first one rest is le kept = lower floor (one.number + 1) (from first rest) (omega (arith, le)) kept

-- what is from a number on rises as well
from_above : (floor first : ℕ) (messages : List Summary) → Above floor messages → Above floor (from first messages)
from_above floor first [] is = tt
from_above floor first (one ∷ rest) is = kept_above (nat_le first one.number) floor first one rest refl is.0 (from_above (one.number + 1) first rest is.1)

kept_from : (b : Bool) (floor first : ℕ) (one : Summary) (rest : List Summary) → nat_le first one.number ≡ b → Above (one.number + 1) (from first rest)
    → Above first (from first rest) → Above first (cond b (one ∷ from first rest) (from first rest))
kept_from true floor first one rest is kept low = (leb-true first one.number is, kept)
kept_from false floor first one rest is kept low = low

-- and none of it is below that number
pub from_high : (floor first : ℕ) (messages : List Summary) → Above floor messages → Above first (from first messages)
from_high floor first [] is = tt
from_high floor first (one ∷ rest) is =
    kept_from (nat_le first one.number) floor first one rest refl (from_above (one.number + 1) first rest is.1) (from_high (one.number + 1) first rest is.1)

take_above : (most floor : ℕ) (messages : List Summary) → Above floor messages → Above floor (take most messages)
take_above zero floor messages is = tt
take_above (suc most) floor [] is = tt
take_above (suc most) floor (one ∷ rest) is = (is.0, take_above most (one.number + 1) rest is.1)

-- the last number is none below
last_high : (floor number : ℕ) (messages : List Summary) → Above floor messages → last_number messages ≡ Some number → floor ≤ number
last_high floor number [] is last = absurd (cc (last))
last_high floor number (one ∷ []) is last =
    let same : one.number ≡ number = cc (last) in
    omega (arith, is.0, same)
last_high floor number (one ∷ next ∷ rest) is last =
    let high : one.number + 1 ≤ number = last_high (one.number + 1) number (next ∷ rest) is.1 last in
    omega (arith, is.0, high)

-- without what is below
passes_over : (first : ℕ) (one : Summary) (rest : List Summary) → one.number < first → from first (one ∷ rest) ≡ from first rest
passes_over first one rest below = ap (λ (b : Bool). cond b (one ∷ from first rest) (from first rest)) (lt-leb first one.number below)

module _ (most number : ℕ) (one : Summary) (rest : List Summary) (high : Above (one.number + 1) rest) where
  behind : (taken : List Summary) → take most rest ≡ taken → last_number (one ∷ taken) ≡ Some number
      → (last_number (take most rest) ≡ Some number → rest ≡ take most rest ++ from (number + 1) rest)
      → one ∷ rest ≡ one ∷ take most rest ++ from (number + 1) (one ∷ rest)
  behind [] same last split =
      let number_is : one.number ≡ number = cc (last) in
      ap (λ (w : List Summary). one ∷ w) (sym (all_from (number + 1) rest (lower (number + 1) (one.number + 1) rest (omega (arith, number_is)) high))
      ∙ sym (passes_over (number + 1) one rest (omega (arith, number_is))) ∙ ap (λ (w : List Summary). w ++ from (number + 1) (one ∷ rest)) (sym same))
  behind (next ∷ more) same last split =
      let there : last_number (take most rest) ≡ Some number = ap last_number same ∙ last in
      let above_one : one.number + 1 ≤ number = last_high (one.number + 1) number (take most rest) (take_above most (one.number + 1) rest high) there in
      ap (λ (w : List Summary). one ∷ w) (split there
      ∙ ap (λ (w : List Summary). take most rest ++ w) (sym (passes_over (number + 1) one rest (omega (arith, above_one)))))

-- a piece, and what stands behind its last number
pub piece_and_rest : (most floor number : ℕ) (messages : List Summary) → Above floor messages → last_number (take most messages) ≡ Some number
    → messages ≡ take most messages ++ from (number + 1) messages
piece_and_rest zero floor number messages is last = absurd (cc (last))
piece_and_rest (suc most) floor number [] is last = absurd (cc (last))
piece_and_rest (suc most) floor number (one ∷ rest) is last =
    behind most number one rest is.1 (take most rest) refl last (piece_and_rest most (one.number + 1) number rest is.1)

from_one : (b : Bool) (first second : ℕ) (one : Summary) (rest : List Summary) → nat_le first one.number ≡ b → first ≤ second
    → from second (from first rest) ≡ from second rest → from second (cond b (one ∷ from first rest) (from first rest)) ≡ from second (one ∷ rest)
from_one true first second one rest is le same = ap (λ (w : List Summary). cond (nat_le second one.number) (one ∷ w) w) same
from_one false first second one rest is le same =
    let below : one.number < first = leb-false first one.number is in
    same ∙ sym (passes_over second one rest (omega (arith, below, le)))

-- from a number on, and then from one that is not below it
pub from_from : (first second : ℕ) (messages : List Summary) → first ≤ second → from second (from first messages) ≡ from second messages
from_from first second [] le = refl
from_from first second (one ∷ rest) le = from_one (nat_le first one.number) first second one rest refl le (from_from first second rest le)

none_one : (b : Bool) (first last : ℕ) (one : Summary) (rest : List Summary) → nat_le first one.number ≡ b → last < first
    → up_to last (from first rest) ≡ [] → up_to last (cond b (one ∷ from first rest) (from first rest)) ≡ []
none_one true first last one rest is lt none =
    let high : first ≤ one.number = leb-true first one.number is in
    ap (λ (b : Bool). cond b (one ∷ up_to last (from first rest)) (up_to last (from first rest))) (lt-leb one.number last (omega (arith, high, lt))) ∙ none
none_one false first last one rest is lt none = none

-- none is up to one number and from a greater one on
pub none_between : (first last : ℕ) (messages : List Summary) → last < first → up_to last (from first messages) ≡ []
none_between first last [] lt = refl
none_between first last (one ∷ rest) lt = none_one (nat_le first one.number) first last one rest refl lt (none_between first last rest lt)

range_one : (b : Bool) (last : ℕ) (one : Summary) (kept both : List Summary) → both ≡ up_to last kept
    → cond (b && nat_le one.number last) (one ∷ both) both ≡ up_to last (cond b (one ∷ kept) kept)
range_one true last one kept both same = ap (λ (w : List Summary). cond (nat_le one.number last) (one ∷ w) w) same
range_one false last one kept both same = same

-- the messages of a range are those up to its last of those from its first on
pub range_is : (range : NumberRange) (messages : List Summary) → in_range range messages ≡ up_to range.last (from range.first messages)
range_is range [] = refl
range_is range (one ∷ rest) = range_one (nat_le range.first one.number) range.last one (from range.first rest) (in_range range rest) (range_is range rest)

short_is_all : (most : ℕ) (messages : List Summary) → length (take most messages) < most → take most messages ≡ messages
short_is_all zero messages short = absurd (omega (arith, short))
short_is_all (suc most) [] short = refl
short_is_all (suc most) (one ∷ rest) short = ap (λ (w : List Summary). one ∷ w) (short_is_all most rest (omega (arith, short)))

has_last : (one : Summary) (rest : List Summary) → last_number (one ∷ rest) ≡ None → ⊥
has_last one [] none = absurd (cc (none))
has_last one (next ∷ rest) none = has_last next rest none

empty_piece : (most : ℕ) (messages : List Summary) → 0 < most → last_number (take most messages) ≡ None → messages ≡ []
empty_piece zero messages some none = absurd (omega (arith, some))
empty_piece (suc most) [] some none = refl
empty_piece (suc most) (one ∷ rest) some none = absurd (has_last one (take most rest) none)

any_behind : (b : Bool) (rest : Bool) → rest ≡ true → not (b || rest) ≡ false
any_behind true rest is = refl
any_behind false rest is = ap not is

-- a list whose last number is up to a number has some
pub has_some : (last number : ℕ) (messages : List Summary) → last_number messages ≡ Some number → number ≤ last
    → list_any (λ (one : Summary). nat_le one.number last) messages ≡ true
has_some last number [] is le = absurd (cc (is))
has_some last number (one ∷ []) is le =
    let same : one.number ≡ number = cc (is) in
    ap (λ (b : Bool). b || false) (le-leb one.number last (omega (arith, le, same)))
has_some last number (one ∷ next ∷ rest) is le =
    either (nat_le one.number last) _ (has_some last number (next ∷ rest) is le) where
      either : (b rest : Bool) → rest ≡ true → (b || rest) ≡ true
      either true rest is = refl
      either false rest is = is

one_none : (b : Bool) (one : Summary) (rest : List Summary) (any : Bool) → not (b || any) ≡ true → (not any ≡ true → rest ≡ []) → cond b (one ∷ rest) rest ≡ []
one_none true one rest any none rest_none = absurd (cc (none))
one_none false one rest any none rest_none = rest_none none

-- none is up to a number
pub none_is : (last : ℕ) (messages : List Summary) → has_none last messages ≡ true → up_to last messages ≡ []
none_is last [] none = refl
none_is last (one ∷ rest) none = one_none (nat_le one.number last) one (up_to last rest) (list_any (λ (one : Summary). nat_le one.number last) rest) none (none_is last rest)

one_some : (b : Bool) (one : Summary) (rest : List Summary) (any : Bool) → not (b || any) ≡ false → (not any ≡ false → rest ≡ [] → ⊥)
    → cond b (one ∷ rest) rest ≡ [] → ⊥
one_some true one rest any some rest_some empty = absurd (cc (empty))
one_some false one rest any some rest_some empty = rest_some some empty

-- some are up to a number
pub some_is : (last : ℕ) (messages : List Summary) → has_none last messages ≡ false → up_to last messages ≡ [] → ⊥
some_is last [] some empty = absurd (cc (some))
some_is last (one ∷ rest) some empty =
    one_some (nat_le one.number last) one (up_to last rest) (list_any (λ (one : Summary). nat_le one.number last) rest) some (some_is last rest) empty

pub front_is_empty : {X : Type 0} (front back : List X) → front ++ back ≡ [] → front ≡ []
front_is_empty [] back empty = refl
front_is_empty (x ∷ front) back empty = absurd (cc (empty))

module _ (last : ℕ) (messages : List Summary) (rising : IsRising messages) where
  -- what a piece tells and what is told from where it goes on is what is to be told
  pub record GoesOn (next further : ℕ) (taken : List Summary) : Type 0 where
    pub splits : up_to last (from next messages) ≡ up_to last taken ++ up_to last (from further messages)
    pub moves : next < further
    pub within : further ≤ last
    pub some : has_none last taken ≡ false

  abbrev pub Goes : ℕ → List Summary → Option ℕ → Type 0
  Goes next taken None = up_to last taken ≡ up_to last (from next messages)
  Goes next taken (Some further) = GoesOn next further taken

  module _ (next : ℕ) where
    abbrev taken : List Summary
    taken = take piece (from next messages)

    high : Above next (from next messages)
    high = from_high 0 next messages (above messages rising)

    splits_at : (number : ℕ) → last_number taken ≡ Some number
        → up_to last (from next messages) ≡ up_to last taken ++ up_to last (from (number + 1) (from next messages))
    splits_at number is =
        ap (up_to last) (piece_and_rest piece next number (from next messages) high is)
        ∙ filter-append (λ (one : Summary). nat_le one.number last) taken (from (number + 1) (from next messages))

    goes_behind : (b : Bool) (number : ℕ) → last_number taken ≡ Some number → next ≤ number → nat_lt number last ≡ b
        → Goes next taken (if b then Some (number + 1) else None)
    goes_behind true number is le below =
        let under : number < last = ltb-true number last below in
        record {
          splits = splits_at number is
              ∙ ap (λ (w : List Summary). up_to last taken ++ up_to last w) (from_from next (number + 1) messages (omega (arith, le)));
          moves = omega (arith, le);
          within = omega (arith, under);
          some = ap not (has_some last number taken is (omega (arith, under)));
        }
    goes_behind false number is le over =
        let beyond : last ≤ number = ltb-false number last over in
        sym (splits_at number is
        ∙ ap (λ (w : List Summary). up_to last taken ++ w) (none_between (number + 1) last (from next messages) (omega (arith, beyond)))
        ∙ append-nil (up_to last taken))

    goes_last : (found : Option ℕ) → last_number taken ≡ found → Goes next taken (behind_last next last found)
    goes_last None is = ap (up_to last) (ap (take piece) (empty_piece piece (from next messages) (omega arith) is) ∙ sym (empty_piece piece (from next messages) (omega arith) is))
    goes_last (Some number) is =
        let le : next ≤ number = last_high next number taken (take_above piece next (from next messages) high) is in
        subst (λ (b : Bool). Goes next taken (if b && nat_lt number last then Some (number + 1) else None)) (sym (le-leb next number le))
        (goes_behind (nat_lt number last) number is le refl)

    goes_short : (b : Bool) → nat_lt (length taken) piece ≡ b → Goes next taken (if b then None else behind_last next last (last_number taken))
    goes_short true short = ap (up_to last) (short_is_all piece (from next messages) (ltb-true (length taken) piece short))
    goes_short false long = goes_last (last_number taken) refl

    -- so does each piece
    pub goes : Goes next taken (goes_on_from next last taken)
    goes = goes_short (nat_lt (length taken) piece) refl
