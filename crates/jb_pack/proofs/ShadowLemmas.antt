-- How much is left of the texts, slot by slot.
use Rattle.std.proofs.Common.{◌≡◌, ◌⊎◌, inl, inr, ℕ, Bool, true, false, cond, eqb, zero, suc, ◌+◌, ◌-◌, ◌≤◌, ◌<◌, List, [], ◌∷◌, ◌++◌, length, take, get_or, set, replicate, refl, sym, ◌∙◌, ap, arith, length-take}
use Rattle.std.specs.Prelude.{◌&&◌, sum}
use Rattle.std.proofs.lemmas.Bool.{cases_lt, eq-eqb, eqb-true, false≢true}
use Rattle.std.proofs.lemmas.List.{same_lists, get_or-append_right, get_or-take, get_or_append_left, get_or_default, get_or_past, get_or_read}
use Rattle.std.proofs.lemmas.List.Sums.{sum_by-cons, sum_by_more, get_or-le-sum_by}
use Rattle.jb_state.specs.declared.loaded.LoadedMessage.{LoadedMessage}
use Rattle.jb_state.specs.declared.loaded.LoadedSlot.{LoadedSlot}
use Rattle.jb_state.specs.declared.loaded.LoadedSlot.TheVariants.{Empty, Killed, Live}
use Rattle.jb_state.specs.Packed.{slot_text_size, texts_size}
use Rattle.jb_pack.specs.Shadow.{left_of, lefts, not_copied}
use Rattle.jb_pack.specs.declared.copied.CopiedText.{CopiedText}

-- a number that is 0 where both tests say so, and else itself
unless_both : (b c : Bool) (n : ℕ) → (c ≡ true → n ≡ 0) → cond (b && c) 0 n ≡ n
unless_both true true n none = sym (none refl)
unless_both true false n none = refl
unless_both false c n none = refl

-- it is no more than itself
at_most : (b : Bool) (n : ℕ) → cond b 0 n ≤ n
at_most true n = omega arith
at_most false n = omega arith

-- 0 where both say so
where_both : (b c : Bool) (n : ℕ) → b ≡ true → c ≡ true → cond (b && c) 0 n ≡ 0
where_both true true n one two = refl
where_both true false n one two = absurd (false≢true two)
where_both false c n one two = absurd (false≢true one)

-- and only there, unless it is 0
none_where : (b c : Bool) (n : ℕ) → cond (b && c) 0 n ≡ 0 → ((b ≡ true) × (c ≡ true)) ⊎ (n ≡ 0)
none_where true true n is = inl (refl, refl)
none_where true false n is = inr is
none_where false c n is = inr is

-- where nothing is copied, all is left
pub left-none : (slot : LoadedSlot) → left_of not_copied slot ≡ slot_text_size slot
left-none Empty = refl
left-none (Killed at) = refl
left-none (Live message) = unless_both (eqb 0 message.text_at) (eqb 0 message.text_len) message.text_len (λ same. sym (eqb-true 0 message.text_len same))

-- no more is left than all
pub left-le : (copied : CopiedText) (slot : LoadedSlot) → left_of copied slot ≤ slot_text_size slot
left-le copied Empty = omega arith
left-le copied (Killed at) = omega arith
left-le copied (Live message) = at_most (eqb copied.from message.text_at && eqb copied.len message.text_len) message.text_len

-- a message's text that was copied just now is not left
pub left-copied : (at : ℕ) (message : LoadedMessage) → left_of (record { from = message.text_at; len = message.text_len; at = at }) (Live message) ≡ 0
left-copied at message =
    where_both (eqb message.text_at message.text_at) (eqb message.text_len message.text_len) message.text_len
    (eq-eqb message.text_at message.text_at refl) (eq-eqb message.text_len message.text_len refl)

-- a text of which nothing is left has no byte, or stands in .NDT
pub left-zero_cases : (copied : CopiedText) (message : LoadedMessage) → left_of copied (Live message) ≡ 0
    → ((copied.from ≡ message.text_at) × (copied.len ≡ message.text_len)) ⊎ (message.text_len ≡ 0)
left-zero_cases copied message none =
    elim (none_where (eqb copied.from message.text_at) (eqb copied.len message.text_len) message.text_len none) [
      | inl both ↦ inl (eqb-true copied.from message.text_at both.0, eqb-true copied.len message.text_len both.1)
      | inr empty ↦ inr empty
    ]

-- of a text all bytes are left, or none
pub left-some : (copied : CopiedText) (message : LoadedMessage) → (left_of copied (Live message) ≡ 0) ⊎ (left_of copied (Live message) ≡ message.text_len)
left-some copied message = all_or_none (eqb copied.from message.text_at && eqb copied.len message.text_len) message.text_len
  where
    all_or_none : (b : Bool) (n : ℕ) → (cond b 0 n ≡ 0) ⊎ (cond b 0 n ≡ n)
    all_or_none true n = inl refl
    all_or_none false n = inr refl

-- where some of a text is left, all of it is
pub left-whole : (copied : CopiedText) (slot : LoadedSlot) (message : LoadedMessage) (n : ℕ) → slot ≡ Live message → n ≡ left_of copied slot → (n ≡ 0 → ⊥)
    → left_of copied (Live message) ≡ message.text_len
left-whole copied slot message n live is some = elim (left-some copied message) [
  | inl none ↦ absurd (some (is ∙ ap (left_of copied) live ∙ none))
  | inr all ↦ all
]

-- of a slot without a live message nothing is left
pub left-no_message : (copied : CopiedText) (slot : LoadedSlot) → ((message : LoadedMessage) → slot ≡ Live message → ⊥) → left_of copied slot ≡ 0
left-no_message copied Empty other = refl
left-no_message copied (Killed at) other = refl
left-no_message copied (Live message) other = absurd (other message refl)

-- one for each slot
pub length-lefts : (copies : List CopiedText) (slots : List LoadedSlot) → length (lefts copies slots) ≡ length slots
length-lefts copies [] = refl
length-lefts [] (slot ∷ slots) = ap suc (length-lefts [] slots)
length-lefts (copied ∷ copies) (slot ∷ slots) = ap suc (length-lefts copies slots)

-- at a place
pub lefts-at : (copies : List CopiedText) (slots : List LoadedSlot) (k : ℕ) → k < length slots
    → get_or (lefts copies slots) k 0 ≡ left_of (get_or copies k not_copied) (get_or slots k Empty)
lefts-at copies [] k low = absurd (omega (arith, low))
lefts-at [] (slot ∷ slots) zero low = sym (left-none slot)
lefts-at [] (slot ∷ slots) (suc k) low = lefts-at [] slots k (omega (arith, low))
lefts-at (copied ∷ copies) (slot ∷ slots) zero low = refl
lefts-at (copied ∷ copies) (slot ∷ slots) (suc k) low = lefts-at copies slots k (omega (arith, low))

-- copies that are the same for each slot
pub lefts-same : (a b : List CopiedText) (slots : List LoadedSlot) → ((k : ℕ) → k < length slots → get_or a k not_copied ≡ get_or b k not_copied)
    → lefts a slots ≡ lefts b slots
lefts-same a b slots same = same_lists (lefts a slots) (lefts b slots) (length-lefts a slots ∙ sym (length-lefts b slots)) (λ k d low.
    let size = length-lefts a slots in
    let size' = length-lefts b slots in
    let within : k < length slots = omega arith in
    get_or_default (lefts a slots) k d 0 (omega arith)
    ∙ lefts-at a slots k within
    ∙ ap (λ (c : CopiedText). left_of c (get_or slots k Empty)) (same k within)
    ∙ sym (lefts-at b slots k within)
    ∙ get_or_default (lefts b slots) k 0 d (omega arith))

-- none at any place
none-at : (n k : ℕ) → get_or (replicate n not_copied) k not_copied ≡ not_copied
none-at zero k = refl
none-at (suc n) zero = refl
none-at (suc n) (suc k) = none-at n k

-- no copies, for as many slots as there may be
pub lefts-none : (n : ℕ) (slots : List LoadedSlot) → lefts (replicate n not_copied) slots ≡ lefts [] slots
lefts-none n slots = lefts-same (replicate n not_copied) [] slots (λ k low. none-at n k)

-- the first so many copies, and none behind them
resized-at : (n m : ℕ) (copies : List CopiedText) (k : ℕ) → k < n → get_or (take n copies ++ replicate m not_copied) k not_copied ≡ get_or copies k not_copied
resized-at n m copies k low = elim (cases_lt k (length copies)) [
  | inl inside ↦
      get_or_append_left (take n copies) (replicate m not_copied) not_copied k (omega (arith, length-take n copies))
      ∙ get_or-take n copies k not_copied low
  | inr past ↦
      get_or-append_right (take n copies) (replicate m not_copied) (length copies) k not_copied (omega (arith, length-take n copies)) past
      ∙ none-at m (k - length copies) ∙ sym (get_or_past copies k not_copied past)
]

-- as many copies as slots
pub lefts-resized : (n m : ℕ) (copies resized : List CopiedText) (slots : List LoadedSlot) → resized ≡ take n copies ++ replicate m not_copied → n ≡ length slots
    → lefts resized slots ≡ lefts copies slots
lefts-resized n m copies resized slots is size =
    ap (λ (l : List CopiedText). lefts l slots) is
    ∙ lefts-same (take n copies ++ replicate m not_copied) copies slots (λ k low. resized-at n m copies k (omega arith))

-- another copy at a place
pub lefts-set : (copies : List CopiedText) (slots : List LoadedSlot) (k : ℕ) (copied : CopiedText) → k < length slots → k < length copies
    → lefts (set copies k copied) slots ≡ set (lefts copies slots) k (left_of copied (get_or slots k Empty))
lefts-set copies [] k copied low within = absurd (omega (arith, low))
lefts-set [] (slot ∷ slots) k copied low within = absurd (omega (arith, within))
lefts-set (first ∷ copies) (slot ∷ slots) zero copied low within = refl
lefts-set (first ∷ copies) (slot ∷ slots) (suc k) copied low within =
    ap (λ (l : List ℕ). left_of first slot ∷ l) (lefts-set copies slots k copied (omega (arith, low)) (omega (arith, within)))

-- with no copies all bytes of all texts are left
pub left-all : (slots : List LoadedSlot) → sum (lefts [] slots) ≡ texts_size slots
left-all [] = refl
left-all (slot ∷ slots) = omega (arith, sum_by-cons (λ (n : ℕ). n) (slot_text_size slot) (lefts [] slots), sum_by-cons slot_text_size slot slots, left-all slots)

-- what is left with one slot more
pub left-more : (copies : List CopiedText) (slots : List LoadedSlot) (k : ℕ) → k < length slots
    → sum (take (k + 1) (lefts copies slots)) ≡ sum (take k (lefts copies slots)) + left_of (get_or copies k not_copied) (get_or slots k Empty)
left-more copies slots k low =
    omega (arith, sum_by_more (λ (n : ℕ). n) (lefts copies slots) k 0 (omega (arith, length-lefts copies slots)), lefts-at copies slots k low)

-- where nothing is left of all, nothing is left of each
pub left-zero : (copies : List CopiedText) (slots : List LoadedSlot) (k : ℕ) → k < length slots → sum (lefts copies slots) ≡ 0
    → left_of (get_or copies k not_copied) (get_or slots k Empty) ≡ 0
left-zero copies slots k low none =
    omega (arith, get_or-le-sum_by (λ (n : ℕ). n) (lefts copies slots) k 0 (omega (arith, length-lefts copies slots)), lefts-at copies slots k low)

-- what is left with one slot more, as it is read at its place
pub left-next : (copies : List CopiedText) (slots : List LoadedSlot) (k : ℕ) (copied : CopiedText) (slot : LoadedSlot) (n : ℕ) → k < length slots
    → copied ≡ get_or copies k not_copied → slot ≡ get_or slots k slot → n ≡ left_of copied slot
    → sum (take (k + 1) (lefts copies slots)) ≡ sum (take k (lefts copies slots)) + n
left-next copies slots k copied slot n low copied_is slot_is n_is =
    let here : left_of (get_or copies k not_copied) (get_or slots k Empty) ≡ n =
    sym (n_is ∙ (λ i. left_of (copied_is i) (get_or_read slots k slot low slot_is Empty i))) in
    omega (arith, left-more copies slots k low, here)
