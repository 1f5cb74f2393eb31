-- The links of all live messages, met from the last to the first.
use Rattle.std.proofs.Common.{◌≡◌, ◌≢◌, ◌⊎◌, inl, inr, ℕ, suc, ◌+◌, ◌-◌, ◌<◌, ◌≤◌, nat_lt, Bool, true, false, ◌&&◌, ◌==◌, cond, List, [], ◌∷◌, ◌++◌, Option, Some, None, find, map, length, take, drop, reverse, slice_get, slice_index, slice_set, get_or, length-take, refl, sym, ◌∙◌, ap, arith, ne_eqb, eq-eqb, eqb-true, lt-ltb, le-ltb, subst, get_or-set_other, length-set}
use Rattle.std.proofs.lemmas.Bool.{eqb-false, false≢true}
use Rattle.std.proofs.lemmas.Option.{slice_get_read}
use Rattle.std.proofs.lemmas.Grind.{get_or-set_at}
use Rattle.std.proofs.lemmas.List.{reverse-append, take-append-drop}
use Rattle.std.proofs.lemmas.List.Folds.{find-append}
use Rattle.std.proofs.Math.Seq.{drop-cons}
use Rattle.std.specs.Option.{is_some, option_or}
use Rattle.jb_state.specs.Links.{Linkable, first_reply_of, is_answered_by, is_kept_by, next_reply_of, number_or_0, parent_for, parent_of}
use Rattle.jb_state.specs.Message.{replyid_of}
use Rattle.jb_state.specs.declared.links.Links.{Links}
use Rattle.jb_state.specs.declared.loaded.LoadedMessage.{LoadedMessage}
use Rattle.jb_state.specs.declared.loaded.LoadedSlot.{LoadedSlot}
use Rattle.jb_state.specs.declared.loaded.LoadedSlot.TheVariants.{Empty, Killed, Live}
use Rattle.jb_state.proofs.ThreadLaws.{parent_is_lower}
use Rattle.jb_link.specs.Parents.{AreParents}
use Rattle.jb_state.specs.Plan.{links_of}
use Rattle.jb_state.specs.LiveSlots.{linkables_from, loaded_linkable, message_in}
use Rattle.jb_link.proofs.LiveLemmas.{StandsAt, found_stands, linkables_from-append}
use Rattle.jb_link.proofs.ParentLemmas.{parent_of_message}
use Rattle.jb_link.proofs.RangeLemmas.{never_found, same_found}

-- the messages at the places from one on have been met: their links stand in the list, and the first reply of each number is known among them
pub record IsMetFrom (base place : ℕ) (slots : List LoadedSlot) (firsts : List ℕ) (links : List Links) : Type 0 where
  pub len : length firsts ≡ length slots
  pub each : (j : ℕ) → j < length slots → slice_index firsts j ≡ number_or_0 (find (λ one. parent_of (linkables_from base slots) one == base + j) (linkables_from (base + place) (drop place slots)))
  pub listed : links ≡ reverse (map (links_of (linkables_from base slots)) (linkables_from (base + place) (drop place slots)))

-- a parent is lower than its reply
pub parent_lower : (live : List Linkable) (n : ℕ) (reply : Option (List ℕ)) (kept : ℕ) → parent_for live n reply kept ≤ n - 1
parent_lower live n reply kept = elim (parent_is_lower live n reply kept) [ inl none ↦ omega (arith, none) | inr below ↦ omega (arith, below) ]

-- a parent is 0 or the number of a place below
pub parent_in_range : (base k : ℕ) (slots : List LoadedSlot) (reply : Option (List ℕ)) (kept : ℕ)
    → (parent_for (linkables_from base slots) (base + k) reply kept ≡ 0)
    ⊎ ((base ≤ parent_for (linkables_from base slots) (base + k) reply kept) × (parent_for (linkables_from base slots) (base + k) reply kept < base + k))
parent_in_range base k slots reply kept = by_place _ (stands reply) (parent_is_lower (linkables_from base slots) (base + k) reply kept)
  where
    stands : (reply : Option (List ℕ)) → (parent_for (linkables_from base slots) (base + k) reply kept ≡ 0) ⊎ StandsAt base (parent_for (linkables_from base slots) (base + k) reply kept) slots
    stands (Some id) = found_stands (is_answered_by (base + k) id) base slots
    stands None = found_stands (is_kept_by (base + k) kept) base slots

    by_place : (parent : ℕ) → (parent ≡ 0) ⊎ StandsAt base parent slots → (parent ≡ 0) ⊎ (parent < base + k) → (parent ≡ 0) ⊎ ((base ≤ parent) × (parent < base + k))
    by_place parent (inl none) low = inl none
    by_place parent (inr there) (inl none) = inl none
    by_place parent (inr there) (inr below) = inr (let numbered = there.numbered in omega (arith, numbered), below)

-- the live messages, cut behind a place
pub cut_behind : (base k : ℕ) (slots : List LoadedSlot) → k < length slots
    → linkables_from base slots ≡ linkables_from base (take (k + 1) slots) ++ linkables_from (base + (k + 1)) (drop (k + 1) slots)
cut_behind base k slots within =
    let front : length (take (k + 1) slots) ≡ k + 1 = omega (arith, length-take {A = LoadedSlot}) in
    ap (linkables_from base) (sym (take-append-drop (k + 1) slots)) ∙ linkables_from-append base (take (k + 1) slots) (drop (k + 1) slots)
    ∙ ap (λ n. linkables_from base (take (k + 1) slots) ++ linkables_from (base + n) (drop (k + 1) slots)) front

-- where a test passes for none of the messages up to a place, what it finds stands behind
found_behind : (f : Linkable → Bool) (base k : ℕ) (slots : List LoadedSlot) → k < length slots
    → ((one : Linkable) → base ≤ one.number → one.number ≤ base + k → f one ≡ false)
    → find f (linkables_from base slots) ≡ find f (linkables_from (base + (k + 1)) (drop (k + 1) slots))
found_behind f base k slots within none =
    let front : length (take (k + 1) slots) ≡ k + 1 = omega (arith, length-take {A = LoadedSlot}) in
    let lower : find f (linkables_from base (take (k + 1) slots)) ≡ None
    = same_found f (λ _. false) base (take (k + 1) slots) (λ one from to. none one from (omega arith)) ∙ never_found (linkables_from base (take (k + 1) slots)) in
    ap (find f) (cut_behind base k slots within) ∙ find-append f (linkables_from base (take (k + 1) slots)) (linkables_from (base + (k + 1)) (drop (k + 1) slots))
    ∙ ap (λ o. option_or o (find f (linkables_from (base + (k + 1)) (drop (k + 1) slots)))) lower

-- the first reply of a number stands behind it
pub first_behind : (base k : ℕ) (slots : List LoadedSlot) → 1 ≤ base → k < length slots
    → first_reply_of (linkables_from base slots) (base + k)
    ≡ number_or_0 (find (λ one. parent_of (linkables_from base slots) one == base + k) (linkables_from (base + (k + 1)) (drop (k + 1) slots)))
first_behind base k slots one within =
    ap number_or_0 (found_behind (λ x. parent_of (linkables_from base slots) x == base + k) base k slots within
    (λ x from to.
    let lower : parent_of (linkables_from base slots) x ≤ x.number - 1 = parent_lower (linkables_from base slots) x.number x.replyid x.kept in
    ne_eqb (parent_of (linkables_from base slots) x) (base + k) (λ e. omega arith)))

-- the next reply to a parent stands behind, and is the first of those that stand there
pub next_behind : (base k parent : ℕ) (slots : List LoadedSlot) → k < length slots → parent ≢ 0
    → next_reply_of (linkables_from base slots) (base + k) parent
    ≡ number_or_0 (find (λ one. parent_of (linkables_from base slots) one == parent) (linkables_from (base + (k + 1)) (drop (k + 1) slots)))
next_behind base k parent slots within some =
    let f : Linkable → Bool = λ x. parent_of (linkables_from base slots) x == parent in
    let there : (parent == 0) ≡ false = ne_eqb parent 0 some in
    rw there
    (ap number_or_0
    (found_behind (λ x. nat_lt (base + k) x.number && f x) base k slots within (λ x from to. ap (λ b. b && f x) (le-ltb (base + k) x.number to))
    ∙ same_found (λ x. nat_lt (base + k) x.number && f x) f (base + (k + 1)) (drop (k + 1) slots)
    (λ x from to. ap (λ b. b && f x) (lt-ltb (base + k) x.number (omega arith)))))

-- the messages from a place on: the slot there, and those behind it
from_place : (base k : ℕ) (slots : List LoadedSlot) (slot : LoadedSlot) → k < length slots → slot ≡ get_or slots k slot
    → linkables_from (base + k) (drop k slots) ≡ linkables_from (base + k) (slot ∷ drop (k + 1) slots)
from_place base k slots slot within read =
    let next : suc k ≡ k + 1 = omega arith in
    ap (linkables_from (base + k)) (drop-cons slots k slot within ∙ ap (λ s. s ∷ drop (suc k) slots) (sym read) ∙ ap (λ j. slot ∷ drop j slots) next)

-- the links of one number
abbrev links_with : ℕ → ℕ → ℕ → ℕ → Links
links_with number parent first next = record { number = number; reply_to = parent; first = first; next = next }

-- links are the same where their fields are
same_links : (number parent first next parent' first' next' : ℕ) → parent ≡ parent' → first ≡ first' → next ≡ next'
    → links_with number parent first next ≡ links_with number parent' first' next'
same_links number parent first next parent' first' next' a b c = cc

-- a reply that is put keeps the length
length_put : (b : Bool) (xs : List ℕ) (i v : ℕ) → length (cond b xs (slice_set xs i v)) ≡ length xs
length_put true xs i v = refl
length_put false xs i v = length-set xs i v

-- the next reply to a parent is the one that was its first among those behind
next_known : (base k parent next : ℕ) (slots : List LoadedSlot) (firsts : List ℕ) (links : List Links) → k < length slots
    → (parent ≡ 0) ⊎ ((base ≤ parent) × (parent < base + k))
    → next ≡ cond (parent == 0) 0 (slice_index firsts (parent - base))
    → IsMetFrom base (k + 1) slots firsts links
    → next ≡ next_reply_of (linkables_from base slots) (base + k) parent
next_known base k parent next slots firsts links within (inl none) is met =
    let no_parent : (parent == 0) ≡ true = eq-eqb parent 0 none in
    rw no_parent (is ∙ ap (λ b. cond b 0 (slice_index firsts (parent - base))) no_parent)
next_known base k parent next slots firsts links within (inr (from, to)) is met =
    known (parent == 0) refl
  where
    there : base + (parent - base) ≡ parent
    there = omega arith

    known : (b : Bool) → (parent == 0) ≡ b → next ≡ next_reply_of (linkables_from base slots) (base + k) parent
    known true e =
        rw e (is ∙ ap (λ b. cond b 0 (slice_index firsts (parent - base))) e)
    known false e =
        is ∙ ap (λ b. cond b 0 (slice_index firsts (parent - base))) e ∙ met.each (parent - base) (omega arith)
        ∙ ap (λ p. number_or_0 (find (λ one. parent_of (linkables_from base slots) one == p) (linkables_from (base + (k + 1)) (drop (k + 1) slots)))) there
        ∙ sym (next_behind base k parent slots within (eqb-false parent 0 e))

-- the first reply of each number, with one more message in front
firsts_step : (base k parent j : ℕ) (firsts : List ℕ) (found : Option Linkable) (one : Linkable) → 1 ≤ base → k < length firsts → j < length firsts
    → (parent ≡ 0) ⊎ ((base ≤ parent) × (parent < base + k)) → one.number ≡ base + k → slice_index firsts j ≡ number_or_0 found
    → slice_index (cond (parent == 0) firsts (slice_set firsts (parent - base) (base + k))) j ≡ number_or_0 (cond (parent == base + j) (Some one) found)
firsts_step base k parent j firsts found one above within place (inl none) numbered before =
    let no_parent : (parent == 0) ≡ true = eq-eqb parent 0 none in
    let other : (parent == base + j) ≡ false = ne_eqb parent (base + j) (λ e. omega arith) in
    rw (no_parent, other) before
firsts_step base k parent j firsts found one above within place (inr (from, to)) numbered before =
    let some : (parent == 0) ≡ false = ne_eqb parent 0 (λ e. omega arith) in
    rw some (by_place (parent == base + j) refl)
  where
    by_place : (b : Bool) → (parent == base + j) ≡ b → slice_index (slice_set firsts (parent - base) (base + k)) j ≡ number_or_0 (cond (parent == base + j) (Some one) found)
    by_place true e =
        let same : parent ≡ base + j = eqb-true parent (base + j) e in
        rw e (get_or-set_at firsts (parent - base) j (base + k) 0 (omega arith) (omega arith) ∙ sym numbered)
    by_place false e =
        let other : parent ≢ base + j = eqb-false parent (base + j) e in
        rw e (get_or-set_other firsts (parent - base) j (base + k) 0 (λ same. other (omega arith)) ∙ before)

-- a live message is met before those behind it: its links are known, and it is the first reply of its parent from now on
pub met_message : (base k parent first next : ℕ) (slots : List LoadedSlot) (message : LoadedMessage) (slot : LoadedSlot) (firsts firsts' : List ℕ) (links : List Links)
    → 1 ≤ base → k < length slots → slot ≡ get_or slots k slot → slot ≡ Live message
    → parent ≡ parent_of (linkables_from base slots) (loaded_linkable (base + k) message)
    → first ≡ slice_index firsts k
    → next ≡ cond (parent == 0) 0 (slice_index firsts (parent - base))
    → firsts' ≡ cond (parent == 0) firsts (slice_set firsts (parent - base) (base + k))
    → IsMetFrom base (k + 1) slots firsts links
    → IsMetFrom base k slots firsts' (links ++ links_with (base + k) parent first next ∷ [])
met_message base k parent first next slots message slot firsts firsts' links above within read live is_parent is_first is_next is_firsts met =
    let L : List Linkable = linkables_from base slots in
    let one : Linkable = loaded_linkable (base + k) message in
    let rest : List Linkable = linkables_from (base + (k + 1)) (drop (k + 1) slots) in
    let further : base + k + 1 ≡ base + (k + 1) = omega arith in
    let same : linkables_from (base + k) (drop k slots) ≡ one ∷ rest
    = from_place base k slots slot within read ∙ ap (λ s. linkables_from (base + k) (s ∷ drop (k + 1) slots)) live
    ∙ ap (λ n. one ∷ linkables_from n (drop (k + 1) slots)) further in
    let range : (parent ≡ 0) ⊎ ((base ≤ parent) × (parent < base + k))
    = subst (λ (p : ℕ). (p ≡ 0) ⊎ ((base ≤ p) × (p < base + k))) (sym is_parent) (parent_in_range base k slots one.replyid one.kept) in
    let known : links_with (base + k) parent first next ≡ links_of L one
    = same_links (base + k) parent first next (parent_of L one) (first_reply_of L (base + k)) (next_reply_of L (base + k) (parent_of L one))
    is_parent
    (is_first ∙ met.each k within ∙ sym (first_behind base k slots above within))
    (next_known base k parent next slots firsts links within range is_next met ∙ ap (next_reply_of L (base + k)) is_parent) in
    record {
      len = ap length is_firsts ∙ length_put (parent == 0) firsts (parent - base) (base + k) ∙ met.len;
      each = λ j below.
          let step : slice_index firsts' j ≡ number_or_0 (cond (parent == base + j) (Some one) (find (λ x. parent_of L x == base + j) rest))
          = ap (λ xs. slice_index xs j) is_firsts
          ∙ firsts_step base k parent j firsts (find (λ x. parent_of L x == base + j) rest) one above (omega (arith, met.len)) (omega (arith, met.len)) range refl (met.each j below) in
          step ∙ ap (λ p. number_or_0 (cond (p == base + j) (Some one) (find (λ x. parent_of L x == base + j) rest))) is_parent
          ∙ ap (λ l. number_or_0 (find (λ x. parent_of L x == base + j) l)) (sym same);
      listed =
          ap (λ l. l ++ links_with (base + k) parent first next ∷ []) met.listed
          ∙ ap (λ x. reverse (map (links_of L) rest) ++ x ∷ []) known
          ∙ sym (reverse-append (links_of L one ∷ []) (map (links_of L) rest))
          ∙ ap (λ l. reverse (map (links_of L) l)) (sym same);
    }

-- a live slot has a message
pub message_of_live : (slot : LoadedSlot) → is_some (message_in (Some slot)) ≡ true → (message : LoadedMessage) × (slot ≡ Live message)
message_of_live Empty h = absurd (false≢true h)
message_of_live (Killed header_at) h = absurd (false≢true h)
message_of_live (Live message) h = (message, refl)

-- the parent at the place of a live message is 0 or the number of a place below
pub parent_at_in_range : (base k count : ℕ) (slots : List LoadedSlot) (slot : LoadedSlot) (parents : List ℕ) → k < length slots → slot ≡ get_or slots k slot
    → is_some (message_in (Some slot)) ≡ true → AreParents (linkables_from base slots) base (length slots) parents → length slots ≡ count
    → (slice_index parents k ≡ 0) ⊎ ((base ≤ slice_index parents k) × (slice_index parents k < base + count))
parent_at_in_range base k count slots slot parents within read live are len =
    let (message, is) = message_of_live slot live in
    let at : slice_get slots k ≡ Some (Live message) = slice_get_read slots (length slots) k slot refl within read ∙ ap Some is in
    let known : slice_index parents k ≡ parent_of (linkables_from base slots) (loaded_linkable (base + k) message) = are.each k within ∙ parent_of_message base k slots message at in
    let range : (slice_index parents k ≡ 0) ⊎ ((base ≤ slice_index parents k) × (slice_index parents k < base + k))
    = subst (λ (p : ℕ). (p ≡ 0) ⊎ ((base ≤ p) × (p < base + k))) (sym known) (parent_in_range base k slots (replyid_of message.subfields) message.head.reply_to) in
    elim range [ inl none ↦ inl none | inr (from, to) ↦ inr (from, omega arith) ]

-- the step at a live slot, in the terms of the loop
pub met_live_slot : (base k m first next : ℕ) (slots : List LoadedSlot) (slot : LoadedSlot) (parents firsts firsts' : List ℕ) (links : List Links)
    → 1 ≤ base → k < length slots → m ≡ k + 1 → slot ≡ get_or slots k slot → is_some (message_in (Some slot)) ≡ true
    → AreParents (linkables_from base slots) base (length slots) parents
    → first ≡ slice_index firsts k
    → next ≡ cond (slice_index parents k == 0) 0 (slice_index firsts (slice_index parents k - base))
    → firsts' ≡ cond (slice_index parents k == 0) firsts (slice_set firsts (slice_index parents k - base) (base + k))
    → IsMetFrom base m slots firsts links
    → IsMetFrom base k slots firsts' (links ++ record { number = base + k; reply_to = slice_index parents k; first = first; next = next } ∷ [])
met_live_slot base k m first next slots slot parents firsts firsts' links above within e read live are is_first is_next is_firsts met =
    let (message, is) = message_of_live slot live in
    let at : slice_get slots k ≡ Some (Live message) = slice_get_read slots (length slots) k slot refl within read ∙ ap Some is in
    met_message base k (slice_index parents k) first next slots message slot firsts firsts' links above within read is
    (are.each k within ∙ parent_of_message base k slots message at) is_first is_next is_firsts
    (subst (λ (p : ℕ). IsMetFrom base p slots firsts links) e met)
