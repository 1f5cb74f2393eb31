-- What a kill makes of the index of an area.
use Rattle.std.proofs.Common.{◌≡◌, ◌≢◌, inl, inr, ℕ, zero, suc, ◌+◌, ◌<◌, ◌≤◌, Bool, true, false, not, ◌&&◌, ◌==◌, cond, List, [], ◌∷◌, Option, Some, None, filter, find, map, get_or, slice_get, slice_set, refl, sym, ◌∙◌, ap, subst, arith, eq-eqb, ne_eqb, eqb-true}
use Rattle.std.specs.Prelude.{All}
use Rattle.std.proofs.lemmas.Bool.{eqb-false}
use Rattle.std.proofs.lemmas.List.{length-set}
use Rattle.std.proofs.lemmas.List.Elements.{All-cons, All-filter, All-nil, filter_agree}
use Rattle.jb_base.specs.declared.area.AreaRules.{AreaRules}
use Rattle.jb_state.specs.Change.{HasMessageAt, after, killed_slot}
use Rattle.jb_state.specs.LiveSlots.{linkables}
use Rattle.jb_state.specs.Links.{Linkable, is_answered_by, is_kept_by, is_reply_to, linkable, linkables_of, number_or_0, parent_at, parent_for, parent_of, parent_or_0}
use Rattle.jb_state.specs.Live.{Numbered, live_from, live_in}
use Rattle.jb_state.specs.State.{AreaState, LiveMessage, SlotState, killed_message, live_message, next_number, no_message, state_of}
use Rattle.jb_state.specs.declared.change.Change.TheVariants.{Killed}
use Rattle.jb_state.specs.declared.loaded.Loaded.{Loaded}
use Rattle.jb_state.specs.declared.mark.Mark.{Mark}
use Rattle.jb_state.specs.declared.summary.Summary.{Summary}
use Rattle.jb_state.proofs.RelinkLaws.{map-map}
use Rattle.jb_state.proofs.ThreadLaws.{parent_is_lower}
use Rattle.jb_link.specs.Orphans.{orphan_of, orphans_of, without_one}
use Rattle.jb_link.specs.declared.orphans.Orphan.{Orphan}
use Rattle.jb_index.specs.Change.{Follows, edits_of_kill}
use Rattle.jb_index.specs.Edit.{absorbed, changed_at, with_parent, without}
use Rattle.jb_index.specs.Index.{index_of, summary_of, summary_with}
use Rattle.jb_index.specs.declared.op.OpEdit.{OpEdit}
use Rattle.jb_index.specs.declared.op.OpEdit.TheVariants.{Drop, Parent}
use Rattle.jb_index.proofs.ChangeLemmas.{changed_slots, follows, index_on, state_here, textless}
use Rattle.jb_index.proofs.EditLemmas.{changed_none}
use Rattle.jb_index.proofs.ListLemmas.{filter_all, filter_filter, filter_map}
use Rattle.jb_index.proofs.MakingLemmas.{same_index}
use Rattle.jb_index.proofs.SlotLemmas.{all_made, live_all, map_agree, numbered, others_behind}

-- the edit of an orphan, and the edits of a kill from its orphans
abbrev pub edit_for_orphan : Orphan → OpEdit
edit_for_orphan one = Parent one.number one.parent

pub edits_from_orphans : (live : List Linkable) (number : ℕ) → Drop number ∷ map edit_for_orphan (orphans_of live number) ≡ edits_of_kill live number
edits_from_orphans live number = ap (λ edits. Drop number ∷ edits) (map-map (orphan_of live number) edit_for_orphan (filter (is_reply_to live number) live))

-- the live messages without the one that is killed
killed_live : (k base number : ℕ) (slots : List SlotState) (message : LiveMessage) → slice_get slots k ≡ Some (live_message message) → number ≡ base + k
    → live_from base (slice_set slots k killed_message) ≡ filter (λ one. not (one.number == number)) (live_from base slots)
killed_live k base number [] message at is = cc
killed_live zero base number (no_message ∷ slots) message at is = cc
killed_live zero base number (killed_message ∷ slots) message at is = cc
killed_live zero base number (live_message first ∷ slots) message at is =
    let here : (base == number) ≡ true = eq-eqb _ _ (omega arith) in
    rw here
    (sym (filter_all (λ one. not (one.number == number)) (live_from (base + 1) slots)
    (live_all (λ one. not (one.number == number) ≡ true) (base + 1) slots (λ n other from to. ap not (ne_eqb _ _ (λ same. omega arith))))))
killed_live (suc k) base number (no_message ∷ slots) message at is = killed_live k (base + 1) number slots message at (omega arith)
killed_live (suc k) base number (killed_message ∷ slots) message at is = killed_live k (base + 1) number slots message at (omega arith)
killed_live (suc k) base number (live_message first ∷ slots) message at is =
    let other : (base == number) ≡ false = ne_eqb _ _ (λ same. omega arith) in
    rw other (ap (λ (rest : List Numbered). numbered base first ∷ rest) (killed_live k (base + 1) number slots message at (omega arith)))

-- what is found, if it is not the one that is left out, is found without that
stays_found : (test : Linkable → Bool) (number : ℕ) (live : List Linkable) → number_or_0 (find test live) ≢ number
    → number_or_0 (find test (without_one number live)) ≡ number_or_0 (find test live)
stays_found test number [] other = refl
stays_found test number (one ∷ live) other = by (test one) (one.number == number) refl refl (λ differs. stays_found test number live differs)
  where
    W : List Linkable
    W = without_one number live

    left : (b : Bool) → (one.number == number) ≡ b → number_or_0 (find test (without_one number (one ∷ live))) ≡ number_or_0 (find test (cond (not b) (one ∷ W) W))
    left b e = ap (λ c. number_or_0 (find test (cond (not c) (one ∷ W) W))) e

    right : (a : Bool) → test one ≡ a → number_or_0 (find test (one ∷ live)) ≡ number_or_0 (cond a (Some one) (find test live))
    right a e = ap (λ c. number_or_0 (cond c (Some one) (find test live))) e

    by : (a b : Bool) → test one ≡ a → (one.number == number) ≡ b → (number_or_0 (find test live) ≢ number → number_or_0 (find test W) ≡ number_or_0 (find test live))
        → number_or_0 (find test (without_one number (one ∷ live))) ≡ number_or_0 (find test (one ∷ live))
    by true true passes same rest = absurd (other (right true passes ∙ eqb-true _ _ same))
    by true false passes differs rest =
        left false differs ∙ ap (λ c. number_or_0 (cond c (Some one) (find test W))) passes ∙ sym (right true passes)
    by false true fails same rest = left true same ∙ rest (λ is. other (right false fails ∙ is)) ∙ sym (right false fails)
    by false false fails differs rest =
        left false differs ∙ ap (λ c. number_or_0 (cond c (Some one) (find test W))) fails ∙ rest (λ is. other (right false fails ∙ is)) ∙ sym (right false fails)

-- a parent that is another stays
parent_stays : (live : List Linkable) (number : ℕ) (one : Linkable) → parent_of live one ≢ number → parent_of (without_one number live) one ≡ parent_of live one
parent_stays live number one other = by one.replyid other
  where
    by : (id : Option (List ℕ)) → parent_for live one.number id one.kept ≢ number → parent_for (without_one number live) one.number id one.kept ≡ parent_for live one.number id one.kept
    by (Some bytes) differs = stays_found (is_answered_by one.number bytes) number live differs
    by None differs = stays_found (is_kept_by one.number one.kept) number live differs

-- each live message is found by its number
itself : (base : ℕ) (slots : List SlotState) → All (λ one. find (λ (x : Linkable). x.number == one.number) (map linkable (live_from base slots)) ≡ Some (linkable one)) (live_from base slots)
itself base [] = All-nil (λ one. find (λ (x : Linkable). x.number == one.number) [] ≡ Some (linkable one))
itself base (no_message ∷ slots) = itself (base + 1) slots
itself base (killed_message ∷ slots) = itself (base + 1) slots
itself base (live_message message ∷ slots) =
    All-cons (λ one. find (λ (x : Linkable). x.number == one.number) (map linkable (live_from base (live_message message ∷ slots))) ≡ Some (linkable one))
    (numbered base message) (live_from (base + 1) slots)
    (let here : (base == base) ≡ true = eq-eqb _ _ refl in ap (λ b. cond b (Some (linkable (numbered base message))) (find (λ (x : Linkable). x.number == base) (map linkable (live_from (base + 1) slots)))) here)
    (λ k d within.
    let from : base + 1 ≤ (get_or (live_from (base + 1) slots) k d).number = live_all (λ one. base + 1 ≤ one.number) (base + 1) slots (λ n other above to. above) k d within in
    let other : (base == (get_or (live_from (base + 1) slots) k d).number) ≡ false = ne_eqb _ _ (λ same. omega arith) in
    ap (λ b. cond b (Some (linkable (numbered base message))) (find (λ (x : Linkable). x.number == (get_or (live_from (base + 1) slots) k d).number) (map linkable (live_from (base + 1) slots)))) other
    ∙ itself (base + 1) slots k d within)

-- the parent by the number is that of the message
own_parent : (base : ℕ) (slots : List SlotState)
    → All (λ one. parent_at (map linkable (live_from base slots)) one.number ≡ parent_of (map linkable (live_from base slots)) (linkable one)) (live_from base slots)
own_parent base slots = λ k d within. ap (parent_or_0 (map linkable (live_from base slots))) (itself base slots k d within)

-- summaries after so many of them have got another parent
abbrev parents_set : (Linkable → ℕ) → List Linkable → List Summary → List Summary
parents_set parent [] xs = xs
parents_set parent (one ∷ ones) xs = parents_set parent ones (changed_at one.number (with_parent (parent one)) xs)

-- that is what the edits of their parents do
absorbs_parents : (xs : List Summary) (marks : List Mark) (base next : ℕ) (rules : AreaRules) (parent : Linkable → ℕ) (ones : List Linkable)
    → absorbed (record { summaries = xs; marks = marks; base = base; next = next; rules = rules }) (map (λ one. Parent one.number (parent one)) ones)
    ≡ record { summaries = parents_set parent ones xs; marks = marks; base = base; next = next; rules = rules }
absorbs_parents xs marks base next rules parent [] = refl
absorbs_parents xs marks base next rules parent (one ∷ ones) = absorbs_parents (changed_at one.number (with_parent (parent one)) xs) marks base next rules parent ones

-- one that none of them is stays
skips : (parent : Linkable → ℕ) (ones : List Linkable) (x : Summary) (xs : List Summary) → All (λ one. (x.number == one.number) ≡ false) ones
    → parents_set parent ones (x ∷ xs) ≡ x ∷ parents_set parent ones xs
skips parent [] x xs others = refl
skips parent (one ∷ ones) x xs others =
    let other : (x.number == one.number) ≡ false = others 0 one (omega arith) in
    ap (λ b. parents_set parent ones (cond b (with_parent (parent one) x) x ∷ changed_at one.number (with_parent (parent one)) xs)) other
    ∙ skips parent ones x (changed_at one.number (with_parent (parent one)) xs) (λ k d within. others (suc k) d (omega arith))

-- each that is one of them has its parent then
sets_each : (p : Linkable → Bool) (parent : Linkable → ℕ) (f : Numbered → Summary) (keeps : (one : Numbered) → (f one).number ≡ one.number) (base : ℕ) (slots : List SlotState)
    → parents_set parent (filter p (map linkable (live_from base slots))) (map f (live_from base slots))
    ≡ map (λ one. cond (p (linkable one)) (with_parent (parent (linkable one)) (f one)) (f one)) (live_from base slots)
sets_each p parent f keeps base [] = refl
sets_each p parent f keeps base (no_message ∷ slots) = sets_each p parent f keeps (base + 1) slots
sets_each p parent f keeps base (killed_message ∷ slots) = sets_each p parent f keeps (base + 1) slots
sets_each p parent f keeps base (live_message message ∷ slots) = by (p (linkable h)) (sets_each p parent f keeps (base + 1) slots)
  where
    h : Numbered
    h = numbered base message

    R : List Numbered
    R = live_from (base + 1) slots

    F : List Linkable
    F = filter p (map linkable R)

    M : List Summary
    M = map (λ one. cond (p (linkable one)) (with_parent (parent (linkable one)) (f one)) (f one)) R

    behind : (x : Summary) → x.number ≡ base → All (λ one. (x.number == one.number) ≡ false) F
    behind x is =
        All-filter p (λ one. (x.number == one.number) ≡ false) (map linkable R)
        (all_made (λ one. (x.number == one.number) ≡ false) linkable R
        (live_all (λ one. (x.number == one.number) ≡ false) (base + 1) slots (λ n other from to. ne_eqb _ _ (λ same. omega arith))))

    by : (b : Bool) → parents_set parent F (map f R) ≡ M
        → parents_set parent (cond b (linkable h ∷ F) F) (f h ∷ map f R) ≡ cond b (with_parent (parent (linkable h)) (f h)) (f h) ∷ M
    by true rest =
        let here : ((f h).number == base) ≡ true = eq-eqb _ _ (keeps h) in
        ap (λ b. parents_set parent F (cond b (with_parent (parent (linkable h)) (f h)) (f h) ∷ changed_at base (with_parent (parent (linkable h))) (map f R))) here
        ∙ ap (λ l. parents_set parent F (with_parent (parent (linkable h)) (f h) ∷ l))
        (sym (changed_none (map f R) base (with_parent (parent (linkable h))) (others_behind f keeps base (base + 1) slots (omega arith))))
        ∙ skips parent F (with_parent (parent (linkable h)) (f h)) (map f R) (behind (with_parent (parent (linkable h)) (f h)) (keeps h))
        ∙ ap (λ l. with_parent (parent (linkable h)) (f h) ∷ l) rest
    by false rest = skips parent F (f h) (map f R) (behind (f h) (keeps h)) ∙ ap (λ l. f h ∷ l) rest

-- one that answers a message is another
answers_other : (live : List Linkable) (number : ℕ) (one : Linkable) → 1 ≤ number → (not (one.number == number) && (parent_of live one == number)) ≡ (parent_of live one == number)
answers_other live number one some = by (one.number == number) (parent_of live one == number) refl refl
  where
    by : (a b : Bool) → (one.number == number) ≡ a → (parent_of live one == number) ≡ b → (not a && b) ≡ b
    by true true same answers =
        let is : one.number ≡ number = eqb-true _ _ same in
        let parent : parent_of live one ≡ number = eqb-true _ _ answers in
        absurd (elim (parent_is_lower live one.number one.replyid one.kept) [
          | inl none ↦ (let no : parent_of live one ≡ 0 = none in omega arith)
          | inr lower ↦ (let less : parent_of live one < one.number = lower in omega arith)
        ])
    by true false same differs = refl
    by false b other e = refl

-- a kill of the message at a place
kill_index : (rules : AreaRules) (state : AreaState) (place number : ℕ) (message : LiveMessage) → 1 ≤ state.base → slice_get state.slots place ≡ Some (live_message message) → number ≡ state.base + place
    → absorbed (index_of rules state) (edits_of_kill (linkables_of state) number) ≡ index_on rules state.marks state.base (slice_set state.slots place killed_message)
kill_index rules state place number message above stands is =
    absorbs_parents (without number (map (summary_of L) (live_in state))) state.marks state.base (next_number state) rules parent (filter p L)
    ∙ same_index _ _ state.marks state.marks state.base _ _ rules rules
    (ap (parents_set parent (filter p L)) left
    ∙ ap (λ ones. parents_set parent ones (map (summary_of L) live')) answering
    ∙ sets_each p parent (summary_of L) (λ one. refl) state.base slots'
    ∙ map_agree (λ one. cond (p (linkable one)) (with_parent (parent (linkable one)) (summary_of L one)) (summary_of L one)) (summary_of (map linkable live')) live' each)
    refl (ap (λ n. state.base + n) (sym (length-set state.slots place killed_message))) refl
  where
    L : List Linkable
    L = linkables_of state

    p : Linkable → Bool
    p one = parent_of L one == number

    parent : Linkable → ℕ
    parent one = parent_of (without_one number L) one

    slots' : List SlotState
    slots' = slice_set state.slots place killed_message

    live' : List Numbered
    live' = live_from state.base slots'

    some : 1 ≤ number
    some = omega arith

    rest : live' ≡ filter (λ one. not (one.number == number)) (live_in state)
    rest = killed_live place state.base number state.slots message stands is

    links : without_one number L ≡ map linkable live'
    links = filter_map (λ (one : Linkable). not (one.number == number)) linkable (live_in state) ∙ ap (map linkable) (sym rest)

    left : without number (map (summary_of L) (live_in state)) ≡ map (summary_of L) live'
    left = filter_map (λ (one : Summary). not (one.number == number)) (summary_of L) (live_in state) ∙ ap (map (summary_of L)) (sym rest)

    answering : filter p L ≡ filter p (map linkable live')
    answering =
        sym (filter_filter p (λ one. not (one.number == number)) L ∙ filter_agree (λ one. not (one.number == number) && p one) p (λ one. answers_other L number one some) L)
        ∙ ap (filter p) links

    had : All (λ one. parent_at L one.number ≡ parent_of L (linkable one)) live'
    had =
        subst (λ (l : List Numbered). All (λ one. parent_at L one.number ≡ parent_of L (linkable one)) l) (sym rest)
        (All-filter (λ one. not (one.number == number)) (λ one. parent_at L one.number ≡ parent_of L (linkable one)) (live_in state) (own_parent state.base state.slots))

    same : (one : Numbered) → parent_at L one.number ≡ parent_of L (linkable one) → parent_at (map linkable live') one.number ≡ parent_of (map linkable live') (linkable one)
        → cond (p (linkable one)) (with_parent (parent (linkable one)) (summary_of L one)) (summary_of L one) ≡ summary_of (map linkable live') one
    same one was is = by (p (linkable one)) refl
      where
        has : parent (linkable one) ≡ parent_at (map linkable live') one.number
        has = ap (λ (live : List Linkable). parent_of live (linkable one)) links ∙ sym is

        by : (b : Bool) → p (linkable one) ≡ b
            → cond b (with_parent (parent (linkable one)) (summary_of L one)) (summary_of L one) ≡ summary_of (map linkable live') one
        by true answers = ap (summary_with one.number one.message.head one.message.subfields) has
        by false other =
            ap (summary_with one.number one.message.head one.message.subfields)
            (was ∙ sym (parent_stays L number (linkable one) (eqb-false _ _ other)) ∙ has)

    each : All (λ one. cond (p (linkable one)) (with_parent (parent (linkable one)) (summary_of L one)) (summary_of L one) ≡ summary_of (map linkable live') one) live'
    each = λ k d within. same (get_or live' k d) (had k d within) (own_parent state.base slots' k d within)

-- a kill
killed_index : (rules : AreaRules) (place : ℕ) (loaded : Loaded) → 1 ≤ loaded.base → HasMessageAt place loaded
    → absorbed (index_of rules (state_of [] loaded)) (edits_of_kill (linkables [] loaded) (loaded.base + place)) ≡ index_of rules (state_of [] (after (Killed place) loaded))
killed_index rules place loaded above stands =
    kill_index rules (state_of [] loaded) place (loaded.base + place) (textless stands.message) above (state_here loaded place stands.message stands.here) refl
    ∙ ap (index_on rules loaded.marks loaded.base) (sym (changed_slots killed_slot loaded place stands.message stands.here))

-- so a kill drops one summary and gives others their parents
pub killed_follows : (place : ℕ) (loaded : Loaded) → Follows (Killed place) loaded (edits_of_kill (linkables [] loaded) (loaded.base + place))
killed_follows place loaded =
    follows (Killed place) loaded (edits_of_kill (linkables [] loaded) (loaded.base + place)) (λ rules sound fits. killed_index rules place loaded sound.base fits)
