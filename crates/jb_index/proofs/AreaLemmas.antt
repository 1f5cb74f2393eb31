-- An answer of the index of an area is what the area shows.
use Rattle.std.proofs.Common.{◌≡◌, ◌⊎◌, inl, inr, ℕ, zero, suc, ◌<◌, ◌≤◌, nat_le, nat_lt, Bool, true, false, not, ◌&&◌, ◌||◌, ◌==◌, cond, List, [], ◌∷◌, ◌++◌, Option, Some, None, filter, find, map, length, take, replicate, refl, sym, ◌∙◌, ap, arith, lt-ltb}
use Rattle.std.specs.Prelude.{IfSome, bit_and, is_none, is_some, option_map}
use Rattle.std.specs.Char.{to_ascii_lowercase}
use Rattle.std.proofs.lemmas.Bool.{cond_both, ltb-false, ltb-true, eqb-true}
use Rattle.std.proofs.lemmas.List.{length-map}
use Rattle.std.proofs.lemmas.List.Elements.{filter_agree}
use Rattle.std.proofs.lemmas.Slice.Eq.{bytes_eq-Decides}
use Rattle.jb_base.specs.Access.{Envelope, is_party, is_sysop, is_visible}
use Rattle.jb_bytes.specs.Name.{same_name}
use Rattle.jb_bytes.specs.Subfields.{receiver_of, sender_of}
use Rattle.jb_base.specs.declared.area.AreaRules.{AreaRules}
use Rattle.jb_base.specs.declared.area.Rule.TheVariants.{A1, A3}
use Rattle.jb_base.specs.declared.attribute.TheConstants.{NODISP, PRIVATE}
use Rattle.jb_base.specs.declared.user.User.{User}
use Rattle.jb_state.specs.Links.{Linkable, linkable, linkables_of, parent_at, parent_or_0, root_within, thread_root}
use Rattle.jb_state.specs.Live.{Numbered, live_in}
use Rattle.jb_state.specs.Message.{envelope_of}
use Rattle.jb_state.specs.Short.{short_of}
use Rattle.jb_state.specs.State.{AreaState}
use Rattle.jb_state.specs.Visible.{is_shown, last_read_by, shown_to, unlinked, unread_by, visible_at, visible_to}
use Rattle.jb_state.specs.declared.look.Answer.TheVariants.{Summaries as Listed, Figures as Counted}
use Rattle.jb_state.specs.declared.look.Question.TheVariants.{List as Listing, Unread, Thread, To, Figures as Counting}
use Rattle.jb_state.specs.declared.summary.Figures.{Figures}
use Rattle.jb_state.specs.declared.summary.Summary.{Summary}
use Rattle.jb_state.proofs.RelinkLaws.{map-map}
use Rattle.jb_state.proofs.ThreadLaws.{find_passes, parent_at_is_lower}
use Rattle.jb_state.proofs.VisibleLaws.{visible_at-shown}
use Rattle.jb_index.specs.Answer.{envelope_in, figures_to, first_from, is_listed, listed_to, name_in, received_by, thread_to, unread_to}
use Rattle.jb_index.specs.Area.{figures_of, from_on, thread_shown, to_user}
use Rattle.jb_index.specs.Index.{index_of, summary_of}
use Rattle.jb_index.specs.Thread.{lower_parent, parent_in, root_in, thread_among, up_within}
use Rattle.jb_index.specs.Laws.{AnswersOfTheArea}
use Rattle.jb_index.proofs.ListLemmas.{filter_map, find_map, take_map}

-- names of other lengths are not one
other_length : (one other : List ℕ) → (length one ≡ length other → ⊥) → same_name one other ≡ false
other_length one other differ = by (same_name one other) refl
  where
    by : (b : Bool) → same_name one other ≡ b → same_name one other ≡ false
    by false e = e
    by true e =
        absurd (differ (sym (length-map one to_ascii_lowercase)
        ∙ ap length ((bytes_eq-Decides (map to_ascii_lowercase one) (map to_ascii_lowercase other)).0 e)
        ∙ length-map other to_ascii_lowercase))

-- bytes that fit their place are kept
kept_whole : (n : ℕ) (bytes rest : List ℕ) → length bytes ≤ n → take (length bytes) (take n (bytes ++ rest)) ≡ bytes
kept_whole zero [] rest fits = refl
kept_whole zero (x ∷ bytes) rest fits = absurd (omega arith)
kept_whole (suc n) [] rest fits = refl
kept_whole (suc n) (x ∷ bytes) rest fits = ap (λ l. x ∷ l) (kept_whole n bytes rest (omega arith))

-- a name of 1 to 36 bytes is that of a party by what is kept of it
name_is : (name bytes : List ℕ) → 1 ≤ length name → length name ≤ 36 → same_name name (name_in (short_of 36 bytes)) ≡ same_name name bytes
name_is name bytes some few =
    cond_both (nat_lt 36 (length bytes)) [] (take (length bytes) (take 36 (bytes ++ replicate 36 0))) (λ kept. same_name name kept ≡ same_name name bytes)
    (λ long. let more : 36 < length bytes = ltb-true _ _ long in
    other_length name [] (λ e. let none : length name ≡ 0 = e in omega arith) ∙ sym (other_length name bytes (λ e. omega arith)))
    (λ short. let fits : length bytes ≤ 36 = ltb-false _ _ short in ap (same_name name) (kept_whole 36 bytes (replicate 36 0) fits))

-- whether a message is shown rests on its attribute and on whether the user is a party
visible_by : (user : User) (rules : AreaRules) (one other : Envelope) → one.attribute ≡ other.attribute → is_party user one ≡ is_party user other → is_visible user rules one ≡ is_visible user rules other
visible_by user rules one other same_attribute same_party = ap (λ a. shown a (is_party user one)) same_attribute ∙ ap (shown other.attribute) same_party
  where
    shown : ℕ → Bool → Bool
    shown attribute party =
        is_none (cond (nat_lt user.level rules.read) (Some A1)
        (cond (not (is_sysop user rules) && (not (bit_and attribute NODISP == 0) || (not (bit_and attribute PRIVATE == 0) && not party))) (Some A3) None))

-- the user sees a message in a list exactly where the user sees it
shown_same : (rules : AreaRules) (user : User) (live : List Linkable) (one : Numbered) → 1 ≤ length user.name → length user.name ≤ 36
    → is_listed rules user (summary_of live one) ≡ is_shown rules user one.message
shown_same rules user live one some few =
    visible_by user rules (envelope_in (summary_of live one)) (envelope_of one.message) refl
    (ap (λ b. b || same_name user.name (name_in (short_of 36 (receiver_of one.message.subfields)))) (name_is user.name (sender_of one.message.subfields) some few)
    ∙ ap (λ b. same_name user.name (sender_of one.message.subfields) || b) (name_is user.name (receiver_of one.message.subfields) some few))

-- the messages that the user sees in lists are those that the user sees
listed_is : (rules : AreaRules) (state : AreaState) (user : User) → 1 ≤ length user.name → length user.name ≤ 36
    → listed_to (index_of rules state) user ≡ map (summary_of (linkables_of state)) (visible_to rules user state)
listed_is rules state user some few =
    filter_map (is_listed rules user) (summary_of (linkables_of state)) (live_in state)
    ∙ ap (map (summary_of (linkables_of state)))
    (filter_agree (λ one. is_listed rules user (summary_of (linkables_of state) one)) (λ one. is_shown rules user one.message)
    (λ one. shown_same rules user (linkables_of state) one some few) (live_in state))
    ∙ sym (map-map unlinked (summary_of (linkables_of state)) (shown_to rules user state))

-- those of them that are unread
unread_is : (rules : AreaRules) (state : AreaState) (user : User) → 1 ≤ length user.name → length user.name ≤ 36
    → unread_to (index_of rules state) user ≡ map (summary_of (linkables_of state)) (unread_by rules user state)
unread_is rules state user some few =
    ap (filter (λ one. nat_lt (last_read_by user state) one.number)) (listed_is rules state user some few)
    ∙ filter_map (λ one. nat_lt (last_read_by user state) one.number) (summary_of (linkables_of state)) (visible_to rules user state)

-- those of them that are sent to the user
received_is : (rules : AreaRules) (state : AreaState) (user : User) → 1 ≤ length user.name → length user.name ≤ 36
    → received_by (index_of rules state) user ≡ map (summary_of (linkables_of state)) (to_user rules user state)
received_is rules state user some few =
    ap (filter (λ one. same_name user.name (name_in one.to))) (listed_is rules state user some few)
    ∙ filter_map (λ one. same_name user.name (name_in one.to)) (summary_of (linkables_of state)) (visible_to rules user state)
    ∙ ap (map (summary_of (linkables_of state)))
    (filter_agree (λ one. same_name user.name (name_in (short_of 36 (receiver_of one.message.subfields)))) (λ one. same_name user.name (receiver_of one.message.subfields))
    (λ one. name_is user.name (receiver_of one.message.subfields) some few) (visible_to rules user state))

-- the first of them from a number on
first_is : (live : List Linkable) (from most : ℕ) (messages : List Numbered) → first_from from most (map (summary_of live) messages) ≡ map (summary_of live) (take most (from_on from messages))
first_is live from most messages =
    ap (take most) (filter_map (λ one. nat_le from one.number) (summary_of live) messages) ∙ take_map most (summary_of live) (from_on from messages)

-- a parent that is lower is kept
lower_kept : (parent number : ℕ) → (parent ≡ 0) ⊎ (parent < number) → cond (nat_lt parent number) parent 0 ≡ parent
lower_kept parent number (inl none) = cond_both (nat_lt parent number) parent 0 (λ p. p ≡ parent) (λ less. refl) (λ other. sym none)
lower_kept parent number (inr less) = ap (λ b. cond b parent 0) (lt-ltb parent number less)

-- the parent in lists is that of the area
parent_is : (messages : List Numbered) (number : ℕ) → parent_in (map (summary_of (map linkable messages)) messages) number ≡ parent_at (map linkable messages) number
parent_is messages number =
    ap lower_parent (find_map (λ one. one.number == number) (summary_of live) messages)
    ∙ by (find (λ one. one.number == number) messages) (find_passes (λ (one : Numbered). one.number == number) messages)
    (find_map (λ one. one.number == number) linkable messages)
  where
    live : List Linkable
    live = map linkable messages

    by : (found : Option Numbered) → IfSome found (λ one. (one.number == number) ≡ true) → find (λ one. one.number == number) (map linkable messages) ≡ option_map linkable found
        → lower_parent (option_map (summary_of (map linkable messages)) found) ≡ parent_at (map linkable messages) number
    by None passes there = sym (ap (parent_or_0 (map linkable messages)) there)
    by (Some one) passes there =
        let same : one.number ≡ number = eqb-true one.number number passes in
        ap (λ n. cond (nat_lt (parent_at (map linkable messages) n) n) (parent_at (map linkable messages) n) 0) same
        ∙ lower_kept (parent_at (map linkable messages) number) number (parent_at_is_lower (map linkable messages) number)

-- so many parents up
up_is : (steps : ℕ) (messages : List Numbered) (number : ℕ) → up_within steps (map (summary_of (map linkable messages)) messages) number ≡ root_within steps (map linkable messages) number
up_is zero messages number = refl
up_is (suc steps) messages number =
    ap (λ p. cond (p == 0) number (up_within steps (map (summary_of (map linkable messages)) messages) p)) (parent_is messages number)
    ∙ ap (cond (parent_at (map linkable messages) number == 0) number) (up_is steps messages (parent_at (map linkable messages) number))

-- the root in lists is that of the area
root_is : (state : AreaState) (number : ℕ) → root_in (map (summary_of (linkables_of state)) (live_in state)) number ≡ thread_root (linkables_of state) number
root_is state number = up_is number (live_in state) number

-- a number is found in lists where it names a message that the user sees
found_is : (rules : AreaRules) (state : AreaState) (user : User) (number : ℕ)
    → is_some (find (λ one. one.number == number) (map (summary_of (linkables_of state)) (visible_to rules user state))) ≡ is_some (visible_at rules user state number)
found_is rules state user number =
    ap is_some (find_map (λ one. one.number == number) (summary_of (linkables_of state)) (visible_to rules user state))
    ∙ is_some_map (summary_of (linkables_of state)) (find (λ one. one.number == number) (visible_to rules user state))
    ∙ ap is_some (find_map (λ one. one.number == number) unlinked (shown_to rules user state))
    ∙ is_some_map unlinked (find (λ one. one.number == number) (shown_to rules user state))
    ∙ sym (is_some_map (λ (one : Numbered). one.message) (find (λ one. one.number == number) (shown_to rules user state)))
    ∙ ap is_some (sym (visible_at-shown rules user state number))
  where
    is_some_map : {X Y : Type 0} (f : X → Y) (o : Option X) → is_some (option_map f o) ≡ is_some o
    is_some_map f None = refl
    is_some_map f (Some x) = refl

-- the thread in lists is that of the area
thread_is_shown : (rules : AreaRules) (state : AreaState) (user : User) (number : ℕ) → 1 ≤ length user.name → length user.name ≤ 36
    → thread_to (index_of rules state) user number ≡ map (summary_of (linkables_of state)) (thread_shown rules user state number)
thread_is_shown rules state user number some few =
    ap (λ l. thread_among S l number) (listed_is rules state user some few)
    ∙ ap (λ b. cond b (filter (λ (one : Summary). root_in S one.number == root_in S number) (map (summary_of L) (visible_to rules user state))) []) (found_is rules state user number)
    ∙ ap (λ l. cond (is_some (visible_at rules user state number)) l [])
    (filter_map (λ (one : Summary). root_in S one.number == root_in S number) (summary_of L) (visible_to rules user state)
    ∙ ap (map (summary_of L))
    (filter_agree (λ (one : Numbered). root_in S one.number == root_in S number) (λ (one : Numbered). thread_root L one.number == thread_root L number)
    (λ one. ap (λ r. r == root_in S number) (root_is state one.number) ∙ ap (λ r. thread_root L one.number == r) (root_is state number))
    (visible_to rules user state)))
    ∙ chosen (is_some (visible_at rules user state number)) (filter (λ (one : Numbered). thread_root L one.number == thread_root L number) (visible_to rules user state))
  where
    L : List Linkable
    L = linkables_of state

    S : List Summary
    S = map (summary_of (linkables_of state)) (live_in state)

    chosen : (b : Bool) (messages : List Numbered) → cond b (map (summary_of (linkables_of state)) messages) [] ≡ map (summary_of (linkables_of state)) (cond b messages [])
    chosen true messages = refl
    chosen false messages = refl

-- figures by their parts
same_figures : (base next visible visible' unread unread' last high : ℕ) → visible ≡ visible' → unread ≡ unread'
    → ◌≡◌ {A = Figures} (record { base = base; next = next; visible = visible; unread = unread; last = last; high = high })
    (record { base = base; next = next; visible = visible'; unread = unread'; last = last; high = high })
same_figures base next visible visible' unread unread' last high e f = cc

-- the figures of an index are those of the area
figures_is : (rules : AreaRules) (state : AreaState) (user : User) → 1 ≤ length user.name → length user.name ≤ 36 → figures_to (index_of rules state) user ≡ figures_of rules user state
figures_is rules state user some few =
    same_figures _ _ _ _ _ _ _ _
    (ap length (listed_is rules state user some few) ∙ length-map (visible_to rules user state) (summary_of (linkables_of state)))
    (ap length (unread_is rules state user some few) ∙ length-map (unread_by rules user state) (summary_of (linkables_of state)))

-- an answer of the index of an area is what the area shows
pub answers_of_area : AnswersOfTheArea
answers_of_area rules state user (Listing from most) some few =
    ap Listed (ap (first_from from most) (listed_is rules state user some few) ∙ first_is (linkables_of state) from most (visible_to rules user state))
answers_of_area rules state user (Unread from most) some few =
    ap Listed (ap (first_from from most) (unread_is rules state user some few) ∙ first_is (linkables_of state) from most (unread_by rules user state))
answers_of_area rules state user (Thread number most) some few =
    ap Listed (ap (take most) (thread_is_shown rules state user number some few) ∙ take_map most (summary_of (linkables_of state)) (thread_shown rules user state number))
answers_of_area rules state user (To from most) some few =
    ap Listed (ap (first_from from most) (received_is rules state user some few) ∙ first_is (linkables_of state) from most (to_user rules user state))
answers_of_area rules state user Counting some few = ap Counted (figures_is rules state user some few)
