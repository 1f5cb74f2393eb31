-- What a post makes of the index of an area.
use Rattle.std.proofs.Common.{◌≡◌, ℕ, suc, ◌+◌, ◌<◌, ◌≤◌, true, false, ◌==◌, cond, List, [], ◌∷◌, ◌++◌, Option, Some, None, find, map, length, slice_get, refl, sym, ◌∙◌, ap, subst, arith, eq-eqb, ne_eqb, eqb-true}
use Rattle.std.specs.Prelude.{All, IfSome, max, min}
use Rattle.std.specs.Option.{option_or}
use Rattle.std.proofs.lemmas.List.{length-append, length-map, length-set, map-append}
use Rattle.std.proofs.lemmas.List.Folds.{find-append}
use Rattle.jb_base.specs.declared.area.AreaRules.{AreaRules}
use Rattle.jb_limits.specs.declared.limits.TheConstants.{LAST_POSTED_NUMBER}
use Rattle.jb_state.specs.Change.{FitsBehind, IsNeighbourOf, after, headed_where}
use Rattle.jb_state.specs.Links.{Linkable, linkable, linkables_of, parent_at, parent_for, parent_or_0}
use Rattle.jb_state.specs.Live.{Numbered, live_from, live_in}
use Rattle.jb_state.specs.Loaded.{slot_with_head}
use Rattle.jb_state.specs.Message.{msgid_of, replyid_of}
use Rattle.jb_state.specs.State.{AreaState, LiveMessage, SlotState, live_message, next_number, slot_state, state_of}
use Rattle.jb_state.specs.declared.change.Change.TheVariants.{Posted}
use Rattle.jb_state.specs.declared.change.HeadAt.{HeadAt}
use Rattle.jb_state.specs.declared.loaded.Loaded.{Loaded}
use Rattle.jb_state.specs.declared.loaded.LoadedMessage.{LoadedMessage}
use Rattle.jb_state.specs.declared.loaded.LoadedSlot.TheVariants.{Live}
use Rattle.jb_state.specs.declared.message.Head.{Head}
use Rattle.jb_state.specs.declared.summary.Summary.{Summary}
use Rattle.jb_state.proofs.ThreadLaws.{find_passes}
use Rattle.jb_link.proofs.PostLemmas.{parent_kept}
use Rattle.jb_index.specs.Change.{Follows}
use Rattle.jb_index.specs.Edit.{absorbed, with_summary}
use Rattle.jb_index.specs.Index.{AreaIndex, index_of, summary_of, summary_with}
use Rattle.jb_index.specs.declared.op.OpEdit.TheVariants.{Put}
use Rattle.jb_index.proofs.ChangeLemmas.{changed_slots, follows, index_on, state_here, textless, textless_slots}
use Rattle.jb_index.proofs.EditLemmas.{all_below, fits_room}
use Rattle.jb_index.proofs.MakingLemmas.{same_index}
use Rattle.jb_index.proofs.SlotLemmas.{all_made, live_all, live_few, live_from-append, map_agree, mapped_set, numbered}
use Rattle.jb_link.proofs.PostingLemmas.{parent_again}

-- a posted message with the next number
abbrev pub new_one : AreaState → LiveMessage → Numbered
new_one state message = numbered (next_number state) message

-- the links rest on what they rested on, and on the new message
abbrev pub with_new_one : AreaState → LiveMessage → List Linkable
with_new_one state message = linkables_of state ++ linkable (new_one state message) ∷ []

-- the slots with the new reply in a link are as many, and the links and the summaries rest on the same
record IsSpliced (state : AreaState) (slots : List SlotState) : Type 0 where
  long : length slots ≡ length state.slots
  links : map linkable (live_from state.base slots) ≡ linkables_of state
  listed : (live : List Linkable) → map (summary_of live) (live_from state.base slots) ≡ map (summary_of live) (live_in state)

-- so are those of the area whose neighbour names the new message
neighbour_is : (neighbour : Option HeadAt) (loaded : Loaded) → IsNeighbourOf neighbour loaded → IsSpliced (state_of [] loaded) (textless_slots (headed_where neighbour loaded))
neighbour_is None loaded none = record { long = refl; links = refl; listed = λ live. refl }
neighbour_is (Some at) loaded link =
    subst (IsSpliced (state_of [] loaded)) (sym (changed_slots (slot_with_head at.head) loaded at.place message link.here))
    (record {
      long = length-set (textless_slots loaded) at.place (live_message changed);
      links = mapped_set linkable at.place loaded.base (textless_slots loaded) (textless message) changed here
          (λ n. ap (λ (head : Head). record { number = n; msgid = msgid_of message.subfields; replyid = replyid_of message.subfields; kept = head.reply_to }) link.same);
      listed = λ live. mapped_set (summary_of live) at.place loaded.base (textless_slots loaded) (textless message) changed here
          (λ n. ap (λ (head : Head). summary_with n head message.subfields (parent_at live n)) link.same);
    })
  where
    message : LoadedMessage
    message = link.message

    changed : LiveMessage
    changed = textless (record message { head = at.head })

    here : slice_get (textless_slots loaded) at.place ≡ Some (live_message (textless message))
    here = state_here loaded at.place message link.here

-- a number below the new one has the parent that it had
parent_at_kept : (live : List Linkable) (new : Linkable) (number : ℕ) → number < new.number → parent_at (live ++ new ∷ []) number ≡ parent_at live number
parent_at_kept live new number lower =
    let other : (new.number == number) ≡ false = ne_eqb _ _ (λ same. omega arith) in
    ap (parent_or_0 (live ++ new ∷ []))
    (find-append (λ (one : Linkable). one.number == number) live (new ∷ [])
    ∙ ap (λ b. option_or (find (λ (one : Linkable). one.number == number) live) (cond b (Some new) None)) other)
    ∙ by (find (λ (one : Linkable). one.number == number) live) (find_passes (λ (one : Linkable). one.number == number) live)
  where
    by : (found : Option Linkable) → IfSome found (λ one. (one.number == number) ≡ true) → parent_or_0 (live ++ new ∷ []) (option_or found None) ≡ parent_or_0 live found
    by None passes = refl
    by (Some one) passes =
        let is : one.number ≡ number = eqb-true _ _ passes in
        parent_kept live new one.number one.replyid one.kept (omega arith)

-- none has the new number
none_new : (state : AreaState) → find (λ (one : Linkable). one.number == next_number state) (linkables_of state) ≡ None
none_new state = nothing (linkables_of state)
    (all_made (λ one. (one.number == next_number state) ≡ false) linkable (live_in state)
    (live_all (λ one. (one.number == next_number state) ≡ false) state.base state.slots (λ n message from to. ne_eqb _ _ (λ same. omega arith))))
  where
    nothing : (live : List Linkable) → All (λ one. (one.number == next_number state) ≡ false) live → find (λ (one : Linkable). one.number == next_number state) live ≡ None
    nothing [] none = refl
    nothing (one ∷ live) none =
        let here : (one.number == next_number state) ≡ false = none 0 one (omega arith) in
        rw here (nothing live (λ k d within. none (suc k) d (omega arith)))

-- the new message has its parent
parent_of_new : (state : AreaState) (message : LiveMessage) (kept : ℕ) → message.head.reply_to ≡ parent_for (linkables_of state) (next_number state) (replyid_of message.subfields) kept
    → parent_at (with_new_one state message) (next_number state) ≡ message.head.reply_to
parent_of_new state message kept is =
    let there : (next_number state == next_number state) ≡ true = eq-eqb _ _ refl in
    ap (parent_or_0 (with_new_one state message))
    (find-append (λ (one : Linkable). one.number == next_number state) (linkables_of state) (linkable (new_one state message) ∷ [])
    ∙ ap (λ found. option_or found (cond (next_number state == next_number state) (Some (linkable (new_one state message))) None)) (none_new state)
    ∙ ap (λ b. option_or None (cond b (Some (linkable (new_one state message))) None)) there)
    ∙ parent_kept (linkables_of state) (linkable (new_one state message)) (next_number state) (replyid_of message.subfields) message.head.reply_to (omega arith)
    ∙ parent_again (linkables_of state) (next_number state) (replyid_of message.subfields) kept message.head.reply_to is

-- the links of an area with one more message rest on one more
links_more : (state : AreaState) (message : LiveMessage) (slots : List SlotState) → IsSpliced state slots
    → map linkable (live_from state.base (slots ++ live_message message ∷ [])) ≡ with_new_one state message
links_more state message slots spliced =
    ap (map linkable) (live_from-append state.base slots (live_message message ∷ []))
    ∙ map-append linkable (live_from state.base slots) (numbered (state.base + length slots) message ∷ [])
    ∙ ap (λ l. l ++ linkable (numbered (state.base + length slots) message) ∷ []) spliced.links
    ∙ ap (λ n. linkables_of state ++ linkable (numbered (state.base + n) message) ∷ []) spliced.long

-- the summary of the new message
abbrev pub new_summary : AreaState → LiveMessage → Summary
new_summary state message = summary_with (next_number state) message.head message.subfields message.head.reply_to

-- the summaries of the area with one more message are those before and one more
summaries_more : (state : AreaState) (message : LiveMessage) (kept : ℕ) (slots : List SlotState) → IsSpliced state slots
    → message.head.reply_to ≡ parent_for (linkables_of state) (next_number state) (replyid_of message.subfields) kept
    → map (summary_of (map linkable (live_from state.base (slots ++ live_message message ∷ [])))) (live_from state.base (slots ++ live_message message ∷ []))
    ≡ map (summary_of (linkables_of state)) (live_in state) ++ new_summary state message ∷ []
summaries_more state message kept slots spliced is =
    ap (λ (live : List Linkable). map (summary_of live) (live_from state.base (slots ++ live_message message ∷ []))) (links_more state message slots spliced)
    ∙ ap (map (summary_of (with_new_one state message))) (live_from-append state.base slots (live_message message ∷ []))
    ∙ map-append (summary_of (with_new_one state message)) (live_from state.base slots) (numbered (state.base + length slots) message ∷ [])
    ∙ ap (λ l. l ++ summary_of (with_new_one state message) (numbered (state.base + length slots) message) ∷ [])
    (spliced.listed (with_new_one state message) ∙ before)
    ∙ ap (λ n. map (summary_of (linkables_of state)) (live_in state) ++ summary_of (with_new_one state message) (numbered (state.base + n) message) ∷ []) spliced.long
    ∙ ap (λ p. map (summary_of (linkables_of state)) (live_in state) ++ summary_with (next_number state) message.head message.subfields p ∷ []) (parent_of_new state message kept is)
  where
    before : map (summary_of (with_new_one state message)) (live_in state) ≡ map (summary_of (linkables_of state)) (live_in state)
    before =
        map_agree (summary_of (with_new_one state message)) (summary_of (linkables_of state)) (live_in state)
        (live_all (λ one. summary_of (with_new_one state message) one ≡ summary_of (linkables_of state) one) state.base state.slots
        (λ n other from to. ap (summary_with n other.head other.subfields) (parent_at_kept (linkables_of state) (linkable (new_one state message)) n to)))

-- what an area may have posted has room in its index
post_index : (rules : AreaRules) (state : AreaState) (message : LiveMessage) (kept : ℕ) (slots : List SlotState) → IsSpliced state slots
    → next_number state ≤ LAST_POSTED_NUMBER → length state.slots < rules.slots
    → message.head.reply_to ≡ parent_for (linkables_of state) (next_number state) (replyid_of message.subfields) kept
    → absorbed (index_of rules state) (Put (new_summary state message) ∷ []) ≡ index_on rules state.marks state.base (slots ++ live_message message ∷ [])
post_index rules state message kept slots spliced numbers room is =
    ap (λ b. cond b (record index { summaries = with_summary (new_summary state message) S; next = max (next_number state) (min (next_number state + 1) 4294967295) }) index)
    (fits_room rules.slots (next_number state) S few)
    ∙ same_index _ _ state.marks state.marks state.base _ _ rules rules
    (all_below (new_summary state message) S lower ∙ sym (summaries_more state message kept slots spliced is))
    refl (next ∙ sym (ap (λ n. state.base + n) (length-append slots (live_message message ∷ []) ∙ ap (λ n. n + 1) spliced.long))) refl
  where
    index : AreaIndex
    index = index_of rules state

    S : List Summary
    S = map (summary_of (linkables_of state)) (live_in state)

    few : length S < rules.slots
    few =
        let made : length S ≡ length (live_in state) = length-map (live_in state) (summary_of (linkables_of state)) in
        let live : length (live_in state) ≤ length state.slots = live_few state.base state.slots in
        omega arith

    lower : All (λ one. one.number < next_number state) S
    lower = all_made (λ one. one.number < next_number state) (summary_of (linkables_of state)) (live_in state)
        (live_all (λ one. one.number < next_number state) state.base state.slots (λ n other from to. to))

    next : max (next_number state) (min (next_number state + 1) 4294967295) ≡ state.base + (length state.slots + 1)
    next = omega arith

-- the marks and the base of an area whose neighbour names the new message
where_kept : (rules : AreaRules) (neighbour : Option HeadAt) (loaded : Loaded) (slots : List SlotState)
    → index_on rules loaded.marks loaded.base slots ≡ index_on rules (headed_where neighbour loaded).marks (headed_where neighbour loaded).base slots
where_kept rules None loaded slots = refl
where_kept rules (Some at) loaded slots = refl

-- the summary of a message behind the others of an area
abbrev pub summary_behind : LoadedMessage → Loaded → Summary
summary_behind message loaded = summary_with (loaded.base + length loaded.slots) message.head message.subfields message.head.reply_to

-- a post
posted_index : (rules : AreaRules) (message : LoadedMessage) (neighbour : Option HeadAt) (loaded : Loaded) → FitsBehind rules.slots message loaded → IsNeighbourOf neighbour loaded
    → absorbed (index_of rules (state_of [] loaded)) (Put (summary_behind message loaded) ∷ []) ≡ index_of rules (state_of [] (after (Posted message neighbour) loaded))
posted_index rules message neighbour loaded fit link =
    ap (λ n. absorbed (index_of rules state) (Put (summary_with (loaded.base + n) message.head message.subfields message.head.reply_to) ∷ [])) (sym long)
    ∙ post_index rules state (textless message) message.head.reply_to slots (neighbour_is neighbour loaded link) numbers room parent
    ∙ where_kept rules neighbour loaded (slots ++ live_message (textless message) ∷ [])
    ∙ ap (index_on rules (headed_where neighbour loaded).marks (headed_where neighbour loaded).base)
    (sym (map-append (slot_state []) (headed_where neighbour loaded).slots (Live message ∷ [])))
  where
    state : AreaState
    state = state_of [] loaded

    slots : List SlotState
    slots = textless_slots (headed_where neighbour loaded)

    long : length state.slots ≡ length loaded.slots
    long = length-map loaded.slots (slot_state [])

    numbers : next_number state ≤ LAST_POSTED_NUMBER
    numbers = omega (arith, long, fit.number)

    room : length state.slots < rules.slots
    room = omega (arith, long, fit.slot)

    parent : message.head.reply_to ≡ parent_for (linkables_of state) (next_number state) (replyid_of message.subfields) message.head.reply_to
    parent = fit.parent ∙ ap (λ n. parent_for (linkables_of state) (loaded.base + n) (replyid_of message.subfields) message.head.reply_to) (sym long)

-- so a post puts one summary
pub posted_follows : (message : LoadedMessage) (neighbour : Option HeadAt) (loaded : Loaded) → Follows (Posted message neighbour) loaded (Put (summary_behind message loaded) ∷ [])
posted_follows message neighbour loaded =
    follows (Posted message neighbour) loaded (Put (summary_behind message loaded) ∷ []) (λ rules sound fits. posted_index rules message neighbour loaded fits.0 fits.1)
