-- What the plain program holds, and the ways through the commands.
use Rattle.std.proofs.Common.{◌≡◌, ℕ, zero, suc, ◌<◌, length, List, [], ◌∷◌, get_or, Some, None, ◌∙◌, ap}
use Rattle.std.specs.Prelude.{Option, nat_le, nat_lt, slice_get, unwrap_or, if◌then◌else◌}
use Rattle.jb_base.specs.Access.{first_refusal}
use Rattle.jb_base.specs.declared.area.Action.TheVariants.{List as Listing, Post as Posting, Kill as Killing, Tend as Tending}
use Rattle.jb_base.specs.declared.area.AreaRules.{AreaRules}
use Rattle.jb_base.specs.declared.user.User.{User}
use Rattle.jb_model.specs.Answered.{Answered, unless_denied, unless_refused, with_message}
use Rattle.jb_model.specs.Kill.{kill_done, kill_step}
use Rattle.jb_state.specs.Message.{envelope_of}
use Rattle.jb_model.specs.Pack.{pack_done, pack_refusal, pack_step}
use Rattle.jb_model.specs.Post.{Draft, answer_refusal, draft_refusal, files_refusal, post_done, post_step, posted_message, room_refusal}
use Rattle.jb_state.specs.Posted.{slots_with}
use Rattle.jb_limits.specs.declared.limits.TheConstants.{LAST_POSTED_NUMBER}
use Rattle.jb_model.specs.declared.reply.Reply.TheVariants.{NumbersSpent, SlotsFull}
use Rattle.std.proofs.lemmas.Bool.{cond-true, lt-ltb}
use Rattle.jb_model.specs.Read.{read_done, read_message, read_step}
use Rattle.jb_model.specs.SetMark.{mark_at, mark_done, mark_refusal, set_mark_step}
use Rattle.jb_state.specs.State.{AreaState, LiveMessage, SlotState, next_number}
use Rattle.jb_state.specs.Visible.{visible_at}
use Rattle.jb_state.specs.declared.mark.Mark.{Mark}
use Rattle.jb_model.specs.declared.reply.Reply.{Reply}

-- the state with other slots
abbrev pub with_slots : AreaState → List SlotState → AreaState
with_slots state slots = record state { slots = slots }

-- the state with other marks
abbrev pub with_marks : AreaState → List Mark → AreaState
with_marks state marks = record state { marks = marks }

-- the state with a message in the place of the one of a number, where there is one
abbrev pub renamed_with : AreaState → ℕ → Option LiveMessage → AreaState
renamed_with state named message = record state { slots = slots_with state named message }

-- a reply and a state
abbrev pub answer : Reply → AreaState → Answered
answer reply state = record { reply = reply; state = state }

-- the element that was got, at any default
pub got_at : {X : Type 0} (xs : List X) (k : ℕ) (x d : X) → slice_get xs k ≡ Some x → get_or xs k d ≡ x
got_at [] k x d is = absurd (cc)
got_at (y ∷ xs) zero x d is = ap (λ o. unwrap_or o d) is
got_at (y ∷ xs) (suc k) x d is = got_at xs k x d is

-- the way through a kill
pub kill_way : (rules : AreaRules) (state : AreaState) (user : User) (number : ℕ) (message : LiveMessage) → first_refusal user rules Listing None ≡ None → visible_at rules user state number ≡ Some message → first_refusal user rules Killing (Some (envelope_of message)) ≡ None → kill_step rules state user number ≡ kill_done state number
kill_way rules state user number message listed seen allowed =
    ap (λ r. unless_denied state r (with_message state number (visible_at rules user state number)
    (λ (m : LiveMessage). unless_denied state (first_refusal user rules Killing (Some (envelope_of m))) (kill_done state number)))) listed
    ∙ ap (λ o. with_message state number o (λ (m : LiveMessage). unless_denied state (first_refusal user rules Killing (Some (envelope_of m))) (kill_done state number))) seen
    ∙ ap (λ r. unless_denied state r (kill_done state number)) allowed

-- the way through a reading
pub read_way : (rules : AreaRules) (state : AreaState) (user : User) (moment number : ℕ) (message : LiveMessage) → first_refusal user rules Listing None ≡ None → visible_at rules user state number ≡ Some message → read_step rules state user moment number ≡ read_done state number (read_message user moment message)
read_way rules state user moment number message listed seen =
    ap (λ r. unless_denied state r (with_message state number (visible_at rules user state number) (λ (m : LiveMessage). read_done state number (read_message user moment m)))) listed
    ∙ ap (λ o. with_message state number o (λ (m : LiveMessage). read_done state number (read_message user moment m))) seen

-- the way through a mark
pub mark_way : (rules : AreaRules) (state : AreaState) (user : User) (number : ℕ) → first_refusal user rules Listing None ≡ None → mark_refusal state user number ≡ None → set_mark_step rules state user number ≡ mark_done state (mark_at state user number)
mark_way rules state user number listed none =
    ap (λ r. unless_denied state r (unless_refused state (mark_refusal state user number) (mark_done state (mark_at state user number)))) listed
    ∙ ap (λ o. unless_refused state o (mark_done state (mark_at state user number))) none

-- the refusals for want of room behind the first
abbrev pub later_refusal : AreaRules → AreaState → LiveMessage → Option Reply
later_refusal rules state message =
    if nat_le rules.slots (length state.slots) then Some (SlotsFull rules.slots) else files_refusal state message

-- the way to the end of the numbers
pub spent_way : (rules : AreaRules) (state : AreaState) (user : User) (moment : ℕ) (draft : Draft) → first_refusal user rules Posting None ≡ None → draft_refusal draft ≡ None → answer_refusal rules state user draft ≡ None → LAST_POSTED_NUMBER < next_number state → post_step rules state user moment draft ≡ answer (NumbersSpent (next_number state)) state
spent_way rules state user moment draft allowed fit answered spent =
    let message : LiveMessage = posted_message rules state user moment draft in
    let done : Answered = post_done state message in
    let room : room_refusal rules state message ≡ Some (NumbersSpent (next_number state)) =
    cond-true (nat_lt LAST_POSTED_NUMBER (next_number state)) (Some (NumbersSpent (next_number state))) (later_refusal rules state message) (lt-ltb LAST_POSTED_NUMBER (next_number state) spent) in
    ap (λ r. unless_denied state r (unless_refused state (draft_refusal draft) (unless_refused state (answer_refusal rules state user draft) (unless_refused state (room_refusal rules state message) done)))) allowed
    ∙ ap (λ o. unless_refused state o (unless_refused state (answer_refusal rules state user draft) (unless_refused state (room_refusal rules state message) done))) fit
    ∙ ap (λ o. unless_refused state o (unless_refused state (room_refusal rules state message) done)) answered
    ∙ ap (λ o. unless_refused state o done) room

-- the way through a pack
pub pack_way : (rules : AreaRules) (state : AreaState) (user : User) → first_refusal user rules Tending None ≡ None → pack_refusal state ≡ None → pack_step rules state user ≡ pack_done state
pack_way rules state user allowed fits =
    ap (λ r. unless_denied state r (unless_refused state (pack_refusal state) (pack_done state))) allowed
    ∙ ap (λ o. unless_refused state o (pack_done state)) fits
