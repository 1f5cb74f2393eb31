-- A refusal keeps the state, and each command has exactly one answer.
use Rattle.std.proofs.Common.{◌≡◌, ℕ, true, false, ◌==◌, List, Option, Some, None, refl, sym, ◌∙◌, ap}
use Rattle.std.proofs.lemmas.Bool.{cond_both}
use Rattle.jb_base.specs.Access.{first_refusal}
use Rattle.jb_base.specs.declared.area.AreaRules.{AreaRules}
use Rattle.jb_base.specs.declared.area.Rule.{Rule}
use Rattle.jb_base.specs.declared.user.User.{User}
use Rattle.jb_model.specs.Answered.{Answered, unless_denied, unless_refused, with_message}
use Rattle.jb_state.specs.Live.{counted}
use Rattle.jb_base.specs.declared.area.Action.TheVariants.{List as Listing, Post as Posting, Edit as Editing, Kill as Killing, Tend as Tending}
use Rattle.jb_model.specs.Edit.{edit_by, edit_done, edit_refusal, new_subject}
use Rattle.jb_model.specs.Kill.{kill_done}
use Rattle.jb_state.specs.Edited.{edited}
use Rattle.jb_state.specs.Message.{envelope_of}
use Rattle.jb_model.specs.Letter.{letter_of}
use Rattle.jb_model.specs.Pack.{pack_done, pack_refusal, pack_step}
use Rattle.jb_model.specs.Post.{Draft, answer_refusal, draft_refusal, parts_refusal, post_done, post_step, posted_message, room_refusal}
use Rattle.jb_model.specs.Read.{read_done, read_message}
use Rattle.jb_model.specs.Relink.{relink_done, relink_step}
use Rattle.jb_state.specs.Relinked.{relinked_slots, wrongly_linked}
use Rattle.jb_model.specs.SetMark.{mark_at, mark_done, mark_refusal, set_mark_step}
use Rattle.jb_state.specs.Visible.{visible_at}
use Rattle.jb_model.specs.declared.reply.Reply.TheVariants.{Relinked, Text}
use Rattle.jb_model.specs.Standing.{is_refusal}
use Rattle.jb_state.specs.State.{AreaState, LiveMessage}
use Rattle.jb_model.specs.Step.{Step, step}
use Rattle.jb_model.specs.declared.command.Command.{Command}
use Rattle.jb_model.specs.declared.command.Command.TheVariants.{Post, Edit, Read, Peek, Kill, SetMark, Pack, Relink}
use Rattle.jb_model.specs.declared.reply.Reply.{Reply}
use Rattle.jb_state.proofs.LinkLaws.{true_not_false}

-- a command is answered in exactly one way, and leaves exactly one state
pub one_answer : (rules : AreaRules) (state : AreaState) (user : User) (moment : ℕ) (command : Command) (reply other : Reply) (after else : AreaState) → Step rules state user moment command reply after → Step rules state user moment command other else → (reply ≡ other) × (after ≡ else)
one_answer rules state user moment command reply other after else one another =
    let same : record { reply = reply; state = after } ≡ record { reply = other; state = else } = sym one ∙ another in
    (ap (λ (a : Answered). a.reply) same, ap (λ (a : Answered). a.state) same)

-- what is refused leaves the state as it was
abbrev pub KeepsRefused : AreaState → Answered → Type 0
KeepsRefused state answered = is_refusal answered.reply ≡ true → answered.state ≡ state

-- an answer that is none of refusal
done_keeps : (state : AreaState) (answered : Answered) → is_refusal answered.reply ≡ false → KeepsRefused state answered
done_keeps state answered done = λ refusal. absurd (true_not_false (sym refusal ∙ done))

-- through the rules
denied_keeps : (state : AreaState) (rule : Option Rule) (rest : Answered) → KeepsRefused state rest → KeepsRefused state (unless_denied state rule rest)
denied_keeps state (Some rule) rest keeps = λ refusal. refl
denied_keeps state None rest keeps = keeps

-- through other refusals
refused_keeps : (state : AreaState) (found : Option Reply) (rest : Answered) → KeepsRefused state rest → KeepsRefused state (unless_refused state found rest)
refused_keeps state (Some reply) rest keeps = λ refusal. refl
refused_keeps state None rest keeps = keeps

-- through the message that a number names
message_keeps : (state : AreaState) (number : ℕ) (found : Option LiveMessage) (act : LiveMessage → Answered) → ((message : LiveMessage) → KeepsRefused state (act message)) → KeepsRefused state (with_message state number found act)
message_keeps state number None act keeps = λ refusal. refl
message_keeps state number (Some message) act keeps = keeps message

-- a refused post
post_keeps : (rules : AreaRules) (state : AreaState) (user : User) (moment : ℕ) (draft : Draft) → KeepsRefused state (post_step rules state user moment draft)
post_keeps rules state user moment draft =
    let message : LiveMessage = posted_message rules state user moment draft in
    let room : Answered = unless_refused state (room_refusal rules state message) (post_done state message) in
    let answer : Answered = unless_refused state (answer_refusal rules state user draft) room in
    denied_keeps state (first_refusal user rules Posting None) (unless_refused state (draft_refusal draft) answer)
    (refused_keeps state (draft_refusal draft) answer
    (refused_keeps state (answer_refusal rules state user draft) room
    (refused_keeps state (room_refusal rules state message) (post_done state message) (done_keeps state (post_done state message) refl))))

-- a refused act on one message
on_message_keeps : (rules : AreaRules) (state : AreaState) (user : User) (number : ℕ) (act : LiveMessage → Answered) → ((message : LiveMessage) → KeepsRefused state (act message)) → KeepsRefused state (unless_denied state (first_refusal user rules Listing None) (with_message state number (visible_at rules user state number) act))
on_message_keeps rules state user number act keeps =
    denied_keeps state (first_refusal user rules Listing None) (with_message state number (visible_at rules user state number) act)
    (message_keeps state number (visible_at rules user state number) act keeps)

-- a refused edit
edit_keeps : (rules : AreaRules) (state : AreaState) (user : User) (number : ℕ) (subject text : List ℕ) (message : LiveMessage) → KeepsRefused state (edit_by rules state user number subject text message)
edit_keeps rules state user number subject text message =
    let now : LiveMessage = edited subject text message in
    let done : Answered = edit_done state number now in
    let room : Answered = unless_refused state (edit_refusal state now) done in
    denied_keeps state (first_refusal user rules Editing (Some (envelope_of message))) (unless_refused state (parts_refusal (new_subject subject message) text) room)
    (refused_keeps state (parts_refusal (new_subject subject message) text) room
    (refused_keeps state (edit_refusal state now) done (done_keeps state done refl)))

-- a refused mark
set_mark_keeps : (rules : AreaRules) (state : AreaState) (user : User) (number : ℕ) → KeepsRefused state (set_mark_step rules state user number)
set_mark_keeps rules state user number =
    let done : Answered = mark_done state (mark_at state user number) in
    denied_keeps state (first_refusal user rules Listing None) (unless_refused state (mark_refusal state user number) done)
    (refused_keeps state (mark_refusal state user number) done (done_keeps state done refl))

-- a refused pack
pack_keeps : (rules : AreaRules) (state : AreaState) (user : User) → KeepsRefused state (pack_step rules state user)
pack_keeps rules state user =
    denied_keeps state (first_refusal user rules Tending None) (unless_refused state (pack_refusal state) (pack_done state))
    (refused_keeps state (pack_refusal state) (pack_done state) (done_keeps state (pack_done state) refl))

-- a refused relink
relink_keeps : (rules : AreaRules) (state : AreaState) (user : User) → KeepsRefused state (relink_step rules state user)
relink_keeps rules state user =
    let none : Answered = record { reply = Relinked 0; state = state } in
    let some : Answered = record { reply = Relinked (wrongly_linked state); state = counted (record state { slots = relinked_slots state }) } in
    denied_keeps state (first_refusal user rules Tending None) (relink_done state)
    (cond_both (wrongly_linked state == 0) none some (KeepsRefused state) (λ e. done_keeps state none refl) (λ e. done_keeps state some refl))

-- a refusal keeps the state
pub refusal_keeps : (rules : AreaRules) (state : AreaState) (user : User) (moment : ℕ) (command : Command) → KeepsRefused state (step rules state user moment command)
refusal_keeps rules state user moment (Post to subject text reply_to private) =
    post_keeps rules state user moment (record { to = to; subject = subject; text = text; reply_to = reply_to; private = private })
refusal_keeps rules state user moment (Edit number subject text) =
    on_message_keeps rules state user number (edit_by rules state user number subject text) (edit_keeps rules state user number subject text)
refusal_keeps rules state user moment (Read number) =
    on_message_keeps rules state user number (λ message. read_done state number (read_message user moment message))
    (λ message. done_keeps state (read_done state number (read_message user moment message)) refl)
refusal_keeps rules state user moment (Peek number) =
    on_message_keeps rules state user number (λ message. record { reply = Text (letter_of number message); state = state })
    (λ message. done_keeps state (record { reply = Text (letter_of number message); state = state }) refl)
refusal_keeps rules state user moment (Kill number) =
    on_message_keeps rules state user number (λ message. unless_denied state (first_refusal user rules Killing (Some (envelope_of message))) (kill_done state number))
    (λ message. denied_keeps state (first_refusal user rules Killing (Some (envelope_of message))) (kill_done state number)
    (done_keeps state (kill_done state number) refl))
refusal_keeps rules state user moment (SetMark number) = set_mark_keeps rules state user number
refusal_keeps rules state user moment Pack = pack_keeps rules state user
refusal_keeps rules state user moment Relink = relink_keeps rules state user
