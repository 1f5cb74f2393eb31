-- Messages stay small from command to command, so that their sums are numbers of eight bytes.
use Rattle.std.proofs.Common.{◌≡◌, ℕ, zero, suc, ◌+◌, ◌-◌, ◌*◌, ◌^◌, ◌<◌, ◌≤◌, min, cond, ◌==◌, List, [], ◌∷◌, ◌++◌, length, drop, map, All, Some, None, refl, ap, subst, arith}
use Rattle.std.specs.Prelude.{Option, nat_le, nat_lt, option_map, slice_get, slice_set, unwrap_or}
use Rattle.std.proofs.lemmas.Bool.{cond_both}
use Rattle.std.proofs.lemmas.List.Sums.{sum_by-cons}
use Rattle.std.proofs.lemmas.List.Elements.{All-head, All-tail}
use Rattle.jb_base.specs.Access.{first_refusal}
use Rattle.jb_bytes.specs.Name.{same_name}
use Rattle.jb_bytes.specs.Subfields.{receiver_of}
use Rattle.jb_base.specs.declared.area.Action.TheVariants.{List as Listing, Post as Posting, Edit as Editing, Kill as Killing, Tend as Tending}
use Rattle.jb_base.specs.declared.area.AreaRules.{AreaRules}
use Rattle.jb_base.specs.declared.area.Rule.{Rule}
use Rattle.jb_limits.specs.declared.limits.TheConstants.{LAST_POSTED_NUMBER}
use Rattle.jb_base.specs.declared.user.User.{User}
use Rattle.jb_model.specs.Answered.{Answered, unless_denied, unless_refused, with_message}
use Rattle.jb_state.specs.Live.{counted, change_live_from, live_of, message_at}
use Rattle.jb_model.specs.Edit.{edit_by, edit_done, edit_refusal, new_subject}
use Rattle.jb_model.specs.Kill.{kill_done}
use Rattle.jb_state.specs.Edited.{edited}
use Rattle.jb_state.specs.Links.{last_reply_of, linkables_of}
use Rattle.jb_state.specs.Message.{envelope_of, header_length}
use Rattle.jb_model.specs.Letter.{letter_of}
use Rattle.jb_state.specs.PackedState.{emptied, packed_base, packed_slots}
use Rattle.jb_model.specs.Pack.{pack_done, pack_refusal}
use Rattle.jb_model.specs.Post.{Draft, answer_refusal, draft_refusal, parts_refusal, post_done, posted_message, room_refusal}
use Rattle.jb_state.specs.Posted.{slots_with, spliced_slots, with_first_reply, with_next_reply}
use Rattle.jb_model.specs.Read.{read_done, read_message, read_once_more, received_at}
use Rattle.jb_model.specs.Relink.{relink_done}
use Rattle.jb_state.specs.Relinked.{relinked, relinked_slots, wrongly_linked}
use Rattle.jb_model.specs.SetMark.{mark_at, mark_done, mark_refusal}
use Rattle.jb_state.specs.State.{AreaState, IsSlotInRange, LiveMessage, SlotState, next_number, no_message, killed_message, live_message}
use Rattle.jb_model.specs.Step.{step}
use Rattle.jb_state.specs.Tight.{header_bytes, headers_together, text_bytes, texts_together}
use Rattle.jb_state.specs.Visible.{if_shown, is_shown, visible_at}
use Rattle.jb_model.specs.declared.command.Command.{Command}
use Rattle.jb_model.specs.declared.command.Command.TheVariants.{Post, Edit, Read, Peek, Kill, SetMark, Pack, Relink}
use Rattle.jb_model.specs.declared.reply.Reply.{Reply}
use Rattle.jb_model.specs.declared.reply.Reply.TheVariants.{Relinked, Text}
use Rattle.jb_plain.specs.Small.{AreSmall, IsSmall}
use Rattle.jb_model.proofs.RangeLaws.{HasFilesFor, files_for, none_of, room_anew}

-- slots that a base may have are small
small_slot : (slot : SlotState) → IsSlotInRange slot → IsSmall slot
small_slot no_message range = record { header = omega arith; text = omega arith }
small_slot killed_message range = record { header = omega arith; text = omega arith }
small_slot (live_message message) range =
    let few = range.few_bytes in let short = range.short_text in record { header = omega arith; text = omega arith }

-- a base's slots are small
pub small_range : (slots : List SlotState) → All IsSlotInRange slots → AreSmall slots
small_range [] each = tt
small_range (slot ∷ slots) each =
    (small_slot slot (All-head IsSlotInRange slot slots each), small_range slots (All-tail IsSlotInRange slot slots each))

-- small slots take so much of .JHR together
headers_bound : (slots : List SlotState) → AreSmall slots → headers_together slots ≤ length slots * 536870912
headers_bound [] small = omega arith
headers_bound (slot ∷ slots) small =
    let one = small.0.header in
    omega (arith, sum_by-cons header_bytes slot slots, headers_bound slots small.1)

-- small slots take so much of .JDT together
texts_bound : (slots : List SlotState) → AreSmall slots → texts_together slots ≤ length slots * 1073741824
texts_bound [] small = omega arith
texts_bound (slot ∷ slots) small =
    let one = small.0.text in
    omega (arith, sum_by-cons text_bytes slot slots, texts_bound slots small.1)

-- what few small slots take of .JHR is told as it is
pub headers_told : (slots : List SlotState) → length slots < 2 ^ 32 → AreSmall slots → min (1024 + headers_together slots) (2 ^ 64 - 1) ≡ 1024 + headers_together slots
headers_told slots few small = let bound : _ = headers_bound slots small in omega arith

-- what few small slots take of .JDT is told as it is
pub texts_told : (slots : List SlotState) → length slots < 2 ^ 32 → AreSmall slots → min (texts_together slots) (2 ^ 64 - 1) ≡ texts_together slots
texts_told slots few small = let bound : _ = texts_bound slots small in omega arith

-- what few small slots take of .JDT is a number of eight bytes
pub texts_fit : (slots : List SlotState) → length slots < 2 ^ 32 → AreSmall slots → texts_together slots < 2 ^ 64
texts_fit slots few small = let bound : _ = texts_bound slots small in omega arith

-- one slot is replaced by a small one
small_set : (slots : List SlotState) (k : ℕ) (slot : SlotState) → AreSmall slots → IsSmall slot → AreSmall (slice_set slots k slot)
small_set [] k slot small one = tt
small_set (first ∷ slots) zero slot small one = (one, small.1)
small_set (first ∷ slots) (suc k) slot small one = (small.0, small_set slots k slot small.1 one)

-- one more small slot behind
small_push : (slots : List SlotState) (slot : SlotState) → AreSmall slots → IsSmall slot → AreSmall (slots ++ slot ∷ [])
small_push [] slot small one = (one, tt)
small_push (first ∷ slots) slot small one = (small.0, small_push slots slot small.1 one)

-- fewer slots
small_drop : (n : ℕ) (slots : List SlotState) → AreSmall slots → AreSmall (drop n slots)
small_drop zero slots small = small
small_drop (suc n) [] small = tt
small_drop (suc n) (slot ∷ slots) small = small_drop n slots small.1

-- emptied slots
small_emptied : (slots : List SlotState) → AreSmall slots → AreSmall (map emptied slots)
small_emptied [] small = tt
small_emptied (no_message ∷ slots) small = (small.0, small_emptied slots small.1)
small_emptied (killed_message ∷ slots) small = (record { header = omega arith; text = omega arith }, small_emptied slots small.1)
small_emptied (live_message message ∷ slots) small = (small.0, small_emptied slots small.1)

-- two messages with the same subfields and the same text
pub record IsSameSize (message other : LiveMessage) : Type 0 where
  pub header : header_length other ≡ header_length message
  pub text : length other.text ≡ length message.text

-- a message of the same size is small
small_same : (message other : LiveMessage) → IsSameSize message other → IsSmall (live_message message) → IsSmall (live_message other)
small_same message other same small =
    let header = same.header in let text = same.text in let few = small.header in let short = small.text in
    record { header = omega arith; text = omega arith }

-- messages that change and keep their sizes
small_change : (change : ℕ → LiveMessage → LiveMessage) → ((n : ℕ) (message : LiveMessage) → IsSameSize message (change n message)) → (number : ℕ) (slots : List SlotState) → AreSmall slots → AreSmall (change_live_from change number slots)
small_change change same number [] small = tt
small_change change same number (no_message ∷ slots) small = (small.0, small_change change same (number + 1) slots small.1)
small_change change same number (killed_message ∷ slots) small = (small.0, small_change change same (number + 1) slots small.1)
small_change change same number (live_message message ∷ slots) small =
    (small_same message (change number message) (same number message) small.0, small_change change same (number + 1) slots small.1)

-- relinked slots
pub small_relinked : (state : AreaState) → AreSmall state.slots → AreSmall (relinked_slots state)
small_relinked state small =
    small_change (λ number message. relinked (linkables_of state) (record { number = number; message = message })) (λ n message. record { header = refl; text = refl }) state.base state.slots small

-- packed slots
pub small_packed : (state : AreaState) → AreSmall state.slots → AreSmall (packed_slots state)
small_packed state small =
    small_emptied (drop (packed_base state - state.base) (relinked_slots state)) (small_drop (packed_base state - state.base) (relinked_slots state) (small_relinked state small))

-- what is given is one
some_is : (one other : LiveMessage) → Some one ≡ Some other → one ≡ other
some_is one other same = ap (λ (o : Option LiveMessage). unwrap_or o one) same

-- the message at a place is small
small_at : (slots : List SlotState) (k : ℕ) (message : LiveMessage) → live_of (slice_get slots k) ≡ Some message → AreSmall slots → IsSmall (live_message message)
small_at [] k message is small = absurd (cc)
small_at (no_message ∷ slots) zero message is small = absurd (cc)
small_at (killed_message ∷ slots) zero message is small = absurd (cc)
small_at (live_message one ∷ slots) zero message is small =
    let P : LiveMessage → Type 0 = λ m. IsSmall (live_message m) in
    subst P (some_is one message is) small.0
small_at (slot ∷ slots) (suc k) message is small = small_at slots k message is small.1

-- an answer leaves small slots
abbrev pub LeavesSmall : Answered → Type 0
LeavesSmall answered = AreSmall answered.state.slots

-- through the rules
denied_small : (state : AreaState) (rule : Option Rule) (rest : Answered) → AreSmall state.slots → LeavesSmall rest → LeavesSmall (unless_denied state rule rest)
denied_small state (Some rule) rest small later = small
denied_small state None rest small later = later

-- through other refusals
refused_small : (state : AreaState) (found : Option Reply) (rest : Answered) → AreSmall state.slots → (found ≡ None → LeavesSmall rest) → LeavesSmall (unless_refused state found rest)
refused_small state (Some reply) rest small later = small
refused_small state None rest small later = later refl

-- the live message of a slot that is looked up is small
small_live : (state : AreaState) (number : ℕ) (message : LiveMessage) → message_at state number ≡ Some message → AreSmall state.slots → IsSmall (live_message message)
small_live state number message is small =
    cond_both (nat_lt number state.base) None (live_of (slice_get state.slots (number - state.base)))
    (λ (found : Option LiveMessage). found ≡ Some message → IsSmall (live_message message))
    (λ below none. absurd (cc))
    (λ within found. small_at state.slots (number - state.base) message found small) is

-- through the message that a number names, of which the size is small
message_small : (rules : AreaRules) (state : AreaState) (user : User) (number : ℕ) (found : Option LiveMessage) (act : LiveMessage → Answered) → AreSmall state.slots → ((message : LiveMessage) → found ≡ Some message → LeavesSmall (act message)) → LeavesSmall (with_message state number (if_shown rules user found) act)
message_small rules state user number None act small later = small
message_small rules state user number (Some message) act small later =
    cond_both (is_shown rules user message) (Some message) None (λ (shown : Option LiveMessage). LeavesSmall (with_message state number shown act))
    (λ shown. later message refl) (λ hidden. small)

-- a reading keeps the size
read_same : (user : User) (moment : ℕ) (message : LiveMessage) → IsSameSize message (read_message user moment message)
read_same user moment message =
    cond_both (same_name user.name (receiver_of message.subfields))
    (record message { head = received_at moment (read_once_more message.head) }) (record message { head = read_once_more message.head })
    (IsSameSize message) (λ same. record { header = refl; text = refl }) (λ other. record { header = refl; text = refl })

-- slots with one message that keeps its size
small_renamed : (state : AreaState) (named : ℕ) (change : LiveMessage → LiveMessage) (found : Option LiveMessage) → ((message : LiveMessage) → IsSameSize message (change message)) → AreSmall state.slots → ((message : LiveMessage) → found ≡ Some message → IsSmall (live_message message)) → AreSmall (slots_with state named (option_map change found))
small_renamed state named change None same small each = small
small_renamed state named change (Some message) same small each =
    small_set state.slots (named - state.base) (live_message (change message)) small (small_same message (change message) (same message) (each message refl))

-- slots as a new reply leaves them
small_spliced : (state : AreaState) (parent number : ℕ) → AreSmall state.slots → AreSmall (spliced_slots state parent number)
small_spliced state parent number small =
    let last = last_reply_of (linkables_of state) parent in
    let first_slots = slots_with state parent (option_map (with_first_reply number) (message_at state parent)) in
    let next_slots = slots_with state last (option_map (with_next_reply number) (message_at state last)) in
    cond_both (parent == 0) state.slots (cond (last == 0) first_slots next_slots) AreSmall (λ none. small)
    (λ some. cond_both (last == 0) first_slots next_slots AreSmall
    (λ e. small_renamed state parent (with_first_reply number) (message_at state parent) (λ m. record { header = refl; text = refl }) small (λ m is. small_live state parent m is small))
    (λ e. small_renamed state last (with_next_reply number) (message_at state last) (λ m. record { header = refl; text = refl }) small (λ m is. small_live state last m is small)))

-- a message for which the files have room is small
small_files : (state : AreaState) (message : LiveMessage) → HasFilesFor state message → IsSmall (live_message message)
small_files state message files =
    let low = files.headers in let short = files.texts in record { header = omega arith; text = omega arith }

-- where there is room for a message, it is small
small_room : (rules : AreaRules) (state : AreaState) (message : LiveMessage) → room_refusal rules state message ≡ None → IsSmall (live_message message)
small_room rules state message none =
    let numbers = none_of (nat_lt LAST_POSTED_NUMBER (next_number state)) _ _ none in
    let slots = none_of (nat_le rules.slots (length state.slots)) _ _ numbers.1 in
    small_files state message (files_for state message slots.1)

-- an answer of each command leaves small slots
pub small_step : (rules : AreaRules) (state : AreaState) (user : User) (moment : ℕ) (command : Command) → AreSmall state.slots → LeavesSmall (step rules state user moment command)
small_step rules state user moment (Post to subject text reply_to private) small =
    let draft : Draft = record { to = to; subject = subject; text = text; reply_to = reply_to; private = private } in
    let message : LiveMessage = posted_message rules state user moment draft in
    let done : Answered = post_done state message in
    let room : Answered = unless_refused state (room_refusal rules state message) done in
    let answered : Answered = unless_refused state (answer_refusal rules state user draft) room in
    denied_small state (first_refusal user rules Posting None) (unless_refused state (draft_refusal draft) answered) small
    (refused_small state (draft_refusal draft) answered small (λ fit. refused_small state (answer_refusal rules state user draft) room small
    (λ seen. refused_small state (room_refusal rules state message) done small
    (λ none. small_push (spliced_slots state message.head.reply_to (next_number state)) (live_message message) (small_spliced state message.head.reply_to (next_number state) small) (small_room rules state message none)))))
small_step rules state user moment (Edit number subject text) small =
    let act : LiveMessage → Answered = edit_by rules state user number subject text in
    denied_small state (first_refusal user rules Listing None) (with_message state number (visible_at rules user state number) act) small
    (message_small rules state user number (message_at state number) act small
    (λ message is. let now : LiveMessage = edited subject text message in
    let done : Answered = edit_done state number now in
    let room : Answered = unless_refused state (edit_refusal state now) done in
    denied_small state (first_refusal user rules Editing (Some (envelope_of message))) (unless_refused state (parts_refusal (new_subject subject message) text) room) small
    (refused_small state (parts_refusal (new_subject subject message) text) room small (λ fit. refused_small state (edit_refusal state now) done small
    (λ none. small_set state.slots (number - state.base) (live_message now) small (small_files state now (room_anew state now none).files))))))
small_step rules state user moment (Read number) small =
    let act : LiveMessage → Answered = λ message. read_done state number (read_message user moment message) in
    denied_small state (first_refusal user rules Listing None) (with_message state number (visible_at rules user state number) act) small
    (message_small rules state user number (message_at state number) act small
    (λ message is. small_set state.slots (number - state.base) (live_message (read_message user moment message)) small
    (small_same message (read_message user moment message) (read_same user moment message) (small_live state number message is small))))
small_step rules state user moment (Peek number) small =
    let act : LiveMessage → Answered = λ message. record { reply = Text (letter_of number message); state = state } in
    denied_small state (first_refusal user rules Listing None) (with_message state number (visible_at rules user state number) act) small
    (message_small rules state user number (message_at state number) act small (λ message is. small))
small_step rules state user moment (Kill number) small =
    let act : LiveMessage → Answered = λ message. unless_denied state (first_refusal user rules Killing (Some (envelope_of message))) (kill_done state number) in
    denied_small state (first_refusal user rules Listing None) (with_message state number (visible_at rules user state number) act) small
    (message_small rules state user number (message_at state number) act small
    (λ message is. denied_small state (first_refusal user rules Killing (Some (envelope_of message))) (kill_done state number) small
    (small_set state.slots (number - state.base) killed_message small (record { header = omega arith; text = omega arith }))))
small_step rules state user moment (SetMark number) small =
    let done : Answered = mark_done state (mark_at state user number) in
    denied_small state (first_refusal user rules Listing None) (unless_refused state (mark_refusal state user number) done) small
    (refused_small state (mark_refusal state user number) done small (λ none. small))
small_step rules state user moment Pack small =
    denied_small state (first_refusal user rules Tending None) (unless_refused state (pack_refusal state) (pack_done state)) small
    (refused_small state (pack_refusal state) (pack_done state) small (λ none. small_packed state small))
small_step rules state user moment Relink small =
    let none : Answered = record { reply = Relinked 0; state = state } in
    let some : Answered = record { reply = Relinked (wrongly_linked state); state = counted (record state { slots = relinked_slots state }) } in
    denied_small state (first_refusal user rules Tending None) (relink_done state) small
    (cond_both (wrongly_linked state == 0) none some LeavesSmall (λ e. small) (λ e. small_relinked state small))
