-- An edit changes the subject and the text of one message, and nothing else that a user sees.
use Rattle.std.proofs.Common.{◌≡◌, ℕ, zero, suc, ◌+◌, ◌-◌, ◌≤◌, Bool, true, false, cond, ◌==◌, List, [], ◌∷◌, map, Option, Some, None, refl, sym, ◌∙◌, ap, arith}
use Rattle.std.specs.Prelude.{filter, find, nat_lt, option_map, slice_get, slice_set, unwrap_or}
use Rattle.std.proofs.lemmas.Bool.{cond_both, cond-false, cond-true, eqb-true, le-ltb, ltb-false}
use Rattle.std.proofs.lemmas.List.{length-set}
use Rattle.jb_base.specs.Access.{Envelope, is_visible}
use Rattle.jb_base.specs.declared.area.AreaRules.{AreaRules}
use Rattle.jb_base.specs.declared.user.User.{User}
use Rattle.jb_bytes.proofs.Spelled.{first_other}
use Rattle.jb_bytes.specs.Subfields.{first_of}
use Rattle.jb_bytes.specs.declared.subfield.Subfield.{Subfield}
use Rattle.jb_bytes.specs.declared.subfield.TheConstants.{SENDER_NAME, RECEIVER_NAME, MSGID, REPLYID, SUBJECT}
use Rattle.jb_state.specs.Edited.{EditsAlone, edited, edited_state, unlettered, with_subject}
use Rattle.jb_state.specs.Links.{Linkable, linkable}
use Rattle.jb_state.specs.Live.{Numbered, live_from, live_in, live_of, message_at, numbers_of}
use Rattle.jb_state.specs.Message.{envelope_of}
use Rattle.jb_state.specs.State.{AreaState, LiveMessage, SlotState, no_message, killed_message, live_message}
use Rattle.jb_state.specs.Visible.{is_shown, last_read_by, shown_to, unlinked, unread_by, visible_to}
use Rattle.jb_state.proofs.PackLaws.{filter-map}
use Rattle.jb_state.proofs.RelinkLaws.{map-map}

-- the first of a kind by whether one in front of both lists is of that kind
first_by : (b : Bool) (field : Subfield) (one other : Option Subfield) → option_map (λ (f : Subfield). f.bytes) one ≡ option_map (λ (f : Subfield). f.bytes) other
    → option_map (λ (f : Subfield). f.bytes) (cond b (Some field) one) ≡ option_map (λ (f : Subfield). f.bytes) (cond b (Some field) other)
first_by true field one other same = refl
first_by false field one other same = same

-- one subfield more in front of two lists with the same first of a kind
first_behind : (id : ℕ) (field : Subfield) (one other : List Subfield) → first_of id one ≡ first_of id other → first_of id (field ∷ one) ≡ first_of id (field ∷ other)
first_behind id field one other same =
    first_by (field.id == id) field (find (λ (f : Subfield). f.id == id) one) (find (λ (f : Subfield). f.id == id) other) same

-- another subject leaves the first of every other kind
pub with_subject-other : (id : ℕ) (subject : List ℕ) (fields : List Subfield) → (SUBJECT ≡ id → ⊥) → first_of id (with_subject subject fields) ≡ first_of id fields
with_subject-other id subject [] other = first_other id (record { id = SUBJECT; hi = 0; bytes = subject }) [] other
with_subject-other id subject (field ∷ fields) other =
    cond_both (field.id == SUBJECT) (record field { bytes = subject } ∷ fields) (field ∷ with_subject subject fields)
    (λ (l : List Subfield). first_of id l ≡ first_of id (field ∷ fields))
    (λ is. let apart : field.id ≡ id → ⊥ = λ same. other (sym (eqb-true field.id SUBJECT is) ∙ same) in
    first_other id (record field { bytes = subject }) fields apart ∙ sym (first_other id field fields apart))
    (λ is. first_behind id field (with_subject subject fields) fields (with_subject-other id subject fields other))

-- of two subjects, the later stays
pub with_subject-again : (one other : List ℕ) (fields : List Subfield) → with_subject one (with_subject other fields) ≡ with_subject one fields
with_subject-again one other [] = refl
with_subject-again one other (field ∷ fields) =
    cond_both (field.id == SUBJECT) (record field { bytes = other } ∷ fields) (field ∷ with_subject other fields)
    (λ (l : List Subfield). with_subject one l ≡ with_subject one (field ∷ fields))
    (λ is. cond-true (field.id == SUBJECT) (record field { bytes = one } ∷ fields) (record field { bytes = other } ∷ with_subject one fields) is
    ∙ sym (cond-true (field.id == SUBJECT) (record field { bytes = one } ∷ fields) (field ∷ with_subject one fields) is))
    (λ is. cond-false (field.id == SUBJECT) (record field { bytes = one } ∷ with_subject other fields) (field ∷ with_subject one (with_subject other fields)) is
    ∙ ap (λ (l : List Subfield). field ∷ l) (with_subject-again one other fields)
    ∙ sym (cond-false (field.id == SUBJECT) (record field { bytes = one } ∷ fields) (field ∷ with_subject one fields) is))

-- an envelope of these parts
abbrev between : Option (List ℕ) → Option (List ℕ) → ℕ → Envelope
between from to attribute = record { sender = unwrap_or from []; receiver = unwrap_or to []; attribute = attribute }

-- an edited message keeps what the rules look at
pub edited_envelope : (subject text : List ℕ) (message : LiveMessage) → envelope_of (edited subject text message) ≡ envelope_of message
edited_envelope subject text message =
    ap (λ from. between from (first_of RECEIVER_NAME (with_subject subject message.subfields)) message.head.attribute)
    (with_subject-other SENDER_NAME subject message.subfields (λ e. omega arith))
    ∙ ap (λ to. between (first_of SENDER_NAME message.subfields) to message.head.attribute)
    (with_subject-other RECEIVER_NAME subject message.subfields (λ e. omega arith))

-- what links rest on, of these parts
abbrev answering : ℕ → Option (List ℕ) → Option (List ℕ) → ℕ → Linkable
answering number msgid replyid kept = record { number = number; msgid = msgid; replyid = replyid; kept = kept }

-- and what its links rest on
pub edited_linkable : (subject text : List ℕ) (number : ℕ) (message : LiveMessage)
    → linkable (record { number = number; message = edited subject text message }) ≡ linkable (record { number = number; message = message })
edited_linkable subject text number message =
    ap (λ id. answering number id (first_of REPLYID (with_subject subject message.subfields)) message.head.reply_to)
    (with_subject-other MSGID subject message.subfields (λ e. omega arith))
    ∙ ap (λ id. answering number (first_of MSGID message.subfields) id message.head.reply_to)
    (with_subject-other REPLYID subject message.subfields (λ e. omega arith))

-- and all but its subject and its text
pub edited_unlettered : (subject text : List ℕ) (message : LiveMessage) → unlettered (edited subject text message) ≡ unlettered message
edited_unlettered subject text message =
    ap (λ (fields : List Subfield). record message { subfields = fields; text = [] }) (with_subject-again [] subject message.subfields)

-- what is told alike of a message and of the one in its place is told alike of all live messages
pub live_from-set : {Y : Type 0} (told : Numbered → Y) (number : ℕ) (slots : List SlotState) (place : ℕ) (was now : LiveMessage)
    → slice_get slots place ≡ Some (live_message was)
    → ((n : ℕ) → told (record { number = n; message = now }) ≡ told (record { number = n; message = was }))
    → map told (live_from number (slice_set slots place (live_message now))) ≡ map told (live_from number slots)
live_from-set told number [] place was now here same = refl
live_from-set told number (no_message ∷ slots) zero was now here same = absurd (cc)
live_from-set told number (killed_message ∷ slots) zero was now here same = absurd (cc)
live_from-set {Y} told number (live_message one ∷ slots) zero was now here same =
    let it : live_of (Some (live_message one)) ≡ live_of (Some (live_message was)) = ap live_of here in
    let is : one ≡ was = ap (λ (o : Option LiveMessage). unwrap_or o one) it in
    ap (λ (y : Y). y ∷ map told (live_from (number + 1) slots))
    (same number ∙ ap (λ (m : LiveMessage). told (record { number = number; message = m })) (sym is))
live_from-set told number (no_message ∷ slots) (suc place) was now here same = live_from-set told (number + 1) slots place was now here same
live_from-set told number (killed_message ∷ slots) (suc place) was now here same = live_from-set told (number + 1) slots place was now here same
live_from-set {Y} told number (live_message one ∷ slots) (suc place) was now here same =
    ap (λ (l : List Y). told (record { number = number; message = one }) ∷ l) (live_from-set told (number + 1) slots place was now here same)

-- another slot is where it was
pub get_set_other : {X : Type 0} (xs : List X) (place other : ℕ) (x : X) → (place ≡ other → ⊥) → slice_get (slice_set xs place x) other ≡ slice_get xs other
get_set_other [] place other x apart = refl
get_set_other (y ∷ xs) zero zero x apart = absurd (apart refl)
get_set_other (y ∷ xs) zero (suc other) x apart = refl
get_set_other (y ∷ xs) (suc place) zero x apart = refl
get_set_other (y ∷ xs) (suc place) (suc other) x apart = get_set_other xs place other x (λ same. apart (ap suc same))

-- the new one stands where an old one stood
pub get_set_same : {X : Type 0} (xs : List X) (place : ℕ) (x y : X) → slice_get xs place ≡ Some y → slice_get (slice_set xs place x) place ≡ Some x
get_set_same [] place x y here = absurd (cc)
get_set_same (z ∷ xs) zero x y here = refl
get_set_same (z ∷ xs) (suc place) x y here = get_set_same xs place x y here

-- by whether the number is below the base
named_by : (b : Bool) (found : Option SlotState) (message : LiveMessage) → cond b None (live_of found) ≡ Some message → (b ≡ false) × (found ≡ Some (live_message message))
named_by true found message is = absurd (cc)
named_by false None message is = absurd (cc)
named_by false (Some no_message) message is = absurd (cc)
named_by false (Some killed_message) message is = absurd (cc)
named_by false (Some (live_message one)) message is = (refl, ap (λ (o : Option LiveMessage). Some (live_message (unwrap_or o one))) is)

-- a message that a number names stands at its place
pub named_at : (state : AreaState) (number : ℕ) (message : LiveMessage) → message_at state number ≡ Some message
    → (state.base ≤ number) × (slice_get state.slots (number - state.base) ≡ Some (live_message message))
named_at state number message is =
    let parts = named_by (nat_lt number state.base) (slice_get state.slots (number - state.base)) message is in
    (ltb-false number state.base parts.0, parts.1)

-- a message under a number
abbrev numbered : ℕ → LiveMessage → Numbered
numbered number message = record { number = number; message = message }

-- a message but for its subject and its text, with its number
abbrev pub unlettered_one : Numbered → Numbered
unlettered_one one = record { number = one.number; message = unlettered one.message }

-- the numbers that a user sees rest on the messages but for subjects and texts
shown_as : (rules : AreaRules) (user : User) (messages : List Numbered)
    → numbers_of (filter (λ (one : Numbered). is_shown rules user one.message) messages)
    ≡ numbers_of (filter (λ (one : Numbered). is_shown rules user one.message) (map unlettered_one messages))
shown_as rules user messages =
    let test : Numbered → Bool = λ one. is_shown rules user one.message in
    sym (map-map unlettered_one (λ (one : Numbered). one.number) (filter test messages))
    ∙ sym (ap numbers_of (filter-map test test unlettered_one same messages))
  where
    -- a message is shown by what the rules look at
    same : (one : Numbered) → is_shown rules user (unlettered one.message) ≡ is_shown rules user one.message
    same one = ap (λ (envelope : Envelope). is_visible user rules envelope) (edited_envelope [] [] one.message)

-- the numbers that a user has not read are those that are seen above the one read last
unread_as : (rules : AreaRules) (user : User) (state : AreaState)
    → numbers_of (unread_by rules user state) ≡ filter (nat_lt (last_read_by user state)) (numbers_of (shown_to rules user state))
unread_as rules user state =
    let last : ℕ = last_read_by user state in
    sym (filter-map (nat_lt last) (λ (one : Numbered). nat_lt last one.number) (λ (one : Numbered). one.number) (λ one. refl) (visible_to rules user state))
    ∙ ap (filter (nat_lt last)) (map-map unlinked (λ (one : Numbered). one.number) (shown_to rules user state))

-- a state is not apart from itself
pub nothing_edited : (number : ℕ) (state : AreaState) → EditsAlone number state state
nothing_edited number state = record {
  rest = refl;
  slots = refl;
  others = λ place apart. refl;
  itself = refl;
  links = refl;
  seen = λ rules user. refl;
  unread = λ rules user. refl;
}

-- an edit of the message that a number names changes nothing else
pub edited_alone : (state : AreaState) (number : ℕ) (subject text : List ℕ) (message : LiveMessage) → message_at state number ≡ Some message
    → EditsAlone number state (edited_state state number (edited subject text message))
edited_alone state number subject text message is =
    let now : LiveMessage = edited subject text message in
    let place : ℕ = number - state.base in
    let after : AreaState = edited_state state number now in
    let here : (state.base ≤ number) × (slice_get state.slots place ≡ Some (live_message message)) = named_at state number message is in
    let low : state.base ≤ number = here.0 in
    let one_by_one : map unlettered_one (live_in after) ≡ map unlettered_one (live_in state) =
    live_from-set unlettered_one state.base state.slots place message now here.1
    (λ n. ap (numbered n) (edited_unlettered subject text message)) in
    let seen_by : (rules : AreaRules) (user : User) → numbers_of (shown_to rules user after) ≡ numbers_of (shown_to rules user state) =
    λ rules user. shown_as rules user (live_in after)
    ∙ ap (λ (l : List Numbered). numbers_of (filter (λ (one : Numbered). is_shown rules user one.message) l)) one_by_one
    ∙ sym (shown_as rules user (live_in state)) in
    record {
      rest = refl;
      slots = length-set state.slots place (live_message now);
      others = λ other apart. get_set_other state.slots place other (live_message now) (λ same. apart (omega arith));
      itself =
          ap (λ (o : Option LiveMessage). option_map unlettered o)
          (cond-false (nat_lt number state.base) None (live_of (slice_get (slice_set state.slots place (live_message now)) place)) (le-ltb number state.base low)
          ∙ ap live_of (get_set_same state.slots place (live_message now) (live_message message) here.1))
          ∙ ap Some (edited_unlettered subject text message)
          ∙ ap (λ (o : Option LiveMessage). option_map unlettered o) (sym is);
      links = live_from-set linkable state.base state.slots place message now here.1 (λ n. edited_linkable subject text n message);
      seen = seen_by;
      unread = λ rules user. unread_as rules user after ∙ ap (filter (nat_lt (last_read_by user state))) (seen_by rules user) ∙ sym (unread_as rules user state);
    }
