-- A message that is posted, read or relinked is in range, and so are slots that change one by one.
use Rattle.std.proofs.Common.{◌≡◌, ℕ, zero, suc, ◌+◌, ◌-◌, ◌*◌, ◌/◌, ◌%◌, ◌^◌, ◌<◌, ◌≤◌, Bool, true, false, cond, ◌==◌, List, [], ◌∷◌, ◌++◌, length, drop, map, All, Some, None, bit_and, bit_or, refl, sym, ◌∙◌, ap, subst, arith, length-append}
use Rattle.std.specs.Prelude.{Option, nat_le, nat_lt, option_and_then, option_to_list, slice_get, slice_set, unwrap_or}
use Rattle.std.specs.Char.{digit_char}
use Rattle.std.proofs.lemmas.Bool.{cond_both, leb-false, leb-true, ltb-false}
use Rattle.std.proofs.lemmas.List.{length_push}
use lib.Bits.{and_block, and_zero_r, or_block, or_lt, or_zero_r}
use Rattle.jb_bytes.proofs.Numbers.{length-number_bytes}
use Rattle.jb_bytes.specs.Name.{same_name}
use Rattle.jb_bytes.specs.Number.{number_bytes}
use Rattle.jb_bytes.specs.Subfields.{one_subfield, receiver_of, subfield_bytes}
use Rattle.jb_base.specs.declared.area.AreaRules.{AreaRules}
use Rattle.jb_base.specs.declared.area.Kind.{Kind}
use Rattle.jb_base.specs.declared.area.Kind.TheVariants.{Local, Echo}
use Rattle.jb_base.specs.declared.attribute.TheConstants.{DELETED, LOCAL, PRIVATE, READ}
use Rattle.jb_limits.specs.declared.limits.TheConstants.{HEADERS_CEILING, LAST_POSTED_NUMBER, MOST_ADDRESS_BYTES, MOST_COPIED_MSGID_BYTES, MOST_NAME_BYTES, MOST_POSTED_TEXT_BYTES, MOST_SUBFIELD_BYTES, MOST_SUBJECT_BYTES, TEXTS_CEILING}
use Rattle.jb_bytes.specs.declared.subfield.Subfield.{Subfield}
use Rattle.jb_bytes.specs.declared.subfield.TheConstants.{SENDER_NAME, RECEIVER_NAME, MSGID, REPLYID, SUBJECT}
use Rattle.jb_base.specs.declared.user.User.{User}
use Rattle.jb_state.specs.Live.{change_live_from, live_of, message_at}
use Rattle.jb_state.specs.Message.{header_length, msgid_of}
use Rattle.jb_model.specs.Post.{Draft, draft_refusal, files_refusal, hex_digits, kind_attribute, parts_refusal, plain_field, posted_message, posted_msgid, room_refusal}
use Rattle.jb_state.specs.Posted.{if_copied, posted_replyid}
use Rattle.jb_model.specs.Edit.{edit_refusal}
use Rattle.jb_state.specs.Edited.{edited}
use Rattle.jb_model.specs.Read.{read_message, read_once_more, received_at}
use Rattle.jb_state.specs.State.{AreaState, IsMessageInRange, IsSlotInRange, LiveMessage, SlotState, next_number, no_message, killed_message, live_message}
use Rattle.jb_model.specs.declared.reply.Reply.{Reply}

-- one element is replaced by one of which the same holds
pub all_set : {X : Type 0} (P : X → Type 0) (xs : List X) (i : ℕ) (y : X) → All P xs → P y → All P (slice_set xs i y)
all_set P [] i y each one k d within = absurd (omega arith)
all_set P (x ∷ xs) zero y each one zero d within = one
all_set P (x ∷ xs) zero y each one (suc k) d within = each (suc k) d (omega arith)
all_set P (x ∷ xs) (suc i) y each one zero d within = each 0 d (omega arith)
all_set P (x ∷ xs) (suc i) y each one (suc k) d within = all_set P xs i y (λ j e inside. each (suc j) e (omega arith)) one k d (omega arith)

-- one more element of which the same holds
pub all_push : {X : Type 0} (P : X → Type 0) (xs : List X) (y : X) → All P xs → P y → All P (xs ++ y ∷ [])
all_push P [] y each one zero d within = one
all_push P [] y each one (suc k) d within = absurd (omega arith)
all_push P (x ∷ xs) y each one zero d within = each 0 d (omega arith)
all_push P (x ∷ xs) y each one (suc k) d within = all_push P xs y (λ j e inside. each (suc j) e (omega arith)) one k d (omega arith)

-- the rest of a list
pub all_drop : {X : Type 0} (P : X → Type 0) (n : ℕ) (xs : List X) → All P xs → All P (drop n xs)
all_drop P zero xs each = each
all_drop P (suc n) [] each = each
all_drop P (suc n) (x ∷ xs) each = all_drop P n xs (λ k d within. each (suc k) d (omega arith))

-- messages that change and stay in range
pub all_changed : (change : ℕ → LiveMessage → LiveMessage) → ((n : ℕ) (message : LiveMessage) → IsMessageInRange message → IsMessageInRange (change n message)) → (number : ℕ) (slots : List SlotState) → All IsSlotInRange slots → All IsSlotInRange (change_live_from change number slots)
all_changed change keeps number [] each k d within = absurd (omega arith)
all_changed change keeps number (no_message ∷ slots) each zero d within = tt
all_changed change keeps number (killed_message ∷ slots) each zero d within = tt
all_changed change keeps number (live_message message ∷ slots) each zero d within = keeps number message (each 0 d (omega arith))
all_changed change keeps number (no_message ∷ slots) each (suc k) d within = all_changed change keeps (number + 1) slots (λ j e inside. each (suc j) e (omega arith)) k d (omega arith)
all_changed change keeps number (killed_message ∷ slots) each (suc k) d within = all_changed change keeps (number + 1) slots (λ j e inside. each (suc j) e (omega arith)) k d (omega arith)
all_changed change keeps number (live_message message ∷ slots) each (suc k) d within = all_changed change keeps (number + 1) slots (λ j e inside. each (suc j) e (omega arith)) k d (omega arith)

-- the bit of READ leaves that of DELETED alone
pub read_keeps_deleted : (a : ℕ) → bit_and (bit_or a READ) DELETED ≡ bit_and a DELETED
read_keeps_deleted a =
    let high : ℕ = a / 16 in
    let low : ℕ = a % 16 in
    let split : a ≡ high * 2 ^ 4 + low = omega arith in
    let small : low < 2 ^ 4 = omega arith in
    let put : bit_or (high * 2 ^ 4 + low) (0 * 2 ^ 4 + 8) ≡ bit_or high 0 * 2 ^ 4 + bit_or low 8 = or_block 4 high 0 low 8 small (omega arith) in
    let both : bit_or low 8 < 2 ^ 4 = or_lt 4 low 8 small (omega arith) in
    let one : bit_and (high * 2 ^ 4 + bit_or low 8) (134217728 * 2 ^ 4 + 0) ≡ bit_and high 134217728 * 2 ^ 4 + bit_and (bit_or low 8) 0 = and_block 4 high 134217728 (bit_or low 8) 0 both (omega arith) in
    let other : bit_and (high * 2 ^ 4 + low) (134217728 * 2 ^ 4 + 0) ≡ bit_and high 134217728 * 2 ^ 4 + bit_and low 0 = and_block 4 high 134217728 low 0 small (omega arith) in
    ap (λ n. bit_and (bit_or n 8) DELETED) split
    ∙ ap (λ n. bit_and n DELETED) (put ∙ ap (λ n. n * 2 ^ 4 + bit_or low 8) (or_zero_r high))
    ∙ one ∙ ap (λ n. bit_and high 134217728 * 2 ^ 4 + n) (and_zero_r (bit_or low 8) ∙ sym (and_zero_r low))
    ∙ sym other ∙ ap (λ n. bit_and n DELETED) (sym split)

-- where there is no refusal, the first test fails, and there is none later
pub none_of : (b : Bool) (reply : Reply) (later : Option Reply) → cond b (Some reply) later ≡ None → (b ≡ false) × (later ≡ None)
none_of true reply later none = absurd (cc)
none_of false reply later none = (refl, none)

-- a subject and a text that are not refused keep their limits
pub record AreFit (subject text : List ℕ) : Type 0 where
  pub subject_short : length subject ≤ MOST_SUBJECT_BYTES
  pub text_short : length text ≤ MOST_POSTED_TEXT_BYTES

-- so do those without a refusal
pub fit_parts : (subject text : List ℕ) → parts_refusal subject text ≡ None → AreFit subject text
fit_parts subject text none =
    let long = none_of (nat_lt MOST_SUBJECT_BYTES (length subject)) _ _ none in
    let more = none_of (nat_lt MOST_POSTED_TEXT_BYTES (length text)) _ _ long.1 in
    record {
      subject_short = ltb-false MOST_SUBJECT_BYTES (length subject) long.0;
      text_short = ltb-false MOST_POSTED_TEXT_BYTES (length text) more.0;
    }

-- a draft of which no part is refused keeps the limits of its parts
pub record IsFit (draft : Draft) : Type 0 where
  pub to : length draft.to ≤ MOST_NAME_BYTES
  pub subject : length draft.subject ≤ MOST_SUBJECT_BYTES
  pub text : length draft.text ≤ MOST_POSTED_TEXT_BYTES

-- so does one without a refusal
pub fit_draft : (draft : Draft) → draft_refusal draft ≡ None → IsFit draft
fit_draft draft none =
    let empty = none_of (length draft.to == 0) _ _ none in
    let name = none_of (nat_lt MOST_NAME_BYTES (length draft.to)) _ _ empty.1 in
    let parts = fit_parts draft.subject draft.text name.1 in
    record {
      to = ltb-false MOST_NAME_BYTES (length draft.to) name.0;
      subject = parts.subject_short;
      text = parts.text_short;
    }

-- what there is room for
pub record HasRoom (rules : AreaRules) (state : AreaState) (message : LiveMessage) : Type 0 where
  pub numbers : next_number state ≤ LAST_POSTED_NUMBER
  pub slots : length state.slots < rules.slots

-- so is a message without a refusal
pub room_for : (rules : AreaRules) (state : AreaState) (message : LiveMessage) → room_refusal rules state message ≡ None → HasRoom rules state message
room_for rules state message none =
    let numbers = none_of (nat_lt LAST_POSTED_NUMBER (next_number state)) _ _ none in
    let slots = none_of (nat_le rules.slots (length state.slots)) _ _ numbers.1 in
    record { numbers = ltb-false LAST_POSTED_NUMBER (next_number state) numbers.0; slots = leb-false rules.slots (length state.slots) slots.0 }

-- the bytes of one subfield and more
pub length-subfields : (field : Subfield) (fields : List Subfield) → length (subfield_bytes (field ∷ fields)) ≡ 8 + length field.bytes + length (subfield_bytes fields)
length-subfields field fields =
    let all : length (one_subfield field ++ subfield_bytes fields) ≡ length (one_subfield field) + length (subfield_bytes fields) = length-append (one_subfield field) (subfield_bytes fields) in
    let own : length (number_bytes 2 field.id ++ number_bytes 2 field.hi ++ number_bytes 4 (length field.bytes) ++ field.bytes) ≡ length (number_bytes 2 field.id ++ number_bytes 2 field.hi ++ number_bytes 4 (length field.bytes)) + length field.bytes =
    length-append (number_bytes 2 field.id ++ number_bytes 2 field.hi ++ number_bytes 4 (length field.bytes)) field.bytes in
    let size : length (number_bytes 2 field.id ++ number_bytes 2 field.hi ++ number_bytes 4 (length field.bytes)) ≡ length (number_bytes 2 field.id ++ number_bytes 2 field.hi) + length (number_bytes 4 (length field.bytes)) =
    length-append (number_bytes 2 field.id ++ number_bytes 2 field.hi) (number_bytes 4 (length field.bytes)) in
    let ids : length (number_bytes 2 field.id ++ number_bytes 2 field.hi) ≡ length (number_bytes 2 field.id) + length (number_bytes 2 field.hi) = length-append (number_bytes 2 field.id) (number_bytes 2 field.hi) in
    omega (arith, all, own, size, ids, length-number_bytes 2 field.id, length-number_bytes 2 field.hi, length-number_bytes 4 (length field.bytes))

-- so many digits
length-hex_digits : (width number : ℕ) → length (hex_digits width number) ≡ width
length-hex_digits zero number = refl
length-hex_digits (suc width) number = omega (arith, length_push (hex_digits width (number / 16)) (digit_char (number % 16)), length-hex_digits width (number / 16))

-- a MSGID is nine bytes longer than the address
length-posted_msgid : (rules : AreaRules) (number : ℕ) → length (posted_msgid rules number) ≡ length rules.address + 9
length-posted_msgid rules number =
    let serial : ℕ = rules.ordinal * 2 ^ 24 + number in
    omega (arith, length-append rules.address (32 ∷ hex_digits 8 serial), length-hex_digits 8 serial)

-- an id that is copied is not too long
copied_short : (found : Option (List ℕ)) (id : List ℕ) → option_and_then if_copied found ≡ Some id → length id ≤ MOST_COPIED_MSGID_BYTES
copied_short None id is = absurd (cc)
copied_short (Some one) id is =
    cond_both (nat_le (length one) MOST_COPIED_MSGID_BYTES) (Some one) None (λ (o : Option (List ℕ)). o ≡ Some id → length id ≤ MOST_COPIED_MSGID_BYTES)
    (λ short same. let it : one ≡ id = ap (λ (o : Option (List ℕ)). unwrap_or o one) same in
    let P : List ℕ → Type 0 = λ l. length l ≤ MOST_COPIED_MSGID_BYTES in
    subst P it (leb-true (length one) MOST_COPIED_MSGID_BYTES short))
    (λ long same. absurd (cc)) is

-- the subfields of a post with this REPLYID
abbrev pub fields_with : List ℕ → List ℕ → List ℕ → List ℕ → Option (List ℕ) → List Subfield
fields_with from to msgid subject replyid =
    (plain_field SENDER_NAME from ∷ plain_field RECEIVER_NAME to ∷ plain_field MSGID msgid ∷ [])
    ++ map (plain_field REPLYID) (option_to_list replyid)
    ++ plain_field SUBJECT subject ∷ []

-- they have few bytes where their parts have few
fields_few : (from to msgid subject : List ℕ) (replyid : Option (List ℕ)) → length from ≤ 36 → length to ≤ 36 → length msgid ≤ 33 → length subject ≤ 72 → ((id : List ℕ) → replyid ≡ Some id → length id ≤ 4096) → length (subfield_bytes (fields_with from to msgid subject replyid)) ≤ MOST_SUBFIELD_BYTES
fields_few from to msgid subject None a b c d e =
    omega (
      arith,
      length-subfields (plain_field SENDER_NAME from) (plain_field RECEIVER_NAME to ∷ plain_field MSGID msgid ∷ plain_field SUBJECT subject ∷ []),
      length-subfields (plain_field RECEIVER_NAME to) (plain_field MSGID msgid ∷ plain_field SUBJECT subject ∷ []),
      length-subfields (plain_field MSGID msgid) (plain_field SUBJECT subject ∷ []),
      length-subfields (plain_field SUBJECT subject) [],
    )
fields_few from to msgid subject (Some id) a b c d e =
    let f : length id ≤ 4096 = e id refl in
    omega (
      arith,
      length-subfields (plain_field SENDER_NAME from) (plain_field RECEIVER_NAME to ∷ plain_field MSGID msgid ∷ plain_field REPLYID id ∷ plain_field SUBJECT subject ∷ []),
      length-subfields (plain_field RECEIVER_NAME to) (plain_field MSGID msgid ∷ plain_field REPLYID id ∷ plain_field SUBJECT subject ∷ []),
      length-subfields (plain_field MSGID msgid) (plain_field REPLYID id ∷ plain_field SUBJECT subject ∷ []),
      length-subfields (plain_field REPLYID id) (plain_field SUBJECT subject ∷ []),
      length-subfields (plain_field SUBJECT subject) [],
    )

-- a posted message is not marked as killed
posted_live : (kind : Kind) (private : Bool) → bit_and (LOCAL + kind_attribute kind + cond private PRIVATE 0) DELETED ≡ 0
posted_live Local true = refl
posted_live Local false = refl
posted_live Echo true = refl
posted_live Echo false = refl

-- a posted message is in range
pub posted_in_range : (rules : AreaRules) (state : AreaState) (user : User) (moment : ℕ) (draft : Draft) → length user.name ≤ MOST_NAME_BYTES → length rules.address ≤ MOST_ADDRESS_BYTES → IsFit draft → IsMessageInRange (posted_message rules state user moment draft)
posted_in_range rules state user moment draft name address fit =
    let to = fit.to in let subject = fit.subject in let text = fit.text in
    record {
      few_bytes =
          fields_few user.name draft.to (posted_msgid rules (next_number state)) draft.subject (posted_replyid state draft.reply_to) name to
          (omega (arith, length-posted_msgid rules (next_number state))) subject
          (λ id is. copied_short (option_and_then (λ (answered : LiveMessage). msgid_of answered.subfields) (message_at state draft.reply_to)) id is);
      short_text = omega arith;
      live = posted_live rules.kind draft.private;
    }

-- messages with the same subfields, text and attribute are in range together
pub range_same : (message other : LiveMessage) → length (subfield_bytes other.subfields) ≡ length (subfield_bytes message.subfields) → length other.text ≡ length message.text → bit_and other.head.attribute DELETED ≡ bit_and message.head.attribute DELETED → IsMessageInRange message → IsMessageInRange other
range_same message other fields text attribute range =
    let few = range.few_bytes in let short = range.short_text in
    record { few_bytes = omega arith; short_text = omega arith; live = attribute ∙ range.live }

-- a message that is read is in range
pub read_in_range : (user : User) (moment : ℕ) (message : LiveMessage) → IsMessageInRange message → IsMessageInRange (read_message user moment message)
read_in_range user moment message range =
    cond_both (same_name user.name (receiver_of message.subfields)) (record message { head = received_at moment (read_once_more message.head) }) (record message { head = read_once_more message.head })
    IsMessageInRange
    (λ same. range_same message (record message { head = received_at moment (read_once_more message.head) }) refl refl (read_keeps_deleted message.head.attribute) range)
    (λ other. range_same message (record message { head = read_once_more message.head }) refl refl refl range)

-- the files have room for a message
pub record HasFilesFor (state : AreaState) (message : LiveMessage) : Type 0 where
  pub headers : state.headers_len + header_length message ≤ HEADERS_CEILING
  pub texts : state.texts_len + length message.text ≤ TEXTS_CEILING

-- so have they for one without a refusal
pub files_for : (state : AreaState) (message : LiveMessage) → files_refusal state message ≡ None → HasFilesFor state message
files_for state message none =
    let headers = none_of (nat_lt HEADERS_CEILING (state.headers_len + header_length message)) _ _ none in
    let texts = none_of (nat_lt TEXTS_CEILING (state.texts_len + length message.text)) _ _ headers.1 in
    record {
      headers = ltb-false HEADERS_CEILING (state.headers_len + header_length message) headers.0;
      texts = ltb-false TEXTS_CEILING (state.texts_len + length message.text) texts.0;
    }

-- an edited message without a refusal: a header may have its subfields, and the files have room
pub record HasRoomAnew (state : AreaState) (message : LiveMessage) : Type 0 where
  pub few_bytes : length (subfield_bytes message.subfields) ≤ MOST_SUBFIELD_BYTES
  pub files : HasFilesFor state message

-- so it is
pub room_anew : (state : AreaState) (message : LiveMessage) → edit_refusal state message ≡ None → HasRoomAnew state message
room_anew state message none =
    let few = none_of (nat_lt MOST_SUBFIELD_BYTES (length (subfield_bytes message.subfields))) _ _ none in
    record {
      few_bytes = ltb-false MOST_SUBFIELD_BYTES (length (subfield_bytes message.subfields)) few.0;
      files = files_for state message few.1;
    }

-- a message that is edited is in range
pub edited_in_range : (state : AreaState) (subject text : List ℕ) (message : LiveMessage) → length text ≤ MOST_POSTED_TEXT_BYTES → HasRoomAnew state (edited subject text message)
    → IsMessageInRange message → IsMessageInRange (edited subject text message)
edited_in_range state subject text message short room range =
    record { few_bytes = room.few_bytes; short_text = omega arith; live = range.live }

-- the message at a place is in range
range_at : (slots : List SlotState) (k : ℕ) (message : LiveMessage) → live_of (slice_get slots k) ≡ Some message → All IsSlotInRange slots → IsMessageInRange message
range_at [] k message is each = absurd (cc)
range_at (no_message ∷ slots) zero message is each = absurd (cc)
range_at (killed_message ∷ slots) zero message is each = absurd (cc)
range_at (live_message one ∷ slots) zero message is each =
    subst IsMessageInRange (ap (λ (o : Option LiveMessage). unwrap_or o one) is) (each 0 no_message (omega arith))
range_at (slot ∷ slots) (suc k) message is each = range_at slots k message is (λ j e inside. each (suc j) e (omega arith))

-- so is the message that a number names
range_of : (state : AreaState) (number : ℕ) (message : LiveMessage) → message_at state number ≡ Some message → All IsSlotInRange state.slots → IsMessageInRange message
range_of state number message is each =
    cond_both (nat_lt number state.base) None (live_of (slice_get state.slots (number - state.base)))
    (λ (found : Option LiveMessage). found ≡ Some message → IsMessageInRange message)
    (λ below none. absurd (cc)) (λ within found. range_at state.slots (number - state.base) message found each) is
