-- An edit leaves the index of the replies, since the links rest on nothing that it changes.
use Rattle.std.proofs.Common.{◌≡◌, ℕ, ◌+◌, ◌-◌, ◌<◌, ◌≤◌, inl, inr, List, [], length, refl, sym, ◌∙◌, ap, subst, arith}
use Rattle.std.specs.Prelude.{Option, Some, None, IsSome, is_some, option_and_then, option_map, slice_get, unwrap_or}
use Rattle.std.proofs.lemmas.Bool.{cases_eq}
use Rattle.std.proofs.lemmas.List.{length-set}
use Rattle.std.proofs.lemmas.Option.{slice_get_within}
use Rattle.jb_bytes.specs.Subfields.{first_of}
use Rattle.jb_bytes.specs.declared.subfield.Subfield.{Subfield}
use Rattle.jb_bytes.specs.declared.subfield.TheConstants.{MSGID, REPLYID}
use Rattle.jb_link.proofs.AreaLemmas.{by_place, get_put, named_beside}
use Rattle.jb_link.proofs.IndexLemmas.{rises_alike}
use Rattle.jb_link.specs.IdLists.{IsIdList, id_at, id_place}
use Rattle.jb_link.specs.Index.{IsIndexOf, ReplyIndex}
use Rattle.jb_link.specs.Kept.{IsKeptList, KeepsReplyTo}
use Rattle.jb_link.specs.Order.{id_order}
use Rattle.jb_state.specs.Change.{FitsAnew}
use Rattle.jb_state.specs.Links.{Linkable}
use Rattle.jb_state.specs.LiveSlots.{loaded_linkable, message_in}
use Rattle.jb_state.specs.Loaded.{IsMessageAt, with_message_anew, with_slot_at}
use Rattle.jb_state.specs.Message.{msgid_of, replyid_of}
use Rattle.jb_state.specs.Plan.{loaded_at}
use Rattle.jb_state.specs.declared.loaded.Loaded.{Loaded}
use Rattle.jb_state.specs.declared.loaded.LoadedMessage.{LoadedMessage}
use Rattle.jb_state.specs.declared.loaded.LoadedSlot.TheVariants.{Live}
use Rattle.jb_state.specs.declared.message.Head.{Head}
use Rattle.jb_state.proofs.EditLaws.{edited_linkable}

-- what links rest on, of the message that a number names
abbrev linkable_at : Loaded → ℕ → Option Linkable
linkable_at loaded number = option_map (loaded_linkable number) (loaded_at loaded number)

-- a MSGID is that of what links rest on
msgid_told : (number : ℕ) (found : Option LoadedMessage)
    → option_and_then (λ (m : LoadedMessage). first_of MSGID m.subfields) found ≡ option_and_then (λ (l : Linkable). l.msgid) (option_map (loaded_linkable number) found)
msgid_told number None = refl
msgid_told number (Some message) = refl

-- so is a REPLYID
replyid_told : (number : ℕ) (found : Option LoadedMessage)
    → option_and_then (λ (m : LoadedMessage). first_of REPLYID m.subfields) found ≡ option_and_then (λ (l : Linkable). l.replyid) (option_map (loaded_linkable number) found)
replyid_told number None = refl
replyid_told number (Some message) = refl

-- a message stands where links rest on one
live_told : (number : ℕ) (found : Option LoadedMessage) → is_some found ≡ is_some (option_map (loaded_linkable number) found)
live_told number None = refl
live_told number (Some message) = refl

-- where links rest on the same, what was kept is kept
keeps_alike : (old new : Loaded) (kept number : ℕ) → linkable_at new number ≡ linkable_at old number → KeepsReplyTo old kept number → KeepsReplyTo new kept number
keeps_alike old new kept number same keeps = by (loaded_at new number) refl (same ∙ ap (option_map (loaded_linkable number)) keeps.live)
  where
    by : (found : Option LoadedMessage) → loaded_at new number ≡ found → option_map (loaded_linkable number) found ≡ Some (loaded_linkable number keeps.message)
        → KeepsReplyTo new kept number
    by None live is = absurd (cc)
    by (Some message) live is =
        let one : loaded_linkable number message ≡ loaded_linkable number keeps.message =
        ap (λ (found : Option Linkable). unwrap_or found (loaded_linkable number message)) is in
        record {
          message = message;
          live = live;
          no_id = ap (λ (l : Linkable). l.replyid) one ∙ keeps.no_id;
          reply_to = ap (λ (l : Linkable). l.kept) one ∙ keeps.reply_to;
        }

-- where links rest on the same of each message, the index stays
linked_alike : (replies : ReplyIndex) (old new : Loaded) → new.base ≡ old.base → length new.slots ≡ length old.slots
    → ((number : ℕ) → linkable_at new number ≡ linkable_at old number) → IsIndexOf replies old → IsIndexOf replies new
linked_alike replies old new base long same index = record {
  ids = ids MSGID msgids replies.ids index.ids;
  answers = ids REPLYID replyids replies.answers index.answers;
  kept = pairs index.kept;
}
  where
    msgids : (number : ℕ) → id_at MSGID new number ≡ id_at MSGID old number
    msgids number =
        msgid_told number (loaded_at new number) ∙ ap (option_and_then (λ (l : Linkable). l.msgid)) (same number) ∙ sym (msgid_told number (loaded_at old number))

    replyids : (number : ℕ) → id_at REPLYID new number ≡ id_at REPLYID old number
    replyids number =
        replyid_told number (loaded_at new number) ∙ ap (option_and_then (λ (l : Linkable). l.replyid)) (same number) ∙ sym (replyid_told number (loaded_at old number))

    lives : (number : ℕ) → is_some (loaded_at new number) ≡ is_some (loaded_at old number)
    lives number = live_told number (loaded_at new number) ∙ ap is_some (same number) ∙ sym (live_told number (loaded_at old number))

    place : ℕ → Option (List ℕ) → List ℕ × ℕ
    place number found = (unwrap_or found [], number)

    ids : (kind : ℕ) → ((number : ℕ) → id_at kind new number ≡ id_at kind old number) → (numbers : List ℕ) → IsIdList kind old numbers → IsIdList kind new numbers
    ids kind alike numbers list = record {
      listed = λ number. (
        λ here. subst (λ found. IsSome found) (sym (alike number)) ((list.listed number).0 here),
        λ some. (list.listed number).1 (subst (λ found. IsSome found) (alike number) some),
      );
      rising = rises_alike id_order (id_place kind old) (id_place kind new) numbers list.rising (λ number here. ap (place number) (alike number));
    }

    pairs : IsKeptList old replies.kept → IsKeptList new replies.kept
    pairs list = record {
      each = λ kept number here.
          let was = list.each kept number here in
          record {
            later = was.later;
            there = omega (arith, was.there, base, long);
            keeps = λ live. (let lived : IsSome (loaded_at old kept) = sym (lives kept) ∙ live in keeps_alike old new kept number (same number) (was.keeps lived));
          };
      whole = λ kept number lower live keeps.
          (let lived : IsSome (loaded_at old kept) = sym (lives kept) ∙ live in
          list.whole kept number lower lived (keeps_alike new old kept number (sym (same number)) keeps));
      rising = list.rising;
    }

-- what links rest on, of these parts
abbrev linked : ℕ → Option (List ℕ) → Option (List ℕ) → ℕ → Linkable
linked number msgid replyid kept = record { number = number; msgid = msgid; replyid = replyid; kept = kept }

-- links rest on the same of a message after an edit
anew_linkable : (place : ℕ) (message : LoadedMessage) (loaded : Loaded) (fits : FitsAnew place message loaded) (number : ℕ)
    → loaded_linkable number message ≡ loaded_linkable number fits.was
anew_linkable place message loaded fits number =
    ap (λ (head : Head). linked number (msgid_of message.subfields) (replyid_of message.subfields) head.reply_to) fits.head
    ∙ ap (λ (fields : List Subfield). linked number (msgid_of fields) (replyid_of fields) fits.was.head.reply_to) fits.subfields
    ∙ edited_linkable fits.subject [] number (record { owner = fits.was.owner; head = fits.was.head; subfields = fits.was.subfields; text = [] })

-- links rest on the same of each message where one is put in the place of another of which they do
linkable_there : (loaded : Loaded) (one : ℕ) (message was : LoadedMessage) → loaded.base ≤ one → IsMessageAt loaded (one - loaded.base) was
    → ((number : ℕ) → loaded_linkable number message ≡ loaded_linkable number was)
    → (number : ℕ) → linkable_at (with_slot_at (one - loaded.base) (Live message) loaded) number ≡ linkable_at loaded number
linkable_there loaded one message was from here alike number = elim (cases_eq number one) [
  | inl is ↦
      (let within : one - loaded.base < length loaded.slots = slice_get_within loaded.slots (one - loaded.base) (Live was) here in
      let new : loaded_at (with_slot_at (one - loaded.base) (Live message) loaded) one ≡ Some message =
      by_place (with_slot_at (one - loaded.base) (Live message) loaded) one from
      ∙ ap message_in (get_put loaded.slots (one - loaded.base) (Live message) within) in
      let old : loaded_at loaded one ≡ Some was = by_place loaded one from ∙ ap message_in here in
      ap (linkable_at (with_slot_at (one - loaded.base) (Live message) loaded)) is ∙ ap (option_map (loaded_linkable one)) new ∙ ap Some (alike one)
      ∙ sym (ap (linkable_at loaded) is ∙ ap (option_map (loaded_linkable one)) old))
  | inr other ↦ ap (option_map (loaded_linkable number)) (named_beside loaded one (Live message) number from other)
]

-- the index after an edit, before it is counted
pub edited_index : (replies : ReplyIndex) (place : ℕ) (message : LoadedMessage) (loaded : Loaded) → FitsAnew place message loaded → IsIndexOf replies loaded
    → IsIndexOf replies (with_message_anew place message loaded)
edited_index replies place message loaded fits =
    let is : loaded.base + place - loaded.base ≡ place = omega arith in
    linked_alike replies loaded (with_message_anew place message loaded) refl (length-set loaded.slots place (Live message))
    (λ number. subst (λ (k : ℕ). linkable_at (with_slot_at k (Live message) loaded) number ≡ linkable_at loaded number) is
    (linkable_there loaded (loaded.base + place) message fits.was (omega arith) (ap (slice_get loaded.slots) is ∙ fits.here)
    (anew_linkable place message loaded fits) number))
