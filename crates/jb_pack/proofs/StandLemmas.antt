-- The messages of a packed area stand in its files one behind another.
use Rattle.std.proofs.Common.{◌≡◌, ℕ, ◌+◌, ◌≤◌, List, [], ◌∷◌, ◌++◌, length, refl, sym, ◌∙◌, ap, arith, append_assoc, length-append}
use Rattle.std.proofs.lemmas.List.Sums.{sum_by-cons}
use Rattle.jb_bytes.specs.Subfields.{subfield_bytes}
use Rattle.jb_limits.specs.declared.limits.TheConstants.{TEXTS_CEILING}
use Rattle.jb_disk.specs.Files.{Files}
use Rattle.jb_disk.specs.declared.file.FileId.TheVariants.{Jdt, Jhr}
use Rattle.jb_image.specs.Places.{header_in}
use Rattle.jb_image.specs.Stands.{Loads, fixed_of}
use Rattle.jb_state.specs.LiveSlots.{linkables_from}
use Rattle.jb_state.specs.Links.{Linkable}
use Rattle.jb_state.specs.Loaded.{header_size}
use Rattle.jb_state.specs.Sound.{IsSound}
use Rattle.jb_state.specs.declared.loaded.Loaded.{Loaded}
use Rattle.jb_state.specs.declared.loaded.LoadedMessage.{LoadedMessage}
use Rattle.jb_state.specs.declared.loaded.LoadedSlot.{LoadedSlot}
use Rattle.jb_state.specs.declared.loaded.LoadedSlot.TheVariants.{Empty, Killed, Live}
use Rattle.jb_record.specs.Fixed.{fixed_header_bytes}
use Rattle.jb_record.specs.Index.{index_record_bytes}
use Rattle.jb_record.specs.Message.{message_header_bytes, message_header_of}
use Rattle.jb_record.specs.declared.message.MessageHeader.{MessageHeader}
use Rattle.jb_image.specs.Records.{entry_for, message_bytes, numbered_header}
use Rattle.jb_pack.specs.Bytes.{IsReadAgain, headers_bytes}
use Rattle.jb_pack.specs.Laws.{ArePacked}
use Rattle.jb_state.specs.Packed.{kept_slots, new_base, packed, packed_from, slot_text_size, texts_size}
use Rattle.jb_pack.specs.Standing.{StandTogether}
use Rattle.jb_image.proofs.RecordLemmas.{length-header}
use Rattle.jb_pack.proofs.HeldLemmas.{IsLaid, first_behind, laid_message, laid_packed, next_empty, next_live}

-- the number in a header that stands behind others
numbered_there : (after : Files) (number : ℕ) (message : LoadedMessage) (front rest : List ℕ) → after Jhr ≡ front ++ (message_bytes number message ++ rest)
    → message.header_at ≡ length front → message_header_of (message_header_bytes (numbered_header number message)) ≡ numbered_header number message
    → (header_in after message.header_at).number ≡ number
numbered_there after number message front rest jhr at_is back =
    let bytes : List ℕ = message_header_bytes (numbered_header number message) in
    let fields : List ℕ = subfield_bytes message.subfields in
    let whole : after Jhr ≡ front ++ (bytes ++ (fields ++ rest)) = jhr ∙ ap (λ (l : List ℕ). front ++ l) (append_assoc bytes fields rest) in
    let there = first_behind front bytes (fields ++ rest) (after Jhr) message.header_at 76 whole at_is (sym (length-header (numbered_header number message))) in
    ap (λ (h : MessageHeader). h.number) (ap message_header_of there ∙ back)

module _ (after : Files) (live : List Linkable) (headers_len texts_len : ℕ) where
  -- slots that are laid out up to the end stand together
  laid_together : (number header_at text_at place : ℕ) (front index : List ℕ) (slots : List LoadedSlot)
      → IsLaid after live headers_len texts_len number header_at text_at place front index slots → length (after Jdt) ≡ text_at + texts_size slots
      → StandTogether after number header_at text_at (packed_from live number header_at text_at slots)
  laid_together number header_at text_at place front index [] laid texts =
      let at = laid.header_at_is in
      (omega (arith, ap length laid.jhr, length-append front [], at), omega (arith, texts))
  laid_together number header_at text_at place front index (Empty ∷ slots) laid texts =
      let none = sum_by-cons slot_text_size Empty slots in
      laid_together (number + 1) header_at text_at (place + 1) front (index ++ index_record_bytes (entry_for Empty)) slots
      (next_empty after live headers_len texts_len number header_at text_at place front index Empty slots refl refl refl laid) (omega (arith, texts, none))
  laid_together number header_at text_at place front index (Killed at ∷ slots) laid texts =
      let none = sum_by-cons slot_text_size (Killed at) slots in
      laid_together (number + 1) header_at text_at (place + 1) front (index ++ index_record_bytes (entry_for Empty)) slots
      (next_empty after live headers_len texts_len number header_at text_at place front index (Killed at) slots refl refl refl laid) (omega (arith, texts, none))
  laid_together number header_at text_at place front index (Live message ∷ slots) laid texts =
      let there : LoadedMessage = laid_message after live headers_len texts_len number header_at text_at message in
      let rest : List LoadedSlot = packed_from live (number + 1) (header_at + header_size message) (text_at + message.text_len) slots in
      let more = sum_by-cons slot_text_size (Live message) slots in (
        record {
          header = refl;
          text = refl;
          numbered = numbered_there after number there front (headers_bytes (number + 1) rest) laid.jhr laid.header_at_is laid.headers_back.0;
        },
        laid_together (number + 1) (header_at + header_size message) (text_at + message.text_len) (place + 1)
            (front ++ message_bytes number there) (index ++ index_record_bytes (entry_for (Live there))) slots
            (next_live after live headers_len texts_len number header_at text_at place front index message slots laid) (omega (arith, texts, more)),
      )

-- the messages of an area stand together in its files after a pack
pub packed_together : (limit : ℕ) (loaded : Loaded) (before after : Files) → IsSound limit loaded → (packed loaded).texts_len ≤ TEXTS_CEILING
    → IsReadAgain (packed loaded) → Loads loaded before → ArePacked loaded before after → StandTogether after (packed loaded).base 1024 0 (packed loaded).slots
packed_together limit loaded before after sound fits back loads are =
    let texts = are.texts in
    laid_together after (linkables_from loaded.base loaded.slots) loaded.headers_len loaded.texts_len (new_base loaded) 1024 0 0
    (fixed_header_bytes (fixed_of (packed loaded))) [] (kept_slots loaded) (laid_packed limit loaded before after sound fits back loads are) (omega (arith, texts))
