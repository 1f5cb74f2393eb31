-- What stands in files stands in longer ones too.
use Rattle.std.proofs.Common.{◌≡◌, inl, inr, ℕ, ◌+◌, ◌*◌, ◌≤◌, List, ◌++◌, length, ap, sym, ◌∙◌, subst, arith, length-append}
use Rattle.jb_bytes.specs.Subfields.{IsSubfieldList}
use Rattle.jb_disk.specs.Files.{Files}
use Rattle.jb_disk.specs.declared.file.FileId.TheVariants.{Jhr, Jdt, Jdx, Jlr}
use Rattle.jb_state.specs.Sound.{IsWithin, IsTextWithin}
use Rattle.jb_state.specs.declared.loaded.LoadedMessage.{LoadedMessage}
use Rattle.jb_state.specs.declared.loaded.LoadedSlot.{LoadedSlot}
use Rattle.jb_state.specs.declared.loaded.LoadedSlot.TheVariants.{Empty, Killed, Live}
use Rattle.jb_record.specs.Index.{index_record_of}
use Rattle.jb_record.specs.Lastread.{lastread_record_of}
use Rattle.jb_record.specs.Message.{IsMessageHeader, message_header_of}
use Rattle.jb_record.specs.declared.index.IndexRecord.{IndexRecord}
use Rattle.jb_record.specs.declared.message.MessageHeader.{MessageHeader}
use Rattle.jb_image.specs.Places.{bytes_at, entry_in, mark_record_at, header_in}
use Rattle.jb_image.specs.Stands.{HasHeader, HasSlot, IsDeleted, IsLiveHeader, IsLiveIn, head_of}
use Rattle.jb_change.proofs.EndLemmas.{below_end}

-- bytes that lie within a file lie within a longer one
pub within_longer : (one other at len : ℕ) → one ≤ other → IsWithin one at len → IsWithin other at len
within_longer one other at len longer within = record { after = within.after; inside = omega (arith, within.inside); below = within.below }

-- and so does a text
pub text_longer : (one other at len : ℕ) → one ≤ other → IsTextWithin one at len → IsTextWithin other at len
text_longer one other at len longer within = record {
  short = within.short;
  placed = elim within.placed [
    | inl none ↦ inl none
    | inr some ↦ inr (omega (arith, some.0), some.1)
  ];
}

-- a live message's header fits into longer files
live_longer : (headers texts more_headers more_texts at : ℕ) (header : MessageHeader) → headers ≤ more_headers → texts ≤ more_texts
    → IsLiveHeader headers texts at header → IsLiveHeader more_headers more_texts at header
live_longer headers texts more_headers more_texts at header longer longer' is = record {
  live = is.live;
  few_bytes = is.few_bytes;
  placed = within_longer headers more_headers at (76 + header.subfields) longer is.placed;
  text = text_longer texts more_texts header.offset header.text_len longer' is.text;
}

module _ (files after : Files) (headers texts : List ℕ) (jhr : after Jhr ≡ files Jhr ++ headers) (jdt : after Jdt ≡ files Jdt ++ texts) where
  -- .JHR is no shorter
  headers_longer : length (files Jhr) ≤ length (after Jhr)
  headers_longer = omega (arith, ap length jhr, length-append (files Jhr) headers)

  -- and .JDT neither
  texts_longer : length (files Jdt) ≤ length (after Jdt)
  texts_longer = omega (arith, ap length jdt, length-append (files Jdt) texts)

  -- a header reads the same
  header_kept : (at : ℕ) → HasHeader files at → header_in after at ≡ header_in files at
  header_kept at has = ap message_header_of (below_end (files Jhr) (after Jhr) headers at 76 jhr has.placed.inside)

  -- and stands there still
  has_header_kept : (at : ℕ) → HasHeader files at → HasHeader after at
  has_header_kept at has = record {
    placed = within_longer _ _ at 76 headers_longer has.placed;
    shaped = subst IsMessageHeader (sym (below_end (files Jhr) (after Jhr) headers at 76 jhr has.placed.inside)) has.shaped;
  }

  -- a live message stands there still
  live_kept : (message : LoadedMessage) → IsLiveIn files message → IsLiveIn after message
  live_kept message is =
      let at : ℕ = message.header_at in
      let same : header_in after at ≡ header_in files at = header_kept at is.header in
      let inside = is.live.placed.inside in
      let bytes : bytes_at (at + 76) (header_in after at).subfields (after Jhr) ≡ bytes_at (at + 76) (header_in files at).subfields (files Jhr) =
      ap (λ (h : MessageHeader). bytes_at (at + 76) h.subfields (after Jhr)) same
      ∙ below_end (files Jhr) (after Jhr) headers (at + 76) (header_in files at).subfields jhr (omega arith) in
      record {
        header = has_header_kept at is.header;
        live = subst (IsLiveHeader (length (after Jhr)) (length (after Jdt)) at) (sym same) (live_longer _ _ _ _ at (header_in files at) headers_longer texts_longer is.live);
        subfields = subst (IsSubfieldList message.subfields) (sym bytes) is.subfields;
        head = is.head ∙ ap head_of (sym same);
        text_at = is.text_at ∙ ap (λ (h : MessageHeader). h.offset) (sym same);
        text_len = is.text_len ∙ ap (λ (h : MessageHeader). h.text_len) (sym same);
      }

  -- an index record names its slot still
  pub slot_kept : (entry : IndexRecord) (slot : LoadedSlot) → HasSlot files entry slot → HasSlot after entry slot
  slot_kept entry Empty is = is
  slot_kept entry (Killed header_at) is = (
    is.0,
    record {
      header = has_header_kept header_at is.1.header;
      deleted = subst IsDeleted (sym (header_kept header_at is.1.header)) is.1.deleted;
    },
  )
  slot_kept entry (Live message) is = (is.0, is.1, live_kept message is.2)

-- an index record reads the same
pub entry_kept : (files after : Files) (more : List ℕ) (k : ℕ) → after Jdx ≡ files Jdx ++ more → 8 * k + 8 ≤ length (files Jdx) → entry_in after k ≡ entry_in files k
entry_kept files after more k jdx within = ap index_record_of (below_end (files Jdx) (after Jdx) more (8 * k) 8 jdx within)

-- and so does a lastread record
pub mark_kept : (files after : Files) (more : List ℕ) (k : ℕ) → after Jlr ≡ files Jlr ++ more → 16 * k + 16 ≤ length (files Jlr) → mark_record_at after k ≡ mark_record_at files k
mark_kept files after more k jlr within = ap lastread_record_of (below_end (files Jlr) (after Jlr) more (16 * k) 16 jlr within)
