-- What an area is in files that hold the same.
use Rattle.std.proofs.Common.{◌≡◌, ◌≢◌, ℕ, ◌+◌, ◌*◌, List, [], ◌∷◌, length, ap, sym, ◌∙◌, subst}
use Rattle.std.specs.Prelude.{bit_and, slice_index_or}
use Rattle.jb_bytes.specs.Subfields.{IsSubfieldList}
use Rattle.jb_base.specs.declared.attribute.TheConstants.{DELETED}
use Rattle.jb_disk.specs.Files.{Files}
use Rattle.jb_disk.specs.declared.file.FileId.TheVariants.{Jdt, Jdx, Jhr, Jlr}
use Rattle.jb_image.specs.Places.{bytes_at, entry_in, header_in}
use Rattle.jb_image.specs.Stands.{Loads, HasHeader, HasSlot, IsLiveIn, IsLiveHeader, head_of}
use Rattle.jb_state.specs.Loaded.{header_size}
use Rattle.jb_state.specs.Sound.{IsWithin}
use Rattle.jb_state.specs.declared.change.Change.{Change}
use Rattle.jb_state.specs.declared.loaded.Loaded.{Loaded}
use Rattle.jb_state.specs.declared.loaded.LoadedMessage.{LoadedMessage}
use Rattle.jb_state.specs.declared.loaded.LoadedSlot.{LoadedSlot}
use Rattle.jb_state.specs.declared.loaded.LoadedSlot.TheVariants.{Empty, Killed, Live}
use Rattle.jb_model.specs.declared.reply.Reply.{Reply}
use Rattle.jb_model.specs.declared.reply.Reply.TheVariants as replies
use Rattle.jb_pack.specs.Standing.{StandTogether}
use Rattle.jb_record.specs.declared.index.IndexRecord.{IndexRecord}
use Rattle.jb_record.specs.declared.message.MessageHeader.{MessageHeader}
use Rattle.jb_record.specs.Fixed.{IsFixedHeader, fixed_header_of}
use Rattle.jb_record.specs.Index.{index_record_of}
use Rattle.jb_record.specs.Lastread.{lastread_record_of}
use Rattle.jb_record.specs.Message.{IsMessageHeader, message_header_of}
use Rattle.jb_decide.specs.Headers.{KeepsHeaders, NamesWritten, PacksHeaders}

-- files that hold the same in the four files of the base
module _ (files other : Files) (jhr : files Jhr ≡ other Jhr) (jdt : files Jdt ≡ other Jdt) (jdx : files Jdx ≡ other Jdx) (jlr : files Jlr ≡ other Jlr) where
  -- a fact of the headers
  by_headers : (P : List ℕ → Type 0) → P (other Jhr) → P (files Jhr)
  by_headers P is = subst P (sym jhr) is

  -- a header
  header_agrees : (at : ℕ) → HasHeader other at → HasHeader files at
  header_agrees at has = record {
    placed = by_headers (λ b. IsWithin (length b) at 76) has.placed;
    shaped = by_headers (λ b. IsMessageHeader (bytes_at at 76 b)) has.shaped;
  }

  -- what stands in it
  header_same : (at : ℕ) → header_in files at ≡ header_in other at
  header_same at = ap (λ (b : List ℕ). message_header_of (bytes_at at 76 b)) jhr

  -- a live message
  live_agrees : (message : LoadedMessage) → IsLiveIn other message → IsLiveIn files message
  live_agrees message is = record {
    header = header_agrees message.header_at is.header;
    live = subst (λ (h : MessageHeader). IsLiveHeader (length (files Jhr)) (length (files Jdt)) message.header_at h) (sym (header_same message.header_at))
        (subst (λ (t : List ℕ). IsLiveHeader (length (files Jhr)) (length t) message.header_at (header_in other message.header_at)) (sym jdt)
        (by_headers (λ b. IsLiveHeader (length b) (length (other Jdt)) message.header_at (header_in other message.header_at)) is.live));
    subfields = subst (λ (h : MessageHeader). IsSubfieldList message.subfields (bytes_at (message.header_at + 76) h.subfields (files Jhr))) (sym (header_same message.header_at))
        (by_headers (λ b. IsSubfieldList message.subfields (bytes_at (message.header_at + 76) (header_in other message.header_at).subfields b)) is.subfields);
    head = is.head ∙ ap head_of (sym (header_same message.header_at));
    text_at = is.text_at ∙ ap (λ (h : MessageHeader). h.offset) (sym (header_same message.header_at));
    text_len = is.text_len ∙ ap (λ (h : MessageHeader). h.text_len) (sym (header_same message.header_at));
  }

  -- an index record
  entry_same : (k : ℕ) → entry_in files k ≡ entry_in other k
  entry_same k = ap (λ (b : List ℕ). index_record_of (bytes_at (8 * k) 8 b)) jdx

  -- a slot that one record names
  slot_agrees : (entry : IndexRecord) (slot : LoadedSlot) → HasSlot other entry slot → HasSlot files entry slot
  slot_agrees entry Empty has = has
  slot_agrees entry (Killed header_at) has = (
    has.0,
    record {
      header = header_agrees header_at has.1.header;
      deleted = subst (λ (h : MessageHeader). bit_and h.attribute DELETED ≢ 0) (sym (header_same header_at)) has.1.deleted;
    },
  )
  slot_agrees entry (Live message) has = (has.0, has.1, live_agrees message has.2)

  -- what is loaded
  pub loads_agree : (loaded : Loaded) → Loads loaded other → Loads loaded files
  loads_agree loaded loads = record {
    header = by_headers (λ b. IsFixedHeader (bytes_at 0 1024 b)) loads.header;
    fixed = loads.fixed ∙ ap (λ (b : List ℕ). fixed_header_of (bytes_at 0 1024 b)) (sym jhr);
    base = loads.base;
    numbers = loads.numbers;
    index = ap length jdx ∙ loads.index;
    slots = λ k d low. subst (λ (e : IndexRecord). HasSlot files e (slice_index_or loaded.slots k d)) (sym (entry_same k))
        (slot_agrees (entry_in other k) (slice_index_or loaded.slots k d) (loads.slots k d low));
    apart = loads.apart;
    lastread = ap length jlr ∙ loads.lastread;
    marks = λ k d low. loads.marks k d low ∙ ap (λ (b : List ℕ). lastread_record_of (bytes_at (16 * k) 16 b)) (sym jlr);
    few_marks = loads.few_marks;
    headers_len = loads.headers_len ∙ ap length (sym jhr);
    texts_len = loads.texts_len ∙ ap length (sym jdt);
  }

-- the headers of an area, in files with the same .JHR
pub headers_agree : (change : Change) (reply : Reply) (from to : Loaded) (was now other : Files) → now Jhr ≡ other Jhr → KeepsHeaders change reply from to was other
    → KeepsHeaders change reply from to was now
headers_agree change reply from to was now other jhr keeps = record {
  places = keeps.places;
  numbers = λ place at stays is. ap (λ (b : List ℕ). (message_header_of (bytes_at at 76 b)).number) jhr ∙ keeps.numbers place at stays is;
  behind = λ place message there here.
      let stands = keeps.behind place message there here in
      record {
        header_at = stands.header_at;
        text_at = stands.text_at;
        numbered = subst (λ (b : List ℕ). NamesWritten reply (message_header_of (bytes_at message.header_at 76 b)).number) (sym jhr) stands.numbered;
      };
}

-- messages that stand together do so in files with the same .JHR and .JDT
stand_agree : (now other : Files) (number header_at text_at : ℕ) (slots : List LoadedSlot) → now Jhr ≡ other Jhr → now Jdt ≡ other Jdt
    → StandTogether other number header_at text_at slots → StandTogether now number header_at text_at slots
stand_agree now other number header_at text_at [] jhr jdt stands = (ap length jhr ∙ stands.0, ap length jdt ∙ stands.1)
stand_agree now other number header_at text_at (Empty ∷ slots) jhr jdt stands = stand_agree now other (number + 1) header_at text_at slots jhr jdt stands
stand_agree now other number header_at text_at (Killed killed_at ∷ slots) jhr jdt stands = absurd stands
stand_agree now other number header_at text_at (Live message ∷ slots) jhr jdt stands = (
  record {
    header = stands.0.header;
    text = stands.0.text;
    numbered = ap (λ (b : List ℕ). (message_header_of (bytes_at header_at 76 b)).number) jhr ∙ stands.0.numbered;
  },
  stand_agree now other (number + 1) (header_at + header_size message) (text_at + message.text_len) slots jhr jdt stands.1,
)

-- and so do those of a pack
pub packs_agree : (reply : Reply) (to : Loaded) (now other : Files) → now Jhr ≡ other Jhr → now Jdt ≡ other Jdt → PacksHeaders reply to other → PacksHeaders reply to now
packs_agree (replies.Packed base live dropped) to now other jhr jdt packs = stand_agree now other to.base 1024 0 to.slots jhr jdt packs
packs_agree (replies.Posted number) to now other jhr jdt packs = tt
packs_agree (replies.Edited number) to now other jhr jdt packs = tt
packs_agree (replies.Text letter) to now other jhr jdt packs = tt
packs_agree (replies.Killed number) to now other jhr jdt packs = tt
packs_agree (replies.Marked last high) to now other jhr jdt packs = tt
packs_agree (replies.Relinked changed) to now other jhr jdt packs = tt
packs_agree (replies.Denied rule) to now other jhr jdt packs = tt
packs_agree (replies.NoMessage number) to now other jhr jdt packs = tt
packs_agree (replies.TooLong field len) to now other jhr jdt packs = tt
packs_agree (replies.EmptyName field) to now other jhr jdt packs = tt
packs_agree (replies.SlotsFull slots) to now other jhr jdt packs = tt
packs_agree (replies.SubfieldsFull len) to now other jhr jdt packs = tt
packs_agree (replies.HeadersFull len) to now other jhr jdt packs = tt
packs_agree (replies.TextFull len) to now other jhr jdt packs = tt
packs_agree (replies.NumbersSpent next) to now other jhr jdt packs = tt
packs_agree (replies.MarksFull marks) to now other jhr jdt packs = tt
