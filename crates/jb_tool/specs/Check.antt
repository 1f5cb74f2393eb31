-- What a check says of an area: eight lines, each a name, a space and what was found.
use Rattle.std.specs.Prelude.{◌≡◌, ◌⊎◌, ◌↔◌, ℕ, suc, Bool, true, false, Result, Ok, Err, Some, List, [], ◌∷◌, ◌++◌, ◌+◌, codes, decimal, count_by, if◌then◌else◌}
use Rattle.jb_bytes.specs.declared.subfield.Subfield.{Subfield}
use Rattle.jb_journal.specs.declared.error.Recovered.{Recovered}
use Rattle.jb_journal.specs.declared.error.Recovered.TheVariants.{Closed, Replayed}
use Rattle.jb_state.specs.Links.{IsLinked}
use Rattle.jb_state.specs.Live.{Numbered, killed_count, live_count, live_from, live_in}
use Rattle.jb_state.specs.Message.{msgid_of}
use Rattle.jb_state.specs.State.{AreaState, SlotState, killed_message, live_message, next_number, no_message, slot_state}
use Rattle.jb_state.specs.declared.loaded.LoadedSlot.{LoadedSlot}
use Rattle.jb_msgid.specs.Text.{IsMsgId}
use Rattle.jb_msgid.specs.declared.error.MsgIdError.{MsgIdError}
use Rattle.jb_msgid.specs.declared.error.MsgIdError.TheVariants.{BadQuote, EmptyAddress, NoSerial, OutOfMemory}
use Rattle.jb_msgid.specs.declared.value.MsgId.{MsgId}

-- no message stands there and none did
abbrev pub is_empty : SlotState → Bool
is_empty no_message = true
is_empty killed_message = false
is_empty (live_message message) = false

-- so many slots that never had a message, or lost it in a pack
abbrev pub empty_count : List SlotState → ℕ
empty_count slots = count_by is_empty slots

-- the text of the first MSGID is an address and a serial number (FTS-0009, "MSGID")
pub record HasReadableId (fields : List Subfield) : Type 0 where
  pub text : List ℕ
  pub found : msgid_of fields ≡ Some text
  pub value : MsgId
  pub reads : IsMsgId text value

-- whether a reading gave a value; one without memory tells nothing
abbrev pub IsReadAs : Result MsgId MsgIdError → Bool → Type 0
IsReadAs (Ok value) readable = readable ≡ true
IsReadAs (Err (NoSerial at)) readable = readable ≡ false
IsReadAs (Err (BadQuote at)) readable = readable ≡ false
IsReadAs (Err EmptyAddress) readable = readable ≡ false
IsReadAs (Err OutOfMemory) readable = ⊥

-- exactly so many of these live messages have such an id
abbrev pub HaveReadableIds : List Numbered → ℕ → Type 0
HaveReadableIds [] count = count ≡ 0
HaveReadableIds (one ∷ rest) count =
    (HasReadableId one.message.subfields × ((more : ℕ) × (count ≡ suc more) × HaveReadableIds rest more))
    ⊎ ((HasReadableId one.message.subfields → ⊥) × HaveReadableIds rest count)

-- the slot counts one more where it is answered so, in front of any others
abbrev pub CountsSlot : LoadedSlot → Bool → Type 0
CountsSlot slot readable = (texts : List ℕ) (number : ℕ) (behind : List SlotState) (count : ℕ)
    → HaveReadableIds (live_from (number + 1) behind) count
    → HaveReadableIds (live_from number (slot_state texts slot ∷ behind)) (if readable then suc count else count)

-- a name, a space, a number and the end of the line
abbrev pub count_line : List ℕ → ℕ → List ℕ
count_line name count = name ++ codes " " ++ decimal count ++ 10 ∷ []

-- `linked yes` or `linked no`
abbrev pub linked_line : Bool → List ℕ
linked_line linked = (if linked then codes "linked yes" else codes "linked no") ++ 10 ∷ []

-- `recovered closed`, or of an open gate the version of the journal and the number of the change that was done
abbrev pub recovered_line : Recovered → List ℕ
recovered_line Closed = codes "recovered closed" ++ 10 ∷ []
recovered_line (Replayed version change) = codes "recovered " ++ decimal version ++ codes " " ++ decimal change ++ 10 ∷ []

-- the eight lines of an area with so many readable ids, behind a gate that was found so
abbrev pub check_lines : AreaState → ℕ → Bool → Recovered → List ℕ
check_lines area msgids linked found =
    count_line (codes "base") area.base ++ count_line (codes "next") (next_number area) ++ count_line (codes "live") (live_count area.slots)
    ++ count_line (codes "killed") (killed_count area.slots) ++ count_line (codes "empty") (empty_count area.slots)
    ++ count_line (codes "msgids") msgids ++ linked_line linked ++ recovered_line found

-- this text is what a check says of the area, once recovery has found this
pub record IsCheck (area : AreaState) (found : Recovered) (text : List ℕ) : Type 0 where
  pub msgids : ℕ
  pub counted : HaveReadableIds (live_in area) msgids
  pub linked : Bool
  pub linked_is : (linked ≡ true) ↔ IsLinked area
  pub same : text ≡ check_lines area msgids linked found
