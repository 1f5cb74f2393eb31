-- The bytes of the files of an area that is laid out without gaps (JAM, "Header file", "Message header", "Index file").
use Rattle.std.specs.Prelude.{ℕ, ◌+◌, List, [], ◌∷◌, ◌++◌}
use Rattle.jb_image.specs.Records.{IsEntryReadAgain, IsFixedReadAgain, IsHeaderReadAgain, entry_for, message_bytes}
use Rattle.jb_image.specs.Stands.{fixed_of}
use Rattle.jb_state.specs.declared.loaded.Loaded.{Loaded}
use Rattle.jb_state.specs.declared.loaded.LoadedSlot.{LoadedSlot}
use Rattle.jb_state.specs.declared.loaded.LoadedSlot.TheVariants.{Empty, Killed, Live}
use Rattle.jb_record.specs.Fixed.{fixed_header_bytes}
use Rattle.jb_record.specs.Index.{index_record_bytes}

-- the headers of the live messages of slots of which the first has this number, one behind another
abbrev pub headers_bytes : ℕ → List LoadedSlot → List ℕ
headers_bytes number [] = []
headers_bytes number (Empty ∷ slots) = headers_bytes (number + 1) slots
headers_bytes number (Killed header_at ∷ slots) = headers_bytes (number + 1) slots
headers_bytes number (Live message ∷ slots) = message_bytes number message ++ headers_bytes (number + 1) slots

-- the index records of slots, one behind another
abbrev pub index_bytes : List LoadedSlot → List ℕ
index_bytes [] = []
index_bytes (slot ∷ slots) = index_record_bytes (entry_for slot) ++ index_bytes slots

-- all bytes of .JHR
abbrev pub headers_file : Loaded → List ℕ
headers_file loaded = fixed_header_bytes (fixed_of loaded) ++ headers_bytes loaded.base loaded.slots

-- all bytes of .JDX
abbrev pub index_file : Loaded → List ℕ
index_file loaded = index_bytes loaded.slots

-- the bytes of each message's header, read again, give it
abbrev pub AreHeadersReadAgain : ℕ → List LoadedSlot → Type 0
AreHeadersReadAgain number [] = Unit {0}
AreHeadersReadAgain number (Empty ∷ slots) = AreHeadersReadAgain (number + 1) slots
AreHeadersReadAgain number (Killed header_at ∷ slots) = AreHeadersReadAgain (number + 1) slots
AreHeadersReadAgain number (Live message ∷ slots) = IsHeaderReadAgain number message × AreHeadersReadAgain (number + 1) slots

-- the bytes of each index record, read again, give it
abbrev pub AreEntriesReadAgain : List LoadedSlot → Type 0
AreEntriesReadAgain [] = Unit {0}
AreEntriesReadAgain (slot ∷ slots) = IsEntryReadAgain (entry_for slot) × AreEntriesReadAgain slots

-- the bytes of all records, read again, give them
pub record IsReadAgain (loaded : Loaded) : Type 0 where
  pub fixed : IsFixedReadAgain loaded
  pub headers : AreHeadersReadAgain loaded.base loaded.slots
  pub entries : AreEntriesReadAgain loaded.slots
