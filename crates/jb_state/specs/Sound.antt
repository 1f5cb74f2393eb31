-- A loaded area that fits its own lengths.
use Rattle.std.specs.Prelude.{◌≡◌, ◌⊎◌, ℕ, ◌+◌, ◌<◌, ◌≤◌, length, All, AllPairs, bit_and}
use Rattle.jb_base.specs.declared.attribute.TheConstants.{DELETED}
use Rattle.jb_limits.specs.declared.limits.TheConstants.{HEADERS_CEILING, TEXTS_CEILING, MOST_MARKS, MOST_SUBFIELD_BYTES, MOST_TEXT_BYTES}
use Rattle.jb_bytes.specs.Subfields.{subfield_bytes}
use Rattle.jb_state.specs.declared.loaded.Loaded.{Loaded}
use Rattle.jb_state.specs.declared.loaded.LoadedMessage.{LoadedMessage}
use Rattle.jb_state.specs.declared.loaded.LoadedSlot.{LoadedSlot}
use Rattle.jb_state.specs.declared.loaded.LoadedSlot.TheVariants.{Empty, Killed, Live}

-- the header of the slot, with the subfields of a live message, takes this byte of .JHR
abbrev pub Covers : LoadedSlot → ℕ → Type 0
Covers Empty i = ⊥
Covers (Killed header_at) i = (header_at ≤ i) × (i < header_at + 76)
Covers (Live message) i = (message.header_at ≤ i) × (i < message.header_at + 76 + length (subfield_bytes message.subfields))

-- no byte belongs to both
abbrev pub AreApart : LoadedSlot → LoadedSlot → Type 0
AreApart one other = (i : ℕ) → Covers one i → Covers other i → ⊥

-- a header of so many bytes lies behind the fixed header, within .JHR of this length and within its ceiling
pub record IsWithin (headers_len at len : ℕ) : Type 0 where
  pub after : 1024 ≤ at
  pub inside : at + len ≤ headers_len
  pub below : at + len ≤ HEADERS_CEILING

-- a text lies within .JDT of this length and within its ceiling; the place of an empty one is not looked at
pub record IsTextWithin (texts_len at len : ℕ) : Type 0 where
  pub short : len ≤ MOST_TEXT_BYTES
  pub placed : (len ≡ 0) ⊎ ((at + len ≤ texts_len) × (at + len ≤ TEXTS_CEILING))

-- a live message, not marked as killed, lies within files of these lengths
pub record IsMessageWithin (headers_len texts_len : ℕ) (message : LoadedMessage) : Type 0 where
  pub live : bit_and message.head.attribute DELETED ≡ 0
  pub few_bytes : length (subfield_bytes message.subfields) ≤ MOST_SUBFIELD_BYTES
  pub header : IsWithin headers_len message.header_at (76 + length (subfield_bytes message.subfields))
  pub text : IsTextWithin texts_len message.text_at message.text_len

-- a slot lies within files of these lengths
abbrev pub IsSlotWithin : ℕ → ℕ → LoadedSlot → Type 0
IsSlotWithin headers_len texts_len Empty = Unit {0}
IsSlotWithin headers_len texts_len (Killed header_at) = IsWithin headers_len header_at 76
IsSlotWithin headers_len texts_len (Live message) = IsMessageWithin headers_len texts_len message

-- a loaded area of at most so many slots, whose headers lie apart within its lengths, behind the fixed header
pub record IsSound (limit : ℕ) (loaded : Loaded) : Type 0 where
  pub fixed : 1024 ≤ loaded.headers_len
  pub base : 1 ≤ loaded.base
  pub numbers : loaded.base + length loaded.slots ≤ 4294967295
  pub few_slots : length loaded.slots ≤ limit
  pub few_marks : length loaded.marks ≤ MOST_MARKS
  pub within : All (IsSlotWithin loaded.headers_len loaded.texts_len) loaded.slots
  pub apart : AllPairs AreApart loaded.slots
