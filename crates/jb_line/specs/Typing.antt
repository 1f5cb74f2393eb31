-- The table of keys: what each leaves of the line, which line it ends, and how it is echoed.
use Rattle.std.specs.Prelude.{◌≡◌, ℕ, ◌-◌, ◌≤◌, nat_lt, Bool, true, false, IsTrue, List, [], ◌∷◌, ◌++◌, length, take, Option, Some, None, if◌then◌else◌}
use Rattle.jb_limits.specs.declared.limits.TheConstants.{MOST_LINE_BYTES}
use Rattle.jb_line.specs.declared.key.TheConstants.{STAR}
use Rattle.jb_line.specs.declared.key.Key.{Key}
use Rattle.jb_line.specs.declared.key.Echo.{Echo}
use Rattle.jb_line.specs.declared.key.Echo.TheVariants.{Nothing, One, Rub, NewLine}
use Rattle.jb_line.specs.declared.key.Meaning.{Meaning}
use Rattle.jb_line.specs.declared.key.Meaning.TheVariants.{Return, Feed, DropLast, DropAll, Append, Ignore}
use Rattle.jb_line.specs.Keys.{meaning_of}

-- the line so far, whether the last key was a return, and whether the mask is on
pub record Typing : Type 0 where
  pub text : List ℕ
  pub after_return : Bool
  pub masked : Bool

-- no key yet, and no mask
abbrev pub first_typing : Typing
first_typing = record { text = []; after_return = false; masked = false }

-- the line has changed, and the last key is no return
abbrev pub retyped : Typing → List ℕ → Typing
retyped typing text = record { text = text; after_return = false; masked = typing.masked }

-- so many bytes fewer at the end of the line
abbrev pub without_last : ℕ → Typing → Typing
without_last dropped typing = retyped typing (take (length typing.text - dropped) typing.text)

-- a line has at most 78 bytes, and none behind a return
pub record IsPossibleLine (len : ℕ) (after_return : Bool) : Type 0 where
  pub fits : len ≤ MOST_LINE_BYTES
  pub none : IsTrue after_return → len ≡ 0

-- the line
abbrev pub text_by : List ℕ → Meaning → List ℕ
text_by text Return = []
text_by text Feed = []
text_by text DropLast = take (length text - 1) text
text_by text DropAll = []
text_by text (Append byte) = if nat_lt (length text) MOST_LINE_BYTES then text ++ byte ∷ [] else text
text_by text Ignore = text

-- the line that is ended: a feed behind a return ends none
abbrev pub line_by : Typing → Meaning → Option (List ℕ)
line_by typing Return = Some typing.text
line_by typing Feed = if typing.after_return then None else Some typing.text
line_by typing DropLast = None
line_by typing DropAll = None
line_by typing (Append byte) = None
line_by typing Ignore = None

-- so many characters are rubbed out, where there is any
abbrev pub rub_of : ℕ → ℕ → Echo
rub_of length rubbed = if nat_lt 0 length then Rub rubbed else Nothing

-- a byte that is put into the line
abbrev pub echo_of_byte : Bool → ℕ → Echo
echo_of_byte masked byte = One (if masked then STAR else byte)

-- the echo
abbrev pub echo_by : Typing → Meaning → Echo
echo_by typing Return = NewLine
echo_by typing Feed = if typing.after_return then Nothing else NewLine
echo_by typing DropLast = rub_of (length typing.text) 1
echo_by typing DropAll = rub_of (length typing.text) (length typing.text)
echo_by typing (Append byte) = if nat_lt (length typing.text) MOST_LINE_BYTES then echo_of_byte typing.masked byte else Nothing
echo_by typing Ignore = Nothing

-- the key is a return, behind which a feed ends no line
abbrev pub is_return : Meaning → Bool
is_return Return = true
is_return _ = false

-- the state behind a key with this meaning
abbrev pub typing_by : Typing → Meaning → Typing
typing_by typing meaning = record { text = text_by typing.text meaning; after_return = is_return meaning; masked = typing.masked }

-- the state behind a key
abbrev pub typing_after : Typing → Key → Typing
typing_after typing key = typing_by typing (meaning_of key)

-- the echo of a key
abbrev pub echo_of : Typing → Key → Echo
echo_of typing key = echo_by typing (meaning_of key)

-- the line that a key ends
abbrev pub line_of : Typing → Key → Option (List ℕ)
line_of typing key = line_by typing (meaning_of key)
