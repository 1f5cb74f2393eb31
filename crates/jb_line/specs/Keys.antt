-- What each key means.
use Rattle.std.specs.Prelude.{ℕ, ◌==◌, nat_lt, ◌||◌, if◌then◌else◌}
use Rattle.jb_line.specs.declared.key.TheConstants.{BACKSPACE, LINE_FEED, RETURN, SPACE, DELETE}
use Rattle.jb_line.specs.declared.key.Key.{Key}
use Rattle.jb_line.specs.declared.key.Key.TheVariants.{Byte, EraseChar, EraseLine}
use Rattle.jb_line.specs.declared.key.Meaning.{Meaning}
use Rattle.jb_line.specs.declared.key.Meaning.TheVariants.{Return, Feed, DropLast, DropAll, Append, Ignore}

-- bytes from 32 on are for the line, but for 127
abbrev pub meaning_of_byte : ℕ → Meaning
meaning_of_byte byte =
    if byte == RETURN then Return
    else if byte == LINE_FEED then Feed
    else if (byte == BACKSPACE) || (byte == DELETE) then DropLast
    else if nat_lt byte SPACE then Ignore
    else Append byte

-- the two commands erase
abbrev pub meaning_of : Key → Meaning
meaning_of (Byte byte) = meaning_of_byte byte
meaning_of EraseChar = DropLast
meaning_of EraseLine = DropAll
