-- Bytes above 127 in a header (RFC 2047 sections 2, 4.1 and 5): words of base64 in the charset of the field.
use Rattle.std.specs.Prelude.{ℕ, zero, suc, ◌+◌, nat_le, nat_lt, ◌==◌, ◌&&◌, ◌||◌, Bool, not, List, [], ◌∷◌, ◌++◌, length, take, drop, map, codes, if◌then◌else◌}
use Rattle.std.specs.List.{list_any, slice_index}
use Rattle.std.specs.Str.Lossy.{utf8_valid_len}
use Rattle.base64.specs.Engines.{standard}
use Rattle.base64.specs.GeneralPurpose.{encode_of}
use Rattle.jb_text.specs.Lines.{line_end}
use Rattle.jb_text.specs.Shown.{shown, shown_byte}
use Rattle.jb_news.specs.declared.charset.Charset.{Charset}
use Rattle.jb_news.specs.declared.charset.Charset.TheVariants.{Utf8, Ibm437}

-- the charset of bytes: UTF-8 where they are, and else that of the terminals
abbrev pub charset_of : List ℕ → Charset
charset_of bytes = if utf8_valid_len bytes == length bytes then Utf8 else Ibm437

-- the name of a charset
abbrev pub charset_name : Charset → List ℕ
charset_name Utf8 = codes "UTF-8"
charset_name Ibm437 = codes "IBM437"

-- bytes that are as many as are kept, without a character of UTF-8 that they may have been cut in
abbrev pub whole_characters : ℕ → List ℕ → List ℕ
whole_characters most bytes =
    let valid = utf8_valid_len bytes in
    if (length bytes == most) && nat_le most (valid + 3) then take valid bytes else bytes

-- a subject, of which 72 bytes may be kept
abbrev pub whole_subject : List ℕ → List ℕ
whole_subject subject = whole_characters 72 subject

-- a name, of which 36 bytes may be kept
abbrev pub whole_name : List ℕ → List ℕ
whole_name name = whole_characters 36 name

-- the byte is above 127
abbrev pub is_high : ℕ → Bool
is_high byte = nat_lt 127 byte

-- no character of UTF-8 goes on at this place
abbrev pub begins_at : List ℕ → ℕ → Bool
begins_at bytes place = not (nat_le 128 (slice_index bytes place) && nat_lt (slice_index bytes place) 192)

-- how many bytes the first word takes at most: 39, or fewer where a character of UTF-8 would be cut
abbrev pub piece_length : Charset → List ℕ → ℕ
piece_length Ibm437 bytes = 39
piece_length Utf8 bytes =
    if begins_at bytes 39 then 39 else if begins_at bytes 38 then 38 else if begins_at bytes 37 then 37 else if begins_at bytes 36 then 36 else 39

-- bytes as one encoded word
abbrev pub encoded_word : Charset → List ℕ → List ℕ
encoded_word charset bytes = codes "=?" ++ charset_name charset ++ codes "?B?" ++ encode_of standard bytes ++ codes "?="

-- what parts words in a header: the line is folded
abbrev pub folded : List ℕ
folded = line_end ++ codes " "

-- what parts words, where other bytes follow
abbrev pub parting : List ℕ → List ℕ → List ℕ
parting fold [] = []
parting fold (byte ∷ rest) = fold

-- the words of at most so many bytes, parted so
abbrev pub encoded_up_to : ℕ → List ℕ → Charset → List ℕ → List ℕ
encoded_up_to zero fold charset bytes = []
encoded_up_to (suc most) fold charset [] = []
encoded_up_to (suc most) fold charset (byte ∷ rest) =
    encoded_word charset (take (piece_length charset (byte ∷ rest)) (byte ∷ rest))
    ++ parting fold (drop (piece_length charset (byte ∷ rest)) (byte ∷ rest))
    ++ encoded_up_to most fold charset (drop (piece_length charset (byte ∷ rest)) (byte ∷ rest))

-- bytes as encoded words
abbrev pub encoded : List ℕ → Charset → List ℕ → List ℕ
encoded fold charset bytes = encoded_up_to (length bytes) fold charset bytes

-- a field of a header: as it is shown, and in encoded words where a byte is above 127
abbrev pub field_text : List ℕ → List ℕ → List ℕ
field_text fold bytes = if list_any is_high bytes then encoded fold (charset_of bytes) (shown bytes) else shown bytes

-- a byte of a name: no quote and no backslash
abbrev pub quoted_byte : ℕ → ℕ
quoted_byte byte = if (byte == 34) || (byte == 92) then 63 else shown_byte byte

-- the sender of an article: the name in quotes, or in encoded words where a byte is above 127
abbrev pub sender_text : List ℕ → List ℕ → List ℕ
sender_text fold name =
    if list_any is_high name then encoded fold (charset_of name) (map quoted_byte name) ++ fold ++ codes "<board@jam.invalid>"
    else codes "\"" ++ map quoted_byte name ++ codes "\" <board@jam.invalid>"
