-- What a line at a command prompt says: nothing, a letter, a letter and a number, or a number; else it is unknown.
use Rattle.std.specs.Prelude.{ℕ, ◌-◌, ◌^◌, ◌==◌, Bool, List, [], ◌∷◌, Option, Some, None, if◌then◌else◌}
use Rattle.std.specs.Char.{to_ascii_uppercase}
use Rattle.jb_text.specs.Digits.{number_up_to}
use Rattle.jb_menu.specs.declared.command_line.CommandLetter.{CommandLetter}
use Rattle.jb_menu.specs.declared.command_line.CommandLetter.TheVariants.{A, B, E, G, K, L, M, N, P, Q, R, S, T, X, Y, Z}
use Rattle.jb_menu.specs.declared.command_line.CommandLine.{CommandLine}
use Rattle.jb_menu.specs.declared.command_line.CommandLine.TheVariants.{Empty, Letter, LetterNumber, Number, Unknown}

-- the letter that a capital is, where a command has it
abbrev pub capital_of : ℕ → Option CommandLetter
capital_of byte =
    if byte == 65 then Some A
    else if byte == 66 then Some B
    else if byte == 69 then Some E
    else if byte == 71 then Some G
    else if byte == 75 then Some K
    else if byte == 76 then Some L
    else if byte == 77 then Some M
    else if byte == 78 then Some N
    else if byte == 80 then Some P
    else if byte == 81 then Some Q
    else if byte == 82 then Some R
    else if byte == 83 then Some S
    else if byte == 84 then Some T
    else if byte == 88 then Some X
    else if byte == 89 then Some Y
    else if byte == 90 then Some Z
    else None

-- the letter that a byte is, in either case
abbrev pub command_letter : ℕ → Option CommandLetter
command_letter byte = capital_of (to_ascii_uppercase byte)

-- the number that a text is: one to ten digits, and not above what 32 bits hold
abbrev pub typed_number : List ℕ → Option ℕ
typed_number text = number_up_to (2 ^ 32 - 1) text

-- the byte is a space
abbrev pub is_space : ℕ → Bool
is_space byte = byte == 32

-- a text without the spaces before it
abbrev pub without_first_spaces : List ℕ → List ℕ
without_first_spaces [] = []
without_first_spaces (byte ∷ rest) = if is_space byte then without_first_spaces rest else byte ∷ rest

-- a byte before what is left of a text; a space before nothing is dropped too
abbrev pub kept_before : ℕ → List ℕ → List ℕ
kept_before byte [] = if is_space byte then [] else byte ∷ []
kept_before byte (next ∷ rest) = byte ∷ next ∷ rest

-- a text without the spaces behind it
abbrev pub without_last_spaces : List ℕ → List ℕ
without_last_spaces [] = []
without_last_spaces (byte ∷ rest) = kept_before byte (without_last_spaces rest)

-- a text without the spaces at its ends
abbrev pub trimmed : List ℕ → List ℕ
trimmed text = without_last_spaces (without_first_spaces text)

-- a letter with a number, where there is one
abbrev pub numbered_line : CommandLetter → Option ℕ → CommandLine
numbered_line letter (Some number) = LetterNumber letter number
numbered_line letter None = Unknown

-- a letter, and what stands behind it: nothing, or spaces and a number
abbrev pub behind_letter : CommandLetter → List ℕ → CommandLine
behind_letter letter [] = Letter letter
behind_letter letter (byte ∷ rest) = if is_space byte then numbered_line letter (typed_number (without_first_spaces rest)) else Unknown

-- a text that begins with a letter, where it does
abbrev pub lettered : Option CommandLetter → List ℕ → CommandLine
lettered (Some letter) rest = behind_letter letter rest
lettered None rest = Unknown

-- the number that a text is, and else what it says besides
abbrev pub number_or : Option ℕ → CommandLine → CommandLine
number_or (Some number) line = Number number
number_or None line = line

-- what a text says
abbrev pub parsed : List ℕ → CommandLine
parsed [] = Empty
parsed (first ∷ rest) = number_or (typed_number (first ∷ rest)) (lettered (command_letter first) rest)

-- what a line says; spaces at its ends do not matter
unfoldable pub command_of : List ℕ → CommandLine
command_of line = parsed (trimmed line)
