-- The lines of a connection (RFC 3977 section 3.1): each ends with LF, a CR before it is dropped, and few bytes make a line.
use Rattle.std.specs.Prelude.{◌≡◌, ◌≢◌, ℕ, nat_le, All, List, [], ◌∷◌, ◌++◌, map, length, if◌then◌else◌}
use Rattle.std.specs.List.{flat_map}
use Rattle.std.specs.Str.Lines.{strip_carriage_return}
use Rattle.jb_news.specs.declared.line.NewsLine.{NewsLine}
use Rattle.jb_news.specs.declared.line.NewsLine.TheVariants.{Line, TooLong}

-- the bytes have no line feed
abbrev pub IsUnended : List ℕ → Type 0
IsUnended bytes = All (λ byte. byte ≢ 10) bytes

-- bytes that a line feed ends
abbrev pub ended : List ℕ → List ℕ
ended bytes = bytes ++ 10 ∷ []

-- what stands before a line feed as a line, without one carriage return at its end; with more than 510 bytes it is too long
abbrev pub line_of : List ℕ → NewsLine
line_of bytes = if nat_le (length (strip_carriage_return bytes)) 510 then Line (strip_carriage_return bytes) else TooLong

-- the bytes are these lines, each with its end, and a rest without one
pub record CutsInto (bytes : List ℕ) (lines : List NewsLine) (rest : List ℕ) : Type 0 where
  pub raws : List (List ℕ)
  pub each : All IsUnended raws
  pub last : IsUnended rest
  pub is : bytes ≡ flat_map ended raws ++ rest
  pub read : lines ≡ map line_of raws
