-- What a cutter has read, whatever bytes come next.
use Rattle.std.specs.Prelude.{◌≡◌, ◌==◌, ℕ, List, [], ◌∷◌, take, Option, Some, None, if◌then◌else◌}
use Rattle.jb_news.specs.declared.line.NewsLine.{NewsLine}
use Rattle.jb_news.specs.Lines.{CutsInto, line_of}

-- the bytes of a line that are held: the first 512
abbrev pub held : List ℕ → List ℕ
held bytes = take 512 bytes

-- the line that a byte ends behind these, where it is a line feed
abbrev pub line_ended : List ℕ → ℕ → Option NewsLine
line_ended kept byte = if byte == 10 then Some (line_of kept) else None

-- the lines that a push gives
abbrev pub lines_given : Option NewsLine → List NewsLine
lines_given None = []
lines_given (Some line) = line ∷ []

-- the bytes are cut into these lines and a rest, of which the first bytes are held
pub record HasRead (kept bytes : List ℕ) (lines : List NewsLine) : Type 0 where
  pub rest : List ℕ
  pub cuts : CutsInto bytes lines rest
  pub is : kept ≡ held rest
