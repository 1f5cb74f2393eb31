-- That any bytes are cut into lines in exactly one way, and that the lines of more bytes begin with those of fewer.
use Rattle.std.specs.Prelude.{◌≡◌, ℕ, List, [], ◌++◌}
use Rattle.jb_news.specs.declared.line.NewsLine.{NewsLine}
use Rattle.jb_news.specs.Lines.{CutsInto}

-- the bytes are cut into these lines, others behind them, and a rest
pub record GoesOnWith (bytes : List ℕ) (lines : List NewsLine) : Type 0 where
  pub more : List NewsLine
  pub rest : List ℕ
  pub cuts : CutsInto bytes (lines ++ more) rest

-- any bytes are cut into lines and a rest
abbrev pub EachIsCut : Type 0
EachIsCut = (bytes : List ℕ) → GoesOnWith bytes []

-- no bytes are cut in two ways
abbrev pub CutsOneWay : Type 0
CutsOneWay = (bytes : List ℕ) (lines others : List NewsLine) (rest other : List ℕ)
    → CutsInto bytes lines rest → CutsInto bytes others other → (lines ≡ others) × (rest ≡ other)

-- more bytes give the lines of fewer, and then others
abbrev pub LinesGrow : Type 0
LinesGrow = (bytes more : List ℕ) (lines : List NewsLine) (rest : List ℕ) → CutsInto bytes lines rest → GoesOnWith (bytes ++ more) lines
