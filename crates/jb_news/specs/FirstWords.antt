-- The first word of a text as it is handed on.
use Rattle.std.specs.Prelude.{ℕ, List, [], ◌∷◌, Option, Some, None}
use Rattle.jb_news.specs.declared.words.FirstWord.{FirstWord}
use Rattle.jb_news.specs.Words.{words_of}

-- the words that are told by the first and what stands behind it
abbrev pub words_given : Option FirstWord → List (List ℕ)
words_given None = []
words_given (Some first) = first.word.now ∷ words_of first.behind.now
