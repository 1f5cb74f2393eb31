use Rattle.std.proofs.Common.{◌≡◌, ◌≤◌, length}
use Rattle.jb_news.specs.Words.{words_of}
use Rattle.jb_news.proofs.words.first_word.Given as goal

abbrev pub invariant-loop-rest : goal.invariant-loop-rest
invariant-loop-rest l = (words_of l.rest ≡ words_of l.text) × (length l.rest ≤ length l.text)

abbrev pub decreases-loop-rest : goal.decreases-loop-rest
decreases-loop-rest l = length l.rest
