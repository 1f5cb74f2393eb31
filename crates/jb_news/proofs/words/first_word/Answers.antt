use Rattle.std.proofs.Common.{◌≡◌, ℕ, ◌+◌, ◌<◌, ◌≤◌, List, ◌∷◌, length, take, drop, ap, sym, subst, ◌∙◌, arith}
use Rattle.std.proofs.lemmas.Bool.Decides.{nat_tests}
use Rattle.std.proofs.lemmas.List.{length-drop}
use Rattle.jb_news.specs.Words.{word_end, words_of}
use Rattle.jb_news.proofs.WordLemmas.{words_of_blank, words_of_nothing, words_of_some}
use Rattle.jb_news.proofs.words.first_word.Goals as goal

pub returns-then-not-is_empty-clause-words : goal.returns-then-not-is_empty-clause-words
returns-then-not-is_empty-clause-words c =
    let rest = c.loop-rest.rest.now in
    let end = c.word_end-end.result in
    let some : 0 < length (take end rest) = grind (arith, nat_tests) in
    let here : 0 < length (take (word_end rest) rest) = subst (λ (n : ℕ). 0 < length (take n rest)) c.word_end-end.ensures.place some in
    ap (λ (l : List ℕ). take end rest ∷ words_of l) c.behind-after.ensures
    ∙ ap (λ (n : ℕ). take n rest ∷ words_of (drop (n + 1) rest)) c.word_end-end.ensures.place ∙ sym (words_of_some rest here) ∙ c.loop-rest.invariant.0

pub loop-rest-preserved : goal.loop-rest-preserved
loop-rest-preserved c =
    let rest = c.loop-rest.rest.now in
    let end = c.word_end-end.result in
    let none : length (take end rest) ≤ 0 = grind (arith, nat_tests) in
    let here : length (take (word_end rest) rest) ≤ 0 = subst (λ (n : ℕ). length (take n rest) ≤ 0) c.word_end-end.ensures.place none in
    let after : c.behind-after.result.now ≡ drop (end + 1) rest = c.behind-after.ensures in (
      ap words_of after ∙ ap (λ (n : ℕ). words_of (drop (n + 1) rest)) c.word_end-end.ensures.place ∙ sym (words_of_blank rest here) ∙ c.loop-rest.invariant.0,
      omega (arith, ap length after, length-drop (end + 1) rest, c.loop-rest.invariant.1),
    )

pub returns-clause-words : goal.returns-clause-words
returns-clause-words c =
    let none : length c.loop-rest.rest.now ≤ 0 = grind (arith, nat_tests) in
    sym (words_of_nothing c.loop-rest.rest.now none) ∙ c.loop-rest.invariant.0
