use Rattle.std.proofs.Common.{◌≡◌, ◌<◌, ◌≤◌, true, length, get_or, sym, arith}
use Rattle.std.proofs.lemmas.Bool.Decides.{nat_tests}
use Rattle.std.proofs.lemmas.List.Sums.{position_or_len_is}
use Rattle.jb_news.specs.Words.{is_blank}
use Rattle.jb_news.proofs.words.word_end.Goals as goal

pub returns-then-is_blank-clause-place : goal.returns-then-is_blank-clause-place
returns-then-is_blank-clause-place c =
    let place = c.loop-place.place in
    let inside : place ≤ length c.args.text.now = omega arith in
    let here : is_blank (get_or c.args.text.now place 0) ≡ true = grind (arith, nat_tests) in
    sym (position_or_len_is is_blank c.args.text.now place 0 inside c.loop-place.invariant (λ _. here))

pub returns-clause-place : goal.returns-clause-place
returns-clause-place c =
    let all : length c.args.text.now ≤ length c.args.text.now = omega arith in
    sym (position_or_len_is is_blank c.args.text.now (length c.args.text.now) 0 all
    (λ k h. let before : k < c.loop-place.place = omega arith in c.loop-place.invariant k before)
    (λ h. absurd (omega arith)))
