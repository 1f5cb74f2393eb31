use Rattle.std.proofs.Common.{◌≡◌, ◌==◌, ℕ, ◌<◌, ◌≤◌, true, length, get_or, sym, arith}
use Rattle.std.proofs.lemmas.Bool.Decides.{nat_tests}
use Rattle.std.proofs.lemmas.List.Sums.{position_or_len_is}
use Rattle.jb_news.proofs.words.place_of.Goals as goal

pub returns-then-other-byte-clause-place : goal.returns-then-other-byte-clause-place
returns-then-other-byte-clause-place c =
    let place = c.loop-place.place in
    let inside : place ≤ length c.args.text.now = omega arith in
    let here : (get_or c.args.text.now place 0 == c.args.byte) ≡ true = grind (arith, nat_tests) in
    sym (position_or_len_is (λ (other : ℕ). other == c.args.byte) c.args.text.now place 0 inside c.loop-place.invariant (λ _. here))

pub returns-clause-place : goal.returns-clause-place
returns-clause-place c =
    let all : length c.args.text.now ≤ length c.args.text.now = omega arith in
    sym (position_or_len_is (λ (other : ℕ). other == c.args.byte) c.args.text.now (length c.args.text.now) 0 all
    (λ k h. let before : k < c.loop-place.place = omega arith in c.loop-place.invariant k before)
    (λ h. absurd (omega arith)))
