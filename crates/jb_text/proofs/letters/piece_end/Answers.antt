use Rattle.std.proofs.Common.{◌≡◌, ◌<◌, ◌≤◌, true, length, get_or, ap, sym, arith}
use Rattle.std.proofs.lemmas.List.Sums.{position_or_len_is}
use Rattle.jb_text.specs.Letter.{ends_line}
use Rattle.jb_text.proofs.letters.piece_end.Goals as goal

pub returns-then-byte-eq13-clause-end : goal.returns-then-byte-eq13-clause-end
returns-then-byte-eq13-clause-end c =
    let place = c.loop-place.place in
    let inside : place ≤ length c.args.message.now = omega arith in
    let here : ends_line (get_or c.args.message.now place 0) ≡ true = ap ends_line c.if-byte-eq13.true in
    sym (position_or_len_is ends_line c.args.message.now place 0 inside c.loop-place.invariant (λ _. here))

pub returns-clause-end : goal.returns-clause-end
returns-clause-end c =
    let all : length c.args.message.now ≤ length c.args.message.now = omega arith in
    sym (position_or_len_is ends_line c.args.message.now (length c.args.message.now) 0 all
    (λ k h. let before : k < c.loop-place.place = omega arith in c.loop-place.invariant k before)
    (λ h. absurd (omega arith)))
