use Rattle.std.proofs.Common.{arith, ◌≡◌, ◌<◌, length, sym}
use Rattle.std.proofs.lemmas.Bool.Decides.{nat_tests}
use Rattle.jb_marks.proofs.OrderLemmas.{first-from_split, gap-at_end, gap-before_other, is_mark-by_pair}
use Rattle.jb_marks.proofs.order.search.Goals as goal

pub returns-in_default : goal.returns-in_default
returns-in_default c = gap-at_end _ _ _ _ _ c.requires.ordered (omega arith) c.count_before-at.ensures (grind (arith, nat_tests, c.in_default.ensures.lookup.0))

pub returns-then-eq : goal.returns-then-eq
returns-then-eq c =
    let inside : c.count_before-at.result < length c.args.order.now = c.in-Some.ensures.lookup.3.0 in
    let is = sym (c.in-Some.ensures.lookup.3.1 0) in
    let crc : c.pair_at.result.0 ≡ c.args.user_crc = grind (arith, nat_tests, c.if-eq.ensures) in
    let id : c.pair_at.result.1 ≡ c.args.user_id = grind (arith, nat_tests, c.if-eq.ensures) in
    let within : c.in-Some.place.now < length c.args.items.now = omega (arith, is, c.requires.ordered.places.each c.count_before-at.result 0 inside) in
    first-from_split _ _ _ _ _ _ c.requires.ordered c.count_before-at.ensures inside is
    (λ d. is_mark-by_pair _ _ _ _ _ _ d within c.pair_at.ensures crc id)

pub returns-else-eq : goal.returns-else-eq
returns-else-eq c =
    let inside : c.count_before-at.result < length c.args.order.now = c.in-Some.ensures.lookup.3.0 in
    let is = sym (c.in-Some.ensures.lookup.3.1 0) in
    gap-before_other _ _ _ _ _ _ _ _ c.requires.ordered (omega arith) c.count_before-at.ensures inside is c.pair_at.ensures (omega arith) (omega (arith, c.pair_at.type_inv))
    (λ crc id. grind (arith, nat_tests, c.if-eq.ensures, crc, id))
