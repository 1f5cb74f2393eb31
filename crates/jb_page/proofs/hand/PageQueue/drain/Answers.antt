use Rattle.std.proofs.Common.{◌≡◌, ◌+◌, [], length, arith}
use Rattle.crossbeam_queue.specs.Passes.{view}
use Rattle.jb_page.proofs.Keeps.{whole}
use Rattle.jb_page.proofs.Draining.{after_none, can_learn, can_pop, as_many, fits_whole}
use Rattle.jb_page.proofs.hand.PageQueue.drain.Goals as goal

pub len_as-count-requires-clause-rule : goal.len_as-count-requires-clause-rule
len_as-count-requires-clause-rule g c = whole c.args.hand.now.pass.id (view c.args.hand.now.pass) c.requires.all.0 c.requires.all.1

pub pop_as-requires-clause-rule : goal.pop_as-requires-clause-rule
pop_as-requires-clause-rule g c = let v = view c.args.hand.now.pass in let a = c.requires.all in let t = c.loop-done.invariant.taken in let u = view c.loop-done.hand.pass in
    (can_pop v a.2 a.0 a.1 c.loop-done.hand.pass.id u t.0 t.3, can_learn v a.2 a.0 a.1 c.loop-done.hand.pass.id u t.0 t.3)

pub unreachable-requires : goal.unreachable-requires
unreachable-requires g c = let v = view c.args.hand.now.pass in let a = c.requires.all in let t = c.loop-done.invariant.taken in let u = view c.loop-done.hand.pass in
    let first = c.len_as-count.ensures.rule.1 in let now = c.in-None.ensures.rule.1 in let more = c.loop-done-test.true in let done = t.1 in
    let e : 0 + length first.0 ≡ length t.0 + length now.0 = as_many v a.2 a.0 a.1 v u [] t.0 first.0 now.0 (after_none v a.2) t.3 first.2 now.2 in
    let count = first.1 in let none = now.1 in omega (arith, e, more, done, count, none)

pub learn_as-requires-clause-rule : goal.learn_as-requires-clause-rule
learn_as-requires-clause-rule g c = let v = view c.args.hand.now.pass in let a = c.requires.all in let t = c.loop-done.invariant.taken in
    can_learn v a.2 a.0 a.1 c.loop-done.hand.pass.id (view c.loop-done.hand.pass) t.0 t.3

pub returns-clause-leaves : goal.returns-clause-leaves
returns-clause-leaves g c = let v = view c.args.hand.now.pass in let a = c.requires.all in let t = c.loop-done.invariant.taken in let u = view c.loop-done.hand.pass in
    let first = c.len_as-count.ensures.rule.1 in let now = c.learn_as.ensures.rule in
    let e : 0 + length first.0 ≡ length t.0 + length now.0 = as_many v a.2 a.0 a.1 v u [] t.0 first.0 now.0 (after_none v a.2) t.3 first.2 now.1 in
    let count = first.1 in let done = t.1 in let end = c.loop-done-test.false in let none : length now.0 ≡ 0 = omega (arith, e, count, done, end) in
    let most = c.len_as-count.ensures.rule.0 in let room = c.args.self.now.room in let last = c.loop-done.auto.done-end in
    record { rest = t.0; added = t.2; few = omega (arith, done, last, most, room); fits = fits_whole v a.2 u t.0 now.0 t.3 a.0 a.1 now.1 none }
