use Rattle.std.proofs.Common.{◌-◌, sym, ap, ◌∙◌, subst, arith}
use Rattle.jb_page.specs.declared.hand.Hand.{Hand}
use Rattle.jb_page.specs.Seats.{queue_of, id_of, Gets}
use Rattle.jb_page.proofs.Calls.{here, one_each, as_many, still_of, took}
use Rattle.jb_page.proofs.pager.Pages.take.Goals as goal

pub get-requires-clause-queue : goal.get-requires-clause-queue
get-requires-clause-queue g c =
    let s = c.self.inside in let p = c.pager.inside in let k = p.number - 1 in let few = here _ s.nodes s.queues.items c.self.view_is _ p.number p.count p.hands.items c.pager.view_is c.requires.of in
    let each = one_each _ s.nodes s.queues.items c.self.view_is _ p.number p.count p.hands.items c.pager.view_is c.requires.of in
    let counted = c.self.invariant.counted in let a = few.few.0 in let b = few.few.1 in
    ap queue_of c.index_mut.ensures.value ∙ (each.each k c.index_mut.result.now c.index.result.now (omega (arith, counted, a, b)) ∙ sym (ap id_of c.index.ensures))

pub returns-clause-of : goal.returns-clause-of
returns-clause-of g c =
    let s = c.self.inside in let p = c.pager.inside in let k = p.number - 1 in let gets = subst (λ (h : Hand). Gets c.get.result h c.get.new.hand) c.index_mut.ensures.value c.get.ensures.gets in
    still_of _ s.nodes s.queues.items c.self.view_is _ p.number p.count p.hands.items c.pager.view_is c.requires.of p.count k c.index_mut.result.now c.get.new.hand gets.same.queue

pub returns-clause-takes : goal.returns-clause-takes
returns-clause-takes g c =
    let s = c.self.inside in let p = c.pager.inside in let gets = subst (λ (h : Hand). Gets c.get.result h c.get.new.hand) c.index_mut.ensures.value c.get.ensures.gets in
    let is = here _ s.nodes s.queues.items c.self.view_is _ p.number p.count p.hands.items c.pager.view_is c.requires.of in
    let long = as_many _ s.nodes s.queues.items c.self.view_is _ p.number p.count p.hands.items c.pager.view_is c.requires.of in let a = is.few.0 in let b = is.few.1 in
    took _ s.nodes s.queues.items c.self.view_is _ p.number p.count p.hands.items c.pager.view_is c.requires.of c.get.result c.index_mut.result.now c.get.new.hand (omega (arith, long, a, b)) gets
