use Rattle.std.proofs.Common.{◌+◌, ◌-◌, refl, sym, ap, ◌∙◌, arith}
use Rattle.std.specs.Prelude.{Ok}
use Rattle.jb_state.specs.declared.short.Short.{Short}
use Rattle.jb_page.specs.Pagers.{PagerView, sent_with}
use Rattle.jb_page.specs.Seats.{queue_of, id_of}
use Rattle.jb_page.proofs.Hands.{hands_kept, put_keeps}
use Rattle.jb_page.proofs.Calls.{puts_to, one_each, within, still_of, sent, refused}
use Rattle.jb_page.proofs.pager.Pages.send.Goals as goal

pub put-requires-clause-queue : goal.put-requires-clause-queue
put-requires-clause-queue g c =
    let s = c.self.inside in let p = c.pager.inside in let k = c.args.to - 1 in let each = one_each _ s.nodes s.queues.items c.self.view_is _ p.number p.count p.hands.items c.pager.view_is c.requires.of in
    let low = within _ s.nodes s.queues.items c.self.view_is _ p.number p.count p.hands.items c.pager.view_is c.requires.of c.args.to c.requires.to.0 c.requires.to.1 in let long = each.count in
    ap queue_of c.index_mut.ensures.value ∙ (each.each k c.index_mut.result.now c.index.result.now (omega (arith, low, long)) ∙ sym (ap id_of c.index.ensures))

pub invariant_of-pager : goal.invariant_of-pager
invariant_of-pager g c =
    let s = c.self.inside in let p = c.pager.inside in let low = within _ s.nodes s.queues.items c.self.view_is _ p.number p.count p.hands.items c.pager.view_is c.requires.of c.args.to c.requires.to.0 c.requires.to.1 in
    hands_kept p.number (c.args.to - 1) p.hands.items c.index_mut.result.now c.put.new.hand c.pager.invariant low
    (put_keeps _ c.put.result _ c.put.new.hand (puts_to c.index_mut.ensures.value c.put.ensures.puts))

pub returns-then-put-clause-of : goal.returns-then-put-clause-of
returns-then-put-clause-of g c =
    let s = c.self.inside in let p = c.pager.inside in let puts = puts_to c.index_mut.ensures.value c.put.ensures.puts in
    still_of _ s.nodes s.queues.items c.self.view_is _ p.number p.count p.hands.items c.pager.view_is c.requires.of (p.count + 1) (c.args.to - 1) c.index_mut.result.now c.put.new.hand puts.same.queue

pub returns-then-put-clause-sends : goal.returns-then-put-clause-sends
returns-then-put-clause-sends g c =
    let s = c.self.inside in let p = c.pager.inside in let low = within _ s.nodes s.queues.items c.self.view_is _ p.number p.count p.hands.items c.pager.view_is c.requires.of c.args.to c.requires.to.0 c.requires.to.1 in
    let puts = puts_to c.index_mut.ensures.value c.if-put.ensures.puts in
    sent _ s.nodes s.queues.items c.self.view_is _ p.number p.count p.hands.items c.pager.view_is c.requires.of c.args.to c.of.result c.index_mut.result.now c.put.new.hand low puts ∙ ap (λ (text : Short 72). sent_with c.args.pager.now c.args.to text (Ok tt)) c.of.ensures

pub returns-clause-of : goal.returns-clause-of
returns-clause-of g c =
    let s = c.self.inside in let p = c.pager.inside in let puts = puts_to c.index_mut.ensures.value c.put.ensures.puts in
    still_of _ s.nodes s.queues.items c.self.view_is _ p.number p.count p.hands.items c.pager.view_is c.requires.of p.count (c.args.to - 1) c.index_mut.result.now c.put.new.hand puts.same.queue

pub returns-clause-sends : goal.returns-clause-sends
returns-clause-sends g c =
    let s = c.self.inside in let p = c.pager.inside in let low = within _ s.nodes s.queues.items c.self.view_is _ p.number p.count p.hands.items c.pager.view_is c.requires.of c.args.to c.requires.to.0 c.requires.to.1 in
    let puts = puts_to c.index_mut.ensures.value c.if-put.ensures.puts in
    refused _ s.nodes s.queues.items c.self.view_is _ p.number p.count p.hands.items c.pager.view_is c.requires.of c.args.to c.of.result _ c.index_mut.result.now c.put.new.hand low puts

pub returns-clause-why : goal.returns-clause-why
returns-clause-why g c = let count = ap (λ (v : PagerView). v.count) c.pager.view_is in let more = c.if-pager-ge-MOST_PAGES.false in (refl, omega (arith, count, more))
