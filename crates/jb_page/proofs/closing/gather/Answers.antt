use Rattle.std.proofs.Common.{[], ◌∷◌, ◌++◌, List, Some, length, sym, ap, ◌∙◌, subst, arith, append_assoc}
use Rattle.std.proofs.lemmas.List.Elements.{All-pop}
use Rattle.jb_page.specs.declared.hand.Hand.{Hand}
use Rattle.jb_page.specs.Pagers.{PagerView}
use Rattle.jb_page.specs.Hands.{AreOfQueues, IsPagerOn}
use Rattle.jb_page.proofs.Gathers.{Knows, knows_one, knows_more, hands_of, refilled}
use Rattle.jb_page.proofs.closing.gather.Goals as goal

pub loop-pager-init : goal.loop-pager-init
loop-pager-init c = let queues = c.args.queues.now in let p = c.last.inside in
    let known = All-pop (IsPagerOn queues) c.args.pagers.items c.pop.new.self.items (Some c.in-Some.last) c.in-Some.ensures.items c.requires.of in
    let of = hands_of queues p.number p.count p.hands.items c.in-Some.last c.last.view_is known.1 in record {
      left = known.0;
      of = of;
      taken = (c.in-Some.last ∷ [], c.in-Some.ensures.items, subst (λ (v : PagerView). Knows (length queues) p.hands.items (v ∷ [])) c.last.view_is (knows_one (length queues) p.number p.count p.hands.items c.last.invariant of.count));
    }

pub join_all-requires-clause-whole : goal.join_all-requires-clause-whole
join_all-requires-clause-whole c = rw c.as_mut_slice.ensures.value c.loop-pager.invariant.of

pub join_all-requires-clause-hands : goal.join_all-requires-clause-hands
join_all-requires-clause-hands c = let queues = c.args.queues.now in let p = c.pager.inside in
    let known = All-pop (IsPagerOn queues) c.loop-pager.pagers.items c.pop-in-loop-pager.new.self.items (Some c.in-Some-pop.pager) c.in-Some-pop.ensures.items c.loop-pager.invariant.left in
    hands_of queues p.number p.count p.hands.items c.in-Some-pop.pager c.pager.view_is known.1

pub join_all-requires-clause-some : goal.join_all-requires-clause-some
join_all-requires-clause-some c = rw c.as_mut_slice.ensures.value c.loop-pager.invariant.taken.2.rows

pub join_all-requires-clause-one : goal.join_all-requires-clause-one
join_all-requires-clause-one c = let queues = c.args.queues.now in let p = c.pager.inside in
    let known = All-pop (IsPagerOn queues) c.loop-pager.pagers.items c.pop-in-loop-pager.new.self.items (Some c.in-Some-pop.pager) c.in-Some-pop.ensures.items c.loop-pager.invariant.left in
    let of = hands_of queues p.number p.count p.hands.items c.in-Some-pop.pager c.pager.view_is known.1 in let long = of.count in
    λ k h low. (c.pager.invariant k h (omega (arith, long, low))).one

pub loop-pager-preserved : goal.loop-pager-preserved
loop-pager-preserved c = let old = c.loop-pager.invariant in let v = c.in-Some-pop.pager in let p = c.pager.inside in let queues = c.args.queues.now in let whole = c.loop-pager.whole in let rest = old.taken.0 in
    let known = All-pop (IsPagerOn queues) c.loop-pager.pagers.items c.pop-in-loop-pager.new.self.items (Some v) c.in-Some-pop.ensures.items old.left in
    let of = hands_of queues p.number p.count p.hands.items v c.pager.view_is known.1 in
    let is = refilled whole.len whole.items c.join_all.new.whole whole.ok.0 (c.join_all.ensures.whole.count ∙ sym old.of.count) in record {
      left = known.0;
      of = subst (AreOfQueues queues) (sym is) c.join_all.ensures.whole;
      taken = (
        v ∷ rest,
        old.taken.1 ∙ (ap (λ (l : List PagerView). l ++ rest) c.in-Some-pop.ensures.items ∙ append_assoc c.pop-in-loop-pager.new.self.items (v ∷ []) rest),
        subst (λ (l : List Hand). Knows (length queues) l (v ∷ rest)) (sym is) (subst (λ (q : PagerView). Knows (length queues) c.join_all.new.whole (q ∷ rest)) c.pager.view_is
            (knows_more (length queues) p.number p.count p.hands.items whole.items c.join_all.new.whole rest c.pager.invariant of.count old.taken.2 (λ k h low. rw (sym c.as_mut_slice.ensures.value) (c.join_all.ensures.joined k h low)))),
      );
    }
