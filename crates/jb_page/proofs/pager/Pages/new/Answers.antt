use Rattle.std.proofs.Common.{◌≡◌, ℕ, ◌+◌, [], ◌∷◌, ◌++◌, List, take, drop, length, length-append, sym, ap, ◌∙◌, subst, arith}
use Rattle.jb_page.specs.declared.hand.PageQueue.{PageQueue}
use Rattle.jb_page.specs.Hands.{hands_view, AreLast, AreOlder, IsNewPagerOn}
use Rattle.jb_page.proofs.Begins.{AreNewOn, older_hands, last_hands, older_new, new_more, all_made}
use Rattle.jb_page.proofs.Gathers.{refilled}
use Rattle.jb_page.proofs.pager.Pages.new.Goals as goal

pub loop-number-preserved : goal.loop-number-preserved
loop-number-preserved c = let old = c.loop-number.invariant in let queues = c.in_ok-queues.queues.items in let hands = c.loop-number.hands in let number = c.loop-number.number in let pagers = c.loop-number.pagers.items in
    let older = subst (λ (qs : List PageQueue). AreOlder qs number c.next_hands.new.hands) c.as_slice.ensures.value c.in_ok-next.ensures.old in
    let is = refilled hands.len hands.items c.next_hands.new.hands hands.ok.0 (older.count ∙ sym old.last.count) in
    let written = take hands.len (c.next_hands.new.hands ++ drop (length c.next_hands.new.hands) hands.items) in let more = hands_view number 0 written in
    let new : IsNewPagerOn queues number more = older_new queues number written (subst (AreOlder queues number) (sym is) older) in
    let long = ap length c.push_reserved.ensures.items ∙ length-append pagers (more ∷ []) in let count = old.count in let room = old.room in let same = c.push_reserved.ensures.capacity in record {
      last = subst (λ (qs : List PageQueue). AreLast qs (number + 1) c.in_ok-next.next.items) c.as_slice.ensures.value c.in_ok-next.ensures.next;
      counted = old.counted;
      count = omega (arith, long, count);
      room = omega (arith, room, same);
      each = subst (AreNewOn queues) (sym c.push_reserved.ensures.items) (new_more queues pagers more old.each (subst (λ (n : ℕ). IsNewPagerOn queues n more) (sym count) new));
    }

pub invariant_of-push_reserved : goal.invariant_of-push_reserved
invariant_of-push_reserved c = let old = c.loop-number.invariant in let queues = c.in_ok-queues.queues.items in let hands = c.loop-number.hands in let number = c.loop-number.number in
    let older = subst (λ (qs : List PageQueue). AreOlder qs number c.next_hands.new.hands) c.as_slice.ensures.value c.in_ok-next.ensures.old in
    let is = refilled hands.len hands.items c.next_hands.new.hands hands.ok.0 (older.count ∙ sym old.last.count) in let counted = old.counted in let more = c.loop-number-test.true in
    older_hands queues number _ (omega (arith, counted, more)) (subst (AreOlder queues number) (sym is) older)

pub invariant_of-push_reserved-2 : goal.invariant_of-push_reserved-2
invariant_of-push_reserved-2 c = let old = c.loop-number.invariant in let queues = c.in_ok-queues.queues.items in let hands = c.loop-number.hands.items in let a = c.loop-number-test.false in let b = c.loop-number.auto.number-end in
    let most : c.loop-number.number ≡ c.args.nodes = omega (arith, a, b) in
    last_hands queues c.args.nodes hands (sym old.counted) (subst (λ (n : ℕ). AreLast queues n hands) most old.last)

pub returns-clause-pagers : goal.returns-clause-pagers
returns-clause-pagers c = let old = c.loop-number.invariant in let queues = c.in_ok-queues.queues.items in let hands = c.loop-number.hands.items in let a = c.loop-number-test.false in let b = c.loop-number.auto.number-end in
    let most : c.loop-number.number ≡ c.args.nodes = omega (arith, a, b) in
    (all_made queues c.args.nodes c.loop-number.pagers.items _ hands old.counted old.each (old.count ∙ most) (subst (λ (n : ℕ). AreLast queues n hands) most old.last) c.push_reserved-2.ensures.items).0

pub returns-clause-of : goal.returns-clause-of
returns-clause-of c = let old = c.loop-number.invariant in let queues = c.in_ok-queues.queues.items in let hands = c.loop-number.hands.items in let a = c.loop-number-test.false in let b = c.loop-number.auto.number-end in
    let most : c.loop-number.number ≡ c.args.nodes = omega (arith, a, b) in
    (all_made queues c.args.nodes c.loop-number.pagers.items _ hands old.counted old.each (old.count ∙ most) (subst (λ (n : ℕ). AreLast queues n hands) most old.last) c.push_reserved-2.ensures.items).1
