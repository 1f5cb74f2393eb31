use Rattle.std.proofs.Common.{◌≡◌, ℕ, ◌<◌, List, length, slice_index_or, sym, ap, ◌∙◌, subst, arith}
use Rattle.std.specs.Prelude.{All}
use Rattle.jb_page.specs.declared.hand.Hand.{Hand}
use Rattle.jb_page.specs.declared.hand.PageQueue.{PageQueue}
use Rattle.jb_page.specs.Pagers.{PagesView, PagerView}
use Rattle.jb_page.specs.Closing.{IsLowestMissing, PagesInOrder}
use Rattle.jb_page.specs.Seats.{view_in}
use Rattle.jb_page.specs.Hands.{IsPagerOn}
use Rattle.jb_page.specs.Gathered.{gathered, AreOwn, HasAllNumbers, DrainedSoFar}
use Rattle.jb_page.proofs.Ends.{on_queues, some_pagers, ready, in_order}
use Rattle.jb_page.proofs.pager.Pages.close.Goals as goal

pub returns-in-Some-clause-missing : goal.returns-in-Some-clause-missing
returns-in-Some-clause-missing g c = subst (λ (n : ℕ). IsLowestMissing c.args.pagers.items n c.in-Some.number) (ap (λ (v : PagesView). v.nodes) c.self.view_is)
    (subst (λ (xs : List PagerView). IsLowestMissing xs c.self.inside.nodes c.in-Some.number) c.as_slice.ensures.value c.in-Some.ensures)

pub gather-whole-requires-clause-some : goal.gather-whole-requires-clause-some
gather-whole-requires-clause-some g c = let s = c.self.inside in let ps = c.args.pagers.items in
    let all : HasAllNumbers ps s.nodes = subst (λ (xs : List PagerView). HasAllNumbers xs s.nodes) c.as_slice.ensures.value c.in_default.ensures in
    some_pagers s.nodes ps c.self.invariant.few.0 all

pub gather-whole-requires-clause-of : goal.gather-whole-requires-clause-of
gather-whole-requires-clause-of g c = let s = c.self.inside in let ps = c.args.pagers.items in
    subst (λ (queues : List PageQueue). All (IsPagerOn queues) ps) (sym c.as_slice-2.ensures.value) (on_queues s.nodes s.queues.items c.args.self ps c.self.view_is c.self.invariant.counted c.requires.of)

pub drain_all-requires-clause-all : goal.drain_all-requires-clause-all
drain_all-requires-clause-all g c = let s = c.self.inside in let ps = c.args.pagers.items in let whole = c.gather-whole.result.items in let counted = c.self.invariant.counted in
    let all : HasAllNumbers ps s.nodes = subst (λ (xs : List PagerView). HasAllNumbers xs s.nodes) c.as_slice.ensures.value c.in_default.ensures in
    let long : length c.as_slice-2.result.now ≡ s.nodes = ap length c.as_slice-2.ensures.value ∙ counted in
    let own = subst (λ (n : ℕ). AreOwn n ps) long c.gather-whole.ensures.own in
    let views = subst (λ (n : ℕ). (k : ℕ) (h : Hand) → k < n → view_in (slice_index_or whole k h) ≡ gathered n k ps) long c.gather-whole.ensures.views in
    rw (c.as_slice-3.ensures.value, c.as_mut_slice.ensures.value) (λ k h low. ready s.nodes ps c.self.invariant.few.0 all whole own views k h (omega (arith, low, counted)))

pub returns-clause-ok : goal.returns-clause-ok
returns-clause-ok g c = let s = c.self.inside in let ps = c.args.pagers.items in let whole = c.gather-whole.result.items in let counted = c.self.invariant.counted in let left = c.drain_all.new.left.items in
    let all : HasAllNumbers ps s.nodes = subst (λ (xs : List PagerView). HasAllNumbers xs s.nodes) c.as_slice.ensures.value c.in_default.ensures in
    let long : length c.as_slice-2.result.now ≡ s.nodes = ap length c.as_slice-2.ensures.value ∙ counted in
    let own = subst (λ (n : ℕ). AreOwn n ps) long c.gather-whole.ensures.own in
    let views = subst (λ (n : ℕ). (k : ℕ) (h : Hand) → k < n → view_in (slice_index_or whole k h) ≡ gathered n k ps) long c.gather-whole.ensures.views in
    let drained = subst (λ (n : ℕ). DrainedSoFar n whole s.room.items left) (ap length c.as_slice-3.ensures.value ∙ counted) (subst (λ (hs : List Hand). DrainedSoFar (length c.as_slice-3.result.now) hs s.room.items left) c.as_mut_slice.ensures.value c.drain_all.ensures) in
    subst (λ (n : ℕ). PagesInOrder ps n left) (ap (λ (v : PagesView). v.nodes) c.self.view_is)
    (in_order s.nodes ps c.self.invariant.few.0 all whole s.room.items left own c.self.invariant.empty (c.gather-whole.ensures.whole.count ∙ long) views drained)
