-- Closing with all pagers.
use Rattle.std.proofs.Common.{◌≡◌, ℕ, zero, suc, ◌<◌, true, List, [], ◌∷◌, ◌++◌, length, slice_index_or, sym, ap, ◌∙◌, subst, arith}
use Rattle.std.specs.Prelude.{All}
use Rattle.std.specs.List.{flat_map}
use mathlib.Core.Option.{some, some-injective, some-ne-none}
use lib.ListN.{get_elem?}
use Rattle.jb_page.specs.declared.page.Page.{Page}
use Rattle.jb_page.specs.declared.view.View.{View}
use Rattle.jb_page.specs.declared.hand.Hand.{Hand}
use Rattle.jb_page.specs.declared.hand.PageQueue.{PageQueue}
use Rattle.jb_page.specs.Rows.{head_row, senders, FitsAll}
use Rattle.jb_page.specs.Pagers.{PagesView, PagerView, IsPagerOf}
use Rattle.jb_page.specs.Closing.{PagesInOrder}
use Rattle.jb_page.specs.Seats.{view_in, HasAll}
use Rattle.jb_page.specs.Hands.{queues_view, IsPagerOn}
use Rattle.jb_page.specs.Gathered.{gathered, AreOwn, HasAllNumbers, DrainedSoFar}
use Rattle.jb_page.proofs.Begins.{one_of}
use Rattle.jb_page.proofs.Gathering.{heap, heap_takes, heap_all, paged}

at_value : {A : Type 0} (l : List A) (i : ℕ) (a : A) → get_elem? l i ≡ some a → (i < length l) × (slice_index_or l i a ≡ a)
at_value [] i a e = absurd (some-ne-none a (sym e))
at_value (x ∷ xs) zero a e = (omega arith, some-injective x a e)
at_value (x ∷ xs) (suc i) a e = let h = at_value xs i a e in let l = h.0 in (omega arith, h.1)

-- a pager of these pages has one hand for each queue
pub on_queues : (nodes : ℕ) (queues : List PageQueue) (pages : PagesView) (ps : List PagerView) → queues_view nodes queues ≡ pages → length queues ≡ nodes → All (IsPagerOf pages) ps → All (IsPagerOn queues) ps
on_queues nodes queues pages ps is counted of = λ k d low. let one = of k d low in record {
  queues_are = one.queues ∙ sym (ap (λ (v : PagesView). v.queues) is);
  rows = one.rows ∙ (sym (ap (λ (v : PagesView). v.nodes) is) ∙ sym counted);
}

module _ (nodes : ℕ) (ps : List PagerView) (some_node : 0 < nodes) (all : HasAllNumbers ps nodes) where
  pub some_pagers : 0 < length ps
  some_pagers = let h = all 1 (omega arith) (omega arith) in let v = at_value ps h.1.0 h.0 h.1.1 in let l = v.0 in omega arith

  pub ready : (hands : List Hand) → AreOwn nodes ps → ((k : ℕ) (h : Hand) → k < nodes → view_in (slice_index_or hands k h) ≡ gathered nodes k ps) → (k : ℕ) (h : Hand) → k < nodes
      → ((view_in (slice_index_or hands k h)).takes ≡ true) × HasAll (view_in (slice_index_or hands k h)) × (0 < length (view_in (slice_index_or hands k h)).rows)
  ready hands own views k h low = subst (λ (v : View). (v.takes ≡ true) × HasAll v × (0 < length v.rows)) (sym (views k h low))
      (heap_takes nodes k ps some_pagers own all low, heap_all nodes k ps some_pagers own all low, (heap nodes k ps some_pagers).some_row)

  pub in_order : (hands : List Hand) (before left : List Page) → AreOwn nodes ps → before ≡ [] → length hands ≡ nodes → ((k : ℕ) (h : Hand) → k < nodes → view_in (slice_index_or hands k h) ≡ gathered nodes k ps)
      → DrainedSoFar nodes hands before left → PagesInOrder ps nodes left
  in_order hands before left own none long views drained = record {
    parts = drained.parts;
    all = drained.all ∙ ap (λ (l : List Page). l ++ flat_map (λ (p : List Page). p) drained.parts) none;
    count = drained.count;
    each = λ k low. let h = one_of hands k (omega (arith, long, low)) in
        paged nodes k ps some_pagers own all low (slice_index_or drained.parts k []) (drained.few k low)
        (subst (λ (v : View). FitsAll (senders v.rows) ((head_row v.rows).taken ++ slice_index_or drained.parts k [])) (views k h low) (drained.each k h low));
  }
