-- What a send and a take make of a pager.
use Rattle.std.proofs.Common.{◌≡◌, Bool, ℕ, ◌+◌, ◌<◌, ◌≤◌, ◌-◌, true, false, List, length, set, slice_index_or, sym, ap, ◌∙◌, subst, arith, Option, Some, None, length-set}
use Rattle.std.specs.Prelude.{Ok, Err}
use Rattle.std.proofs.Math.Seq.{map-set_same}
use Rattle.std.proofs.lemmas.List.{length-map}
use Rattle.jb_state.specs.declared.short.Short.{Short}
use Rattle.jb_page.specs.declared.page.Page.{Page}
use Rattle.jb_page.specs.declared.page.PageError.TheVariants.{Full}
use Rattle.jb_page.specs.declared.hand.Hand.{Hand}
use Rattle.jb_page.specs.declared.hand.PageQueue.{PageQueue}
use Rattle.jb_page.specs.Rows.{row_with_put, row_with_refusal, row_with_taken, row_with_none}
use Rattle.jb_page.specs.Pagers.{PagesView, PagerView, IsPagerOf, page, sent_with, taken_with}
use Rattle.jb_page.specs.Seats.{row_of, queue_of, Puts, Gets}
use Rattle.jb_page.specs.Hands.{queues_view, hands_view, AreOfQueues}
use Rattle.jb_page.proofs.Hands.{of_queues, with_hand}

-- the hand that was lent is the pager's
pub puts_to : {x : Page} {result : Bool} {lent own new : Hand} → lent ≡ own → Puts x result lent new → Puts x result own new
puts_to {x} {result} {lent} {own} {new} is puts = subst (λ (h : Hand). Puts x result h new) is puts

-- a pager of these pages, and what both show
module _ (pages : PagesView) (nodes : ℕ) (queues : List PageQueue) (pages_is : queues_view nodes queues ≡ pages)
    (pager : PagerView) (number count : ℕ) (hands : List Hand) (pager_is : hands_view number count hands ≡ pager) (of : IsPagerOf pages pager) where
  pub here : IsPagerOf (queues_view nodes queues) (hands_view number count hands)
  here = subst (λ (p : PagesView). IsPagerOf p (hands_view number count hands)) (sym pages_is) (subst (IsPagerOf pages) (sym pager_is) of)

  pub one_each : AreOfQueues queues hands
  one_each = of_queues queues hands here.queues

  pub as_many : length hands ≡ nodes
  as_many = sym (length-map hands row_of) ∙ here.rows

  pub within : (to : ℕ) → 0 < to → to ≤ pages.nodes → to - 1 < length hands
  within to some_node few = let nodes_are = ap (λ (p : PagesView). p.nodes) pages_is in omega (arith, nodes_are, as_many, some_node, few)

  -- one hand changes
  pub still_of : (sent k : ℕ) (h new : Hand) → queue_of new ≡ queue_of (slice_index_or hands k h) → IsPagerOf pages (hands_view number sent (set hands k new))
  still_of sent k h new same = subst (λ (p : PagesView). IsPagerOf p (hands_view number sent (set hands k new))) pages_is record {
    few = here.few;
    queues = map-set_same queue_of hands k new h same ∙ here.queues;
    rows = length-map (set hands k new) row_of ∙ (length-set hands k new ∙ as_many);
  }

  pub took : (result : Option Page) (h new : Hand) → number - 1 < length hands → Gets result (slice_index_or hands (number - 1) h) new → hands_view number count (set hands (number - 1) new) ≡ taken_with pager result
  took None h new low gets = with_hand number count (number - 1) hands h new row_with_none low gets.same.queue gets.row ∙ ap (λ (p : PagerView). taken_with p None) pager_is
  took (Some x) h new low gets = with_hand number count (number - 1) hands h new (λ r. row_with_taken r x) low gets.same.queue gets.row ∙ ap (λ (p : PagerView). taken_with p (Some x)) pager_is

  pub sent : (to : ℕ) (text : Short 72) (h new : Hand) → to - 1 < length hands → Puts (page number (count + 1) text) true (slice_index_or hands (to - 1) h) new
      → hands_view number (count + 1) (set hands (to - 1) new) ≡ sent_with pager to text (Ok tt)
  sent to text h new low puts = with_hand number (count + 1) (to - 1) hands h new (λ r. row_with_put r (page number (count + 1) text)) low puts.same.queue puts.row ∙ ap (λ (p : PagerView). sent_with p to text (Ok tt)) pager_is

  pub refused : (to : ℕ) (text : Short 72) (x : Page) (h new : Hand) → to - 1 < length hands → Puts x false (slice_index_or hands (to - 1) h) new
      → hands_view number count (set hands (to - 1) new) ≡ sent_with pager to text (Err (Full to))
  refused to text x h new low puts = with_hand number count (to - 1) hands h new row_with_refusal low puts.same.queue puts.row ∙ ap (λ (p : PagerView). sent_with p to text (Err (Full to))) pager_is
