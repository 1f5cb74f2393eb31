-- The hands of a pager stay its own, and what their pager shows of them.
use Rattle.std.proofs.Common.{◌≡◌, ℕ, suc, ◌+◌, ◌<◌, ◌≤◌, ◌-◌, Bool, true, false, List, [], ◌∷◌, length, map, set, slice_index_or, refl, sym, ap, ◌∙◌, subst, arith, eq-eqb, Option, Some, None, length-set}
use Rattle.std.proofs.Math.Seq.{map-set_same}
use Rattle.std.proofs.lemmas.List.{length-map, map-set, get_or-map, get_or-set_same, get_or-set_other}
use mathlib.Core.Logic.{dite}
use native.Mathlib.Decide.{ℕ_discrete}
use Rattle.jb_page.specs.declared.page.Page.{Page}
use Rattle.jb_page.specs.declared.hand.Hand.{Hand}
use Rattle.jb_page.specs.declared.hand.PageQueue.{PageQueue}
use Rattle.jb_page.specs.declared.view.Row.{Row}
use Rattle.jb_page.specs.Rows.{row}
use Rattle.jb_page.specs.Seats.{row_of, view_in, queue_of, id_of, IsSameHand, Puts, Gets}
use Rattle.jb_page.specs.Hands.{hands_view, IsHandOf, AreHands, AreOfQueues}

pub record IsKeptHand (old new : Hand) : Type 0 where
  pub same : IsSameHand old new
  pub pager : (row_of new).pager ≡ (row_of old).pager

pub put_keeps : (p : Page) (result : Bool) (old new : Hand) → Puts p result old new → IsKeptHand old new
put_keeps p true old new h = record { same = h.same; pager = ap (λ (r : Row). r.pager) h.row }
put_keeps p false old new h = record { same = h.same; pager = ap (λ (r : Row). r.pager) h.row }

pub get_keeps : (result : Option Page) (old new : Hand) → Gets result old new → IsKeptHand old new
get_keeps None old new h = record { same = h.same; pager = ap (λ (r : Row). r.pager) h.row }
get_keeps (Some p) old new h = record { same = h.same; pager = ap (λ (r : Row). r.pager) h.row }

stays : (nodes number k : ℕ) (old new : Hand) → IsKeptHand old new → IsHandOf nodes number k old → IsHandOf nodes number k new
stays nodes number k old new kept is = record { one = kept.same.one; pager = kept.pager ∙ is.pager; takes = kept.same.takes ∙ is.takes; made = kept.same.made ∙ is.made }

-- one hand changes, and is still its pager's
pub hands_kept : (number k : ℕ) (hands : List Hand) (h new : Hand) → AreHands number hands → k < length hands → IsKeptHand (slice_index_or hands k h) new → AreHands number (set hands k new)
hands_kept number k hands h new are low kept = λ j d within. let long = length-set hands k new in
    subst (λ (n : ℕ). IsHandOf n number j (slice_index_or (set hands k new) j d)) (sym long) (dite (ℕ_discrete j k)
    (λ is. subst (λ (i : ℕ). IsHandOf (length hands) number i (slice_index_or (set hands k new) i d)) (sym is)
    (subst (IsHandOf (length hands) number k) (sym (get_or-set_same hands k new d low)) (stays (length hands) number k (slice_index_or hands k h) new kept (are k h low))))
    (λ ne. subst (IsHandOf (length hands) number j) (sym (get_or-set_other hands k j new d ne)) (are j d (omega (arith, long, within)))))

-- what its pager then shows
pub with_hand : (number count k : ℕ) (hands : List Hand) (h new : Hand) (f : Row → Row) → k < length hands → queue_of new ≡ queue_of (slice_index_or hands k h) → row_of new ≡ f (row_of (slice_index_or hands k h))
    → hands_view number count (set hands k new) ≡ record { number = number; count = count; queues = map queue_of hands; rows = set (map row_of hands) k (f (slice_index_or (map row_of hands) k (row 0 [] [] [] []))) }
with_hand number count k hands h new f low queue is = λ i. record {
  number = number;
  count = count;
  queues = map-set_same queue_of hands k new h queue i;
  rows = (map-set row_of hands k new ∙ ap (set (map row_of hands) k) (is ∙ ap f (sym (get_or-map row_of hands k h (row 0 [] [] [] []) low)))) i;
}

-- a pager that shows these queues has one hand for each
pub of_queues : (queues : List PageQueue) (hands : List Hand) → map queue_of hands ≡ map id_of queues → AreOfQueues queues hands
of_queues queues hands same = let long = sym (length-map hands queue_of) ∙ (ap length same ∙ length-map queues id_of) in record {
  count = long;
  each = λ k h l low. sym (get_or-map queue_of hands k h (queue_of h) (omega (arith, long, low))) ∙ (ap (λ xs. slice_index_or xs k (queue_of h)) same ∙ get_or-map id_of queues k l (queue_of h) low);
}

-- and one that has shows them
pub same_queues : (queues : List PageQueue) (hands : List Hand) → length hands ≡ length queues
    → ((k : ℕ) (h : Hand) (l : PageQueue) → k < length queues → queue_of (slice_index_or hands k h) ≡ id_of (slice_index_or queues k l)) → map queue_of hands ≡ map id_of queues
same_queues [] [] long each = refl
same_queues (q ∷ qs) [] long each = absurd (omega (arith, long))
same_queues [] (h ∷ hs) long each = absurd (omega (arith, long))
same_queues (q ∷ qs) (h ∷ hs) long each = λ i. each 0 h q (omega arith) i ∷ same_queues qs hs (omega (arith, long)) (λ k x l low. each (suc k) x l (omega (arith, low))) i

-- a pager takes from its own queue
pub own_queue : (number : ℕ) (hands : List Hand) → AreHands number hands → 0 < number → number ≤ length hands → (h : Hand) → (view_in (slice_index_or hands (number - 1) h)).takes ≡ true
own_queue number hands are some_number few h = (are (number - 1) h (omega arith)).takes ∙ eq-eqb number (number - 1 + 1) (omega arith)
