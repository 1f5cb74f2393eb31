-- Pager after pager is taken in.
use Rattle.std.proofs.Common.{◌≡◌, ℕ, zero, suc, ◌+◌, ◌<◌, ◌-◌, List, [], ◌∷◌, ◌++◌, length, map, take, drop, slice_index_or, sym, refl, ap, ◌∙◌, subst, arith}
use Rattle.std.proofs.lemmas.List.{get_or-map}
use Rattle.std.proofs.Math.Seq.{take-append_seam}
use mathlib.Core.Option.{some, some-injective}
use lib.ListN.{get_elem?}
use Rattle.jb_page.specs.declared.view.Row.{Row}
use Rattle.jb_page.specs.declared.view.View.{View}
use Rattle.jb_page.specs.declared.hand.Hand.{Hand}
use Rattle.jb_page.specs.declared.hand.PageQueue.{PageQueue}
use Rattle.jb_page.specs.Rows.{row, view_of, blank, joined}
use Rattle.jb_page.specs.Pagers.{PagerView, row_at}
use Rattle.jb_page.specs.Seats.{row_of, view_in}
use Rattle.jb_page.specs.Hands.{hands_view, AreHands, AreOfQueues, IsPagerOn, made_by}
use Rattle.jb_page.specs.Gathered.{hand_view, own_view, gathered, AreOwn}
use Rattle.jb_page.proofs.Keeps.{none_has}
use Rattle.jb_page.proofs.Hands.{of_queues}
use Rattle.jb_page.proofs.Begins.{one_of}
use Rattle.jb_page.proofs.Gathering.{ordered_some}

-- what a pager shows of its hand at place k is what the hand's row says
row_shown : (number count k : ℕ) (hands : List Hand) (h : Hand) → k < length hands → row_of (slice_index_or hands k h) ≡ row_at (k + 1) (hands_view number count hands)
row_shown number count k hands h low = let e : k + 1 - 1 ≡ k = omega arith in
    sym (ap (λ (j : ℕ). slice_index_or (map row_of hands) j (row 0 [] [] [] [])) e ∙ get_or-map row_of hands k h (row 0 [] [] [] []) low)

-- a pager's hand knows its row alone
pub own_of : (nodes number count k : ℕ) (hands : List Hand) → AreHands number hands → length hands ≡ nodes → k < nodes → hand_view k hands ≡ own_view nodes k (hands_view number count hands)
own_of nodes number count k hands are long low = let here : k < length hands = omega (arith, long, low) in let h = one_of hands k here in let is = are k h here in
    let made = is.made ∙ ap (λ (n : ℕ). made_by n number) long in let rows = is.one ∙ ap (λ (r : Row). r ∷ []) (row_shown number count k hands h here) in
    get_or-map view_in hands k h blank here ∙ (λ i. view_of (made i) (is.takes i) (rows i))

own_rows : (nodes number count k : ℕ) (hands : List Hand) → AreHands number hands → length hands ≡ nodes → k < nodes → (row_at (k + 1) (hands_view number count hands)).pager ≡ number
own_rows nodes number count k hands are long low = let here : k < length hands = omega (arith, long, low) in let h = one_of hands k here in
    ap (λ (r : Row). r.pager) (sym (row_shown number count k hands h here)) ∙ (are k h here).pager

-- the hands know what these pagers' hands knew
pub record Knows (nodes : ℕ) (hands : List Hand) (rest : List PagerView) : Type 0 where
  pub some_pager : 0 < length rest
  pub views : (k : ℕ) (h : Hand) → k < nodes → view_in (slice_index_or hands k h) ≡ gathered nodes k rest
  pub rows : (k : ℕ) (h : Hand) → k < nodes → 0 < length (view_in (slice_index_or hands k h)).rows
  pub own : AreOwn nodes rest

pub knows_one : (nodes number count : ℕ) (hands : List Hand) → AreHands number hands → length hands ≡ nodes → Knows nodes hands (hands_view number count hands ∷ [])
knows_one nodes number count hands are long = record {
  some_pager = omega arith;
  views = λ k h low. here k h low;
  rows = λ k h low. subst (λ (v : View). 0 < length v.rows) (sym (here k h low)) (omega arith);
  own = λ p k h low. only p h.0 h.1 k low;
}
  where
    here : (k : ℕ) (h : Hand) → k < nodes → view_in (slice_index_or hands k h) ≡ own_view nodes k (hands_view number count hands)
    here k h low = sym (get_or-map view_in hands k h blank (omega (arith, long, low))) ∙ own_of nodes number count k hands are long low

    only : (p : PagerView) (j : ℕ) → get_elem? (hands_view number count hands ∷ []) j ≡ some p → (k : ℕ) → k < nodes → (row_at (k + 1) p).pager ≡ p.number
    only p zero e k low = subst (λ (z : PagerView). (row_at (k + 1) z).pager ≡ z.number) (some-injective _ p e) (own_rows nodes number count k hands are long low)
    only p (suc j) e k low = absurd (none_has p (j, e))

gathered_more : (nodes k : ℕ) (p : PagerView) (rest : List PagerView) → 0 < length rest → gathered nodes k (p ∷ rest) ≡ joined (gathered nodes k rest) (own_view nodes k p)
gathered_more nodes k p [] h = absurd (omega arith)
gathered_more nodes k p (q ∷ rest) h = refl

pub knows_more : (nodes number count : ℕ) (hands old new : List Hand) (rest : List PagerView) → AreHands number hands → length hands ≡ nodes → Knows nodes old rest
    → ((k : ℕ) (h : Hand) → k < nodes → view_in (slice_index_or new k h) ≡ joined (view_in (slice_index_or old k h)) (hand_view k hands)) → Knows nodes new (hands_view number count hands ∷ rest)
knows_more nodes number count hands old new rest are long was both = record {
  some_pager = omega arith;
  views = λ k h low. here k h low ∙ (ap (λ (v : View). joined v (own_view nodes k (hands_view number count hands))) (was.views k h low) ∙ sym (gathered_more nodes k (hands_view number count hands) rest was.some_pager));
  rows = λ k h low. subst (λ (v : View). 0 < length v.rows) (sym (here k h low))
      (ordered_some (own_view nodes k (hands_view number count hands)).takes (view_in (slice_index_or old k h)).rows (own_view nodes k (hands_view number count hands)).rows (was.rows k h low) (omega arith));
  own = λ p k h low. own_more p h.0 h.1 k low;
}
  where
    here : (k : ℕ) (h : Hand) → k < nodes → view_in (slice_index_or new k h) ≡ joined (view_in (slice_index_or old k h)) (own_view nodes k (hands_view number count hands))
    here k h low = both k h low ∙ ap (joined (view_in (slice_index_or old k h))) (own_of nodes number count k hands are long low)

    own_more : (p : PagerView) (j : ℕ) → get_elem? (hands_view number count hands ∷ rest) j ≡ some p → (k : ℕ) → k < nodes → (row_at (k + 1) p).pager ≡ p.number
    own_more p zero e k low = subst (λ (z : PagerView). (row_at (k + 1) z).pager ≡ z.number) (some-injective _ p e) (own_rows nodes number count k hands are long low)
    own_more p (suc j) e k low = was.own p k (j, e) low

-- a pager with one hand for each queue has them in order
pub hands_of : (queues : List PageQueue) (number count : ℕ) (hands : List Hand) (pager : PagerView) → hands_view number count hands ≡ pager → IsPagerOn queues pager → AreOfQueues queues hands
hands_of queues number count hands pager is on = of_queues queues hands (ap (λ (p : PagerView). p.queues) is ∙ on.queues_are)

-- a vector whose slice was written has what was written
pub refilled : {A : Type 0} (len : ℕ) (items new : List A) → len ≡ length items → length new ≡ length items → take len (new ++ drop (length new) items) ≡ new
refilled len items new size same = subst (λ (n : ℕ). take n (new ++ drop (length new) items) ≡ new) (same ∙ sym size) (take-append_seam new (drop (length new) items))
