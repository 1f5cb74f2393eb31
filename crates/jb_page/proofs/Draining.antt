-- The last pass takes out what waits, page by page.
use Rattle.std.proofs.Common.{◌≡◌, ℕ, ◌+◌, ◌<◌, true, List, [], ◌∷◌, ◌++◌, map, length, sym, refl, ap, ◌∙◌, subst, arith, append_assoc, length-append, Option, Some}
use Rattle.std.proofs.lemmas.List.{append-nil, map-append}
use Rattle.crossbeam_queue.specs.Fifo.{Pops, Learns}
use Rattle.jb_page.specs.declared.page.Page.{Page}
use Rattle.jb_page.specs.declared.view.Row.{Row}
use Rattle.jb_page.specs.declared.view.View.{View}
use Rattle.jb_page.specs.Rows.{Has, row, view_of, head_row, other_rows, with_taken, senders, FitsAll, Whole, after_taken}
use Rattle.jb_page.specs.Rule.{Queued}
use Rattle.jb_page.specs.Seats.{HasAll}
use Rattle.jb_page.proofs.Keeps.{pops, whole}
use Rattle.jb_page.proofs.Counting.{fit_alike}

rows_none : (rows : List Row) → 0 < length rows
    → rows ≡ row (head_row rows).pager (head_row rows).sent (head_row rows).answers ((head_row rows).taken ++ []) ((head_row rows).given ++ []) ∷ other_rows rows
rows_none [] h = absurd (omega arith)
rows_none (r ∷ rs) h = λ i. row r.pager r.sent r.answers (sym (append-nil r.taken) i) (sym (append-nil r.given) i) ∷ rs

pub after_none : (v : View) → 0 < length v.rows → v ≡ after_taken v []
after_none v h = ap (view_of v.made v.takes) (rows_none v.rows h)

pub after_more : (v u : View) (xs : List Page) (x : Page) (w : View) → u ≡ after_taken v xs → w ≡ with_taken u x → w ≡ after_taken v (xs ++ x ∷ [])
after_more v u xs x w is took = let r = head_row v.rows in took ∙ (ap (λ (z : View). with_taken z x) is
    ∙ (λ i. view_of v.made v.takes (row r.pager r.sent r.answers (append_assoc r.taken xs (x ∷ []) i) ((append_assoc r.given (map (λ (p : Page). Some p) xs) (Some x ∷ []) ∙ ap (λ (l : List (Option Page)). r.given ++ l) (sym (map-append (λ (p : Page). Some p) xs (x ∷ [])))) i) ∷ other_rows v.rows)))

senders_same : (rows : List Row) (r : Row) → 0 < length rows → r.pager ≡ (head_row rows).pager → r.sent ≡ (head_row rows).sent → senders (r ∷ other_rows rows) ≡ senders rows
senders_same [] r h a b = absurd (omega arith)
senders_same (q ∷ qs) r h a b = λ i. (a i, b i) ∷ senders qs

senders_after : (v : View) (xs : List Page) → 0 < length v.rows → senders (after_taken v xs).rows ≡ senders v.rows
senders_after v xs h = let r = head_row v.rows in senders_same v.rows (row r.pager r.sent r.answers (r.taken ++ xs) (r.given ++ map (λ (x : Page). Some x) xs)) h refl refl

all_after : (v : View) (xs : List Page) → 0 < length v.rows → HasAll v → HasAll (after_taken v xs)
all_after v xs h all = record { most = all.most; last = all.last; each = λ m is. subst (λ (l : List (ℕ × List Page)). (s : ℕ × List Page) × Has l s × (s.0 ≡ m)) (sym (senders_after v xs h)) (all.each m is) }

module _ (v : View) (some_row : 0 < length v.rows) (may : v.takes ≡ true) (all : HasAll v) where
  pub can_learn : (port : ℕ) (u : View) (xs : List Page) → u ≡ after_taken v xs → Learns Queued port u (Whole u)
  can_learn port u xs is = subst (λ (z : View). Learns Queued port z (Whole z)) (sym is) (whole port (after_taken v xs) may (all_after v xs some_row all))

  pub can_pop : (port : ℕ) (u : View) (xs : List Page) → u ≡ after_taken v xs → Pops Queued port u (λ x w. w ≡ with_taken u x)
  can_pop port u xs is = subst (λ (z : View). Pops Queued port z (λ x w. w ≡ with_taken z x)) (sym is) (pops port (after_taken v xs) (omega arith) may)

  pub fits_of : (u : View) (xs items : List Page) → u ≡ after_taken v xs → Whole u items → FitsAll (senders v.rows) ((head_row v.rows).taken ++ (xs ++ items))
  fits_of u xs items is w = let t : Whole (after_taken v xs) items = subst (λ (z : View). Whole z items) is w in
      subst (λ (z : List (ℕ × List Page)). FitsAll z ((head_row v.rows).taken ++ (xs ++ items))) (senders_after v xs some_row)
      (subst (FitsAll (senders (after_taken v xs).rows)) (append_assoc (head_row v.rows).taken xs items) t)

  -- as many pages are there before and after
  pub as_many : (u w : View) (xs ys items more : List Page) → u ≡ after_taken v xs → w ≡ after_taken v ys → Whole u items → Whole w more → length xs + length items ≡ length ys + length more
  as_many u w xs ys items more is was a b = let t : List Page = (head_row v.rows).taken in
      let e = fit_alike (senders v.rows) (t ++ (xs ++ items)) (t ++ (ys ++ more)) (fits_of u xs items is a) (fits_of w ys more was b) in
      omega (arith, e, length-append t (xs ++ items), length-append xs items, length-append t (ys ++ more), length-append ys more)

none_of : (xs : List Page) → length xs ≡ 0 → xs ≡ []
none_of [] e = refl
none_of (x ∷ xs) e = absurd (omega arith)

-- nothing waits any more
pub fits_whole : (v : View) (some_row : 0 < length v.rows) (u : View) (xs items : List Page) → u ≡ after_taken v xs → v.takes ≡ true → HasAll v → Whole u items → length items ≡ 0 → FitsAll (senders v.rows) ((head_row v.rows).taken ++ xs)
fits_whole v some_row u xs items is may all w none = subst (λ (l : List Page). FitsAll (senders v.rows) ((head_row v.rows).taken ++ l)) (ap (λ (l : List Page). xs ++ l) (none_of items none) ∙ append-nil xs) (fits_of v some_row may all u xs items is w)
