-- The serial numbers of a pager's pages rise.
use Rattle.std.proofs.Common.{◌≡◌, ◌≢◌, ◌⊎◌, inl, inr, ⊎_elim, ℕ, zero, suc, ◌+◌, ◌<◌, ◌≤◌, ◌-◌, List, [], ◌∷◌, ◌++◌, length, map, set, slice_index_or, refl, sym, ap, ◌∙◌, subst, arith, Option, Some, None, Result, length-set}
use Rattle.std.specs.Prelude.{Ok, Err}
use Rattle.std.proofs.Math.Seq.{map-set_same}
use Rattle.std.proofs.lemmas.List.{length-map, length-replicate, map-set, get_or-map, get_or-replicate, get_or-set_same, get_or-set_other}
use mathlib.Core.Option.{some, some-injective}
use mathlib.Core.Logic.{dite}
use native.Mathlib.Decide.{ℕ_discrete}
use lib.ListN.{get_elem?}
use Rattle.jb_state.specs.declared.short.Short.{Short}
use Rattle.jb_page.specs.declared.page.Page.{Page}
use Rattle.jb_page.specs.declared.page.PageError.{PageError}
use Rattle.jb_page.specs.declared.page.PageError.TheVariants.{Full, Spent}
use Rattle.jb_page.specs.declared.view.Row.{Row}
use Rattle.jb_page.specs.Rows.{Has, row, row_with_put, row_with_refusal, row_with_taken, row_with_none}
use Rattle.jb_page.specs.Pagers.{PagerView, IsNewPager, row_at, with_row_at, page, sent_with, taken_with}
use Rattle.jb_page.specs.Serials.{PagerCall, sends, takes, after_calls, AreWithin, RiseTo, HasSerial, HasSerials, SerialsRise, SerialsAlwaysRise}
use Rattle.jb_page.proofs.Keeps.{none_has}
use Rattle.jb_page.proofs.Gathering.{has_left, has_right}

rise_more : (low high : ℕ) (xs : List Page) (x : Page) → RiseTo low high xs → x.serial ≡ high + 1 → RiseTo low (high + 1) (xs ++ x ∷ [])
rise_more low high [] x rise e = (omega (arith, rise, e), omega (arith, e))
rise_more low high (y ∷ ys) x rise e = (rise.0, rise_more y.serial high ys x rise.1 e)

rise_up : (low high : ℕ) (xs : List Page) → RiseTo low high xs → RiseTo low (high + 1) xs
rise_up low high [] rise = omega (arith, rise)
rise_up low high (y ∷ ys) rise = (rise.0, rise_up y.serial high ys rise.1)

rise_bounds : (low high : ℕ) (xs : List Page) → RiseTo low high xs → low ≤ high
rise_bounds low high [] rise = rise
rise_bounds low high (y ∷ ys) rise = let a = rise.0 in let b = rise_bounds y.serial high ys rise.1 in omega (arith, a, b)

at_most : (low high : ℕ) (xs : List Page) (x : Page) (k : ℕ) → RiseTo low high xs → get_elem? xs k ≡ some x → x.serial ≤ high
at_most low high [] x k rise e = absurd (none_has x (k, e))
at_most low high (y ∷ ys) x zero rise e = subst (λ (z : Page). z.serial ≤ high) (some-injective y x e) (rise_bounds y.serial high ys rise.1)
at_most low high (y ∷ ys) x (suc k) rise e = at_most y.serial high ys x k rise.1 e

has_split : (xs : List Page) (x y : Page) (k : ℕ) → get_elem? (xs ++ x ∷ []) k ≡ some y → Has xs y ⊎ (x ≡ y)
has_split [] x y zero e = inr (some-injective x y e)
has_split [] x y (suc k) e = absurd (none_has y (k, e))
has_split (z ∷ zs) x y zero e = inl (zero, e)
has_split (z ∷ zs) x y (suc k) e = ⊎_elim (λ h. inl (suc h.0, h.1)) (λ is. inr is) (has_split zs x y k e)

module _ (count : ℕ) (lists : List (List Page)) (k : ℕ) (x : Page) (low : k < length lists) (next : x.serial ≡ count + 1) (old : HasSerials count lists) where
  abbrev new : List (List Page)
  new = set lists k (slice_index_or lists k [] ++ x ∷ [])

  -- what has become of each list
  put_here : slice_index_or new k [] ≡ slice_index_or lists k [] ++ x ∷ []
  put_here = get_or-set_same lists k (slice_index_or lists k [] ++ x ∷ []) [] low

  put_there : (j : ℕ) → j ≢ k → slice_index_or new j [] ≡ slice_index_or lists j []
  put_there j ne = get_or-set_other lists k j (slice_index_or lists k [] ++ x ∷ []) [] ne

  as_many : length new ≡ length lists
  as_many = length-set lists k (slice_index_or lists k [] ++ x ∷ [])

  longer : (n j : ℕ) → HasSerial n (slice_index_or lists j []) → HasSerial n (slice_index_or new j [])
  longer n j h = dite (ℕ_discrete j k)
      (λ is. subst (λ (i : ℕ). HasSerial n (slice_index_or new i [])) (sym is) (subst (HasSerial n) (sym put_here)
      (subst (λ (i : ℕ). HasSerial n (slice_index_or lists i [] ++ x ∷ [])) is (h.0, has_left (slice_index_or lists j []) (x ∷ []) h.0 h.1, h.2))))
      (λ ne. subst (HasSerial n) (sym (put_there j ne)) h)

  older : (n j : ℕ) → n ≢ count + 1 → HasSerial n (slice_index_or new j []) → HasSerial n (slice_index_or lists j [])
  older n j small h = dite (ℕ_discrete j k)
      (λ is. subst (λ (i : ℕ). HasSerial n (slice_index_or lists i [])) (sym is)
      (back (subst (HasSerial n) put_here (subst (λ (i : ℕ). HasSerial n (slice_index_or new i [])) is h))))
      (λ ne. subst (HasSerial n) (put_there j ne) h)
    where
      back : HasSerial n (slice_index_or lists k [] ++ x ∷ []) → HasSerial n (slice_index_or lists k [])
      back g = ⊎_elim (λ has. (g.0, has, g.2)) (λ is. absurd (small (sym g.2 ∙ (ap (λ (z : Page). z.serial) (sym is) ∙ next)))) (has_split (slice_index_or lists k []) x g.0 g.1.0 g.1.1)

  new_only : (j : ℕ) → j < length new → HasSerial (count + 1) (slice_index_or new j []) → j ≡ k
  new_only j within h = dite (ℕ_discrete j k) (λ is. is)
      (λ ne. let g = subst (HasSerial (count + 1)) (put_there j ne) h in let most = at_most 0 count (slice_index_or lists j []) g.0 g.1.0 (old.rising j (omega (arith, within, as_many))) g.1.1 in let e = g.2 in absurd (omega (arith, most, e)))

  put_rises : HasSerials (count + 1) new
  put_rises = record {
    rising = λ j within. dite (ℕ_discrete j k)
        (λ is. subst (λ (i : ℕ). RiseTo 0 (count + 1) (slice_index_or new i [])) (sym is) (subst (RiseTo 0 (count + 1)) (sym put_here) (rise_more 0 count (slice_index_or lists k []) x (old.rising k low) next)))
        (λ ne. subst (RiseTo 0 (count + 1)) (sym (put_there j ne)) (rise_up 0 count (slice_index_or lists j []) (old.rising j (omega (arith, within, as_many)))));
    each = λ n above few. dite (ℕ_discrete n (count + 1))
        (λ is. subst (λ (m : ℕ). (i : ℕ) × (i < length new) × HasSerial m (slice_index_or new i []) × ((j : ℕ) → j < length new → HasSerial m (slice_index_or new j []) → j ≡ i)) (sym is)
        (k, omega (arith, low, as_many), subst (HasSerial (count + 1)) (sym put_here) (x, has_right (slice_index_or lists k []) (x ∷ []) x (0, refl), next), new_only))
        (λ ne. let h = old.each n above (omega (arith, few, ne)) in let within = h.1 in
        (h.0, omega (arith, within, as_many), longer n h.0 h.2, λ j in_new has. h.3 j (omega (arith, in_new, as_many)) (older n j ne has)));
  }

abbrev sent_of : Row → List Page
sent_of r = r.sent

kept : (pager : PagerView) (to : ℕ) (r : Row) → r.sent ≡ (row_at to pager).sent → SerialsRise pager → SerialsRise (with_row_at to r pager)
kept pager to r same rise = subst (HasSerials pager.count) (sym (map-set_same sent_of pager.rows (to - 1) r (row 0 [] [] [] []) same)) rise

put : (pager : PagerView) (to : ℕ) (text : Short 72) → 0 < to → to ≤ length pager.rows → SerialsRise pager → SerialsRise (sent_with pager to text (Ok tt))
put pager to text above few rise = let x = page pager.number (pager.count + 1) text in let rows = pager.rows in
    let low : to - 1 < length (map sent_of rows) = omega (arith, above, few, length-map rows sent_of) in
    let here : slice_index_or (map sent_of rows) (to - 1) [] ≡ (row_at to pager).sent = get_or-map sent_of rows (to - 1) (row 0 [] [] [] []) [] (omega (arith, above, few)) in
    let is : set (map sent_of rows) (to - 1) (slice_index_or (map sent_of rows) (to - 1) [] ++ x ∷ []) ≡ map sent_of (set rows (to - 1) (row_with_put (row_at to pager) x)) =
    ap (λ (l : List Page). set (map sent_of rows) (to - 1) (l ++ x ∷ [])) here ∙ sym (map-set sent_of rows (to - 1) (row_with_put (row_at to pager) x)) in
    subst (HasSerials (pager.count + 1)) is (put_rises pager.count (map sent_of rows) (to - 1) x low refl rise)

after_send : (pager : PagerView) (to : ℕ) (text : Short 72) (result : Result (Unit {0}) PageError) → 0 < to → to ≤ length pager.rows → SerialsRise pager → SerialsRise (sent_with pager to text result)
after_send pager to text (Ok _) above few rise = put pager to text above few rise
after_send pager to text (Err (Full n)) above few rise = kept pager to (row_with_refusal (row_at to pager)) refl rise
after_send pager to text (Err (Spent n)) above few rise = rise

after_take : (pager : PagerView) (result : Option Page) → SerialsRise pager → SerialsRise (taken_with pager result)
after_take pager (Some x) rise = kept pager pager.number (row_with_taken (row_at pager.number pager) x) refl rise
after_take pager None rise = kept pager pager.number (row_with_none (row_at pager.number pager)) refl rise

send_rows : (pager : PagerView) (to : ℕ) (text : Short 72) (result : Result (Unit {0}) PageError) → length (sent_with pager to text result).rows ≡ length pager.rows
send_rows pager to text (Ok _) = length-set pager.rows (to - 1) _
send_rows pager to text (Err (Full n)) = length-set pager.rows (to - 1) _
send_rows pager to text (Err (Spent n)) = refl

take_rows : (pager : PagerView) (result : Option Page) → length (taken_with pager result).rows ≡ length pager.rows
take_rows pager (Some x) = length-set pager.rows (pager.number - 1) _
take_rows pager None = length-set pager.rows (pager.number - 1) _

after_all : (pager : PagerView) (calls : List PagerCall) → AreWithin (length pager.rows) calls → SerialsRise pager → SerialsRise (after_calls pager calls)
after_all pager [] within rise = rise
after_all pager (sends to text result ∷ calls) within rise =
    after_all (sent_with pager to text result) calls (subst (λ (n : ℕ). AreWithin n calls) (sym (send_rows pager to text result)) within.2) (after_send pager to text result within.0 within.1 rise)
after_all pager (takes result ∷ calls) within rise =
    after_all (taken_with pager result) calls (subst (λ (n : ℕ). AreWithin n calls) (sym (take_rows pager result)) within) (after_take pager result rise)

new_rows : (nodes number : ℕ) (pager : PagerView) → IsNewPager nodes number pager → length pager.rows ≡ nodes
new_rows nodes number pager new = ap length new.rows ∙ length-replicate nodes (row number [] [] [] [])

new_rises : (nodes number : ℕ) (pager : PagerView) → IsNewPager nodes number pager → SerialsRise pager
new_rises nodes number pager new = record {
  rising = λ k low. let within : k < length pager.rows = omega (arith, low, length-map pager.rows sent_of) in let none = row 0 [] [] [] [] in
      let is : slice_index_or pager.rows k none ≡ row number [] [] [] [] =
      ap (λ (rows : List Row). slice_index_or rows k none) new.rows ∙ get_or-replicate nodes k (row number [] [] [] []) none (omega (arith, within, new_rows nodes number pager new)) in
      subst (RiseTo 0 pager.count) (sym (get_or-map sent_of pager.rows k none [] within ∙ ap sent_of is)) (omega arith);
  each = λ n above few. let none = new.none in absurd (omega (arith, above, few, none));
}

pub serials_rise : SerialsAlwaysRise
serials_rise nodes number pager calls new within = after_all pager calls (subst (λ (n : ℕ). AreWithin n calls) (sym (new_rows nodes number pager new)) within) (new_rises nodes number pager new)
