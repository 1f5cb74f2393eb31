-- The rule of one queue: for each sender, its pages that were taken and then its pages that wait are those that it sent, in order.
use Rattle.std.specs.Prelude.{◌≡◌, ℕ, ◌≤◌, ◌<◌, true, List, [], ◌++◌, Some}
use mathlib.Core.Option.{some}
use lib.ListN.{get_elem?}
use Rattle.jb_page.specs.declared.page.Page.{Page}
use Rattle.jb_page.specs.declared.view.Row.{Row}
use Rattle.jb_page.specs.declared.view.View.{View}
use Rattle.jb_page.specs.Rows.{Has, pages_of, head_row}

-- the numbers of the pagers that were made
abbrev pub IsMade : ℕ → ℕ → Type 0
IsMade made n = (0 < n) × (n ≤ made)

-- what the pass at place j knows is true. `taken` are all pages that ever were taken, and `items` those that wait
pub record IsSeat (taken items : List Page) (made maker taker : ℕ) (owner : ℕ → ℕ) (j : ℕ) (v : View) : Type 0 where
  pub sent : (r : Row) → Has v.rows r → pages_of r.pager (taken ++ items) ≡ r.sent
  -- each pager is with one pass, and was made
  pub owned : (r : Row) → Has v.rows r → owner r.pager ≡ j
  pub made_before : (r : Row) → Has v.rows r → IsMade made r.pager
  -- one pass takes, and its first row has all that was taken
  pub takes : v.takes ≡ true → (taker ≡ j) × ((head_row v.rows).taken ≡ taken)
  -- the pass that was made last makes the next
  pub makes : (n : ℕ) → v.made ≡ Some n → (maker ≡ j) × (n ≡ made)

-- what was taken and what waits is true of what every pass knows
pub record Queued (items : List Page) (views : List View) : Type 0 where
  pub taken : List Page
  pub made : ℕ
  pub maker : ℕ
  pub taker : ℕ
  pub owner : ℕ → ℕ
  pub each : (j : ℕ) (v : View) → get_elem? views j ≡ some v → IsSeat taken items made maker taker owner j v
  -- no page has a sender that was not made
  pub unmade : (n : ℕ) → (IsMade made n → ⊥) → pages_of n (taken ++ items) ≡ []
