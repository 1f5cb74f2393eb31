-- What a pass of one queue knows, and how each step changes it.
use Rattle.std.specs.Prelude.{◌≡◌, ◌≢◌, ℕ, ◌+◌, ◌==◌, Bool, true, false, ◌||◌, map, List, [], ◌∷◌, ◌++◌, Option, Some, None}
use Rattle.std.specs.List.{filter}
use mathlib.Core.Option.{some}
use lib.ListN.{get_elem?}
use Rattle.jb_page.specs.declared.page.Page.{Page}
use Rattle.jb_page.specs.declared.view.Row.{Row}
use Rattle.jb_page.specs.declared.view.View.{View}

-- x stands in the list
abbrev pub Has : {A : Type 0} → List A → A → Type 0
Has xs x = (k : ℕ) × (get_elem? xs k ≡ some x)

-- the pages of one pager, in order
abbrev pub pages_of : ℕ → List Page → List Page
pages_of n pages = filter (λ p. p.from == n) pages

-- what is known of this pager, with what it sent, was answered, took and was given
abbrev pub row : ℕ → List Page → List Bool → List Page → List (Option Page) → Row
row pager sent answers taken given = record { pager = pager; sent = sent; answers = answers; taken = taken; given = given }

-- what a pass knows, with these rows
abbrev pub view_of : Option ℕ → Bool → List Row → View
view_of made takes rows = record { made = made; takes = takes; rows = rows }

-- the first row; nobody's where there is none
abbrev pub head_row : List Row → Row
head_row [] = row 0 [] [] [] []
head_row (r ∷ rs) = r

-- the rows behind the first
abbrev pub other_rows : List Row → List Row
other_rows [] = []
other_rows (r ∷ rs) = rs

-- a view that knows nothing
abbrev pub blank : View
blank = view_of None false []

-- what the first pass knows: it is the last that was made, and it takes
abbrev pub maker : View
maker = view_of (Some 1) true (row 1 [] [] [] [] ∷ [])

-- the number that is there, or 0
abbrev pub or_none : Option ℕ → ℕ
or_none None = 0
or_none (Some n) = n

-- the first that is there
abbrev pub either_of : Option ℕ → Option ℕ → Option ℕ
either_of None b = b
either_of (Some n) b = Some n

-- a pass that has made another is not the last any more
abbrev pub older : View → Bool → View
older v takes = view_of None takes v.rows

-- the one that it made, with the next number
abbrev pub newcomer : View → Bool → View
newcomer v takes = view_of (Some (or_none v.made + 1)) takes (row (or_none v.made + 1) [] [] [] [] ∷ [])

-- the view with another first row
abbrev pub with_row : View → Row → View
with_row v r = view_of v.made v.takes (r ∷ other_rows v.rows)

-- the page was put
abbrev pub row_with_put : Row → Page → Row
row_with_put r x = row r.pager (r.sent ++ x ∷ []) (r.answers ++ true ∷ []) r.taken r.given

-- a page found no room
abbrev pub row_with_refusal : Row → Row
row_with_refusal r = row r.pager r.sent (r.answers ++ false ∷ []) r.taken r.given

-- the page was taken
abbrev pub row_with_taken : Row → Page → Row
row_with_taken r x = row r.pager r.sent r.answers (r.taken ++ x ∷ []) (r.given ++ Some x ∷ [])

-- no page was there to take
abbrev pub row_with_none : Row → Row
row_with_none r = row r.pager r.sent r.answers r.taken (r.given ++ None ∷ [])

-- the first row with the page that was put
abbrev pub with_put : View → Page → View
with_put v x = with_row v (row_with_put (head_row v.rows) x)

-- the first row with a page that found no room
abbrev pub with_refusal : View → View
with_refusal v = with_row v (row_with_refusal (head_row v.rows))

-- the first row with the page that was taken
abbrev pub with_taken : View → Page → View
with_taken v x = with_row v (row_with_taken (head_row v.rows) x)

-- the first row with a take that found no page
abbrev pub with_none : View → View
with_none v = with_row v (row_with_none (head_row v.rows))

-- what one list is behind the other, the second first where the test says so
abbrev pub ordered : Bool → List Row → List Row → List Row
ordered true xs ys = ys ++ xs
ordered false xs ys = xs ++ ys

-- the pass that took in another has the rows of both, first the one that takes
abbrev pub joined : View → View → View
joined v w = view_of (either_of v.made w.made) (v.takes || w.takes) (ordered w.takes v.rows w.rows)

-- what each pager of the view sent is what was taken with this pass, and then what the queue holds
abbrev pub Accounts : View → List Page → Type 0
Accounts v items = (r : Row) → Has v.rows r → pages_of r.pager ((head_row v.rows).taken ++ items) ≡ r.sent

-- the pagers of the rows with what they sent
abbrev pub senders : List Row → List (ℕ × List Page)
senders rows = map (λ r. (r.pager, r.sent)) rows

-- the pages of each sender are those that it sent, and no page has another sender
abbrev pub FitsAll : List (ℕ × List Page) → List Page → Type 0
FitsAll all pages = ((s : ℕ × List Page) → Has all s → pages_of s.0 pages ≡ s.1) × ((n : ℕ) → ((s : ℕ × List Page) → Has all s → s.0 ≢ n) → pages_of n pages ≡ [])

-- what was taken with this pass and then what the queue holds is such a list
abbrev pub Whole : View → List Page → Type 0
Whole v items = FitsAll (senders v.rows) ((head_row v.rows).taken ++ items)

-- the view after these pages were taken
abbrev pub after_taken : View → List Page → View
after_taken v xs = with_row v (row (head_row v.rows).pager (head_row v.rows).sent (head_row v.rows).answers ((head_row v.rows).taken ++ xs) ((head_row v.rows).given ++ map (λ x. Some x) xs))
