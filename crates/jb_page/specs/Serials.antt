-- The serial numbers of the pages that a pager sent.
use Rattle.std.specs.Prelude.{◌≡◌, ℕ, ◌<◌, ◌≤◌, List, [], ◌∷◌, length, map, Option, Result, slice_index_or}
use Rattle.jb_state.specs.declared.short.Short.{Short}
use Rattle.jb_page.specs.declared.page.Page.{Page}
use Rattle.jb_page.specs.declared.page.PageError.{PageError}
use Rattle.jb_page.specs.Rows.{Has}
use Rattle.jb_page.specs.Pagers.{PagerView, IsNewPager, sent_with, taken_with}

-- a call on a pager, with its answer: a send of a text to a node, or a take
pub data PagerCall : Type 0 where
  sends : ℕ → Short 72 → Result (Unit {0}) PageError → PagerCall
  takes : Option Page → PagerCall

-- the pager after these calls
abbrev pub after_calls : PagerView → List PagerCall → PagerView
after_calls pager [] = pager
after_calls pager (sends to text result ∷ calls) = after_calls (sent_with pager to text result) calls
after_calls pager (takes result ∷ calls) = after_calls (taken_with pager result) calls

-- each send is to one of so many nodes
abbrev pub AreWithin : ℕ → List PagerCall → Type 0
AreWithin nodes [] = Unit {0}
AreWithin nodes (sends to text result ∷ calls) = (0 < to) × (to ≤ nodes) × AreWithin nodes calls
AreWithin nodes (takes result ∷ calls) = AreWithin nodes calls

-- the serial numbers rise, from above the first number to at most the second
abbrev pub RiseTo : ℕ → ℕ → List Page → Type 0
RiseTo low high [] = low ≤ high
RiseTo low high (x ∷ xs) = (low < x.serial) × RiseTo x.serial high xs

-- one of the pages has this serial number
abbrev pub HasSerial : ℕ → List Page → Type 0
HasSerial n pages = (x : Page) × Has pages x × (x.serial ≡ n)

-- in each list they rise, and each from 1 to the count is in just one of the lists
pub record HasSerials (count : ℕ) (lists : List (List Page)) : Type 0 where
  pub rising : (k : ℕ) → k < length lists → RiseTo 0 count (slice_index_or lists k [])
  pub each : (n : ℕ) → 0 < n → n ≤ count → (k : ℕ) × (k < length lists) × HasSerial n (slice_index_or lists k [])
      × ((j : ℕ) → j < length lists → HasSerial n (slice_index_or lists j []) → j ≡ k)

-- so it is of what the pager sent to each node
abbrev pub SerialsRise : PagerView → Type 0
SerialsRise pager = HasSerials pager.count (map (λ r. r.sent) pager.rows)

-- whatever calls are made on a new pager, with whatever answers
abbrev pub SerialsAlwaysRise : Type 0
SerialsAlwaysRise = (nodes number : ℕ) (pager : PagerView) (calls : List PagerCall) → IsNewPager nodes number pager → AreWithin nodes calls → SerialsRise (after_calls pager calls)
