-- What the hands of all pagers know together, and what is drained with them.
use Rattle.std.specs.Prelude.{◌≡◌, ℕ, ◌+◌, ◌==◌, ◌<◌, ◌≤◌, List, [], ◌∷◌, ◌++◌, length, map, slice_index_or}
use Rattle.std.specs.List.{flat_map}
use Rattle.jb_page.specs.declared.page.Page.{Page}
use Rattle.jb_page.specs.declared.view.View.{View}
use Rattle.jb_page.specs.declared.hand.Hand.{Hand}
use Rattle.jb_page.specs.declared.hand.PageQueue.{PageQueue}
use Rattle.jb_page.specs.Rows.{Has, view_of, head_row, blank, joined, senders, FitsAll}
use Rattle.jb_page.specs.Pagers.{PagerView, row_at}
use Rattle.jb_page.specs.Closing.{HasNumber}
use Rattle.jb_page.specs.Seats.{view_in}
use Rattle.jb_page.specs.Hands.{made_by}

-- what the hand at place k knows
abbrev pub hand_view : ℕ → List Hand → View
hand_view k hands = slice_index_or (map view_in hands) k blank

-- what a pager of so many knows with its hand of the queue at place k: its row, and it takes where the queue is its own
abbrev pub own_view : ℕ → ℕ → PagerView → View
own_view nodes k p = view_of (made_by nodes p.number) (p.number == k + 1) (row_at (k + 1) p ∷ [])

-- what the hands of these pagers know together, once the last of them took in the others, one after another
abbrev pub gathered : ℕ → ℕ → List PagerView → View
gathered nodes k [] = blank
gathered nodes k (p ∷ []) = own_view nodes k p
gathered nodes k (p ∷ (q ∷ ps)) = joined (gathered nodes k (q ∷ ps)) (own_view nodes k p)

-- each row of each pager is its own
abbrev pub AreOwn : ℕ → List PagerView → Type 0
AreOwn nodes pagers = (p : PagerView) (k : ℕ) → Has pagers p → k < nodes → (row_at (k + 1) p).pager ≡ p.number

-- each number from 1 to the count is that of one of the pagers
abbrev pub HasAllNumbers : List PagerView → ℕ → Type 0
HasAllNumbers pagers count = (m : ℕ) → 0 < m → m ≤ count → HasNumber pagers m

-- what these hands knew of each queue, and what was left there, is all that was sent
pub record DrainedSoFar (done : ℕ) (hands : List Hand) (before after : List Page) : Type 0 where
  pub parts : List (List Page)
  pub count : length parts ≡ done
  pub all : after ≡ before ++ flat_map (λ part. part) parts
  pub few : (k : ℕ) → k < done → length (slice_index_or parts k []) ≤ 64
  pub each : (k : ℕ) (h : Hand) → k < done → FitsAll (senders (view_in (slice_index_or hands k h)).rows) ((head_row (view_in (slice_index_or hands k h)).rows).taken ++ slice_index_or parts k [])

-- so it is of all queues
abbrev pub Drains : List PageQueue → List Hand → List Page → List Page → Type 0
Drains queues hands before after = DrainedSoFar (length queues) hands before after
