-- What closing shows of all pagers and of the pages that are left.
use Rattle.std.specs.Prelude.{◌≡◌, ℕ, ◌+◌, ◌<◌, ◌≤◌, List, [], ◌++◌, length, slice_index_or}
use Rattle.std.specs.List.{flat_map}
use Rattle.jb_page.specs.declared.page.Page.{Page}
use Rattle.jb_page.specs.Rows.{Has, pages_of}
use Rattle.jb_page.specs.Pagers.{PagerView, row_at}

-- one of the pagers has this number
abbrev pub HasNumber : List PagerView → ℕ → Type 0
HasNumber pagers n = (p : PagerView) × Has pagers p × (p.number ≡ n)

-- n is the lowest number from 1 to the count that no pager has
abbrev pub IsLowestMissing : List PagerView → ℕ → ℕ → Type 0
IsLowestMissing pagers count n =
    (0 < n) × (n ≤ count) × ((p : PagerView) → Has pagers p → p.number ≡ n → ⊥) × ((m : ℕ) → 0 < m → m < n → HasNumber pagers m)

-- of the queue of this node: each sender's pages that the node's pager took and those that are left are those that it sent, in order
pub record IsPaged (pagers : List PagerView) (node : ℕ) (part : List Page) : Type 0 where
  pub receiver : PagerView
  pub among : Has pagers receiver
  pub number : receiver.number ≡ node
  pub each : (s : PagerView) → Has pagers s → pages_of s.number (row_at node receiver).taken ++ pages_of s.number part ≡ (row_at node s).sent
  -- and no page is of anybody else
  pub no_other : (n : ℕ) → (HasNumber pagers n → ⊥) → pages_of n ((row_at node receiver).taken ++ part) ≡ []
  -- no more are left than a queue holds
  pub few : length part ≤ 64

-- the pages that are left are those of each queue, in the order of the nodes
pub record PagesInOrder (pagers : List PagerView) (nodes : ℕ) (left : List Page) : Type 0 where
  pub parts : List (List Page)
  pub all : left ≡ flat_map (λ part. part) parts
  pub count : length parts ≡ nodes
  pub each : (k : ℕ) → k < nodes → IsPaged pagers (k + 1) (slice_index_or parts k [])
