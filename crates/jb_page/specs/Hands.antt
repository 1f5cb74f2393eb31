-- The hands of a pager: what each knows, and what their pager shows of them.
use Rattle.std.specs.Prelude.{◌≡◌, ◌<◌, ◌≤◌, ◌+◌, ◌*◌, ◌==◌, nat_le, ℕ, List, [], ◌∷◌, length, map, Option, Some, None, slice_index_or, if◌then◌else◌}
use Rattle.jb_page.specs.declared.page.Page.{Page}
use Rattle.jb_page.specs.declared.view.View.{View}
use Rattle.jb_page.specs.declared.hand.Hand.{Hand}
use Rattle.jb_page.specs.declared.hand.PageQueue.{PageQueue}
use Rattle.jb_page.specs.Rows.{row, view_of}
use Rattle.jb_page.specs.Pagers.{PagesView, PagerView, IsNewPager}
use Rattle.jb_page.specs.Seats.{row_of, view_in, queue_of, id_of, HasOneRow}

-- these queues, one for each node
abbrev pub queues_view : ℕ → List PageQueue → PagesView
queues_view nodes queues = record { nodes = nodes; queues = map id_of queues }

-- there is a queue for each of 1 to 32 nodes, and room for all pages that wait at most
pub record HasRoom (nodes : ℕ) (queues : List PageQueue) (room : List Page) (capacity : ℕ) : Type 0 where
  pub counted : length queues ≡ nodes
  pub few : (0 < nodes) × (nodes ≤ 32)
  pub empty : room ≡ []
  pub wide : nodes * 64 ≤ capacity

-- the pager with these hands
abbrev pub hands_view : ℕ → ℕ → List Hand → PagerView
hands_view number count hands = record { number = number; count = count; queues = map queue_of hands; rows = map row_of hands }

-- the last pager's pass of the queue at place k: it takes for itself and for all to come
abbrev pub fresh : ℕ → ℕ → View
fresh number k = view_of (Some number) (nat_le number (k + 1)) (row number [] [] [] [] ∷ [])

-- an older one: it takes for itself
abbrev pub settled : ℕ → ℕ → View
settled number k = view_of None (number == k + 1) (row number [] [] [] [] ∷ [])

-- what the last of all pagers knows how many were made
abbrev pub made_by : ℕ → ℕ → Option ℕ
made_by nodes number = if number == nodes then Some nodes else None

-- the hand of a pager for the queue at place k
pub record IsHandOf (nodes number k : ℕ) (hand : Hand) : Type 0 where
  pub one : HasOneRow hand
  pub pager : (row_of hand).pager ≡ number
  pub takes : (view_in hand).takes ≡ (number == k + 1)
  pub made : (view_in hand).made ≡ made_by nodes number

-- the hands are those of this pager, one for each node
abbrev pub AreHands : ℕ → List Hand → Type 0
AreHands number hands = (k : ℕ) (h : Hand) → k < length hands → IsHandOf (length hands) number k (slice_index_or hands k h)

-- one hand for each queue, in order
pub record AreOfQueues (queues : List PageQueue) (hands : List Hand) : Type 0 where
  pub count : length hands ≡ length queues
  pub each : (k : ℕ) (h : Hand) (l : PageQueue) → k < length queues → queue_of (slice_index_or hands k h) ≡ id_of (slice_index_or queues k l)

-- the hands of the last pager that was made
pub record AreLast (queues : List PageQueue) (number : ℕ) (hands : List Hand) : Type 0 where
  pub count : length hands ≡ length queues
  pub queues_are : (k : ℕ) (h : Hand) (l : PageQueue) → k < length queues → queue_of (slice_index_or hands k h) ≡ id_of (slice_index_or queues k l)
  pub each : (k : ℕ) (h : Hand) → k < length queues → view_in (slice_index_or hands k h) ≡ fresh number k

-- the hands of an older one
pub record AreOlder (queues : List PageQueue) (number : ℕ) (hands : List Hand) : Type 0 where
  pub count : length hands ≡ length queues
  pub queues_are : (k : ℕ) (h : Hand) (l : PageQueue) → k < length queues → queue_of (slice_index_or hands k h) ≡ id_of (slice_index_or queues k l)
  pub each : (k : ℕ) (h : Hand) → k < length queues → view_in (slice_index_or hands k h) ≡ settled number k

-- the pager has one hand for each of these queues
pub record IsPagerOn (queues : List PageQueue) (pager : PagerView) : Type 0 where
  pub queues_are : pager.queues ≡ map id_of queues
  pub rows : length pager.rows ≡ length queues

-- it is new besides
pub record IsNewPagerOn (queues : List PageQueue) (number : ℕ) (pager : PagerView) : Type 0 where
  pub new : IsNewPager (length queues) number pager
  pub on : IsPagerOn queues pager
