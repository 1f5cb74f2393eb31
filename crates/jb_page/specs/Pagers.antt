-- What contracts see of the queues and of the pagers, and what a send and a take make of a pager.
use Rattle.std.specs.Prelude.{◌≡◌, ◌<◌, ◌≤◌, ◌-◌, ◌+◌, ◌^◌, ℕ, List, [], length, set, replicate, Option, Some, None, Result, Ok, Err, slice_index_or}
use Rattle.atomic_table.specs.Seated.{TableId}
use Rattle.jb_state.specs.declared.short.Short.{Short}
use Rattle.jb_page.specs.declared.page.Page.{Page}
use Rattle.jb_page.specs.declared.page.PageError.{PageError}
use Rattle.jb_page.specs.declared.page.PageError.TheVariants.{Full, Spent}
use Rattle.jb_page.specs.declared.view.Row.{Row}
use Rattle.jb_page.specs.Rows.{pages_of, row, row_with_put, row_with_refusal, row_with_taken, row_with_none}

-- which queue it is
abbrev pub QueueId : Type 0
QueueId = TableId

-- the queues between so many nodes, in the order of their receivers
pub record PagesView : Type 0 where
  pub nodes : ℕ
  pub queues : List QueueId

-- a pager: its number, which is that of its node, how many pages it has sent to all nodes together, and of each queue what it did there
pub record PagerView : Type 0 where
  pub number : ℕ
  pub count : ℕ
  pub queues : List QueueId
  pub rows : List Row

-- what it did at the queue of this node
abbrev pub row_at : ℕ → PagerView → Row
row_at node pager = slice_index_or pager.rows (node - 1) (row 0 [] [] [] [])

-- the same with another row there
abbrev pub with_row_at : ℕ → Row → PagerView → PagerView
with_row_at node other pager = record pager { rows = set pager.rows (node - 1) other }

-- the pager was made with these pages
pub record IsPagerOf (pages : PagesView) (pager : PagerView) : Type 0 where
  pub few : (0 < pager.number) × (pager.number ≤ pages.nodes)
  pub queues : pager.queues ≡ pages.queues
  pub rows : length pager.rows ≡ pages.nodes

-- it has this number, and has neither sent nor taken a page at any of so many nodes' queues
pub record IsNewPager (nodes number : ℕ) (pager : PagerView) : Type 0 where
  pub number_is : pager.number ≡ number
  pub none : pager.count ≡ 0
  pub rows : pager.rows ≡ replicate nodes (row number [] [] [] [])

-- as many pagers as nodes, numbered from 1, each with an empty row for each node
pub record AreNewPagers (nodes : ℕ) (pagers : List PagerView) : Type 0 where
  pub count : length pagers ≡ nodes
  pub each : (i : ℕ) (absent : PagerView) → i < nodes → IsNewPager nodes (i + 1) (slice_index_or pagers i absent)

-- the page of this sender, with its serial number and its text
abbrev pub page : ℕ → ℕ → Short 72 → Page
page from serial text = record { from = from; serial = serial; text = text }

-- the pager after a send of this text to this node: the page with the next serial number was put, or found no room; a spent pager stays
abbrev pub sent_with : PagerView → ℕ → Short 72 → Result (Unit {0}) PageError → PagerView
sent_with pager to text (Ok _) =
    record (with_row_at to (row_with_put (row_at to pager) (page pager.number (pager.count + 1) text)) pager) { count = pager.count + 1 }
sent_with pager to text (Err (Full n)) = with_row_at to (row_with_refusal (row_at to pager)) pager
sent_with pager to text (Err (Spent n)) = pager

-- why a send to this node is so answered: spent comes just of a pager that has sent 2^56 pages, and full, which names the node, of any other
abbrev pub AnswersSend : PagerView → ℕ → Result (Unit {0}) PageError → Type 0
AnswersSend pager to (Ok _) = pager.count < 2 ^ 56
AnswersSend pager to (Err (Full n)) = (n ≡ to) × (pager.count < 2 ^ 56)
AnswersSend pager to (Err (Spent n)) = (n ≡ pager.count) × (2 ^ 56 ≤ pager.count)

-- the pager after a take: the page was taken from its own queue, or no page waited there
abbrev pub taken_with : PagerView → Option Page → PagerView
taken_with pager (Some taken) = with_row_at pager.number (row_with_taken (row_at pager.number pager) taken) pager
taken_with pager None = with_row_at pager.number (row_with_none (row_at pager.number pager)) pager

-- why a take is so answered: none comes only where no page waited, and so all that the pager sent to itself it has taken
abbrev pub AnswersTake : PagerView → Option Page → Type 0
AnswersTake pager (Some taken) = Unit {0}
AnswersTake pager None = pages_of pager.number (row_at pager.number pager).taken ≡ (row_at pager.number pager).sent

-- where pages go to so many nodes there is a pager, and it is one of these pages between no fewer
abbrev pub HasPager : PagesView → ℕ → Option PagerView → Type 0
HasPager pages reach (Some pager) = IsPagerOf pages pager × (reach ≤ pages.nodes)
HasPager pages reach None = reach ≡ 0
