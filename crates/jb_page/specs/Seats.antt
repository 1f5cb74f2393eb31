-- What is seen of a queue and of a hand, and what each step does to a hand.
use Rattle.std.specs.Prelude.{◌≡◌, ◌≤◌, ℕ, List, [], ◌∷◌, ◌++◌, length, Bool, Option, Some, None, MatchBool, MatchOption}
use Rattle.crossbeam_queue.specs.Passes.{view}
use Rattle.jb_page.specs.declared.page.Page.{Page}
use Rattle.jb_page.specs.declared.view.Row.{Row}
use Rattle.jb_page.specs.declared.view.View.{View}
use Rattle.jb_page.specs.declared.hand.Hand.{Hand}
use Rattle.jb_page.specs.declared.hand.PageQueue.{PageQueue}
use Rattle.jb_page.specs.Rows.{Has, pages_of, head_row, senders, FitsAll, row_with_put, row_with_refusal, row_with_taken, row_with_none}
use Rattle.jb_page.specs.Rule.{IsMade}
use Rattle.jb_page.specs.Pagers.{QueueId}

-- the queue itself
abbrev pub id_of : PageQueue → QueueId
id_of l = l.queue.table.shared.table_id

-- the queue that the hand is of
abbrev pub queue_of : Hand → QueueId
queue_of h = h.pass.table_id

-- what the hand knows
abbrev pub view_in : Hand → View
view_in h = view h.pass

-- what the hand knows of its own pager
abbrev pub row_of : Hand → Row
row_of h = head_row (view_in h).rows

-- each pager that was made has a row
pub record HasAll (v : View) : Type 0 where
  pub most : ℕ
  pub last : v.made ≡ Some most
  pub each : (m : ℕ) → IsMade most m → (s : ℕ × List Page) × Has (senders v.rows) s × (s.0 ≡ m)

-- what was left waiting, at most 64 pages, came behind what was there, and with what was taken it is what all have sent
pub record Leaves (v : View) (before after : List Page) : Type 0 where
  pub rest : List Page
  pub added : after ≡ before ++ rest
  pub few : length rest ≤ 64
  pub fits : FitsAll (senders v.rows) ((head_row v.rows).taken ++ rest)

-- the hand has the row of one pager
abbrev pub HasOneRow : Hand → Type 0
HasOneRow h = (view_in h).rows ≡ row_of h ∷ []

-- the hand is of the same queue, and takes and makes as before
pub record IsSameHand (old new : Hand) : Type 0 where
  pub one : HasOneRow new
  pub queue : queue_of new ≡ queue_of old
  pub takes : (view_in new).takes ≡ (view_in old).takes
  pub made : (view_in new).made ≡ (view_in old).made

-- the page was put; or there was no room
pub record Puts (page : Page) (result : Bool) (old new : Hand) : Type 0 where
  pub same : IsSameHand old new
  pub row : MatchBool result (row_of new ≡ row_with_put (row_of old) page) (row_of new ≡ row_with_refusal (row_of old))

-- the page was taken; or no page waited, and so all that this pager sent to itself it has taken
pub record Gets (result : Option Page) (old new : Hand) : Type 0 where
  pub same : IsSameHand old new
  pub row : MatchOption result (row_of new ≡ row_with_none (row_of old)) (λ x. row_of new ≡ row_with_taken (row_of old) x)
  pub empty : result ≡ None → pages_of (row_of old).pager (row_of old).taken ≡ (row_of old).sent
