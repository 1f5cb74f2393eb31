-- That each page of a run is taken in a session of the node that it was sent to, or is unread when the pages are closed.
use Rattle.std.specs.Prelude.{◌≡◌, ℕ, zero, suc, ◌-◌, ◌<◌, ◌≤◌, Bool, true, false, List, [], ◌++◌, length, slice_index_or, nat_lt, Option, None}
use Rattle.std.specs.List.{flat_map}
use Rattle.std.specs.Option.{option_to_list}
use Rattle.std.proofs.lemmas.Bool.{ltb-true}
use mathlib.Core.Path.{refl}
use Rattle.jb_conf.specs.declared.board.Board.{Board}
use Rattle.jb_host.specs.Desk.{Desk}
use Rattle.jb_host.specs.Gate.{Gate}
use Rattle.jb_host.specs.Real.{silent_gate}
use Rattle.jb_host.specs.Rings.{Rings}
use Rattle.jb_page.specs.Pagers.{PagerView}
use Rattle.jb_page.specs.Rows.{pages_of}
use Rattle.jb_page.specs.declared.page.Page.{Page}
use Rattle.jb_server.specs.Laws.{exchanges_of}
use Rattle.jb_server.specs.Tallies.{no_tally}
use Rattle.jb_server.specs.declared.service.Service.TheVariants.{Menus}
use Rattle.jb_server.specs.declared.tally.Tally.{Tally}
use Rattle.jb_session.specs.Exchanges.{Exchange}
use Rattle.jb_session.specs.Pages.{pages_from, sendings_of, takings_of}
use Rattle.jb_run.specs.Lines.{Line, lines_for}
use Rattle.jb_run.specs.Local.{ServesOne}
use Rattle.jb_run.specs.Backed.{Targets}
use Rattle.jb_run.specs.NodePages.{HasPaged}
use Rattle.jb_run.specs.Workers.{Rows}
use Rattle.jb_run.specs.Working.{WorkAll}
use Rattle.jb_run.specs.declared.local_end.LocalEnd.{LocalEnd}

-- one of so many nodes has this number
abbrev pub IsNode : ℕ → ℕ → Type 0
IsNode nodes n = (0 < n) × (n ≤ nodes)

-- the pages that were taken in these exchanges
abbrev pub taken_in : List Exchange → List Page
taken_in exchanges = flat_map option_to_list (takings_of exchanges)

-- by what the sessions of each node asked and were answered, and by the pages that are unread: of each two nodes, the pages of the one that
-- the sessions of the other took, and then those that are unread there, are just those that the sessions of the one put there, in order
pub record PagesReach (nodes : ℕ) (asked : ℕ → List Exchange) (unread : List Page) : Type 0 where
  -- the unread pages are those of each node, in the order of the nodes
  pub parts : List (List Page)
  pub all : unread ≡ flat_map (λ part. part) parts
  pub count : length parts ≡ nodes
  pub each : (from to : ℕ) → IsNode nodes from → IsNode nodes to
      → pages_of from (taken_in (asked to) ++ slice_index_or parts (to - 1) []) ≡ pages_from from 0 to (sendings_of (asked from))
  -- no page is of anybody else
  pub no_other : (n to : ℕ) → (IsNode nodes n → ⊥) → IsNode nodes to → pages_of n (taken_in (asked to) ++ slice_index_or parts (to - 1) []) ≡ []
  -- no more are unread at a node than a queue holds
  pub few : (to : ℕ) → IsNode nodes to → length (slice_index_or parts (to - 1) []) ≤ 64

-- what lists of lines and of doors have beyond their end
abbrev pub no_line : Line
no_line = record { service = Menus; node = 0; port = 0; calls = None }

abbrev pub no_gate : Gate
no_gate = silent_gate 0 false None

-- these where the test is true, and else none
abbrev pub where_true : (test : Bool) → (test ≡ true → List Exchange) → List Exchange
where_true true asked = asked refl
where_true false asked = []

module _ {readings : Option (List ℕ)} {board : Board} {lines : List Line} {gates gates_after : List Gate} {rings rings_after : Rings} {from to : Rows}
    {pagers pagers_after : List PagerView} {targets : Targets} {tallies : List Tally} (works : WorkAll readings board lines gates gates_after rings rings_after from to pagers pagers_after targets tallies) where
  -- what was asked and answered in the sessions on the line at this place, one after another
  abbrev pub asked_at : (k : ℕ) → k < length lines → List Exchange
  asked_at k within =
      let worked = works.served k no_line no_gate no_gate no_tally within in
      exchanges_of (slice_index_or lines k no_line).service board _ worked.1.sessions _ worked.1.serves.run

  -- and of this node, whose line is the one with its number
  abbrev pub asked_of : ℕ → List Exchange
  asked_of node = where_true (nat_lt (node - 1) (length lines)) (λ within. asked_at (node - 1) (ltb-true (node - 1) (length lines) within))

-- where there is one session, it is that of node 1
abbrev pub asked_alone : List Exchange → ℕ → List Exchange
asked_alone exchanges (suc zero) = exchanges
asked_alone exchanges node = []

-- so it is in each run with many nodes
abbrev pub EachReachesOfMany : Type 0
EachReachesOfMany = (readings : Option (List ℕ)) (board : Board) (most : Option ℕ) (gates gates_after : List Gate) (rings rings_after : Rings) (from to : Rows)
    (pagers pagers_after : List PagerView) (targets : Targets) (tallies : List Tally)
    → (works : WorkAll readings board (lines_for board most) gates gates_after rings rings_after from to pagers pagers_after targets tallies) → (paged : HasPaged board.nodes pagers pagers_after)
    → PagesReach board.nodes (asked_of works) paged.unread

-- and in each with one session
abbrev pub EachReachesOfOne : Type 0
EachReachesOfOne = (path : List ℕ) (old new : Desk) (end : LocalEnd) → (run : ServesOne path old new end) → PagesReach run.board.nodes (asked_alone run.served.exchanges) run.paged.unread
