-- A run with one session at the console: who is served, and what is left.
use Rattle.std.specs.Prelude.{◌≡◌, ℕ, List, [], ◌∷◌, length, Option, Some, Result, Ok, Err}
use Rattle.jb_conf.specs.declared.board.Board.{Board}
use Rattle.jb_disk.specs.Device.{Device}
use Rattle.jb_host.specs.Desk.{CountsFailed, Desk, KeepsRest}
use Rattle.jb_host.specs.Wire.{Wire}
use Rattle.jb_page.specs.Pagers.{PagerView}
use Rattle.jb_session.specs.Exchanges.{node_with}
use Rattle.jb_session.specs.Served.{Served}
use Rattle.jb_shared.specs.Passes.{PassView}
use Rattle.jb_run.specs.Begins.{BeginsNone}
use Rattle.jb_run.specs.Desks.{disk_faults}
use Rattle.jb_run.specs.Over.{OverAreas}
use Rattle.jb_run.specs.NodePages.{HasPaged}
use Rattle.jb_run.specs.declared.local_end.LocalEnd.{LocalEnd}
use Rattle.jb_run.specs.declared.error.RunError.{RunError}

-- one session over the console, as node 1 of the board that the settings say
pub record ServesOne (path : List ℕ) (old new : Desk) (end : LocalEnd) : Type 0 where
  pub board : Board
  pub from : List PassView
  pub to : List PassView
  pub afters : List Device
  pub over : OverAreas path board [] (from ∷ []) (to ∷ []) afters [] [] end.is_doubtful old new
  -- there are as many passes as areas, before and after
  pub started : length from ≡ length board.areas
  pub ended : length to ≡ length board.areas
  -- each node had a pager, and those of the others have done nothing; every page that was sent was taken or is unread
  pub pager : PagerView
  pub pager_after : PagerView
  pub others : List PagerView
  pub paged : HasPaged board.nodes (pager ∷ others) (pager_after ∷ others)
  -- one caller is served on the console, which is back then, with a clock of the host and the pager of node 1
  pub console : Wire
  pub console_was : old.console ≡ Some console
  pub console_after : Wire
  pub console_back : new.console ≡ Some console_after
  pub left : Option (List ℕ)
  pub served : Served board console (node_with old.readings from (Some pager)) end.session console_after (node_with left to (Some pager_after))
  -- the host's count rises where a disk that came back had failed; nothing else of it has changed
  pub counted : CountsFailed (disk_faults afters) old.failed new.failed
  pub rest : KeepsRest old (record new { console = old.console; failed = old.failed })

-- a run of `local`
abbrev pub RunsLocal : List ℕ → Desk → Desk → Result LocalEnd RunError → Type 0
RunsLocal path old new (Ok end) = ServesOne path old new end
RunsLocal path old new (Err error) = BeginsNone ⊥ path old new error
