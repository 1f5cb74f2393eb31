-- A run with many nodes: what each worker does, and what is left.
use Rattle.std.specs.Prelude.{◌≡◌, ℕ, ◌+◌, All, true, List, [], ◌∷◌, ◌++◌, length, map, Option, Some, Result, Ok, Err}
use Rattle.std.specs.Borrow.{Bor}
use Rattle.std.specs.Option.{ForSome, option_map}
use Rattle.jb_bytes.specs.Fault.{Rose}
use Rattle.jb_conf.specs.declared.board.Board.{Board}
use Rattle.jb_disk.specs.Device.{Device}
use Rattle.jb_host.specs.Desk.{CountsFailed, Desk, KeepsRest, asked_bell, has_bell}
use Rattle.jb_host.specs.Gate.{Gate}
use Rattle.jb_host.specs.Rings.{Rings}
use Rattle.jb_page.specs.Pagers.{PagerView}
use Rattle.jb_server.specs.declared.tally.Tally.{Tally}
use Rattle.jb_run.specs.All.{any}
use Rattle.jb_run.specs.Begins.{BeginsNone, RefusesLines}
use Rattle.jb_run.specs.Backed.{AreBackedUp, Targets}
use Rattle.jb_run.specs.Desks.{Stand, asked_for, disk_faults}
use Rattle.jb_run.specs.Lines.{asked_doors, door_faults, lines_for, nodes_of, with_doors}
use Rattle.jb_run.specs.Over.{OverAreas}
use Rattle.jb_run.specs.NodePages.{HasPaged}
use Rattle.jb_run.specs.Targets.{HaveAllTargets, targets_for}
use Rattle.jb_run.specs.Workers.{Rows}
use Rattle.jb_run.specs.Working.{WorkAll, packer_after, packer_before}
use Rattle.jb_run.specs.declared.error.RunError.{RunError}
use Rattle.jb_run.specs.declared.nodes_end.NodesEnd.{NodesEnd}

-- the path of a folder that is lent, where there is one
abbrev pub lent_path : Option (Bor (List ℕ)) → Option (List ℕ)
lent_path path = option_map (λ bytes. bytes.now) path

-- where what a door for so many calls is as it is handed out, and a bell over so many areas, is this
module _ (door_for : Option ℕ → Gate → Type 0) (bell_over : ℕ → ℕ → Option ℕ → Rings → Type 0) where
  -- all lines are served, and the packer packs, of the board that the settings say; targets where areas are backed up, the doors and then the bell
  -- were asked for in order
  pub record ServesAll (path : List ℕ) (most : Option ℕ) (backup : Option (List ℕ)) (old new : Desk) (end : NodesEnd) : Type 0 where
    pub board : Board
    pub from : Rows
    pub to : Rows
    pub afters : List Device
    pub targets : Targets
    pub over : OverAreas path board (asked_for (targets_for backup board.areas) ++ asked_doors (lines_for board most) ++ asked_bell (length board.areas) board.pack_minutes most ∷ [])
        from to afters (targets_for backup board.areas) targets.left end.is_doubtful old new
    -- with a folder for backups each area has a target there, the disk under the name of its base
    pub targeted : HaveAllTargets backup board.areas
    pub as_many : length targets.first ≡ length (targets_for backup board.areas)
    pub targets_were : ForSome old.disks (Stand (targets_for backup board.areas) targets.first)
    -- the doors and the bell were those of the host that were asked for, and are back
    pub gates : List Gate
    pub made : All (door_for most) gates
    pub gates_after : List Gate
    pub doors_were : old.waiting ≡ option_map (λ rest. gates ++ rest) new.waiting
    pub doors : ForSome old.doors (λ before. new.doors ≡ Some (with_doors (nodes_of (lines_for board most)) gates_after before))
    pub rings : Rings
    pub rounds : bell_over (length board.areas) board.pack_minutes most rings
    pub rings_after : Rings
    pub bell_was : ForSome old.bell (λ bell. bell ≡ has_bell rings)
    pub bell : ForSome old.bell (λ _. new.bell ≡ Some (has_bell rings_after))
    -- each node had a pager, and every page that was sent was taken or is unread
    pub pagers : List PagerView
    pub pagers_after : List PagerView
    pub paged : HasPaged board.nodes pagers pagers_after
    -- all work at once, each with a clock of the host
    pub tallies : List Tally
    pub works : WorkAll old.readings board (lines_for board most) gates gates_after rings rings_after from to pagers pagers_after targets tallies
    -- a target came back as it was where no ring came for its area, else as the one backup of that area has left it
    pub backed : AreBackedUp targets.first works.packed.rungs (packer_before old.readings board from targets) (packer_after works.left board to targets)
    -- a door has failed just where the count of its line says that, and so the host
    pub failed : end.door_failed ≡ any (map (λ tally. tally.door_failed) tallies)
    pub door : end.door_failed ≡ true → Rose old.failed new.failed
    -- whose count rises where a disk or a door that came back had failed; nothing else of it has changed
    pub counted : CountsFailed (disk_faults afters + disk_faults targets.left + door_faults gates_after) old.failed new.failed
    pub rest : KeepsRest old (record new { waiting = old.waiting; doors = old.doors; bell = old.bell; failed = old.failed })

  -- a run of `serve`, which backs areas up where there is a folder for that
  abbrev pub RunsNodes : List ℕ → Option ℕ → Option (List ℕ) → Desk → Desk → Result NodesEnd RunError → Type 0
  RunsNodes path most backup old new (Ok end) = ServesAll path most backup old new end
  RunsNodes path most backup old new (Err error) = BeginsNone (RefusesLines path most backup old new error) path old new error
