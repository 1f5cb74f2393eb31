-- What a run with many nodes comes to: the host, the passes and the disks from the settings to the end.
use Rattle.std.specs.Prelude.{slice_index_or}
use Rattle.std.proofs.Common.{◌≡◌, ℕ, ◌+◌, Bool, List, [], ◌∷◌, ◌++◌, length, Option, Some, refl, sym, ap, subst, ◌∙◌, append_assoc, arith}
use Rattle.std.specs.Option.{option_map}
use Rattle.jb_run.specs.All.{ClosesAll, OpenAs}
use Rattle.jb_run.specs.Begins.{HasBoard}
use Rattle.jb_run.specs.Backed.{Targets}
use Rattle.jb_run.specs.Desks.{BasePlace, HandsOut, PutsBack, asked_for, disk_faults, places_of, with_places_out}
use Rattle.jb_conf.specs.declared.board.Board.{Board}
use Rattle.jb_disk.specs.Device.{Device}
use Rattle.jb_host.specs.Desk.{Belfry, CountsFailed, Desk, HostCall, and_call, asked_bell, bell_out}
use Rattle.jb_host.specs.Gate.{Gate}
use Rattle.jb_host.specs.Rings.{Rings}
use Rattle.jb_server.specs.Laws.{BackupsAreOfRings}
use Rattle.jb_server.specs.declared.worker.Worker.{Worker}
use Rattle.jb_shared.specs.declared.opening.Opening.{Opening}
use Rattle.jb_run.specs.Lines.{asked_doors, door_faults, lines_for, nodes_of}
use Rattle.jb_run.specs.Nodes.{ServesAll}
use Rattle.jb_run.specs.Targets.{HaveAllTargets, targets_for}
use Rattle.jb_run.specs.Workers.{OpensLines, Rows, gates_of, packer}
use Rattle.jb_run.specs.Working.{RunsOn, WorkAll, WorkToTheEnd, packer_after}
use Rattle.jb_run.specs.declared.nodes_end.NodesEnd.{NodesEnd}
use Rattle.jb_run.proofs.Counting.{counts_more}
use Rattle.jb_run.proofs.Doors.{calls_behind, calls_then, doors_return}
use Rattle.jb_run.proofs.NodesClosing.{a_door_failed}
use Rattle.jb_run.proofs.OverLemmas.{over_areas}
use Rattle.jb_run.proofs.Starts.{work_keeps}
use Rattle.jb_run.proofs.TargetLemmas.{all_backed_up}
use Rattle.jb_run.proofs.TargetPlaces.{few_targets, stood_before, targets_elsewhere}

-- disks of areas and then targets that came back, behind the doors
all_counted : (doors areas targets before mid next now : ℕ) → CountsFailed doors before mid → CountsFailed areas mid next → CountsFailed targets next now
    → CountsFailed (areas + targets + doors) before now
all_counted doors areas targets before mid next now one two three =
    let same : targets + (areas + doors) ≡ areas + targets + doors = omega arith in
    subst (λ (n : ℕ). CountsFailed n before now) same (counts_more (areas + doors) targets before next now (counts_more doors areas before mid next one two) three)

-- a run on areas that are open, between the settings and the end
pub serves_all : BackupsAreOfRings → (door_for : Option ℕ → Gate → Type 0) (bell_over : ℕ → ℕ → Option ℕ → Rings → Type 0) (path : List ℕ) (most : Option ℕ) (backup : Option (List ℕ)) (board : Board)
    (old read opened new : Desk) (befores : List Device) (openings : List Opening) (from : Rows) (end : NodesEnd)
    → HasBoard path board old read → HaveAllTargets backup board.areas → HandsOut (places_of board.areas) befores read opened → OpenAs board.areas befores openings from
    → length (slice_index_or from board.nodes []) ≡ length board.areas → RunsOn door_for bell_over board most backup from opened new end
    → ServesAll door_for bell_over path most backup old new end
serves_all law door_for bell_over path most backup board old read opened new befores openings from end has have out opens row runs =
    let gives = has.gives in
    let places : List BasePlace = targets_for backup board.areas in
    let targets = runs.targets in
    let handed = runs.out in
    let doors = runs.doors in
    let bell = runs.bell in
    let work = runs.works in
    let works = work.works in
    let closes = runs.closes in
    let back = closes.back in
    let puts = runs.back in
    let many : length runs.to ≡ length from = works.ended ∙ sym works.started in
    let same_readings : opened.readings ≡ old.readings = out.rest.readings ∙ gives.rest.readings in
    let first : List HostCall = asked_for places in
    let lines : List HostCall = asked_doors (lines_for board most) in
    let nodes : List ℕ = nodes_of (lines_for board most) in
    let last : HostCall = asked_bell (length board.areas) board.pack_minutes most in
    let still_doors : runs.rung.doors ≡ runs.lined.doors = bell.rest.doors in
    let doors_then : work.mid.doors ≡ runs.lined.doors = work.bell.rest.doors ∙ still_doors in
    let doors_now : new.doors ≡ runs.worked.doors = puts.rest.doors ∙ back.rest.doors in
    let lined_failed : work.mid.failed ≡ opened.failed = work.bell.rest.failed ∙ bell.rest.failed ∙ doors.rest.failed ∙ handed.rest.failed in
    let counted : CountsFailed (disk_faults closes.afters + disk_faults targets.left + door_faults work.gates_after) old.failed new.failed
    = all_counted (door_faults work.gates_after) (disk_faults closes.afters) (disk_faults targets.left) old.failed runs.worked.failed runs.closed.failed new.failed
    (subst (λ (n : ℕ). CountsFailed (door_faults work.gates_after) n runs.worked.failed) (lined_failed ∙ out.rest.failed ∙ gives.rest.failed) work.doors.failed) back.failed puts.failed in
    let all_works : WorkAll old.readings board (lines_for board most) runs.gates work.gates_after runs.rings work.rings_after from runs.to work.pagers work.pagers_after targets work.tallies
    = subst (λ (r : Option (List ℕ)). WorkAll r board (lines_for board most) runs.gates work.gates_after runs.rings work.rings_after from runs.to work.pagers work.pagers_after targets work.tallies) same_readings works in
    record {
      board = board;
      from = from;
      to = runs.to;
      afters = closes.afters;
      targets = targets;
      over = over_areas path board (first ++ lines ++ last ∷ []) old read opened runs.targeted runs.worked runs.closed new befores openings from runs.to places targets.first targets.left
          end.is_doubtful has out opens (omega (arith, works.started)) many
          (λ n within. work_keeps opened.readings board most runs.gates work.gates_after runs.rings work.rings_after from runs.to work.pagers work.pagers_after targets work.tallies works n within)
          handed (targets_elsewhere backup board.areas have)
          (work.doors.disks ∙ work.bell.disks ∙ bell.disks ∙ doors.disks)
          (work.doors.calls ∙ work.bell.calls ∙ bell.calls
          ∙ ap (and_call last) doors.calls ∙ calls_then lines (lines ++ last ∷ []) last runs.targeted.calls refl
          ∙ ap (option_map (λ (earlier : List HostCall). earlier ++ (lines ++ last ∷ []))) handed.calls ∙ calls_behind first (lines ++ last ∷ []) opened.calls
          ∙ ap (λ (l : List HostCall). option_map (λ (earlier : List HostCall). earlier ++ l) opened.calls) (sym (append_assoc first lines (last ∷ []))))
          (omega (arith, work.doors.failed.later, lined_failed)) closes puts;
      targeted = have;
      as_many = handed.count;
      targets_were = stood_before places (places_of board.areas) targets.first old.disks opened.disks
          (out.disks ∙ ap (option_map (with_places_out (places_of board.areas))) gives.disks) handed.were;
      gates = runs.gates;
      made = runs.made;
      gates_after = work.gates_after;
      doors_were =
          sym (gives.rest.waiting) ∙ sym (out.rest.waiting) ∙ sym (handed.rest.waiting) ∙ doors.first
          ∙ ap (option_map (λ (rest : List Gate). runs.gates ++ rest))
          (sym (puts.rest.waiting ∙ back.rest.waiting ∙ work.doors.rest.waiting ∙ work.bell.rest.waiting ∙ bell.rest.waiting));
      doors = λ before told.
          doors_now ∙ doors_return nodes work.gates_after runs.targeted runs.lined work.mid runs.worked doors.out doors_then work.doors before
          (handed.rest.doors ∙ out.rest.doors ∙ gives.rest.doors ∙ told);
      rings = runs.rings;
      rounds = runs.rounds;
      rings_after = work.rings_after;
      bell_was = λ was told. bell.was was (doors.rest.bell ∙ handed.rest.bell ∙ out.rest.bell ∙ gives.rest.bell ∙ told);
      bell = λ was told.
          let stood : runs.lined.bell ≡ Some was = doors.rest.bell ∙ handed.rest.bell ∙ out.rest.bell ∙ gives.rest.bell ∙ told in
          let gone : runs.rung.bell ≡ Some bell_out = bell.out ∙ ap (option_map (λ (_ : Belfry). bell_out)) stood in
          puts.rest.bell ∙ back.rest.bell ∙ work.doors.rest.bell ∙ work.bell.back bell_out gone refl;
      pagers = work.pagers;
      pagers_after = work.pagers_after;
      paged = work.paged;
      tallies = work.tallies;
      works = all_works;
      backed = all_backed_up law packer all_works.packed.rungs (packer_after all_works.left board runs.to targets) old.readings (slice_index_or from board.nodes []) targets.first
          all_works.packed.answers.run (omega (arith, row, handed.count, few_targets backup board.areas));
      failed = work.failed;
      door = λ failed. counted.rose
          (omega (arith, a_door_failed opened.readings board (lines_for board most) runs.gates work.gates_after runs.rings work.rings_after from runs.to work.pagers work.pagers_after targets work.tallies works (sym work.failed ∙ failed)));
      counted = counted;
      rest = record {
        settings = puts.rest.settings ∙ back.rest.settings ∙ work.doors.rest.settings ∙ work.bell.rest.settings ∙ bell.rest.settings ∙ doors.rest.settings ∙ handed.rest.settings ∙ out.rest.settings ∙ gives.rest.settings;
        console = puts.rest.console ∙ back.rest.console ∙ work.doors.rest.console ∙ work.bell.rest.console ∙ bell.rest.console ∙ doors.rest.console ∙ handed.rest.console ∙ out.rest.console ∙ gives.rest.console;
        readings = puts.rest.readings ∙ back.rest.readings ∙ work.doors.rest.readings ∙ work.bell.rest.readings ∙ bell.rest.readings ∙ doors.rest.readings ∙ handed.rest.readings ∙ out.rest.readings ∙ gives.rest.readings;
        faults = puts.rest.faults ∙ back.rest.faults ∙ work.doors.rest.faults ∙ work.bell.rest.faults ∙ bell.rest.faults ∙ doors.rest.faults ∙ handed.rest.faults ∙ out.rest.faults ∙ gives.rest.faults;
        failed = refl;
        waiting = refl;
        doors = refl;
        bell = refl;
      };
    }

-- the host's clocks show the same when the doors and the bell are out
pub readings_kept : {R B C E : Type 0} (gate : R → Gate) (readings : C → Option (List ℕ)) (door_for : Option ℕ → Gate → Type 0) (bell_over : ℕ → ℕ → Option ℕ → Rings → Type 0) (board : Board) (most : Option ℕ) (rings : Rings) (workers : List (Worker R B C E)) (old rung : Desk)
    → OpensLines gate readings door_for most board bell_over rings workers old rung → rung.readings ≡ old.readings
readings_kept gate readings door_for bell_over board most rings workers old rung opens = opens.gives.rest.readings ∙ opens.has.doors.rest.readings

-- a run on areas that are open, from its doors to its end
pub runs_on : {R B C E : Type 0} (gate : R → Gate) (readings : C → Option (List ℕ)) (door_for : Option ℕ → Gate → Type 0) (bell_over : ℕ → ℕ → Option ℕ → Rings → Type 0) (board : Board) (most : Option ℕ) (backup : Option (List ℕ))
    (rings : Rings) (workers : List (Worker R B C E)) (old targeted rung worked closed new : Desk) (targets : Targets) (taken from to : Rows) (is_doubtful door_failed : Bool)
    → HandsOut (targets_for backup board.areas) targets.first old targeted → OpensLines gate readings door_for most board bell_over rings workers targeted rung → taken ≡ from
    → WorkToTheEnd rung.readings board (lines_for board most) (gates_of gate workers) rings taken to targets rung worked door_failed → ClosesAll board.areas to worked closed is_doubtful
    → PutsBack (targets_for backup board.areas) targets.left closed new
    → RunsOn door_for bell_over board most backup from old new (record { is_doubtful = is_doubtful; door_failed = door_failed })
runs_on gate readings door_for bell_over board most backup rings workers old targeted rung worked closed new targets taken from to is_doubtful door_failed out opens same works closes back = record {
  targets = targets;
  targeted = targeted;
  out = out;
  gates = gates_of gate workers;
  lined = opens.mid;
  doors = opens.has.doors;
  made = opens.has.made;
  rings = rings;
  rung = rung;
  bell = opens.gives;
  rounds = opens.rounds;
  to = to;
  worked = worked;
  works = subst (λ (r : Option (List ℕ)). WorkToTheEnd r board (lines_for board most) (gates_of gate workers) rings from to targets rung worked door_failed)
      (readings_kept gate readings door_for bell_over board most rings workers targeted rung opens ∙ out.rest.readings)
      (subst (λ (l : Rows). WorkToTheEnd rung.readings board (lines_for board most) (gates_of gate workers) rings l to targets rung worked door_failed) same works);
  closed = closed;
  closes = closes;
  back = back;
}
