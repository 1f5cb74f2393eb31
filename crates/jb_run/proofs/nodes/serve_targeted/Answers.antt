use Rattle.std.proofs.Common.{◌≡◌, ℕ, ◌+◌, ◌≤◌, [], ◌∷◌, List, ap, arith, length, subst, sym, take, ◌∙◌}
use Rattle.std.specs.Prelude.{vec_capacity}
use Rattle.std.proofs.Math.Seq.{take-length}
use Rattle.std.proofs.lemmas.List.{length-append}
use Rattle.jb_conf.specs.declared.board.BoardArea.{BoardArea}
use Rattle.jb_run.specs.All.{Abandons, AreOpenable, OpenAs}
use Rattle.jb_disk.specs.Device.{Device}
use Rattle.jb_host.specs.Desk.{Desk}
use Rattle.jb_run.specs.Backed.{ShowTargets}
use Rattle.jb_run.specs.Desks.{BasePlace, HandsOut, PutsBack}
use Rattle.jb_run.specs.Lines.{lines_for}
use Rattle.jb_run.specs.Nodes.{lent_path}
use Rattle.jb_run.specs.Rows.{lists_of}
use Rattle.jb_run.specs.Targets.{HaveAllTargets, StopsTargets, targets_for}
use Rattle.jb_run.specs.Working.{GivesUp, RunsOn}
use Rattle.jb_run.proofs.Doors.{puts_none}
use Rattle.jb_run.proofs.NodesClosing.{are_openable}
use Rattle.jb_run.proofs.NodesRefusing.{stops_targets}
use Rattle.jb_run.proofs.TargetLemmas.{are_there, as_many, err_then, ok_then}
use Rattle.jb_run.proofs.TargetPlaces.{first_handed}
use Rattle.jb_run.proofs.WholeLemmas.{whole_own}
use Rattle.jb_run.proofs.nodes.serve_targeted.Goals as goal

pub open_targets-requires-clause-room : goal.open_targets-requires-clause-room
open_targets-requires-clause-room g c =
    let P : List BoardArea → Type 0 = λ l. (length (targets_for (lent_path c.args.backup) l) ≤ vec_capacity c.args.room.targets.disks)
    × (length (targets_for (lent_path c.args.backup) l) ≤ vec_capacity c.args.room.targets.backups) in
    subst P (sym c.as_slice-areas.ensures) c.requires.target_room

pub serve_areas-requires-clause-there : goal.serve_areas-requires-clause-there
serve_areas-requires-clause-there g c κs within =
    are_there g.H.Disk.Disk.device c.open_targets.new.targets.disks.items c.in-Ok.ensures.ok.0 c.in-Ok.ensures.ok.1

pub serve_areas-requires-clause-count : goal.serve_areas-requires-clause-count
serve_areas-requires-clause-count g c κs within =
    sym (as_many g.H.Disk.Disk.device c.open_targets.new.targets.disks.items c.in-Ok.ensures.ok.0 c.in-Ok.ensures.ok.1) ∙ c.in-Ok.ensures.ok.2.count
    ∙ ap (λ (l : List BoardArea). length (targets_for (lent_path c.args.backup) l)) c.as_slice-areas.ensures

pub close_targets-requires-clause-targeted : goal.close_targets-requires-clause-targeted
close_targets-requires-clause-targeted g c = subst (HaveAllTargets (lent_path c.args.backup)) (sym c.as_slice-areas.ensures) c.requires.targeted

pub close_targets-requires-clause-there : goal.close_targets-requires-clause-there
close_targets-requires-clause-there g c = are_there g.H.Disk.Disk.device c.open_targets.new.targets.disks.items c.in-Err.ensures.err.0 c.in-Err.ensures.err.1

pub close_targets-requires-clause-few : goal.close_targets-requires-clause-few
close_targets-requires-clause-few g c =
    let stops = c.in-Err.ensures.err.2 in
    omega (
      arith,
      as_many g.H.Disk.Disk.device c.open_targets.new.targets.disks.items c.in-Err.ensures.err.0 c.in-Err.ensures.err.1,
      stops.out.count,
      ap length stops.parts,
      length-append stops.done (stops.next ∷ stops.left),
    )

pub abandon_areas-requires-clause-areas : goal.abandon_areas-requires-clause-areas
abandon_areas-requires-clause-areas g c = subst AreOpenable (sym c.as_slice-areas.ensures) (are_openable c.args.board.now)

pub abandon_areas-requires-clause-whole : goal.abandon_areas-requires-clause-whole
abandon_areas-requires-clause-whole g c =
    whole_own c.args.shared (length (lines_for c.args.board.now c.args.calls) + 1) (length c.args.board.now.areas) c.requires.whole

-- what is served of targets that are out
pub returns-in-Ok-clause-ok : goal.returns-in-Ok-clause-ok
returns-in-Ok-clause-ok g c =
    let board = c.args.board.now in
    let backup = lent_path c.args.backup in
    let old = g.H.Host.desk c.args.host.now in
    let opened = g.H.Host.desk c.open_targets.new.host in
    let new = g.H.Host.desk c.serve_areas.new.host in
    let targets = c.open_targets.new.targets.disks.items in
    let out = subst (λ (l : List BoardArea). HandsOut (targets_for backup l) c.in-Ok.ensures.ok.0 old opened) c.as_slice-areas.ensures c.in-Ok.ensures.ok.2 in
    let runs = RunsOn g.H.Host.door_for g.H.Host.bell_over board c.args.calls backup (lists_of c.args.shared.nodes.items) in
    ok_then c.serve_areas.result
    (λ end. (before : Desk) (devices : List Device) → ShowTargets g.H.Disk.Disk.device targets devices → HandsOut (targets_for backup board.areas) devices before opened → runs before new end)
    (runs old new) (λ end serves. serves old c.in-Ok.ensures.ok.0 c.in-Ok.ensures.ok.1 out) c.serve_areas.ensures.ok

pub returns-in-Ok-clause-err : goal.returns-in-Ok-clause-err
returns-in-Ok-clause-err g c =
    let board = c.args.board.now in
    let backup = lent_path c.args.backup in
    let old = g.H.Host.desk c.args.host.now in
    let opened = g.H.Host.desk c.open_targets.new.host in
    let new = g.H.Host.desk c.serve_areas.new.host in
    let targets = c.open_targets.new.targets.disks.items in
    let out = subst (λ (l : List BoardArea). HandsOut (targets_for backup l) c.in-Ok.ensures.ok.0 old opened) c.as_slice-areas.ensures c.in-Ok.ensures.ok.2 in
    let gives = GivesUp board c.args.calls backup (lists_of c.args.shared.nodes.items) in
    err_then c.serve_areas.result
    (λ error. (before : Desk) (devices : List Device) → ShowTargets g.H.Disk.Disk.device targets devices → HandsOut (targets_for backup board.areas) devices before opened → gives before new error)
    (gives old new) (λ error serves. serves old c.in-Ok.ensures.ok.0 c.in-Ok.ensures.ok.1 out) c.serve_areas.ensures.err

-- a target was refused
pub returns-in-Err-clause-err : goal.returns-in-Err-clause-err
returns-in-Err-clause-err g c =
    let board = c.args.board.now in
    let backup = lent_path c.args.backup in
    let shared = c.args.shared in
    let old = g.H.Host.desk c.args.host.now in
    let asked = g.H.Host.desk c.open_targets.new.host in
    let closed = g.H.Host.desk c.abandon_areas.new.host in
    let new = g.H.Host.desk c.close_targets.new.host in
    let devices = c.in-Err.ensures.err.0 in
    let stops : StopsTargets (targets_for backup board.areas) devices c.in-Err.error old asked
    = subst (λ (l : List BoardArea). StopsTargets (targets_for backup l) devices c.in-Err.error old asked) c.as_slice-areas.ensures c.in-Err.ensures.err.2 in
    let all : take (length shared.areas.items) c.as_slice-areas.result.now ≡ board.areas
    = ap (λ (l : List BoardArea). take (length shared.areas.items) l) c.as_slice-areas.ensures ∙ ap (λ (n : ℕ). take n board.areas) c.requires.whole.areas ∙ take-length board.areas in
    let first : take (length devices) (targets_for backup c.as_slice-areas.result.now) ≡ stops.done
    = ap (λ (l : List BoardArea). take (length devices) (targets_for backup l)) c.as_slice-areas.ensures
    ∙ first_handed (targets_for backup board.areas) stops.done stops.left stops.next devices stops.parts stops.out.count in
    record {
      targets = devices;
      gates = [];
      asked = asked;
      stops = stops_targets board c.args.calls backup devices c.in-Err.error old asked stops;
      shut = asked;
      doors = puts_none asked;
      closed = closed;
      abandons = λ befores openings opens.
          subst (λ (l : List BoardArea). Abandons l befores asked closed) all
          (c.abandon_areas.ensures befores openings (subst (λ (l : List BoardArea). OpenAs l befores openings (lists_of shared.nodes.items)) (sym all) opens));
      back = subst (λ (l : List BasePlace). PutsBack l devices closed new) first (c.close_targets.ensures devices c.in-Err.ensures.err.1);
    }
