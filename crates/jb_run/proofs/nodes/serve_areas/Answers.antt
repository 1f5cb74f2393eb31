use Rattle.std.proofs.Common.{◌≡◌, ℕ, refl, ◌+◌, ◌++◌, ◌∷◌, [], List, ap, arith, length, subst, sym, take, ◌∙◌}
use Rattle.std.specs.Prelude.{All, Option}
use Rattle.std.proofs.Math.Seq.{take-length}
use Rattle.std.proofs.lemmas.List.{length-reverse, length-set}
use Rattle.jb_run.proofs.RowLemmas.{length-lists_of}
use Rattle.jb_run.proofs.WholeLemmas.{whole_own}
use Rattle.jb_run.specs.All.{Abandons, AreOpenable, AreShared, ClosesAll, OpenAs}
use Rattle.jb_run.specs.Rows.{lists_of}
use Rattle.jb_run.specs.declared.opening.SharedAreas.{SharedAreas}
use Rattle.jb_conf.specs.declared.board.BoardArea.{BoardArea}
use Rattle.jb_host.specs.Desk.{Desk}
use Rattle.jb_page.specs.Pagers.{AreNewPagers}
use Rattle.jb_server.specs.declared.worker.PackSlot.{PackSlot}
use Rattle.jb_server.specs.declared.worker.Worker.TheVariants.{Packer}
use Rattle.jb_disk.specs.Device.{Device}
use Rattle.jb_run.specs.Desks.{BasePlace, HandsOut, PutsBack}
use Rattle.jb_run.specs.Lines.{PutsDoors, lines_for}
use Rattle.jb_run.specs.NodePages.{ArePagersOf}
use Rattle.jb_run.specs.Nodes.{lent_path}
use Rattle.jb_run.specs.Targets.{HaveAllTargets, targets_for}
use Rattle.jb_run.specs.Workers.{HasLine, IsFresh, OpensLines, Rows, gates_of, with_passes}
use Rattle.jb_run.specs.Working.{AreAllOf}
use Rattle.jb_run.proofs.OverLemmas.{AllKeepStarts}
use Rattle.jb_run.proofs.NodesClosing.{all_of_whole, are_openable, whole_after, whole_same}
use Rattle.jb_run.proofs.NodesRefusing.{stops_lines}
use Rattle.jb_run.proofs.NodesServing.{runs_on}
use Rattle.jb_run.proofs.Numbers.{length-lines_for}
use Rattle.jb_run.proofs.Own.{have_doors, numbers_are, own_lines, rows_taken}
use Rattle.jb_run.proofs.PagerLemmas.{pagers_all}
use Rattle.jb_run.proofs.Starts.{work_keeps}
use Rattle.jb_run.proofs.TargetLemmas.{as_many, has_targets, same_devices}
use Rattle.jb_run.proofs.Zips.{zip_long}
use Rattle.jb_run.proofs.nodes.serve_areas.Goals as goal

pub take_passes-passes-requires : goal.take_passes-passes-requires
take_passes-passes-requires g c = omega (arith, c.in-Ok.ensures.lists, c.requires.whole.lists, length-lines_for c.args.board.now c.args.calls)

pub work-door_failed-requires-clause-lists : goal.work-door_failed-requires-clause-lists
work-door_failed-requires-clause-lists g c κs within =
    let left = lists_of c.open_lines.new.nodes.items in
    sym (length-lists_of c.take_passes-passes.new.nodes.items) ∙ ap length c.take_passes-passes.ensures.left ∙ length-set left c.args.board.now.nodes []
    ∙ length-lists_of c.open_lines.new.nodes.items ∙ c.in-Ok.ensures.lists ∙ c.requires.whole.lists

pub work-door_failed-requires-clause-room : goal.work-door_failed-requires-clause-room
work-door_failed-requires-clause-room g c κs within =
    omega (arith, zip_long HasLine (lines_for c.args.board.now c.args.calls) c.open_lines.new.workers.items c.in-Ok.ensures.ok.has.each, c.open_lines.new.workers.ok.0, c.in-Ok.ensures.room, c.requires.room)

pub work-door_failed-requires-clause-ready : goal.work-door_failed-requires-clause-ready
work-door_failed-requires-clause-ready g c κs within =
    let opened = c.in-Ok.ensures.ok in
    let same : (g.H.Host.desk c.tell_open.new.host).readings ≡ (g.H.Host.desk c.args.host.now).readings
    = ap (λ (d : Desk). d.readings) (c.tell_open.ensures ∙ c.clock-clock.ensures.same) ∙ opened.gives.rest.readings ∙ opened.has.doors.rest.readings in
    subst (λ (told : Option (List ℕ)). All (IsFresh g.H.Clock.Clock.readings told) c.open_lines.new.workers.items) (sym same) opened.has.ready

pub work-door_failed-requires-clause-ours : goal.work-door_failed-requires-clause-ours
work-door_failed-requires-clause-ours g c κs within =
    let board = c.args.board.now in
    let shared = c.args.shared in
    let lines = lines_for board c.args.calls in
    let count : ℕ = length board.areas in
    let workers = c.open_lines.new.workers.items in
    let opened = c.in-Ok.ensures.ok in
    let slot : PackSlot g.row.H-Bell.Denot g.row.H-Clock.Denot g.row.H-Disk.Denot
    = record { node = board.nodes + 1; bell = c.in-Ok.bell; clock = c.clock-clock.result; passes = c.take_passes-passes.result; user = c.args.room.packer; packs = 0; targets = c.args.room.targets.disks; backups = c.args.room.targets.backups } in
    let crew = workers ++ Packer slot ∷ [] in
    let left = lists_of c.take_passes-passes.new.nodes.items in
    let rows : with_passes crew left ≡ lists_of shared.nodes.items
    = rows_taken workers (Packer slot) board.nodes (lists_of c.open_lines.new.nodes.items) left (omega arith) c.take_passes-passes.ensures.taken c.take_passes-passes.ensures.left
    ∙ c.in-Ok.ensures.rows in
    subst (AreAllOf shared.areas.items) (sym rows) (all_of_whole shared (length lines + 1) count c.requires.whole)

-- each node has its pager
pub work-door_failed-requires-clause-pagers : goal.work-door_failed-requires-clause-pagers
work-door_failed-requires-clause-pagers g c κs within =
    subst (AreNewPagers c.args.board.now.nodes)
    (pagers_all c.open_lines.new.workers.items c.open_lines.new.pagers.items c.args.room.node_pages.pagers.items c.in-Ok.ensures.given c.in-Ok.ensures.pagers) c.requires.pagers

pub work-door_failed-requires-clause-of : goal.work-door_failed-requires-clause-of
work-door_failed-requires-clause-of g c κs within =
    subst (ArePagersOf c.args.room.node_pages.pages)
    (pagers_all c.open_lines.new.workers.items c.open_lines.new.pagers.items c.args.room.node_pages.pagers.items c.in-Ok.ensures.given c.in-Ok.ensures.pagers) c.requires.of

pub work-door_failed-requires-clause-pager_room : goal.work-door_failed-requires-clause-pager_room
work-door_failed-requires-clause-pager_room g c κs within =
    let pagers = c.args.room.node_pages.pagers in
    omega (arith, c.in-Ok.ensures.pager_room, c.requires.pagers.count, length-reverse pagers.items, pagers.ok.0, pagers.ok.1)

pub close_areas-is_doubtful-requires-clause-areas : goal.close_areas-is_doubtful-requires-clause-areas
close_areas-is_doubtful-requires-clause-areas g c = subst AreOpenable (sym c.as_slice-areas.ensures) (are_openable c.args.board.now)

pub close_areas-is_doubtful-requires-clause-whole : goal.close_areas-is_doubtful-requires-clause-whole
close_areas-is_doubtful-requires-clause-whole g c =
    let D : Type 0 = g.row.H-Disk.Denot in
    let board = c.args.board.now in
    let shared = c.args.shared in
    let lines = lines_for board c.args.calls in
    let count : ℕ = length board.areas in
    let workers = c.open_lines.new.workers.items in
    let opened = c.in-Ok.ensures.ok in
    let slot : PackSlot g.row.H-Bell.Denot g.row.H-Clock.Denot g.row.H-Disk.Denot
    = record { node = board.nodes + 1; bell = c.in-Ok.bell; clock = c.clock-clock.result; passes = c.take_passes-passes.result; user = c.args.room.packer; packs = 0; targets = c.args.room.targets.disks; backups = c.args.room.targets.backups } in
    let crew = workers ++ Packer slot ∷ [] in
    let left = lists_of c.take_passes-passes.new.nodes.items in
    let rows : with_passes crew left ≡ lists_of shared.nodes.items
    = rows_taken workers (Packer slot) board.nodes (lists_of c.open_lines.new.nodes.items) left (omega arith) c.take_passes-passes.ensures.taken c.take_passes-passes.ensures.left
    ∙ c.in-Ok.ensures.rows in
    let now = c.work-door_failed.new.shared.nodes in
    let worked = c.work-door_failed.ensures.worked.3 in
    let same_areas : c.work-door_failed.new.shared ≡ record shared { nodes = now } = c.work-door_failed.ensures.areas in
    let keep : AllKeepStarts (lists_of shared.nodes.items) (lists_of now.items)
    = subst (λ (l : Rows). AllKeepStarts l (lists_of now.items)) rows
    (λ n within. work_keeps (g.H.Host.desk c.tell_open.new.host).readings board c.args.calls (gates_of g.H.Door.Door.gate workers) worked.gates_after (g.H.Bell.Bell.rings c.in-Ok.bell) worked.rings_after
    (with_passes crew left) (lists_of now.items) worked.pagers worked.pagers_after c.work-door_failed.ensures.worked.0 worked.tallies worked.works n within) in
    let ours : AreAllOf shared.areas.items (lists_of now.items)
    = subst (λ (s : SharedAreas D). AreAllOf s.areas.items (lists_of now.items)) same_areas c.work-door_failed.ensures.ours in
    let whole : AreShared (record shared { nodes = now }) (length lines + 1) count
    = whole_after shared now (length lines + 1) count c.requires.whole worked.works.ended ours keep in
    subst (λ (s : SharedAreas D). AreShared s (length s.nodes.items) (length s.areas.items)) (sym same_areas)
    (whole_own (record shared { nodes = now }) (length lines + 1) count whole)

pub part_lines-requires-clause-doors : goal.part_lines-requires-clause-doors
part_lines-requires-clause-doors g c = have_doors c.in-Err.ensures.err.stops.done c.open_lines.new.workers.items c.in-Err.ensures.err.each

pub part_lines-requires-clause-own : goal.part_lines-requires-clause-own
part_lines-requires-clause-own g c =
    let stops = c.in-Err.ensures.err.stops in
    own_lines c.args.board.now c.args.calls stops.done stops.left stops.parts c.open_lines.new.workers.items c.in-Err.ensures.err.each (length c.open_lines.new.nodes.items)
    (omega (arith, c.in-Err.ensures.lists, c.requires.whole.lists))

pub part_lines-requires-clause-room : goal.part_lines-requires-clause-room
part_lines-requires-clause-room g c =
    let pagers = c.args.room.node_pages.pagers in
    omega (arith, c.in-Err.ensures.pager_room, ap length c.in-Err.ensures.pagers, pagers.ok.0, pagers.ok.1)

pub abandon_areas-requires-clause-areas : goal.abandon_areas-requires-clause-areas
abandon_areas-requires-clause-areas g c = subst AreOpenable (sym c.as_slice-areas.ensures) (are_openable c.args.board.now)

-- all passes are back
pub abandon_areas-requires-clause-whole : goal.abandon_areas-requires-clause-whole
abandon_areas-requires-clause-whole g c =
    let shared = c.args.shared in
    let now = c.part_lines.new.nodes in
    let many : ℕ = length (lines_for c.args.board.now c.args.calls) + 1 in
    let count : ℕ = length c.args.board.now.areas in
    whole_own (record shared { nodes = now }) many count
    (whole_same shared now many count c.requires.whole (c.part_lines.ensures.rows ∙ c.in-Err.ensures.rows))

-- the packer has its targets, of which none was tried
pub work-door_failed-requires-clause-packer : goal.work-door_failed-requires-clause-packer
work-door_failed-requires-clause-packer g c κs within = record {
  number = refl;
  clock = c.clock-clock.ensures.gives ∙ ap (λ (d : Desk). d.readings) (sym (c.tell_open.ensures ∙ c.clock-clock.ensures.same));
  user = c.requires.packer;
  none = refl;
  targets = has_targets g.H.Disk.Disk.device c.args.room.targets.disks.items c.args.room.targets.backups.items c.requires.untried c.requires.there;
  untried = c.requires.untried;
}

-- the targets are put back at their places
pub close_targets-requires-clause-targeted : goal.close_targets-requires-clause-targeted
close_targets-requires-clause-targeted g c = subst (HaveAllTargets (lent_path c.args.backup)) (sym c.as_slice-areas.ensures) c.requires.targeted

pub close_targets-requires-clause-few : goal.close_targets-requires-clause-few
close_targets-requires-clause-few g c =
    let device = g.H.Disk.Disk.device in
    let worked = c.work-door_failed.ensures.worked in
    let places = targets_for (lent_path c.args.backup) in
    omega (
      arith,
      as_many device c.work-door_failed.result.1.items worked.0.left worked.2,
      worked.3.works.kept,
      as_many device c.args.room.targets.disks.items worked.0.first worked.1,
      c.requires.count,
      ap (λ (l : List BoardArea). length (places l)) c.as_slice-areas.ensures,
    )

pub close_targets-requires-in-Err-clause-targeted : goal.close_targets-requires-in-Err-clause-targeted
close_targets-requires-in-Err-clause-targeted g c = subst (HaveAllTargets (lent_path c.args.backup)) (sym c.as_slice-areas.ensures) c.requires.targeted

pub close_targets-requires-in-Err-clause-few : goal.close_targets-requires-in-Err-clause-few
close_targets-requires-in-Err-clause-few g c =
    omega (arith, c.requires.count, ap (λ (l : List BoardArea). length (targets_for (lent_path c.args.backup) l)) c.as_slice-areas.ensures)

pub returns-in-Ok-clause-ok : goal.returns-in-Ok-clause-ok
returns-in-Ok-clause-ok g c = λ before devices shows out.
    let D : Type 0 = g.row.H-Disk.Denot in
    let board = c.args.board.now in
    let shared = c.args.shared in
    let lines = lines_for board c.args.calls in
    let count : ℕ = length board.areas in
    let workers = c.open_lines.new.workers.items in
    let opened = c.in-Ok.ensures.ok in
    let slot : PackSlot g.row.H-Bell.Denot g.row.H-Clock.Denot g.row.H-Disk.Denot
    = record { node = board.nodes + 1; bell = c.in-Ok.bell; clock = c.clock-clock.result; passes = c.take_passes-passes.result; user = c.args.room.packer; packs = 0; targets = c.args.room.targets.disks; backups = c.args.room.targets.backups } in
    let crew = workers ++ Packer slot ∷ [] in
    let left = lists_of c.take_passes-passes.new.nodes.items in
    let rows : with_passes crew left ≡ lists_of shared.nodes.items
    = rows_taken workers (Packer slot) board.nodes (lists_of c.open_lines.new.nodes.items) left (omega arith) c.take_passes-passes.ensures.taken c.take_passes-passes.ensures.left
    ∙ c.in-Ok.ensures.rows in
    let now = c.work-door_failed.new.shared.nodes in
    let worked = c.work-door_failed.ensures.worked in
    let targets = worked.0 in
    let same_areas : c.work-door_failed.new.shared ≡ record shared { nodes = now } = c.work-door_failed.ensures.areas in
    let old = g.H.Host.desk c.args.host.now in
    let rung = g.H.Host.desk c.tell_open.new.host in
    let end = g.H.Host.desk c.work-door_failed.new.host in
    let closed = g.H.Host.desk c.close_areas-is_doubtful.new.host in
    let back = g.H.Host.desk c.close_targets.new.host in
    let new = g.H.Host.desk c.note.new.self in
    let doubtful = c.close_areas-is_doubtful.result in
    let places = targets_for (lent_path c.args.backup) board.areas in
    let ready = subst (λ (d : Desk). OpensLines g.H.Door.Door.gate g.H.Clock.Clock.readings g.H.Host.door_for c.args.calls board g.H.Host.bell_over (g.H.Bell.Bell.rings c.in-Ok.bell) workers old d)
    (sym (c.tell_open.ensures ∙ c.clock-clock.ensures.same)) opened in
    let as_long : length c.work-door_failed.new.shared.areas.items ≡ count = ap (λ (s : SharedAreas D). length s.areas.items) same_areas ∙ c.requires.whole.areas in
    let all : take (length c.work-door_failed.new.shared.areas.items) c.as_slice-areas.result.now ≡ board.areas
    = ap (λ (l : List BoardArea). take (length c.work-door_failed.new.shared.areas.items) l) c.as_slice-areas.ensures ∙ ap (λ (n : ℕ). take n board.areas) as_long ∙ take-length board.areas in
    let same : devices ≡ targets.first = same_devices devices targets.first (sym shows ∙ worked.1) in
    let long : length targets.left ≡ length places
    = worked.3.works.kept ∙ as_many g.H.Disk.Disk.device c.args.room.targets.disks.items targets.first worked.1 ∙ c.requires.count in
    let every : take (length targets.left) (targets_for (lent_path c.args.backup) c.as_slice-areas.result.now) ≡ places
    = ap (λ (l : List BoardArea). take (length targets.left) (targets_for (lent_path c.args.backup) l)) c.as_slice-areas.ensures
    ∙ ap (λ (n : ℕ). take n places) long ∙ take-length places in
    runs_on g.H.Door.Door.gate g.H.Clock.Clock.readings g.H.Host.door_for g.H.Host.bell_over board c.args.calls (lent_path c.args.backup) (g.H.Bell.Bell.rings c.in-Ok.bell) workers before old rung end closed new targets
    (with_passes crew left) (lists_of shared.nodes.items) (lists_of now.items) doubtful c.work-door_failed.result.0
    (subst (λ (l : List Device). HandsOut places l before old) same out) ready rows worked.3
    (subst (λ (l : List BoardArea). ClosesAll l (lists_of now.items) end closed doubtful) all c.close_areas-is_doubtful.ensures)
    (subst (λ (d : Desk). PutsBack places targets.left closed d) (sym c.note.ensures)
    (subst (λ (l : List BasePlace). PutsBack l targets.left closed back) every (c.close_targets.ensures targets.left worked.2)))

pub returns-in-Err-clause-err : goal.returns-in-Err-clause-err
returns-in-Err-clause-err g c = λ before devices shows out.
    let board = c.args.board.now in
    let shared = c.args.shared in
    let now = c.part_lines.new.nodes in
    let workers = c.open_lines.new.workers.items in
    let gates = gates_of g.H.Door.Door.gate workers in
    let stops = c.in-Err.ensures.err.stops in
    let old = g.H.Host.desk c.args.host.now in
    let asked = g.H.Host.desk c.open_lines.new.host in
    let shut = g.H.Host.desk c.part_lines.new.host in
    let closed = g.H.Host.desk c.abandon_areas.new.host in
    let new = g.H.Host.desk c.close_targets-in-Err.new.host in
    let places = targets_for (lent_path c.args.backup) board.areas in
    let all : take (length shared.areas.items) c.as_slice-areas.result.now ≡ board.areas
    = ap (λ (l : List BoardArea). take (length shared.areas.items) l) c.as_slice-areas.ensures ∙ ap (λ (n : ℕ). take n board.areas) c.requires.whole.areas ∙ take-length board.areas in
    let same : lists_of now.items ≡ lists_of shared.nodes.items = c.part_lines.ensures.rows ∙ c.in-Err.ensures.rows in
    let every : take (length devices) (targets_for (lent_path c.args.backup) c.as_slice-areas.result.now) ≡ places
    = ap (λ (l : List BoardArea). take (length devices) (targets_for (lent_path c.args.backup) l)) c.as_slice-areas.ensures
    ∙ ap (λ (n : ℕ). take n places) out.count ∙ take-length places in
    record {
      targets = devices;
      gates = gates;
      asked = asked;
      stops = stops_lines board c.args.calls (lent_path c.args.backup) devices gates c.in-Err.error before old asked out stops;
      shut = shut;
      doors = subst (λ (nodes : List ℕ). PutsDoors nodes gates asked shut) (numbers_are stops.done workers c.in-Err.ensures.err.each) c.part_lines.ensures.doors;
      closed = closed;
      abandons = λ befores openings opens.
          subst (λ (l : List BoardArea). Abandons l befores shut closed) all
          (c.abandon_areas.ensures befores openings
          (subst (λ (l : List BoardArea). OpenAs l befores openings (lists_of now.items)) (sym all)
          (subst (λ (l : Rows). OpenAs board.areas befores openings l) (sym same) opens)));
      back = subst (λ (l : List BasePlace). PutsBack l devices closed new) every (c.close_targets-in-Err.ensures devices shows);
    }
