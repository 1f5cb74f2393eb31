use Rattle.std.proofs.Common.{◌≡◌, ℕ, ◌+◌, [], ◌∷◌, ◌++◌, List, Option, Some, None, ap, arith, length, map, subst, sym, take, ◌∙◌}
use Rattle.std.specs.Prelude.{slice_index_or}
use Rattle.std.specs.Option.{option_map}
use Rattle.std.proofs.lemmas.List.{length_push}
use Rattle.std.proofs.lemmas.Result.{err_from_is_err_and}
use Rattle.jb_host.specs.Desk.{GivesDisk, RefusesCall, asked_disk}
use Rattle.jb_run.specs.Desks.{HandsOut}
use Rattle.jb_run.specs.Backed.{ShowTargets}
use Rattle.jb_run.proofs.DeskLemmas.{hands_out_none}
use Rattle.jb_run.proofs.TargetLemmas.{shows_more, untried_more}
use Rattle.jb_run.proofs.TargetPlaces.{all_targets, hands_next, stops_next}
use Rattle.jb_run.proofs.targets.hand_targets.Goals as goal

pub loop-host-init : goal.loop-host-init
loop-host-init g c =
    let targets = c.args.targets.now in
    let desk = g.H.Host.desk c.args.host.now in
    let none = c.requires.none.0 in
    record {
      few = omega (arith, ap length none);
      disk_room = c.requires.room.0;
      backup_room = c.requires.room.1;
      untried = c.requires.none.1 ∙ sym (ap (λ (l : List (Option g.row.H-Disk.Denot)). map (λ _. None) l) none);
      out = (
        [],
        ap (λ (l : List (Option g.row.H-Disk.Denot)). map (option_map g.H.Disk.Disk.device) l) none,
        subst (λ (l : List (Option g.row.H-Disk.Denot)). HandsOut (take (length l) (all_targets c.args.dir.now c.args.areas.now)) [] desk desk) (sym none) (hands_out_none desk),
      );
    }

pub loop-host-preserved : goal.loop-host-preserved
loop-host-preserved g c =
    let device = g.H.Disk.Disk.device in
    let at = c.loop-host in
    let areas = c.args.areas.now in
    let dir = c.args.dir.now in
    let items = at.targets.disks.items in
    let disk = c.in_ok-disk.disk in
    let one = c.index-areas-len.result in
    let old = g.H.Host.desk c.args.host.now in
    let mid = g.H.Host.desk at.host in
    let new = g.H.Host.desk c.disk.new.self in
    let pushed : c.push_reserved.new.self.items ≡ items ++ Some disk ∷ [] = c.push_reserved.ensures.items in
    let tried : c.push_reserved-in-loop-host.new.self.items ≡ at.targets.backups.items ++ None ∷ [] = c.push_reserved-in-loop-host.ensures.items in
    let many : length c.push_reserved.new.self.items ≡ length items + 1 = ap length pushed ∙ length_push items (Some disk) in
    let count : c.len-in-loop-host.result ≡ length items = c.len-in-loop-host.ensures ∙ at.targets.disks.ok.0 in
    let base : c.as_str.result.now ≡ (slice_index_or areas (length items) one).base = c.as_str.ensures ∙ ap (λ (n : ℕ). (slice_index_or areas n one).base) count in
    let devices = at.invariant.out.0 in
    record {
      few = omega (arith, many, c.loop-host-test.true, c.len.ensures, at.targets.disks.ok.0);
      disk_room = omega (arith, c.push_reserved.ensures.capacity, at.invariant.disk_room);
      backup_room = omega (arith, c.push_reserved-in-loop-host.ensures.capacity, at.invariant.backup_room);
      untried = tried ∙ untried_more device items at.targets.backups.items (Some disk) at.invariant.untried
          ∙ sym (ap (λ (l : List (Option g.row.H-Disk.Denot)). map (λ _. None) l) pushed);
      out = (
        devices ++ device disk ∷ [],
        subst (λ (l : List (Option g.row.H-Disk.Denot)). ShowTargets device l (devices ++ device disk ∷ [])) (sym pushed) (shows_more device items disk devices at.invariant.out.1),
        subst (λ (n : ℕ). HandsOut (take n (all_targets dir areas)) (devices ++ device disk ∷ []) old new) (sym many)
            (hands_next dir areas (length items) one devices (device disk) old mid new
            (omega (arith, c.loop-host-test.true, c.len.ensures, at.targets.disks.ok.0)) at.invariant.out.2
            (subst (λ (b : List ℕ). GivesDisk dir b (device disk) mid new) base c.in_ok-disk.ensures.ok)),
      );
    }

-- the next is refused
pub returns-in_err-disk-clause-err : goal.returns-in_err-disk-clause-err
returns-in_err-disk-clause-err g c =
    let at = c.loop-host in
    let areas = c.args.areas.now in
    let dir = c.args.dir.now in
    let items = at.targets.disks.items in
    let one = c.index-areas-len.result in
    let error = c.in_err-disk.field-0.0 in
    let old = g.H.Host.desk c.args.host.now in
    let mid = g.H.Host.desk at.host in
    let new = g.H.Host.desk c.disk.new.self in
    let count : c.len-in-loop-host.result ≡ length items = c.len-in-loop-host.ensures ∙ at.targets.disks.ok.0 in
    let base : c.as_str.result.now ≡ (slice_index_or areas (length items) one).base = c.as_str.ensures ∙ ap (λ (n : ℕ). (slice_index_or areas n one).base) count in
    let p = err_from_is_err_and c.from_residual.result c.from_residual.ensures.1 in
    rw (p.1, p.2) (
      at.invariant.out.0,
      at.invariant.out.1,
      stops_next dir areas (length items) one at.invariant.out.0 error old mid new (omega (arith, c.loop-host-test.true, c.len.ensures, at.targets.disks.ok.0))
          at.invariant.out.2 (subst (λ (b : List ℕ). RefusesCall (asked_disk dir b) error mid new) base c.in_err-disk.ensures.err),
    )
