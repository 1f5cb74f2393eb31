use Rattle.std.proofs.Common.{◌≡◌, ◌≤◌, ◌+◌, ◌++◌, ◌∷◌, ℕ, [], List, Option, Some, All, ap, append_assoc, arith, drop, length, subst, sym, take, ◌∙◌}
use Rattle.std.specs.Prelude.{IsSome}
use Rattle.std.proofs.lemmas.List.{append-nil, length-map, length_push}
use Rattle.jb_disk.specs.Device.{Device}
use Rattle.jb_run.specs.Backed.{ShowTargets}
use Rattle.jb_run.specs.Desks.{PutsBack}
use Rattle.jb_run.specs.Nodes.{lent_path}
use Rattle.jb_run.specs.Targets.{HaveAllTargets, HaveTargets, target_of, targets_for}
use Rattle.jb_run.proofs.EachLemmas.{all_most}
use Rattle.jb_run.proofs.TargetLemmas.{as_many, devices_of, devices_push, same_devices, shows_all}
use Rattle.jb_run.proofs.TargetPlaces.{all_targets, puts_begin, puts_next}
use Rattle.jb_run.proofs.targets.close_targets.Goals as goal

-- none is back yet
pub loop-dir-init : goal.loop-dir-init
loop-dir-init g c =
    let device = g.H.Disk.Disk.device in
    let items = c.args.disks.items in
    let areas = c.args.areas.now in
    let dir = c.in-Some.dir.now in
    let few : length items ≤ length (all_targets dir areas) = subst (λ (b : _). length items ≤ length (targets_for (lent_path b) areas)) c.in-Some.is c.requires.few in
    record {
      there = c.requires.there;
      few = omega arith;
      behind = (
        [],
        subst (ShowTargets device items) (sym (append-nil (devices_of device items))) (shows_all device items c.requires.there),
        puts_begin dir areas (length items) (g.H.Host.desk c.args.host.now) (omega (arith, few, length-map areas (target_of dir))),
      );
    }

-- one more
pub loop-dir-preserved : goal.loop-dir-preserved
loop-dir-preserved g c =
    let device = g.H.Disk.Disk.device in
    let at = c.loop-dir in
    let items = c.args.disks.items in
    let areas = c.args.areas.now in
    let dir = c.in-Some.dir.now in
    let fewer = c.put_last.new.disks.items in
    let last = c.loop-dir-test.ensures.last in
    let target = last.0 in
    let old = g.H.Host.desk c.args.host.now in
    let mid = g.H.Host.desk at.host in
    let new = g.H.Host.desk c.put_last.new.host in
    let behind = at.invariant.behind.0 in
    let few : length items ≤ length (all_targets dir areas) = subst (λ (b : _). length items ≤ length (targets_for (lent_path b) areas)) c.in-Some.is c.requires.few in
    let have : HaveTargets dir areas (length areas) = subst (λ (b : _). HaveAllTargets (lent_path b) areas) c.in-Some.is c.requires.targeted in
    let many : length at.disks.items ≡ length fewer + 1 = ap length last.1 ∙ length_push fewer (Some target) in
    let more : devices_of device at.disks.items ++ behind ≡ devices_of device fewer ++ (device target ∷ behind)
    = ap (λ (l : List (Option g.row.H-Disk.Denot)). devices_of device l ++ behind) last.1 ∙ ap (λ (l : List Device). l ++ behind) (devices_push device fewer target)
    ∙ append_assoc (devices_of device fewer) (device target ∷ []) behind in
    record {
      there = all_most IsSome fewer (Some target) (subst (λ (l : List (Option g.row.H-Disk.Denot)). All IsSome l) last.1 at.invariant.there);
      few = omega (arith, many, at.invariant.few);
      behind = (
        device target ∷ behind,
        subst (ShowTargets device items) more at.invariant.behind.1,
        puts_next dir areas have (length items) (length fewer) (device target) behind old mid new (omega (arith, few, length-map areas (target_of dir)))
            (omega (arith, many, at.invariant.few)) last.2
            (subst (λ (n : ℕ). PutsBack (drop n (take (length items) (all_targets dir areas))) behind old mid) many at.invariant.behind.2),
      );
    }

-- all are back
pub returns-in-Some : goal.returns-in-Some
returns-in-Some g c = λ devices shows.
    let device = g.H.Disk.Disk.device in
    let at = c.loop-dir in
    let items = c.args.disks.items in
    let areas = c.args.areas.now in
    let dir = c.in-Some.dir.now in
    let last = c.loop-dir-test.ensures.last in
    let old = g.H.Host.desk c.args.host.now in
    let mid = g.H.Host.desk at.host in
    let new = g.H.Host.desk c.put_last.new.host in
    let behind = at.invariant.behind.0 in
    let all : ShowTargets device items behind
    = subst (λ (l : List (Option g.row.H-Disk.Denot)). ShowTargets device items (devices_of device l ++ behind)) last.0 at.invariant.behind.1 in
    let puts : PutsBack (take (length items) (all_targets dir areas)) behind old mid
    = subst (λ (l : List (Option g.row.H-Disk.Denot)). PutsBack (drop (length l) (take (length items) (all_targets dir areas))) behind old mid) last.0 at.invariant.behind.2 in
    let same : behind ≡ devices = same_devices behind devices (sym all ∙ shows) in
    subst (λ (b : _). PutsBack (take (length devices) (targets_for (lent_path b) areas)) devices old new) (sym c.in-Some.is)
    (subst (λ (d : _). PutsBack (take (length devices) (all_targets dir areas)) devices old d) (sym last.1)
    (subst (λ (n : ℕ). PutsBack (take n (all_targets dir areas)) devices old mid) (sym (as_many device items devices shows))
    (subst (λ (l : List Device). PutsBack (take (length items) (all_targets dir areas)) l old mid) same puts)))
