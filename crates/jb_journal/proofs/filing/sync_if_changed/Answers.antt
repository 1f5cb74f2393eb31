use Rattle.std.proofs.Common.{◌≡◌, inl, inr, Bool, true, false, [], ◌∷◌, refl, sym, ◌∙◌}
use Rattle.jb_redo.specs.OnTheWay.{IsOnTheWay}
use Rattle.jb_disk.proofs.RunLemmas.{keeps-sync, durable}
use Rattle.jb_disk.proofs.FileLemmas.{leaves_map}
use Rattle.jb_journal.proofs.ComingLemmas.{come_none, come_synced}
use Rattle.jb_journal.proofs.Told.{on_ok}
use Rattle.jb_journal.proofs.FilingLemmas.{unmentioned_same}
use Rattle.jb_journal.proofs.filing.sync_if_changed.Goals as goal

-- true is not false
not_both : {b : Bool} → b ≡ true → b ≡ false → ⊥
not_both first second = cc

pub returns-then-is_changed-clause-durable : goal.returns-then-is_changed-clause-durable
returns-then-is_changed-clause-durable g c = on_ok c.sync.result _ _ (λ done. λ start shows final there.
    durable c.args.file final (g.D.Disk.device c.args.disk.now) (g.D.Disk.device c.sync.new.self) there done) c.sync.ensures.changed.done

pub returns-then-is_changed-clause-keeps : goal.returns-then-is_changed-clause-keeps
returns-then-is_changed-clause-keeps g c = λ start. keeps-sync (IsOnTheWay c.args.redo.now.lengths c.args.redo.now.pieces start) c.args.file _ _ _ (g.met.D.Disk.told c.args.disk.now) (g.met.D.Disk.told c.sync.new.self) c.sync.ensures.changed

pub returns-then-is_changed-clause-others : goal.returns-then-is_changed-clause-others
returns-then-is_changed-clause-others g c = λ other final. keeps-sync (λ left. left other ≡ final other) c.args.file _ _ _ (g.met.D.Disk.told c.args.disk.now) (g.met.D.Disk.told c.sync.new.self) c.sync.ensures.changed

pub returns-else-is_changed-clause-durable : goal.returns-else-is_changed-clause-durable
returns-else-is_changed-clause-durable g c = λ start shows final there.
    let none = c.is_changed.ensures.0 c.if-is_changed.false in
    let lengths = c.args.redo.now.lengths in
    let pieces = c.args.redo.now.pieces in
    leaves_map (IsOnTheWay lengths pieces start) (λ left. left c.args.file ≡ final c.args.file) _
    (λ left way. unmentioned_same lengths pieces c.args.file start left none way ∙ sym (unmentioned_same lengths pieces c.args.file start final none (shows.read final there))) shows.left

pub returns-then-is_changed-clause-come : goal.returns-then-is_changed-clause-come
returns-then-is_changed-clause-come g c = on_ok c.sync.result _ _ (λ come. record {
  syncs = c.args.file ∷ [];
  one = inr (refl, λ none. not_both c.if-is_changed.true (c.is_changed.ensures.1 none));
  come = come;
}) (come_synced c.args.file (g.D.Disk.device c.args.disk.now) (g.D.Disk.device c.sync.new.self) c.sync.result (g.met.D.Disk.told c.args.disk.now) (g.met.D.Disk.told c.sync.new.self) c.sync.ensures.changed)

pub returns-else-is_changed-clause-come : goal.returns-else-is_changed-clause-come
returns-else-is_changed-clause-come g c = record { syncs = []; one = inl (refl, c.is_changed.ensures.0 c.if-is_changed.false); come = come_none _ }
