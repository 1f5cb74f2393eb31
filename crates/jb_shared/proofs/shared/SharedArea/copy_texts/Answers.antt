use Rattle.std.proofs.Common.{Bool, Result, refl, subst, ◌∙◌}
use Rattle.jb_backup.proofs.AnswerLemmas.{ok_of}
use Rattle.jb_backup.specs.declared.error.BackupError.{BackupError}
use Rattle.jb_shared.specs.Backing.{CopiesOnto}
use Rattle.jb_shared.specs.Inside.{known_in}
use Rattle.jb_shared.proofs.BackingLemmas.{copies_as, copies_failed, copies_none, copies_then, err_of}
use Rattle.jb_shared.proofs.shared.SharedArea.copy_texts.Goals as goal

pub loop-init : goal.loop-init
loop-init g c = record { ours = c.requires.ours; mark = refl; copies = copies_none (known_in c.args.parts) c.args.backing.now (g.E.Disk.device c.args.onto.now) tt c.requires.ready }

pub loop-preserved : goal.loop-preserved
loop-preserved g c =
    let at = c.loop in
    let next = c.copy_some-next in
    let before = g.E.Disk.device at.onto in
    let after = g.E.Disk.device next.new.onto in
    let mid = known_in at.parts in
    let new = known_in next.result.0 in
    record {
      ours = next.ensures.ours;
      mark = next.ensures.mark ∙ at.invariant.mark;
      copies =
          copies_then (known_in c.args.parts) mid new at.backing next.new.backing (g.E.Disk.device c.args.onto.now) before after tt (ok_of (Unit {0}) BackupError tt) at.invariant.copies
          (copies_as mid new next.new.backing before after c.in-Ok-true.field-0 tt (subst (λ (r : Result Bool BackupError). CopiesOnto mid new next.new.backing before after r) c.in-Ok-true.is next.ensures.copies));
    }

pub returns-in-Ok-false-clause-copies : goal.returns-in-Ok-false-clause-copies
returns-in-Ok-false-clause-copies g c =
    let at = c.loop in
    let next = c.copy_some-next in
    let before = g.E.Disk.device at.onto in
    let after = g.E.Disk.device next.new.onto in
    let mid = known_in at.parts in
    let new = known_in next.result.0 in
    copies_then (known_in c.args.parts) mid new at.backing next.new.backing (g.E.Disk.device c.args.onto.now) before after tt (ok_of (Unit {0}) BackupError tt) at.invariant.copies
    (copies_as mid new next.new.backing before after c.in-Ok-false.field-0 tt (subst (λ (r : Result Bool BackupError). CopiesOnto mid new next.new.backing before after r) c.in-Ok-false.is next.ensures.copies))

pub returns-in-Err-clause-copies : goal.returns-in-Err-clause-copies
returns-in-Err-clause-copies g c =
    let at = c.loop in
    let next = c.copy_some-next in
    let before = g.E.Disk.device at.onto in
    let after = g.E.Disk.device next.new.onto in
    let mid = known_in at.parts in
    let new = known_in next.result.0 in
    copies_then (known_in c.args.parts) mid new at.backing next.new.backing (g.E.Disk.device c.args.onto.now) before after tt (err_of (Unit {0}) BackupError c.in-Err.error) at.invariant.copies
    (copies_failed mid new next.new.backing before after c.in-Err.error (subst (λ (r : Result Bool BackupError). CopiesOnto mid new next.new.backing before after r) c.in-Err.is next.ensures.copies))
