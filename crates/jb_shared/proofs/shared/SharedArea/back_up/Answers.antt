use Rattle.std.proofs.Common.{Result, Err, subst}
use Rattle.jb_backup.specs.declared.error.BackupError.{BackupError}
use Rattle.jb_shared.specs.Backing.{CopiesOnto}
use Rattle.jb_shared.specs.Inside.{known_in}
use Rattle.jb_shared.proofs.BackingLemmas.{ends_before, ends_behind, ends_copying, ready_later}
use Rattle.jb_shared.proofs.shared.SharedArea.back_up.Goals as goal

pub copy_texts-parts-requires-clause-ready : goal.copy_texts-parts-requires-clause-ready
copy_texts-parts-requires-clause-ready g c =
    ready_later (known_in c.args.parts) (known_in c.texts_len-parts.result.0) c.args.backing.now (g.E.Disk.device c.args.onto.now) c.texts_len-parts.ensures.taken c.requires.ready

pub returns-in-Ok-clause-finishes : goal.returns-in-Ok-clause-finishes
returns-in-Ok-clause-finishes g c =
    let copied = c.copy_texts-parts in
    let first = known_in c.texts_len-parts.result.0 in
    let mid = known_in copied.result.0 in
    let new = known_in c.copy_rest.result.0 in
    let before = g.E.Disk.device c.args.onto.now in
    let between = g.E.Disk.device copied.new.onto in
    let after = g.E.Disk.device c.copy_rest.new.onto in
    ends_before (known_in c.args.parts) first new before after c.copy_rest.result.1 c.texts_len-parts.ensures.taken
    (ends_behind first mid new copied.new.backing before between after c.in-Ok.field-0 c.copy_rest.result.1
    (subst (λ (r : Result (Unit {0}) BackupError). CopiesOnto first mid copied.new.backing before between r) c.in-Ok.is copied.ensures.copies) c.copy_rest.ensures.finishes)

pub returns-in-Err-clause-finishes : goal.returns-in-Err-clause-finishes
returns-in-Err-clause-finishes g c =
    let copied = c.copy_texts-parts in
    let first = known_in c.texts_len-parts.result.0 in
    let mid = known_in copied.result.0 in
    let before = g.E.Disk.device c.args.onto.now in
    let between = g.E.Disk.device copied.new.onto in
    ends_before (known_in c.args.parts) first mid before between (Err c.in-Err.error) c.texts_len-parts.ensures.taken
    (ends_copying first mid copied.new.backing before between c.in-Err.error
    (subst (λ (r : Result (Unit {0}) BackupError). CopiesOnto first mid copied.new.backing before between r) c.in-Err.is copied.ensures.copies))
