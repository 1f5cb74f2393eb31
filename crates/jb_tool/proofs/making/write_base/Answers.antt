use Rattle.std.specs.Option.{ForSome}
use Rattle.jb_tool.proofs.MakingLemmas.{base_there, done_so, left_committing, left_preparing, ready_prepared}
use Rattle.jb_tool.proofs.NewBaseLemmas.{base_writable}
use Rattle.jb_tool.specs.Making.{HasNewBase}
use Rattle.jb_tool.proofs.making.write_base.Goals as goal

pub prepare-requires : goal.prepare-requires
prepare-requires g c = λ files is. (c.requires.empty files is).shut

pub returns-in_err-prepare-clause-crash : goal.returns-in_err-prepare-clause-crash
returns-in_err-prepare-clause-crash g c =
    left_preparing c.args.moment c.put_base.new.redo c.put_base.ensures (g.D.Disk.device c.args.disk.now) (g.D.Disk.device c.prepare.new.disk) (g.D.Disk.device c.prepare.new.disk)
    c.requires.empty c.requires.synced c.prepare.ensures.crash

pub commit-requires-clause-writable : goal.commit-requires-clause-writable
commit-requires-clause-writable g c = base_writable c.args.moment c.put_base.new.redo c.put_base.ensures

pub commit-requires-clause-ready : goal.commit-requires-clause-ready
commit-requires-clause-ready g c =
    ready_prepared c.args.moment c.put_base.new.redo (g.D.Disk.device c.args.disk.now).contents (g.D.Disk.device c.prepare.new.disk).contents c.put_base.ensures
    c.requires.empty c.in_ok-prepare.ensures.made

pub returns-clause-made : goal.returns-clause-made
returns-clause-made g c =
    let before = g.D.Disk.device c.args.disk.now in
    let mid = g.D.Disk.device c.prepare.new.disk in
    let after = g.D.Disk.device c.commit.new.disk in
    done_so _ _ _ (ForSome before.contents (λ _. HasNewBase c.args.moment after)) c.commit.result
    (λ done synced settled. base_there c.args.moment c.put_base.new.redo c.put_base.ensures before mid after c.requires.empty c.in_ok-prepare.ensures.made done synced settled)
    c.commit.ensures.done c.commit.ensures.durable c.commit.ensures.settled

pub returns-clause-crash : goal.returns-clause-crash
returns-clause-crash g c =
    let before = g.D.Disk.device c.args.disk.now in
    let mid = g.D.Disk.device c.prepare.new.disk in
    let after = g.D.Disk.device c.commit.new.disk in
    left_committing c.args.moment c.put_base.new.redo c.put_base.ensures before mid after c.requires.empty c.in_ok-prepare.ensures.made
    (left_preparing c.args.moment c.put_base.new.redo c.put_base.ensures before mid after c.requires.empty c.requires.synced c.prepare.ensures.crash)
    c.commit.ensures.crash
