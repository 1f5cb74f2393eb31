use Rattle.std.proofs.Common.{◌≡◌, sym, ◌∙◌, subst, true, false}
use Rattle.std.specs.Option.{ForSome}
use Rattle.jb_disk.specs.declared.file.FileId.TheVariants.{Jnl}
use Rattle.jb_disk.specs.Runs.{LeavesNow, Shows}
use Rattle.jb_disk.specs.Gate.{IsGateOpen}
use Rattle.jb_journal.specs.declared.stopped.Stopped.{Stopped}
use Rattle.jb_journal.specs.Doubt.{IsInDoubt, IsEarly}
use Rattle.jb_journal.specs.Stages.{opened}
use Rattle.jb_journal.proofs.ReadyLemmas.{opened_is, version-opened}
use Rattle.jb_journal.proofs.SettleLemmas.{doubt_first, doubt_run, finish_run, head_run, shows_going, shows_late, synced_late, synced_early, shows_finished, shows_late_again, shows_prepared, shows_early_again, preparing_run, doubt_under_way}
use Rattle.jb_disk.proofs.RunLemmas.{stays_silent}
use Rattle.jb_journal.proofs.PrepareLemmas.{synced_after}
use Rattle.jb_journal.proofs.settling.settle.Goals as goal

-- false is not true
not_true : false ≡ true → ⊥
not_true is = cc

pub returns-in_default-clause-still : goal.returns-in_default-clause-still
returns-in_default-clause-still g c = λ number start ready shows.
    (c.sync_gate.ensures.keeps c.args.stopped number c.args.redo.now start).shows shows

pub returns-in_default-clause-crash : goal.returns-in_default-clause-crash
returns-in_default-clause-crash g c = λ number start ready shows.
    let redo = c.args.redo.now in
    let stopped = c.args.stopped in
    let d0 = g.D.Disk.device c.args.disk.now in
    let d1 = g.D.Disk.device c.sync_gate.new.disk in
    let keeps = c.sync_gate.ensures.keeps stopped number redo start in
    let shows1 = keeps.shows shows in
    record { first = doubt_first number redo start ready stopped d0 shows; run = doubt_run number redo start ready stopped d0 d1 keeps shows }

pub write_and_close-requires-clause-going : goal.write_and_close-requires-clause-going
write_and_close-requires-clause-going g c =
    let redo = c.args.redo.now in
    let stopped = c.args.stopped in
    let d1 = g.D.Disk.device c.sync_gate.new.disk in
    doubt_under_way stopped redo d1
    (λ files there. let has = c.requires.in_doubt files (sym c.in-Ok.ensures.kept ∙ there) in record { number = has.number; start = has.start; ready = has.ready; shows = (c.sync_gate.ensures.keeps stopped has.number redo has.start).shows has.shows })
    (λ files there. (c.in-Ok.ensures.found files (sym c.in-Ok.ensures.kept ∙ there)).0 c.if-is_open.true)

pub returns-in_default-write_and_close-clause-still : goal.returns-in_default-write_and_close-clause-still
returns-in_default-write_and_close-clause-still g c = λ number start ready shows.
    let redo = c.args.redo.now in
    let stopped = c.args.stopped in
    let d0 = g.D.Disk.device c.args.disk.now in
    let d1 = g.D.Disk.device c.sync_gate.new.disk in
    let keeps = c.sync_gate.ensures.keeps stopped number redo start in
    let shows1 = keeps.shows shows in
    let durable1 : ForSome d1.contents (λ files. LeavesNow (λ left. left Jnl ≡ files Jnl) d1.moments) = λ files there. c.in-Ok.ensures.durable files (sym c.in-Ok.ensures.kept ∙ there) in
    let tells1 = g.met.D.Disk.told c.sync_gate.new.disk in
    let open1 : ForSome d1.contents IsGateOpen = λ files there. (c.in-Ok.ensures.found files (sym c.in-Ok.ensures.kept ∙ there)).0 c.if-is_open.true in
    let going = shows_going number redo start ready d1 tells1 stopped shows1 durable1 open1 in
    let is = opened_is number redo start ready in
    let two = version-opened number redo start ready in
    shows_late_again number redo start ready (g.D.Disk.device c.write_and_close.new.disk) (c.write_and_close.ensures.late (opened number redo start) is two going)

pub returns-in_default-write_and_close-clause-crash : goal.returns-in_default-write_and_close-clause-crash
returns-in_default-write_and_close-clause-crash g c = λ number start ready shows.
    let redo = c.args.redo.now in
    let stopped = c.args.stopped in
    let d0 = g.D.Disk.device c.args.disk.now in
    let d1 = g.D.Disk.device c.sync_gate.new.disk in
    let keeps = c.sync_gate.ensures.keeps stopped number redo start in
    let shows1 = keeps.shows shows in
    let durable1 : ForSome d1.contents (λ files. LeavesNow (λ left. left Jnl ≡ files Jnl) d1.moments) = λ files there. c.in-Ok.ensures.durable files (sym c.in-Ok.ensures.kept ∙ there) in
    let tells1 = g.met.D.Disk.told c.sync_gate.new.disk in
    let open1 : ForSome d1.contents IsGateOpen = λ files there. (c.in-Ok.ensures.found files (sym c.in-Ok.ensures.kept ∙ there)).0 c.if-is_open.true in
    let going = shows_going number redo start ready d1 tells1 stopped shows1 durable1 open1 in
    let is = opened_is number redo start ready in
    let two = version-opened number redo start ready in
    record {
      first = doubt_first number redo start ready stopped d0 shows;
      run = finish_run number redo start ready stopped d0 d1 (g.D.Disk.device c.write_and_close.new.disk) (doubt_run number redo start ready stopped d0 d1 keeps shows) (c.write_and_close.ensures.run (opened number redo start) is two going);
    }

pub returns-then-is_open-clause-crash : goal.returns-then-is_open-clause-crash
returns-then-is_open-clause-crash g c = λ number start ready shows.
    let redo = c.args.redo.now in
    let stopped = c.args.stopped in
    let d0 = g.D.Disk.device c.args.disk.now in
    let d1 = g.D.Disk.device c.sync_gate.new.disk in
    let keeps = c.sync_gate.ensures.keeps stopped number redo start in
    let shows1 = keeps.shows shows in
    let durable1 : ForSome d1.contents (λ files. LeavesNow (λ left. left Jnl ≡ files Jnl) d1.moments) = λ files there. c.in-Ok.ensures.durable files (sym c.in-Ok.ensures.kept ∙ there) in
    let tells1 = g.met.D.Disk.told c.sync_gate.new.disk in
    let open1 : ForSome d1.contents IsGateOpen = λ files there. (c.in-Ok.ensures.found files (sym c.in-Ok.ensures.kept ∙ there)).0 c.if-is_open.true in
    let going = shows_going number redo start ready d1 tells1 stopped shows1 durable1 open1 in
    let is = opened_is number redo start ready in
    let two = version-opened number redo start ready in
    record {
      first = doubt_first number redo start ready stopped d0 shows;
      run = finish_run number redo start ready stopped d0 d1 (g.D.Disk.device c.write_and_close.new.disk) (doubt_run number redo start ready stopped d0 d1 keeps shows) (c.write_and_close.ensures.run (opened number redo start) is two going);
    }

pub returns-then-is_open-clause-answer : goal.returns-then-is_open-clause-answer
returns-then-is_open-clause-answer g c = λ number start ready shows.
    let redo = c.args.redo.now in
    let stopped = c.args.stopped in
    let d0 = g.D.Disk.device c.args.disk.now in
    let d1 = g.D.Disk.device c.sync_gate.new.disk in
    let keeps = c.sync_gate.ensures.keeps stopped number redo start in
    let shows1 = keeps.shows shows in
    let durable1 : ForSome d1.contents (λ files. LeavesNow (λ left. left Jnl ≡ files Jnl) d1.moments) = λ files there. c.in-Ok.ensures.durable files (sym c.in-Ok.ensures.kept ∙ there) in
    let tells1 = g.met.D.Disk.told c.sync_gate.new.disk in
    let open1 : ForSome d1.contents IsGateOpen = λ files there. (c.in-Ok.ensures.found files (sym c.in-Ok.ensures.kept ∙ there)).0 c.if-is_open.true in
    let going = shows_going number redo start ready d1 tells1 stopped shows1 durable1 open1 in
    let is = opened_is number redo start ready in
    let two = version-opened number redo start ready in
    shows_finished number redo start ready d1.contents (g.D.Disk.device c.write_and_close.new.disk) (g.met.D.Disk.told c.write_and_close.new.disk) (c.in-Ok-write_and_close.ensures.done (opened number redo start) is two going) (c.in-Ok-write_and_close.ensures.synced (opened number redo start) is two going)

pub returns-then-is_open-clause-durable : goal.returns-then-is_open-clause-durable
returns-then-is_open-clause-durable g c = λ number start ready shows.
    let redo = c.args.redo.now in
    let stopped = c.args.stopped in
    let d0 = g.D.Disk.device c.args.disk.now in
    let d1 = g.D.Disk.device c.sync_gate.new.disk in
    let keeps = c.sync_gate.ensures.keeps stopped number redo start in
    let shows1 = keeps.shows shows in
    let durable1 : ForSome d1.contents (λ files. LeavesNow (λ left. left Jnl ≡ files Jnl) d1.moments) = λ files there. c.in-Ok.ensures.durable files (sym c.in-Ok.ensures.kept ∙ there) in
    let tells1 = g.met.D.Disk.told c.sync_gate.new.disk in
    let open1 : ForSome d1.contents IsGateOpen = λ files there. (c.in-Ok.ensures.found files (sym c.in-Ok.ensures.kept ∙ there)).0 c.if-is_open.true in
    let going = shows_going number redo start ready d1 tells1 stopped shows1 durable1 open1 in
    let is = opened_is number redo start ready in
    let two = version-opened number redo start ready in
    c.in-Ok-write_and_close.ensures.synced (opened number redo start) is two going

pub returns-in_default-make_head-clause-still : goal.returns-in_default-make_head-clause-still
returns-in_default-make_head-clause-still g c = λ number start ready shows.
    let redo = c.args.redo.now in
    let stopped = c.args.stopped in
    let d0 = g.D.Disk.device c.args.disk.now in
    let d1 = g.D.Disk.device c.sync_gate.new.disk in
    let keeps = c.sync_gate.ensures.keeps stopped number redo start in
    let shows1 = keeps.shows shows in
    let durable1 : ForSome d1.contents (λ files. LeavesNow (λ left. left Jnl ≡ files Jnl) d1.moments) = λ files there. c.in-Ok.ensures.durable files (sym c.in-Ok.ensures.kept ∙ there) in
    let tells1 = g.met.D.Disk.told c.sync_gate.new.disk in
    let shut1 : ForSome d1.contents (λ files. IsGateOpen files → ⊥) = λ files there is_open. (let yes = (c.in-Ok.ensures.found files (sym c.in-Ok.ensures.kept ∙ there)).1 is_open in not_true (sym c.if-is_open.false ∙ yes)) in
    let early1 : Shows (IsEarly number redo start) d1 = subst (λ (s : Stopped). Shows (IsInDoubt s number redo start) d1) c.in-Early.is shows1 in
    let synced1 = synced_early number redo start ready d1 tells1 stopped shows1 durable1 c.in-Early.is in
    let d2 = g.D.Disk.device c.make_head.new.disk in
    let tells2 = g.met.D.Disk.told c.make_head.new.disk in
    shows_early_again number redo start ready d1 d2 tells1 tells2 early1 shut1 synced1 c.make_head.ensures.keeps (stays_silent _ _ c.make_head.ensures.cause.alike)

pub returns-in_default-make_head-clause-crash : goal.returns-in_default-make_head-clause-crash
returns-in_default-make_head-clause-crash g c = λ number start ready shows.
    let redo = c.args.redo.now in
    let stopped = c.args.stopped in
    let d0 = g.D.Disk.device c.args.disk.now in
    let d1 = g.D.Disk.device c.sync_gate.new.disk in
    let keeps = c.sync_gate.ensures.keeps stopped number redo start in
    let shows1 = keeps.shows shows in
    let durable1 : ForSome d1.contents (λ files. LeavesNow (λ left. left Jnl ≡ files Jnl) d1.moments) = λ files there. c.in-Ok.ensures.durable files (sym c.in-Ok.ensures.kept ∙ there) in
    let tells1 = g.met.D.Disk.told c.sync_gate.new.disk in
    let shut1 : ForSome d1.contents (λ files. IsGateOpen files → ⊥) = λ files there is_open. (let yes = (c.in-Ok.ensures.found files (sym c.in-Ok.ensures.kept ∙ there)).1 is_open in not_true (sym c.if-is_open.false ∙ yes)) in
    let early1 : Shows (IsEarly number redo start) d1 = subst (λ (s : Stopped). Shows (IsInDoubt s number redo start) d1) c.in-Early.is shows1 in
    let synced1 = synced_early number redo start ready d1 tells1 stopped shows1 durable1 c.in-Early.is in
    let d2 = g.D.Disk.device c.make_head.new.disk in
    let tells2 = g.met.D.Disk.told c.make_head.new.disk in
    record {
      first = doubt_first number redo start ready stopped d0 shows;
      run = head_run number redo start ready stopped d0 d1 d2 c.in-Early.is (doubt_run number redo start ready stopped d0 d1 keeps shows) (preparing_run number redo start ready d1 d2 tells1 tells2 early1 shut1 synced1 c.make_head.ensures.keeps (stays_silent _ _ c.make_head.ensures.cause.alike));
    }

pub returns-in-Ok-make_head-clause-crash : goal.returns-in-Ok-make_head-clause-crash
returns-in-Ok-make_head-clause-crash g c = λ number start ready shows.
    let redo = c.args.redo.now in
    let stopped = c.args.stopped in
    let d0 = g.D.Disk.device c.args.disk.now in
    let d1 = g.D.Disk.device c.sync_gate.new.disk in
    let keeps = c.sync_gate.ensures.keeps stopped number redo start in
    let shows1 = keeps.shows shows in
    let durable1 : ForSome d1.contents (λ files. LeavesNow (λ left. left Jnl ≡ files Jnl) d1.moments) = λ files there. c.in-Ok.ensures.durable files (sym c.in-Ok.ensures.kept ∙ there) in
    let tells1 = g.met.D.Disk.told c.sync_gate.new.disk in
    let shut1 : ForSome d1.contents (λ files. IsGateOpen files → ⊥) = λ files there is_open. (let yes = (c.in-Ok.ensures.found files (sym c.in-Ok.ensures.kept ∙ there)).1 is_open in not_true (sym c.if-is_open.false ∙ yes)) in
    let early1 : Shows (IsEarly number redo start) d1 = subst (λ (s : Stopped). Shows (IsInDoubt s number redo start) d1) c.in-Early.is shows1 in
    let synced1 = synced_early number redo start ready d1 tells1 stopped shows1 durable1 c.in-Early.is in
    let d2 = g.D.Disk.device c.make_head.new.disk in
    let tells2 = g.met.D.Disk.told c.make_head.new.disk in
    record {
      first = doubt_first number redo start ready stopped d0 shows;
      run = head_run number redo start ready stopped d0 d1 d2 c.in-Early.is (doubt_run number redo start ready stopped d0 d1 keeps shows) (preparing_run number redo start ready d1 d2 tells1 tells2 early1 shut1 synced1 c.make_head.ensures.keeps (stays_silent _ _ c.make_head.ensures.cause.alike));
    }

pub returns-in-Ok-make_head-clause-answer : goal.returns-in-Ok-make_head-clause-answer
returns-in-Ok-make_head-clause-answer g c = λ number start ready shows.
    let redo = c.args.redo.now in
    let stopped = c.args.stopped in
    let d0 = g.D.Disk.device c.args.disk.now in
    let d1 = g.D.Disk.device c.sync_gate.new.disk in
    let keeps = c.sync_gate.ensures.keeps stopped number redo start in
    let shows1 = keeps.shows shows in
    let durable1 : ForSome d1.contents (λ files. LeavesNow (λ left. left Jnl ≡ files Jnl) d1.moments) = λ files there. c.in-Ok.ensures.durable files (sym c.in-Ok.ensures.kept ∙ there) in
    let tells1 = g.met.D.Disk.told c.sync_gate.new.disk in
    let shut1 : ForSome d1.contents (λ files. IsGateOpen files → ⊥) = λ files there is_open. (let yes = (c.in-Ok.ensures.found files (sym c.in-Ok.ensures.kept ∙ there)).1 is_open in not_true (sym c.if-is_open.false ∙ yes)) in
    let early1 : Shows (IsEarly number redo start) d1 = subst (λ (s : Stopped). Shows (IsInDoubt s number redo start) d1) c.in-Early.is shows1 in
    let synced1 = synced_early number redo start ready d1 tells1 stopped shows1 durable1 c.in-Early.is in
    let d2 = g.D.Disk.device c.make_head.new.disk in
    let tells2 = g.met.D.Disk.told c.make_head.new.disk in
    shows_prepared number redo start ready d1 d2 tells2 early1 shut1 c.in-Ok-make_head.ensures.made (synced_after d1 d2 c.in-Ok-make_head.ensures.made c.in-Ok-make_head.ensures.durable synced1)

pub returns-in-Ok-make_head-clause-durable : goal.returns-in-Ok-make_head-clause-durable
returns-in-Ok-make_head-clause-durable g c = λ number start ready shows.
    let redo = c.args.redo.now in
    let stopped = c.args.stopped in
    let d0 = g.D.Disk.device c.args.disk.now in
    let d1 = g.D.Disk.device c.sync_gate.new.disk in
    let keeps = c.sync_gate.ensures.keeps stopped number redo start in
    let shows1 = keeps.shows shows in
    let durable1 : ForSome d1.contents (λ files. LeavesNow (λ left. left Jnl ≡ files Jnl) d1.moments) = λ files there. c.in-Ok.ensures.durable files (sym c.in-Ok.ensures.kept ∙ there) in
    let tells1 = g.met.D.Disk.told c.sync_gate.new.disk in
    let early1 : Shows (IsEarly number redo start) d1 = subst (λ (s : Stopped). Shows (IsInDoubt s number redo start) d1) c.in-Early.is shows1 in
    let synced1 = synced_early number redo start ready d1 tells1 stopped shows1 durable1 c.in-Early.is in
    let d2 = g.D.Disk.device c.make_head.new.disk in
    let tells2 = g.met.D.Disk.told c.make_head.new.disk in
    synced_after d1 d2 c.in-Ok-make_head.ensures.made c.in-Ok-make_head.ensures.durable synced1

pub returns-in-Late-clause-answer : goal.returns-in-Late-clause-answer
returns-in-Late-clause-answer g c = λ number start ready shows.
    let redo = c.args.redo.now in
    let stopped = c.args.stopped in
    let d0 = g.D.Disk.device c.args.disk.now in
    let d1 = g.D.Disk.device c.sync_gate.new.disk in
    let keeps = c.sync_gate.ensures.keeps stopped number redo start in
    let shows1 = keeps.shows shows in
    let durable1 : ForSome d1.contents (λ files. LeavesNow (λ left. left Jnl ≡ files Jnl) d1.moments) = λ files there. c.in-Ok.ensures.durable files (sym c.in-Ok.ensures.kept ∙ there) in
    let tells1 = g.met.D.Disk.told c.sync_gate.new.disk in
    let shut1 : ForSome d1.contents (λ files. IsGateOpen files → ⊥) = λ files there is_open. (let yes = (c.in-Ok.ensures.found files (sym c.in-Ok.ensures.kept ∙ there)).1 is_open in not_true (sym c.if-is_open.false ∙ yes)) in
    shows_late number redo start ready d1 tells1 stopped shows1 durable1 c.in-Late.is shut1

pub returns-in-Late-clause-durable : goal.returns-in-Late-clause-durable
returns-in-Late-clause-durable g c = λ number start ready shows.
    let redo = c.args.redo.now in
    let stopped = c.args.stopped in
    let d0 = g.D.Disk.device c.args.disk.now in
    let d1 = g.D.Disk.device c.sync_gate.new.disk in
    let keeps = c.sync_gate.ensures.keeps stopped number redo start in
    let shows1 = keeps.shows shows in
    let durable1 : ForSome d1.contents (λ files. LeavesNow (λ left. left Jnl ≡ files Jnl) d1.moments) = λ files there. c.in-Ok.ensures.durable files (sym c.in-Ok.ensures.kept ∙ there) in
    let tells1 = g.met.D.Disk.told c.sync_gate.new.disk in
    let shut1 : ForSome d1.contents (λ files. IsGateOpen files → ⊥) = λ files there is_open. (let yes = (c.in-Ok.ensures.found files (sym c.in-Ok.ensures.kept ∙ there)).1 is_open in not_true (sym c.if-is_open.false ∙ yes)) in
    synced_late number redo start ready d1 tells1 stopped shows1 durable1 c.in-Late.is shut1

pub returns-in-Late-clause-crash : goal.returns-in-Late-clause-crash
returns-in-Late-clause-crash g c = λ number start ready shows.
    let redo = c.args.redo.now in
    let stopped = c.args.stopped in
    let d0 = g.D.Disk.device c.args.disk.now in
    let d1 = g.D.Disk.device c.sync_gate.new.disk in
    let keeps = c.sync_gate.ensures.keeps stopped number redo start in
    let shows1 = keeps.shows shows in
    record { first = doubt_first number redo start ready stopped d0 shows; run = doubt_run number redo start ready stopped d0 d1 keeps shows }

pub returns-in_default-clause-early_by : goal.returns-in_default-clause-early_by
returns-in_default-clause-early_by g c = λ early files there is_open. c.sync_gate.ensures.asks files there

pub returns-in_default-make_head-clause-early_by : goal.returns-in_default-make_head-clause-early_by
returns-in_default-make_head-clause-early_by g c = λ early files there is_open.
    let yes = (c.in-Ok.ensures.found files there).1 is_open in
    absurd (not_true (sym c.if-is_open.false ∙ yes))

pub make_head-requires : goal.make_head-requires
make_head-requires g c = λ files there is_open.
    let yes = (c.in-Ok.ensures.found files (sym c.in-Ok.ensures.kept ∙ there)).1 is_open in
    not_true (sym c.if-is_open.false ∙ yes)
