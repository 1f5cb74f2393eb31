use Rattle.std.proofs.Common.{◌≡◌, ◌∙◌, ap, Some}
use Rattle.jb_disk.proofs.RunLemmas.{runs-refl, runs-then, runs-weaken}
use Rattle.jb_disk.proofs.FileLemmas.{leaves_map}
use Rattle.jb_journal.specs.Recover.{ReplaysAs, MightBe, ReplaysAsAtStart}
use Rattle.jb_journal.proofs.FirmLemmas.{firm_same, firm_then, firm_weaken}
use Rattle.jb_journal.proofs.RecoverLemmas.{shows_first, might_as, same_as}
use Rattle.jb_disk.specs.Gate.{version_number}
use Rattle.jb_redo.specs.Reading.{HasRecordOf}
use Rattle.jb_journal.proofs.recovery.recover.Goals as goal

pub returns-in_err-sync_all-clause-crash : goal.returns-in_err-sync_all-clause-crash
returns-in_err-sync_all-clause-crash g c = λ was there safe.
    let d0 = g.D.Disk.device c.args.disk.now in
    let d1 = g.D.Disk.device c.sync_all.new.disk in
    let first = d0.moments in
    let P = ReplaysAsAtStart first in
    let shows = shows_first d0 (g.met.D.Disk.told c.args.disk.now) in
    let at_first = leaves_map (MightBe first) P d0.moments (might_as first) shows.left in
    let run1 = runs-weaken (MightBe first) P (might_as first) d0.moments d1.moments ((c.sync_all.ensures.first first).run shows) in
    record { first = at_first; run = run1 }

pub returns-in_err-is_gate_open-clause-crash : goal.returns-in_err-is_gate_open-clause-crash
returns-in_err-is_gate_open-clause-crash g c = λ was there safe.
    let d0 = g.D.Disk.device c.args.disk.now in
    let d1 = g.D.Disk.device c.sync_all.new.disk in
    let first = d0.moments in
    let P = ReplaysAsAtStart first in
    let shows = shows_first d0 (g.met.D.Disk.told c.args.disk.now) in
    let at_first = leaves_map (MightBe first) P d0.moments (might_as first) shows.left in
    let run1 = runs-weaken (MightBe first) P (might_as first) d0.moments d1.moments ((c.sync_all.ensures.first first).run shows) in
    let d2 = g.D.Disk.device c.is_gate_open.new.disk in
    let run2 = runs-then P d0.moments d1.moments d2.moments run1 (runs-refl P d1.moments d2.moments c.is_gate_open.ensures.kept.moments) in
    record { first = at_first; run = run2 }

pub returns-then-not-branch-clause-crash : goal.returns-then-not-branch-clause-crash
returns-then-not-branch-clause-crash g c = λ was there safe.
    let d0 = g.D.Disk.device c.args.disk.now in
    let d1 = g.D.Disk.device c.sync_all.new.disk in
    let first = d0.moments in
    let P = ReplaysAsAtStart first in
    let shows = shows_first d0 (g.met.D.Disk.told c.args.disk.now) in
    let at_first = leaves_map (MightBe first) P d0.moments (might_as first) shows.left in
    let run1 = runs-weaken (MightBe first) P (might_as first) d0.moments d1.moments ((c.sync_all.ensures.first first).run shows) in
    let d2 = g.D.Disk.device c.is_gate_open.new.disk in
    let run2 = runs-then P d0.moments d1.moments d2.moments run1 (runs-refl P d1.moments d2.moments c.is_gate_open.ensures.kept.moments) in
    record { first = at_first; run = run2 }

pub returns-in_err-head-clause-crash : goal.returns-in_err-head-clause-crash
returns-in_err-head-clause-crash g c = λ was there safe.
    let d0 = g.D.Disk.device c.args.disk.now in
    let d1 = g.D.Disk.device c.sync_all.new.disk in
    let first = d0.moments in
    let P = ReplaysAsAtStart first in
    let shows = shows_first d0 (g.met.D.Disk.told c.args.disk.now) in
    let at_first = leaves_map (MightBe first) P d0.moments (might_as first) shows.left in
    let run1 = runs-weaken (MightBe first) P (might_as first) d0.moments d1.moments ((c.sync_all.ensures.first first).run shows) in
    let d2 = g.D.Disk.device c.is_gate_open.new.disk in
    let run2 = runs-then P d0.moments d1.moments d2.moments run1 (runs-refl P d1.moments d2.moments c.is_gate_open.ensures.kept.moments) in
    let d3 = g.D.Disk.device c.test_record.new.disk in
    let run3 = runs-then P d0.moments d2.moments d3.moments run2 (runs-refl P d2.moments d3.moments c.test_record.ensures.kept.moments) in
    record { first = at_first; run = run3 }

pub returns-in_err-redo_record-clause-crash : goal.returns-in_err-redo_record-clause-crash
returns-in_err-redo_record-clause-crash g c = λ was there safe.
    let d0 = g.D.Disk.device c.args.disk.now in
    let d1 = g.D.Disk.device c.sync_all.new.disk in
    let first = d0.moments in
    let P = ReplaysAsAtStart first in
    let shows = shows_first d0 (g.met.D.Disk.told c.args.disk.now) in
    let at_first = leaves_map (MightBe first) P d0.moments (might_as first) shows.left in
    let run1 = runs-weaken (MightBe first) P (might_as first) d0.moments d1.moments ((c.sync_all.ensures.first first).run shows) in
    let d2 = g.D.Disk.device c.is_gate_open.new.disk in
    let run2 = runs-then P d0.moments d1.moments d2.moments run1 (runs-refl P d1.moments d2.moments c.is_gate_open.ensures.kept.moments) in
    let d3 = g.D.Disk.device c.test_record.new.disk in
    let run3 = runs-then P d0.moments d2.moments d3.moments run2 (runs-refl P d2.moments d3.moments c.test_record.ensures.kept.moments) in
    let there3 : d3.contents ≡ Some was = c.test_record.ensures.kept.contents ∙ c.is_gate_open.ensures.kept.contents ∙ c.in_ok-sync_all.ensures.kept ∙ there in
    let d4 = g.D.Disk.device c.redo_record.new.disk in
    let run4 = runs-then P d0.moments d3.moments d4.moments run3
    (runs-weaken (ReplaysAs was) P (λ files same. record { was = was; might = shows.read was there; same = same }) d3.moments d4.moments (c.redo_record.ensures.run was there3 safe)) in
    record { first = at_first; run = run4 }

pub returns-clause-crash : goal.returns-clause-crash
returns-clause-crash g c = λ was there safe.
    let d0 = g.D.Disk.device c.args.disk.now in
    let d1 = g.D.Disk.device c.sync_all.new.disk in
    let first = d0.moments in
    let P = ReplaysAsAtStart first in
    let shows = shows_first d0 (g.met.D.Disk.told c.args.disk.now) in
    let at_first = leaves_map (MightBe first) P d0.moments (might_as first) shows.left in
    let run1 = runs-weaken (MightBe first) P (might_as first) d0.moments d1.moments ((c.sync_all.ensures.first first).run shows) in
    let d2 = g.D.Disk.device c.is_gate_open.new.disk in
    let run2 = runs-then P d0.moments d1.moments d2.moments run1 (runs-refl P d1.moments d2.moments c.is_gate_open.ensures.kept.moments) in
    let d3 = g.D.Disk.device c.test_record.new.disk in
    let run3 = runs-then P d0.moments d2.moments d3.moments run2 (runs-refl P d2.moments d3.moments c.test_record.ensures.kept.moments) in
    let there3 : d3.contents ≡ Some was = c.test_record.ensures.kept.contents ∙ c.is_gate_open.ensures.kept.contents ∙ c.in_ok-sync_all.ensures.kept ∙ there in
    let d4 = g.D.Disk.device c.redo_record.new.disk in
    let run4 = runs-then P d0.moments d3.moments d4.moments run3
    (runs-weaken (ReplaysAs was) P (λ files same. record { was = was; might = shows.read was there; same = same }) d3.moments d4.moments (c.redo_record.ensures.run was there3 safe)) in
    record { first = at_first; run = run4 }

pub returns-in_err-sync_all-clause-firm : goal.returns-in_err-sync_all-clause-firm
returns-in_err-sync_all-clause-firm g c = λ was there safe.
    let d0 = g.D.Disk.device c.args.disk.now in
    let d1 = g.D.Disk.device c.sync_all.new.disk in
    let firm1 = firm_weaken (λ left. left ≡ was) (ReplaysAs was) (same_as was) d0.moments d1.moments (c.sync_all.ensures.firm was there) in
    firm1

pub returns-in_err-is_gate_open-clause-firm : goal.returns-in_err-is_gate_open-clause-firm
returns-in_err-is_gate_open-clause-firm g c = λ was there safe.
    let d0 = g.D.Disk.device c.args.disk.now in
    let d1 = g.D.Disk.device c.sync_all.new.disk in
    let firm1 = firm_weaken (λ left. left ≡ was) (ReplaysAs was) (same_as was) d0.moments d1.moments (c.sync_all.ensures.firm was there) in
    let d2 = g.D.Disk.device c.is_gate_open.new.disk in
    let firm2 = firm_same (ReplaysAs was) d0.moments d1.moments d2.moments c.is_gate_open.ensures.kept.moments firm1 in
    firm2

pub returns-then-not-branch-clause-firm : goal.returns-then-not-branch-clause-firm
returns-then-not-branch-clause-firm g c = λ was there safe.
    let d0 = g.D.Disk.device c.args.disk.now in
    let d1 = g.D.Disk.device c.sync_all.new.disk in
    let firm1 = firm_weaken (λ left. left ≡ was) (ReplaysAs was) (same_as was) d0.moments d1.moments (c.sync_all.ensures.firm was there) in
    let d2 = g.D.Disk.device c.is_gate_open.new.disk in
    let firm2 = firm_same (ReplaysAs was) d0.moments d1.moments d2.moments c.is_gate_open.ensures.kept.moments firm1 in
    firm2

pub returns-in_err-head-clause-firm : goal.returns-in_err-head-clause-firm
returns-in_err-head-clause-firm g c = λ was there safe.
    let d0 = g.D.Disk.device c.args.disk.now in
    let d1 = g.D.Disk.device c.sync_all.new.disk in
    let firm1 = firm_weaken (λ left. left ≡ was) (ReplaysAs was) (same_as was) d0.moments d1.moments (c.sync_all.ensures.firm was there) in
    let d2 = g.D.Disk.device c.is_gate_open.new.disk in
    let firm2 = firm_same (ReplaysAs was) d0.moments d1.moments d2.moments c.is_gate_open.ensures.kept.moments firm1 in
    let d3 = g.D.Disk.device c.test_record.new.disk in
    let firm3 = firm_same (ReplaysAs was) d0.moments d2.moments d3.moments c.test_record.ensures.kept.moments firm2 in
    firm3

pub returns-in_err-redo_record-clause-firm : goal.returns-in_err-redo_record-clause-firm
returns-in_err-redo_record-clause-firm g c = λ was there safe.
    let d0 = g.D.Disk.device c.args.disk.now in
    let d1 = g.D.Disk.device c.sync_all.new.disk in
    let firm1 = firm_weaken (λ left. left ≡ was) (ReplaysAs was) (same_as was) d0.moments d1.moments (c.sync_all.ensures.firm was there) in
    let d2 = g.D.Disk.device c.is_gate_open.new.disk in
    let firm2 = firm_same (ReplaysAs was) d0.moments d1.moments d2.moments c.is_gate_open.ensures.kept.moments firm1 in
    let d3 = g.D.Disk.device c.test_record.new.disk in
    let firm3 = firm_same (ReplaysAs was) d0.moments d2.moments d3.moments c.test_record.ensures.kept.moments firm2 in
    let there3 : d3.contents ≡ Some was = c.test_record.ensures.kept.contents ∙ c.is_gate_open.ensures.kept.contents ∙ c.in_ok-sync_all.ensures.kept ∙ there in
    firm_then (ReplaysAs was) d0.moments d3.moments (g.D.Disk.device c.redo_record.new.disk).moments firm3 (c.redo_record.ensures.run was there3 safe)

pub returns-clause-firm : goal.returns-clause-firm
returns-clause-firm g c = λ was there safe.
    let d0 = g.D.Disk.device c.args.disk.now in
    let d1 = g.D.Disk.device c.sync_all.new.disk in
    let firm1 = firm_weaken (λ left. left ≡ was) (ReplaysAs was) (same_as was) d0.moments d1.moments (c.sync_all.ensures.firm was there) in
    let d2 = g.D.Disk.device c.is_gate_open.new.disk in
    let firm2 = firm_same (ReplaysAs was) d0.moments d1.moments d2.moments c.is_gate_open.ensures.kept.moments firm1 in
    let d3 = g.D.Disk.device c.test_record.new.disk in
    let firm3 = firm_same (ReplaysAs was) d0.moments d2.moments d3.moments c.test_record.ensures.kept.moments firm2 in
    let there3 : d3.contents ≡ Some was = c.test_record.ensures.kept.contents ∙ c.is_gate_open.ensures.kept.contents ∙ c.in_ok-sync_all.ensures.kept ∙ there in
    firm_then (ReplaysAs was) d0.moments d3.moments (g.D.Disk.device c.redo_record.new.disk).moments firm3 (c.redo_record.ensures.run was there3 safe)

pub returns-clause-found : goal.returns-clause-found
returns-clause-found g c = λ files is.
    let second = c.in_ok-sync_all.ensures.kept ∙ is in
    let third = c.is_gate_open.ensures.kept.contents ∙ second in
    let has : HasRecordOf c.in_ok-head.head files = c.in_ok-head.ensures.answer files third in
    ((c.in_ok-is_gate_open.ensures.found files second).0 c.if-not-branch.false, c.number.ensures ∙ ap version_number has.version, (has.has, has.change))
