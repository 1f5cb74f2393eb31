use Rattle.std.proofs.Common.{◌≡◌, sym, ◌∙◌, true, false}
use Rattle.std.specs.Option.{ForSome}
use Rattle.jb_disk.proofs.RunLemmas.{keeps-reads, keeps-then, stays_silent}
use Rattle.jb_journal.specs.Prepare.{IsPreparing, WantsHead}
use Rattle.jb_journal.proofs.Told.{on_ok_both}
use Rattle.jb_journal.proofs.PrepareLemmas.{keeps_wanting, synced_again, synced_unwanted}
use Rattle.jb_journal.proofs.preparing.make_head.Goals as goal

-- false is not true
not_true : false ≡ true → ⊥
not_true is = cc

pub returns-then-branch-clause-keeps : goal.returns-then-branch-clause-keeps
returns-then-branch-clause-keeps g c = λ start.
    let old = g.D.Disk.device c.args.disk.now in
    let asked = g.D.Disk.device c.wants_head.new.disk in
    let new = g.D.Disk.device c.give_head.new.disk in
    let kept = c.wants_head.ensures.kept in
    let wants : ForSome asked.contents WantsHead = λ files there. (c.in_ok-wants_head.ensures.found files (sym kept.contents ∙ there)).0 c.if-branch.true in
    keeps-then (IsPreparing start) old asked new (keeps-reads (IsPreparing start) old asked kept)
    (keeps_wanting start asked new (g.met.D.Disk.told c.wants_head.new.disk) (g.met.D.Disk.told c.give_head.new.disk) wants (stays_silent _ _ c.give_head.ensures.cause.alike) (c.give_head.ensures.keeps start))

pub returns-then-branch-clause-durable : goal.returns-then-branch-clause-durable
returns-then-branch-clause-durable g c = on_ok_both c.give_head.result _ _ _ (λ told durable. λ start shows.
    let old = g.D.Disk.device c.args.disk.now in
    let asked = g.D.Disk.device c.wants_head.new.disk in
    let new = g.D.Disk.device c.give_head.new.disk in
    let kept = c.wants_head.ensures.kept in
    let wants : ForSome asked.contents WantsHead = λ files there. (c.in_ok-wants_head.ensures.found files (sym kept.contents ∙ there)).0 c.if-branch.true in
    let keeps = keeps_wanting start asked new (g.met.D.Disk.told c.wants_head.new.disk) (g.met.D.Disk.told c.give_head.new.disk) wants (stays_silent _ _ c.give_head.ensures.cause.alike) (c.give_head.ensures.keeps start) in
    synced_again start asked new keeps ((keeps-reads (IsPreparing start) old asked kept).shows shows) told durable)
    c.give_head.ensures.told c.give_head.ensures.durable

pub returns-else-branch-clause-durable : goal.returns-else-branch-clause-durable
returns-else-branch-clause-durable g c = λ start shows.
    let old = g.D.Disk.device c.args.disk.now in
    let asked = g.D.Disk.device c.wants_head.new.disk in
    let kept = c.wants_head.ensures.kept in
    let none : ForSome asked.contents (λ files. WantsHead files → ⊥) = λ files there wants.
    not_true (sym c.if-branch.false ∙ (c.in_ok-wants_head.ensures.found files (sym kept.contents ∙ there)).1 wants) in
    synced_unwanted start asked none ((keeps-reads (IsPreparing start) old asked kept).shows shows)

pub returns-in_err-wants_head-clause-keeps : goal.returns-in_err-wants_head-clause-keeps
returns-in_err-wants_head-clause-keeps g c = λ start. keeps-reads (IsPreparing start) _ _ c.wants_head.ensures.kept
