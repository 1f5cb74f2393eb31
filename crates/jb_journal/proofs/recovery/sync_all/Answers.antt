use Rattle.std.proofs.Common.{◌≡◌, sym, ◌∙◌, Some, refl, arith}
use Rattle.jb_disk.specs.declared.file.FileId.TheVariants.{Jnl, Ndt}
use Rattle.jb_disk.specs.Runs.{LeavesNow, Shows}
use Rattle.jb_disk.proofs.RunLemmas.{keeps-then, keeps-sync, durable}
use Rattle.jb_disk.proofs.FileLemmas.{leaves_both, only_told}
use Rattle.jb_journal.specs.Filing.{AgreeBelow}
use Rattle.jb_journal.specs.Recover.{MightBe}
use Rattle.jb_journal.proofs.Told.{on_ok_both}
use Rattle.jb_journal.proofs.FirmLemmas.{adds_more, adds_sync, adds_then, firm_last, firm_syncing}
use Rattle.jb_journal.proofs.SyncLemmas.{held}
use Rattle.jb_journal.proofs.RecoverLemmas.{six_files}
use Rattle.jb_journal.proofs.recovery.sync_all.Goals as goal

pub returns-in_err-sync-clause-first : goal.returns-in_err-sync-clause-first
returns-in_err-sync-clause-first g c = λ first. keeps-then (MightBe first) _ _ _ (c.sync_base.ensures.first first) (keeps-sync (MightBe first) Jnl _ _ _ (g.met.D.Disk.told c.sync_base.new.disk) (g.met.D.Disk.told c.sync.new.self) c.sync.ensures.changed)

pub returns-clause-first : goal.returns-clause-first
returns-clause-first g c = λ first. keeps-then (MightBe first) _ _ _ (keeps-then (MightBe first) _ _ _ (c.sync_base.ensures.first first) (keeps-sync (MightBe first) Jnl _ _ _ (g.met.D.Disk.told c.sync_base.new.disk) (g.met.D.Disk.told c.sync.new.self) c.sync.ensures.changed)) (keeps-sync (MightBe first) Ndt _ _ _ (g.met.D.Disk.told c.sync.new.self) (g.met.D.Disk.told c.sync-2.new.self) c.sync-2.ensures.changed)

pub returns-clause-durable : goal.returns-clause-durable
returns-clause-durable g c = on_ok_both c.sync-2.result _ _ _ (λ kept done. λ final there.
    let d0 = g.D.Disk.device c.args.disk.now in
    let d1 = g.D.Disk.device c.sync_base.new.disk in
    let d2 = g.D.Disk.device c.sync.new.self in
    let d3 = g.D.Disk.device c.sync-2.new.self in
    let t1 = g.met.D.Disk.told c.sync_base.new.disk in
    let t2 = g.met.D.Disk.told c.sync.new.self in
    let t3 = g.met.D.Disk.told c.sync-2.new.self in
    let at2 : d2.contents ≡ Some final = sym kept ∙ there in
    let at1 : d1.contents ≡ Some final = sym c.in_ok-sync.ensures.changed.kept ∙ at2 in
    let at0 : d0.contents ≡ Some final = sym c.in_ok-sync_base.ensures.kept ∙ at1 in
    let below1 : Shows (AgreeBelow 4 final) d1 = record { read = only_told d1.contents final (AgreeBelow 4 final) at1 (λ file low. refl); left = c.in_ok-sync_base.ensures.durable final at0 } in
    let below2 = (keeps-sync (AgreeBelow 4 final) Jnl d1 d2 _ t1 t2 c.sync.ensures.changed).shows below1 in
    let below3 = (keeps-sync (AgreeBelow 4 final) Ndt d2 d3 _ t2 t3 c.sync-2.ensures.changed).shows below2 in
    let jnl2 = held Jnl final d2 at2 (durable Jnl final d1 d2 at1 c.in_ok-sync.ensures.changed.done) in
    let jnl3 = (keeps-sync (λ left. left Jnl ≡ final Jnl) Ndt d2 d3 _ t2 t3 c.sync-2.ensures.changed).shows jnl2 in
    let ndt3 = durable Ndt final d2 d3 at2 done in
    leaves_both (λ left. left Jnl ≡ final Jnl) (λ left. AgreeBelow 4 final left × (left Ndt ≡ final Ndt)) (λ left. left ≡ final) d3.moments (λ left jnl rest. six_files final left rest.0 jnl rest.1) jnl3.left
    (leaves_both (AgreeBelow 4 final) (λ left. left Ndt ≡ final Ndt) (λ left. AgreeBelow 4 final left × (left Ndt ≡ final Ndt)) d3.moments (λ left below shadow. (below, shadow)) below3.left ndt3))
    c.sync-2.ensures.changed.kept c.sync-2.ensures.changed.done

pub returns-in_err-sync_base-clause-firm : goal.returns-in_err-sync_base-clause-firm
returns-in_err-sync_base-clause-firm g c = λ was there. firm_syncing (λ left. left ≡ was) _ _ (adds_more 4 5 _ _ (omega arith) c.sync_base.ensures.few)

pub returns-in_err-sync-clause-firm : goal.returns-in_err-sync-clause-firm
returns-in_err-sync-clause-firm g c = λ was there.
    firm_syncing (λ left. left ≡ was) _ _ (adds_then 4 1 _ _ _ c.sync_base.ensures.few (adds_sync Jnl _ _ _ (g.met.D.Disk.told c.sync_base.new.disk) (g.met.D.Disk.told c.sync.new.self) c.sync.ensures.changed))

pub returns-clause-firm : goal.returns-clause-firm
returns-clause-firm g c = λ was there.
    let d2 = g.D.Disk.device c.sync.new.self in
    let d3 = g.D.Disk.device c.sync-2.new.self in
    let t2 = g.met.D.Disk.told c.sync.new.self in
    let t3 = g.met.D.Disk.told c.sync-2.new.self in
    let at2 : d2.contents ≡ Some was = c.in_ok-sync.ensures.changed.kept ∙ c.in_ok-sync_base.ensures.kept ∙ there in
    let first = adds_then 4 1 _ _ _ c.sync_base.ensures.few (adds_sync Jnl _ _ _ (g.met.D.Disk.told c.sync_base.new.disk) t2 c.sync.ensures.changed) in
    let left = on_ok_both c.sync-2.result _ _ (LeavesNow (λ left. left ≡ was) d3.moments) (λ kept durable. durable was (kept ∙ at2)) c.sync-2.ensures.changed.kept (returns-clause-durable g c) in
    firm_last (λ left. left ≡ was) Ndt _ d2 d3 c.sync-2.result first t2 t3 c.sync-2.ensures.changed left
