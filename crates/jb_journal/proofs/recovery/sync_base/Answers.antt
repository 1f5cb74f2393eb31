use Rattle.std.proofs.Common.{◌≡◌, ◌∙◌, Some, arith}
use Rattle.jb_disk.specs.declared.file.FileId.TheVariants.{Jhr, Jdt, Jdx, Jlr}
use Rattle.jb_disk.proofs.RunLemmas.{keeps-then, keeps-sync, durable}
use Rattle.jb_redo.specs.OnTheWay.{IsOnTheWay}
use Rattle.jb_journal.specs.Recover.{MightBe}
use Rattle.jb_journal.proofs.Told.{on_ok}
use Rattle.jb_journal.proofs.FirmLemmas.{adds_more, adds_sync, adds_then}
use Rattle.jb_journal.proofs.SyncLemmas.{held, four_files}
use Rattle.jb_journal.proofs.recovery.sync_base.Goals as goal

pub returns-in_err-sync-clause-first : goal.returns-in_err-sync-clause-first
returns-in_err-sync-clause-first g c = λ first. keeps-sync (MightBe first) Jhr _ _ _ (g.met.D.Disk.told c.args.disk.now) (g.met.D.Disk.told c.sync.new.self) c.sync.ensures.changed

pub returns-in_err-sync-clause-way : goal.returns-in_err-sync-clause-way
returns-in_err-sync-clause-way g c = λ lengths pieces start. keeps-sync (IsOnTheWay lengths pieces start) Jhr _ _ _ (g.met.D.Disk.told c.args.disk.now) (g.met.D.Disk.told c.sync.new.self) c.sync.ensures.changed

pub returns-in_err-sync-2-clause-first : goal.returns-in_err-sync-2-clause-first
returns-in_err-sync-2-clause-first g c = λ first. keeps-then (MightBe first) _ _ _ (keeps-sync (MightBe first) Jhr _ _ _ (g.met.D.Disk.told c.args.disk.now) (g.met.D.Disk.told c.sync.new.self) c.sync.ensures.changed) (keeps-sync (MightBe first) Jdt _ _ _ (g.met.D.Disk.told c.sync.new.self) (g.met.D.Disk.told c.sync-2.new.self) c.sync-2.ensures.changed)

pub returns-in_err-sync-2-clause-way : goal.returns-in_err-sync-2-clause-way
returns-in_err-sync-2-clause-way g c = λ lengths pieces start. keeps-then (IsOnTheWay lengths pieces start) _ _ _ (keeps-sync (IsOnTheWay lengths pieces start) Jhr _ _ _ (g.met.D.Disk.told c.args.disk.now) (g.met.D.Disk.told c.sync.new.self) c.sync.ensures.changed) (keeps-sync (IsOnTheWay lengths pieces start) Jdt _ _ _ (g.met.D.Disk.told c.sync.new.self) (g.met.D.Disk.told c.sync-2.new.self) c.sync-2.ensures.changed)

pub returns-in_err-sync-3-clause-first : goal.returns-in_err-sync-3-clause-first
returns-in_err-sync-3-clause-first g c = λ first. keeps-then (MightBe first) _ _ _ (keeps-then (MightBe first) _ _ _ (keeps-sync (MightBe first) Jhr _ _ _ (g.met.D.Disk.told c.args.disk.now) (g.met.D.Disk.told c.sync.new.self) c.sync.ensures.changed) (keeps-sync (MightBe first) Jdt _ _ _ (g.met.D.Disk.told c.sync.new.self) (g.met.D.Disk.told c.sync-2.new.self) c.sync-2.ensures.changed)) (keeps-sync (MightBe first) Jdx _ _ _ (g.met.D.Disk.told c.sync-2.new.self) (g.met.D.Disk.told c.sync-3.new.self) c.sync-3.ensures.changed)

pub returns-in_err-sync-3-clause-way : goal.returns-in_err-sync-3-clause-way
returns-in_err-sync-3-clause-way g c = λ lengths pieces start. keeps-then (IsOnTheWay lengths pieces start) _ _ _ (keeps-then (IsOnTheWay lengths pieces start) _ _ _ (keeps-sync (IsOnTheWay lengths pieces start) Jhr _ _ _ (g.met.D.Disk.told c.args.disk.now) (g.met.D.Disk.told c.sync.new.self) c.sync.ensures.changed) (keeps-sync (IsOnTheWay lengths pieces start) Jdt _ _ _ (g.met.D.Disk.told c.sync.new.self) (g.met.D.Disk.told c.sync-2.new.self) c.sync-2.ensures.changed)) (keeps-sync (IsOnTheWay lengths pieces start) Jdx _ _ _ (g.met.D.Disk.told c.sync-2.new.self) (g.met.D.Disk.told c.sync-3.new.self) c.sync-3.ensures.changed)

pub returns-clause-first : goal.returns-clause-first
returns-clause-first g c = λ first. keeps-then (MightBe first) _ _ _ (keeps-then (MightBe first) _ _ _ (keeps-then (MightBe first) _ _ _ (keeps-sync (MightBe first) Jhr _ _ _ (g.met.D.Disk.told c.args.disk.now) (g.met.D.Disk.told c.sync.new.self) c.sync.ensures.changed) (keeps-sync (MightBe first) Jdt _ _ _ (g.met.D.Disk.told c.sync.new.self) (g.met.D.Disk.told c.sync-2.new.self) c.sync-2.ensures.changed)) (keeps-sync (MightBe first) Jdx _ _ _ (g.met.D.Disk.told c.sync-2.new.self) (g.met.D.Disk.told c.sync-3.new.self) c.sync-3.ensures.changed)) (keeps-sync (MightBe first) Jlr _ _ _ (g.met.D.Disk.told c.sync-3.new.self) (g.met.D.Disk.told c.sync-4.new.self) c.sync-4.ensures.changed)

pub returns-clause-way : goal.returns-clause-way
returns-clause-way g c = λ lengths pieces start. keeps-then (IsOnTheWay lengths pieces start) _ _ _ (keeps-then (IsOnTheWay lengths pieces start) _ _ _ (keeps-then (IsOnTheWay lengths pieces start) _ _ _ (keeps-sync (IsOnTheWay lengths pieces start) Jhr _ _ _ (g.met.D.Disk.told c.args.disk.now) (g.met.D.Disk.told c.sync.new.self) c.sync.ensures.changed) (keeps-sync (IsOnTheWay lengths pieces start) Jdt _ _ _ (g.met.D.Disk.told c.sync.new.self) (g.met.D.Disk.told c.sync-2.new.self) c.sync-2.ensures.changed)) (keeps-sync (IsOnTheWay lengths pieces start) Jdx _ _ _ (g.met.D.Disk.told c.sync-2.new.self) (g.met.D.Disk.told c.sync-3.new.self) c.sync-3.ensures.changed)) (keeps-sync (IsOnTheWay lengths pieces start) Jlr _ _ _ (g.met.D.Disk.told c.sync-3.new.self) (g.met.D.Disk.told c.sync-4.new.self) c.sync-4.ensures.changed)

pub returns-clause-durable : goal.returns-clause-durable
returns-clause-durable g c = on_ok c.sync-4.result _ _ (λ done. λ final there.
    let d0 = g.D.Disk.device c.args.disk.now in
    let d1 = g.D.Disk.device c.sync.new.self in
    let d2 = g.D.Disk.device c.sync-2.new.self in
    let d3 = g.D.Disk.device c.sync-3.new.self in
    let d4 = g.D.Disk.device c.sync-4.new.self in
    let t1 = g.met.D.Disk.told c.sync.new.self in
    let t2 = g.met.D.Disk.told c.sync-2.new.self in
    let t3 = g.met.D.Disk.told c.sync-3.new.self in
    let t4 = g.met.D.Disk.told c.sync-4.new.self in
    let at1 : d1.contents ≡ Some final = c.in_ok-sync.ensures.changed.kept ∙ there in
    let at2 : d2.contents ≡ Some final = c.in_ok-sync-2.ensures.changed.kept ∙ at1 in
    let at3 : d3.contents ≡ Some final = c.in_ok-sync-3.ensures.changed.kept ∙ at2 in
    let jhr1 = held Jhr final d1 at1 (durable Jhr final d0 d1 there c.in_ok-sync.ensures.changed.done) in
    let jhr2 = (keeps-sync (λ left. left Jhr ≡ final Jhr) Jdt d1 d2 _ t1 t2 c.sync-2.ensures.changed).shows jhr1 in
    let jhr3 = (keeps-sync (λ left. left Jhr ≡ final Jhr) Jdx d2 d3 _ t2 t3 c.sync-3.ensures.changed).shows jhr2 in
    let jhr4 = (keeps-sync (λ left. left Jhr ≡ final Jhr) Jlr d3 d4 _ t3 t4 c.sync-4.ensures.changed).shows jhr3 in
    let jdt2 = held Jdt final d2 at2 (durable Jdt final d1 d2 at1 c.in_ok-sync-2.ensures.changed.done) in
    let jdt3 = (keeps-sync (λ left. left Jdt ≡ final Jdt) Jdx d2 d3 _ t2 t3 c.sync-3.ensures.changed).shows jdt2 in
    let jdt4 = (keeps-sync (λ left. left Jdt ≡ final Jdt) Jlr d3 d4 _ t3 t4 c.sync-4.ensures.changed).shows jdt3 in
    let jdx3 = held Jdx final d3 at3 (durable Jdx final d2 d3 at2 c.in_ok-sync-3.ensures.changed.done) in
    let jdx4 = (keeps-sync (λ left. left Jdx ≡ final Jdx) Jlr d3 d4 _ t3 t4 c.sync-4.ensures.changed).shows jdx3 in
    four_files final d4.moments jhr4.left jdt4.left jdx4.left (durable Jlr final d3 d4 at3 done)) c.sync-4.ensures.changed.done

pub returns-in_err-sync-clause-few : goal.returns-in_err-sync-clause-few
returns-in_err-sync-clause-few g c = adds_more 1 4 _ _ (omega arith) (adds_sync Jhr _ _ _ (g.met.D.Disk.told c.args.disk.now) (g.met.D.Disk.told c.sync.new.self) c.sync.ensures.changed)

pub returns-in_err-sync-2-clause-few : goal.returns-in_err-sync-2-clause-few
returns-in_err-sync-2-clause-few g c = adds_more 2 4 _ _ (omega arith) (adds_then 1 1 _ _ _ (adds_sync Jhr _ _ _ (g.met.D.Disk.told c.args.disk.now) (g.met.D.Disk.told c.sync.new.self) c.sync.ensures.changed) (adds_sync Jdt _ _ _ (g.met.D.Disk.told c.sync.new.self) (g.met.D.Disk.told c.sync-2.new.self) c.sync-2.ensures.changed))

pub returns-in_err-sync-3-clause-few : goal.returns-in_err-sync-3-clause-few
returns-in_err-sync-3-clause-few g c = adds_more 3 4 _ _ (omega arith) (adds_then 2 1 _ _ _ (adds_then 1 1 _ _ _ (adds_sync Jhr _ _ _ (g.met.D.Disk.told c.args.disk.now) (g.met.D.Disk.told c.sync.new.self) c.sync.ensures.changed) (adds_sync Jdt _ _ _ (g.met.D.Disk.told c.sync.new.self) (g.met.D.Disk.told c.sync-2.new.self) c.sync-2.ensures.changed)) (adds_sync Jdx _ _ _ (g.met.D.Disk.told c.sync-2.new.self) (g.met.D.Disk.told c.sync-3.new.self) c.sync-3.ensures.changed))

pub returns-clause-few : goal.returns-clause-few
returns-clause-few g c = adds_then 3 1 _ _ _ (adds_then 2 1 _ _ _ (adds_then 1 1 _ _ _ (adds_sync Jhr _ _ _ (g.met.D.Disk.told c.args.disk.now) (g.met.D.Disk.told c.sync.new.self) c.sync.ensures.changed) (adds_sync Jdt _ _ _ (g.met.D.Disk.told c.sync.new.self) (g.met.D.Disk.told c.sync-2.new.self) c.sync-2.ensures.changed)) (adds_sync Jdx _ _ _ (g.met.D.Disk.told c.sync-2.new.self) (g.met.D.Disk.told c.sync-3.new.self) c.sync-3.ensures.changed)) (adds_sync Jlr _ _ _ (g.met.D.Disk.told c.sync-3.new.self) (g.met.D.Disk.told c.sync-4.new.self) c.sync-4.ensures.changed)
