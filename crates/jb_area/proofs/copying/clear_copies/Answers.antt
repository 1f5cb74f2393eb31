use Rattle.jb_pack.proofs.TouchLemmas.{touches-resize}
use Rattle.jb_area.proofs.CopyingLemmas.{clearing_touches, copying_by, crash_by, synced_copies}
use Rattle.jb_area.proofs.Outcomes.{ok_gives}
use Rattle.jb_area.proofs.copying.clear_copies.Goals as goal

pub returns-in-Ok-sync-clause-settled : goal.returns-in-Ok-sync-clause-settled
returns-in-Ok-sync-clause-settled g c = λ loaded texts.
    let told = g.met.D.Disk.told in
    let old = g.D.Disk.device c.args.disk.now in
    let mid = g.D.Disk.device c.set_len.new.self in
    let new = g.D.Disk.device c.sync.new.self in
    ok_gives c.sync.result _ _ c.in-Ok-sync.is
    (synced_copies loaded texts old mid new c.sync.result (touches-resize 0 old mid c.set_len.result (told c.args.disk.now) (told c.set_len.new.self) c.set_len.ensures.changed)
    (told c.set_len.new.self) (told c.sync.new.self) c.sync.ensures.changed)

pub returns-in-Ok-sync-clause-crash : goal.returns-in-Ok-sync-clause-crash
returns-in-Ok-sync-clause-crash g c = λ loaded texts.
    let told = g.met.D.Disk.told in
    let old = g.D.Disk.device c.args.disk.now in
    let mid = g.D.Disk.device c.set_len.new.self in
    let new = g.D.Disk.device c.sync.new.self in
    crash_by loaded texts old new
    (clearing_touches old mid new c.set_len.result c.sync.result (told c.args.disk.now) (told c.set_len.new.self) (told c.sync.new.self) c.set_len.ensures.changed c.sync.ensures.changed)

pub returns-in-Err-sync-clause-still : goal.returns-in-Err-sync-clause-still
returns-in-Err-sync-clause-still g c = λ loaded texts.
    let told = g.met.D.Disk.told in
    let old = g.D.Disk.device c.args.disk.now in
    let mid = g.D.Disk.device c.set_len.new.self in
    let new = g.D.Disk.device c.sync.new.self in
    copying_by loaded texts old new
    (clearing_touches old mid new c.set_len.result c.sync.result (told c.args.disk.now) (told c.set_len.new.self) (told c.sync.new.self) c.set_len.ensures.changed c.sync.ensures.changed)

pub returns-in-Err-sync-clause-crash : goal.returns-in-Err-sync-clause-crash
returns-in-Err-sync-clause-crash g c = λ loaded texts.
    let told = g.met.D.Disk.told in
    let old = g.D.Disk.device c.args.disk.now in
    let mid = g.D.Disk.device c.set_len.new.self in
    let new = g.D.Disk.device c.sync.new.self in
    crash_by loaded texts old new
    (clearing_touches old mid new c.set_len.result c.sync.result (told c.args.disk.now) (told c.set_len.new.self) (told c.sync.new.self) c.set_len.ensures.changed c.sync.ensures.changed)

pub returns-in-Err-clause-still : goal.returns-in-Err-clause-still
returns-in-Err-clause-still g c = λ loaded texts.
    let told = g.met.D.Disk.told in
    let old = g.D.Disk.device c.args.disk.now in
    let mid = g.D.Disk.device c.set_len.new.self in
    copying_by loaded texts old mid (touches-resize 0 old mid c.set_len.result (told c.args.disk.now) (told c.set_len.new.self) c.set_len.ensures.changed)

pub returns-in-Err-clause-crash : goal.returns-in-Err-clause-crash
returns-in-Err-clause-crash g c = λ loaded texts.
    let told = g.met.D.Disk.told in
    let old = g.D.Disk.device c.args.disk.now in
    let mid = g.D.Disk.device c.set_len.new.self in
    crash_by loaded texts old mid (touches-resize 0 old mid c.set_len.result (told c.args.disk.now) (told c.set_len.new.self) c.set_len.ensures.changed)
