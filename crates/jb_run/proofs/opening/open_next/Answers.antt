use Rattle.std.proofs.Common.{◌≡◌, length, refl, ◌∙◌, arith}
use Rattle.std.proofs.lemmas.Result.{err_from_is_err_and}
use Rattle.jb_run.proofs.LifeLemmas.{opens_one}
use Rattle.jb_run.proofs.OpenLemmas.{opens_next}
use Rattle.jb_run.proofs.RefuseLemmas.{refused_at}
use Rattle.jb_run.proofs.WholeLemmas.{room_of_each}
use Rattle.jb_run.proofs.opening.open_next.Goals as goal

pub returns-in_err-opened-clause-err : goal.returns-in_err-opened-clause-err
returns-in_err-opened-clause-err g c =
    let p = err_from_is_err_and c.from_residual.result c.from_residual.ensures.1 in
    let place : c.len-k.result ≡ length c.args.shared.now.areas.items = c.len-k.ensures ∙ c.args.shared.now.areas.ok.0 in
    rw (p.1, p.2) (
      refl,
      refused_at c.args.areas.now c.len-k.result (length c.args.shared.now.areas.items) c.index-areas-k.result (g.H.Host.desk c.args.host.now) (g.H.Host.desk c.share.new.host) c.in_err-opened.field-0.0
          place c.requires.next c.index-areas-k.is c.in_err-opened.ensures.err,
    )

pub deal-requires-clause-room : goal.deal-requires-clause-room
deal-requires-clause-room g c =
    let shared = c.args.shared.now in
    room_of_each shared c.args.nodes (length shared.areas.items) (length c.args.areas.now) c.requires.next c.requires.whole c.requires.room.passes

pub push_reserved-requires-3 : goal.push_reserved-requires-3
push_reserved-requires-3 g c =
    omega (arith, c.requires.counted, c.requires.next, c.requires.room.counts, c.args.shared.now.live.ok.0)

-- the next area stands behind the others
pub returns-clause-ok : goal.returns-clause-ok
returns-clause-ok g c = λ old opens.
    let area = c.index-areas-k.result in
    let one = c.in_ok-opened.opened.area in
    let row = c.in_ok-opened.opened.passes in
    let live = c.in_ok-opened.opened.live in
    let room = c.deal.new.row in
    let mid = g.H.Host.desk c.args.host.now in
    let new = g.H.Host.desk c.share.new.host in
    let place : c.len-k.result ≡ length c.args.shared.now.areas.items = c.len-k.ensures ∙ c.args.shared.now.areas.ok.0 in
    let opened = opens_one g.H.Disk.Disk.device area c.args.nodes mid new one row.items live c.in_ok-opened.ensures.ok in
    opens_next c.args.areas.now c.args.nodes c.len-k.result area one row.items live room old mid new c.args.shared.now
    (record { areas = c.push_reserved.new.self; nodes = c.deal.new.lists; rooms = c.push_reserved-2.new.self; live = c.push_reserved-3.new.self })
    place c.requires.next c.index-areas-k.is opened c.deal.ensures.empty
    (omega (arith, c.deal.ensures.row_room, opened.count, row.ok.1, row.ok.0))
    (record { areas = c.push_reserved.ensures.items; passes = c.deal.ensures.dealt; rooms = c.push_reserved-2.ensures.items })
    c.push_reserved-3.ensures.items
    c.requires.whole opens
