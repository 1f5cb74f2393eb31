use Rattle.std.proofs.Common.{◌-◌, ℕ, List, [], ◌∷◌, ◌++◌, ap, arith, length, refl, subst, sym, ◌∙◌}
use Rattle.std.specs.Prelude.{Option, option_to_list}
use Rattle.std.proofs.lemmas.List.{append-nil, length_push}
use Rattle.std.proofs.lemmas.Result.{err_from_is_err_and}
use Rattle.jb_page.specs.Pagers.{PagerView}
use Rattle.jb_server.specs.declared.worker.Worker.{Worker}
use Rattle.jb_server.specs.declared.worker.Worker.TheVariants.{News}
use Rattle.jb_run.specs.Lines.{Line, first_lines, lines_for}
use Rattle.jb_run.specs.Rows.{lists_of}
use Rattle.jb_run.specs.Workers.{HasWorkers, pager_number, pagers_of, with_passes}
use Rattle.jb_run.proofs.Crew.{has_more, stops_at}
use Rattle.jb_run.proofs.Numbers.{is_none, length-first_lines, length-lines_for, lines_with, lines_without, news_at}
use Rattle.jb_run.proofs.Own.{rows_taken}
use Rattle.jb_run.proofs.PagerLemmas.{pagers_push}
use Rattle.jb_run.proofs.lines.open_news.Goals as goal

-- there is room for one more
pub open_line-requires-clause-within : goal.open_line-requires-clause-within
open_line-requires-clause-within g c =
    omega (
      arith,
      c.requires.lists,
      ap length (lines_with c.args.board.now c.args.calls c.in-Some.port c.in-Some.is),
      length_push (first_lines c.args.board.now c.args.calls c.args.board.now.nodes) (news_at c.args.board.now c.args.calls c.in-Some.port),
      length-first_lines c.args.board.now c.args.calls c.args.board.now.nodes,
    )

pub push_reserved-requires : goal.push_reserved-requires
push_reserved-requires g c =
    omega (arith, c.requires.room, c.requires.count, c.args.workers.now.ok.0, length-lines_for c.args.board.now c.args.calls)

-- there is no port for news
pub returns-in_default-clause-ok : goal.returns-in_default-clause-ok
returns-in_default-clause-ok g c = λ old has.
    subst (λ (l : List Line). HasWorkers g.H.Door.Door.gate g.H.Clock.Clock.readings g.H.Host.door_for c.args.calls l c.args.workers.now.items old (g.H.Host.desk c.args.host.now))
    (sym (lines_without c.args.board.now c.args.calls (is_none c.args.board.now.news_port c.in_default.not-Some))) has

-- its door was refused
pub returns-in_err-slot-clause-err : goal.returns-in_err-slot-clause-err
returns-in_err-slot-clause-err g c =
    let board = c.args.board.now in
    let p = err_from_is_err_and c.from_residual.result c.from_residual.ensures.1 in
    rw (p.1, p.2)
    (λ old has. stops_at g.H.Door.Door.gate g.H.Clock.Clock.readings g.H.Host.door_for c.args.calls board (first_lines board c.args.calls board.nodes) []
    (news_at board c.args.calls c.in-Some.port) c.args.workers.now.items c.in_err-slot.field-0.0 old (g.H.Host.desk c.args.host.now) (g.H.Host.desk c.open_line.new.host)
    (lines_with board c.args.calls c.in-Some.port c.in-Some.is) has c.in_err-slot.ensures.err.1)

pub returns-clause-ok : goal.returns-clause-ok
returns-clause-ok g c = λ old has.
    let W : Type 0 = Worker g.row.H-Door.Denot g.row.H-Bell.Denot g.row.H-Clock.Denot g.row.H-Disk.Denot in
    let board = c.args.board.now in
    let fewer = c.args.workers.now.items in
    let slot = c.in_ok-slot.slot in
    let opens = c.in_ok-slot.ensures.ok in
    let new = g.H.Host.desk c.open_line.new.host in
    let Has : List Line → List W → Type 0 = λ lines workers. HasWorkers g.H.Door.Door.gate g.H.Clock.Clock.readings g.H.Host.door_for c.args.calls lines workers old new in
    let one : Has (first_lines board c.args.calls board.nodes ++ news_at board c.args.calls c.in-Some.port ∷ []) (fewer ++ News slot ∷ [])
    = has_more g.H.Door.Door.gate g.H.Clock.Clock.readings g.H.Host.door_for c.args.calls (first_lines board c.args.calls board.nodes) (news_at board c.args.calls c.in-Some.port)
    fewer (News slot) old (g.H.Host.desk c.args.host.now) new has (refl, opens.number, ap pager_number c.in_ok-slot.ensures.pager) opens.gives opens.made opens.ready in
    subst (λ (l : List W). Has (lines_for board c.args.calls) l) (sym c.push_reserved.ensures.items)
    (subst (λ (l : List Line). Has l (fewer ++ News slot ∷ [])) (sym (lines_with board c.args.calls c.in-Some.port c.in-Some.is)) one)

pub returns-clause-rows : goal.returns-clause-rows
returns-clause-rows g c =
    let W : Type 0 = Worker g.row.H-Door.Denot g.row.H-Bell.Denot g.row.H-Clock.Denot g.row.H-Disk.Denot in
    let taken = c.in_ok-slot.ensures in
    ap (λ (l : List W). with_passes l (lists_of c.open_line.new.nodes.items)) c.push_reserved.ensures.items
    ∙ rows_taken c.args.workers.now.items (News c.in_ok-slot.slot) _ (lists_of c.args.nodes.now.items) (lists_of c.open_line.new.nodes.items)
    (ap (λ (n : ℕ). n - 1) taken.ok.number) taken.taken taken.left

-- who serves news has no pager
pub returns-clause-pagers : goal.returns-clause-pagers
returns-clause-pagers g c =
    let W : Type 0 = Worker g.row.H-Door.Denot g.row.H-Bell.Denot g.row.H-Clock.Denot g.row.H-Disk.Denot in
    let fewer = c.args.workers.now.items in
    ap (λ (l : List W). pagers_of l) c.push_reserved.ensures.items ∙ pagers_push fewer (News c.in_ok-slot.slot)
    ∙ ap (λ (o : Option PagerView). pagers_of fewer ++ option_to_list o) c.in_ok-slot.ensures.pager ∙ append-nil (pagers_of fewer)
