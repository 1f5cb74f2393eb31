use Rattle.std.proofs.Common.{◌≡◌, ◌+◌, ◌-◌, ℕ, List, [], ◌∷◌, ◌++◌, length, ap, refl, subst, sym, ◌∙◌, arith}
use Rattle.std.proofs.lemmas.List.{length_push}
use Rattle.std.proofs.lemmas.Result.{err_from_is_err_and}
use Rattle.jb_host.specs.Desk.{GivesDoor, RefusesCall, asked_door}
use Rattle.jb_page.specs.Pagers.{PagerView}
use Rattle.jb_server.specs.declared.worker.Worker.{Worker}
use Rattle.jb_server.specs.declared.worker.Worker.TheVariants.{Node}
use Rattle.jb_run.specs.Lines.{Line, first_lines, line_for}
use Rattle.jb_run.specs.Rows.{lists_of}
use Rattle.jb_run.specs.Workers.{HasWorkers, with_pagers, with_passes}
use Rattle.jb_run.proofs.Crew.{has_more, stops_at}
use Rattle.jb_run.proofs.Doors.{lines_more, next_node}
use Rattle.jb_run.proofs.Numbers.{length-lines_for}
use Rattle.jb_run.proofs.Own.{rows_taken}
use Rattle.jb_run.proofs.PagerLemmas.{next_pager, none_left, pager_given}
use Rattle.jb_run.proofs.lines.open_nodes.Goals as goal

pub open_line-requires-clause-within : goal.open_line-requires-clause-within
open_line-requires-clause-within g c =
    omega (
      arith,
      c.loop-alloc-test.true,
      c.len.ensures,
      c.len-in-loop-alloc.ensures,
      c.loop-alloc.workers.ok.0,
      c.loop-alloc.invariant.lists,
      c.requires.lists,
      length-lines_for c.args.board.now c.args.calls,
    )

pub push_reserved-requires : goal.push_reserved-requires
push_reserved-requires g c =
    omega (arith, c.loop-alloc-test.true, c.len.ensures, c.loop-alloc.invariant.room, c.requires.room, length-lines_for c.args.board.now c.args.calls)

pub loop-alloc-preserved : goal.loop-alloc-preserved
loop-alloc-preserved g c =
    let W : Type 0 = Worker g.row.H-Door.Denot g.row.H-Bell.Denot g.row.H-Clock.Denot g.row.H-Disk.Denot in
    let board = c.args.board.now in
    let at = c.loop-alloc in
    let fewer = at.workers.items in
    let slot = record c.in_ok-slot.slot { pager = c.pop.result } in
    let opens = c.in_ok-slot.ensures in
    let old = g.H.Host.desk c.args.host.now in
    let mid = g.H.Host.desk at.host in
    let new = g.H.Host.desk c.open_line.new.host in
    let count : c.len-in-loop-alloc.result ≡ length fewer = c.len-in-loop-alloc.ensures ∙ at.workers.ok.0 in
    let pushed : c.push_reserved.new.self.items ≡ fewer ++ Node slot ∷ [] = c.push_reserved.ensures.items in
    let many : length (fewer ++ Node slot ∷ []) ≡ length fewer + 1 = length_push fewer (Node slot) in
    let waiting = at.pagers.items in
    let rest = c.pop.new.self.items in
    let next = next_pager board.nodes fewer waiting rest c.pop.result c.args.pagers.now.items c.requires.pagers at.invariant.pagers c.pop.ensures.items at.invariant.waiting
    (omega (arith, c.loop-alloc-test.true, c.len.ensures, at.workers.ok.0, at.invariant.waiting))
    (c.pop.ensures.variant.1 (omega (arith, c.loop-alloc-test.true, c.len.ensures, at.workers.ok.0, at.pagers.ok.0, at.invariant.waiting))) in
    let one = has_more g.H.Door.Door.gate g.H.Clock.Clock.readings g.H.Host.door_for c.args.calls (first_lines board c.args.calls (length fewer)) (line_for board c.args.calls (length fewer + 1))
    fewer (Node slot) old mid new at.invariant.has (refl, opens.ok.number ∙ ap (λ (n : ℕ). n + 1) count, next.number)
    (subst (λ (n : ℕ). GivesDoor (n + 1) board.port c.args.calls (g.H.Door.Door.gate slot.door) mid new) count opens.ok.gives) opens.ok.made
    (record { clock = opens.ok.ready.clock; none = opens.ok.ready.none }) in
    record {
      has = subst (λ (l : List W). HasWorkers g.H.Door.Door.gate g.H.Clock.Clock.readings g.H.Host.door_for c.args.calls (first_lines board c.args.calls (length l)) l old new) (sym pushed)
          (subst (λ (l : List Line). HasWorkers g.H.Door.Door.gate g.H.Clock.Clock.readings g.H.Host.door_for c.args.calls l (fewer ++ Node slot ∷ []) old new)
          (sym (ap (first_lines board c.args.calls) many ∙ lines_more board c.args.calls (length fewer))) one);
      rows = ap (λ (l : List W). with_passes l (lists_of c.open_line.new.nodes.items)) pushed
          ∙ rows_taken fewer (Node slot) _ (lists_of at.nodes.items) (lists_of c.open_line.new.nodes.items) (ap (λ (n : ℕ). n - 1) opens.ok.number) opens.taken opens.left
          ∙ at.invariant.rows;
      pagers = ap (λ (l : List W). with_pagers l rest) pushed ∙ sym (pager_given fewer (Node slot) rest)
          ∙ ap (λ (l : List PagerView). with_pagers fewer l) (sym c.pop.ensures.items) ∙ at.invariant.pagers;
      waiting = omega (arith, ap length pushed, many, next.fewer, at.invariant.waiting);
      pager_room = c.pop.ensures.capacity ∙ at.invariant.pager_room;
      lists = opens.lists ∙ at.invariant.lists;
      room = c.push_reserved.ensures.capacity ∙ at.invariant.room;
      most = omega (arith, ap length pushed, many, c.loop-alloc-test.true, c.len.ensures, at.workers.ok.0);
    }

-- the door of the next node was refused
pub returns-in_err-slot-clause-err : goal.returns-in_err-slot-clause-err
returns-in_err-slot-clause-err g c =
    let board = c.args.board.now in
    let at = c.loop-alloc in
    let fewer = at.workers.items in
    let old = g.H.Host.desk c.args.host.now in
    let mid = g.H.Host.desk at.host in
    let new = g.H.Host.desk c.open_line.new.host in
    let count : c.len-in-loop-alloc.result ≡ length fewer = c.len-in-loop-alloc.ensures ∙ at.workers.ok.0 in
    let p = err_from_is_err_and c.from_residual.result c.from_residual.ensures.1 in
    let why = c.in_err-slot.ensures.err in
    let next = next_node board c.args.calls (length fewer) (omega (arith, c.loop-alloc-test.true, c.len.ensures, at.workers.ok.0)) in
    rw (p.1, p.2)
    (stops_at g.H.Door.Door.gate g.H.Clock.Clock.readings g.H.Host.door_for c.args.calls board (first_lines board c.args.calls (length fewer)) next.0
    (line_for board c.args.calls (length fewer + 1)) fewer c.in_err-slot.field-0.0 old mid new next.1 at.invariant.has
    (subst (λ (n : ℕ). RefusesCall (asked_door (n + 1) board.port c.args.calls) c.in_err-slot.field-0.0 mid new) count why.1))

-- each node has taken its pager
pub returns-clause-given : goal.returns-clause-given
returns-clause-given g c =
    let at = c.loop-alloc in
    none_left at.pagers.items (omega (arith, at.invariant.waiting, at.invariant.most, c.loop-alloc-test.false, c.len.ensures, at.workers.ok.0))
