use Rattle.std.specs.declared.alloc.Global.{Global}
use Rattle.std.proofs.Common.{Vec, ℕ, List, ap, arith, length, subst, sym, ◌∙◌}
use Rattle.std.specs.Prelude.{All}
use Rattle.std.proofs.lemmas.List.{append-nil}
use Rattle.jb_page.specs.Pagers.{PagerView}
use Rattle.jb_server.specs.declared.worker.Worker.{Worker}
use Rattle.jb_run.specs.Workers.{HasDoor, HaveOwn, with_pagers}
use Rattle.jb_run.proofs.Crew.{failed_more, gates_put, gates_put_none}
use Rattle.jb_run.proofs.EachLemmas.{all_most}
use Rattle.jb_run.proofs.Own.{own_most}
use Rattle.jb_run.proofs.parting.part_lines.Goals as goal

pub loop-failed-preserved : goal.loop-failed-preserved
loop-failed-preserved g c =
    let W : Type 0 = Worker g.row.H-Door.Denot g.row.H-Bell.Denot g.row.H-Clock.Denot g.row.H-Disk.Denot in
    let at = c.loop-failed in
    let fewer = c.part_last.new.workers.items in
    let parts = c.in-Some.ensures.some in
    let count : ℕ = length at.nodes.items in
    record {
      with_doors = all_most HasDoor fewer parts.worker (subst (λ (l : List W). All HasDoor l) parts.is at.invariant.with_doors);
      own = subst (λ (n : ℕ). HaveOwn n fewer) (sym c.in-Some.ensures.lists)
          (own_most count fewer parts.worker (subst (λ (l : List W). HaveOwn count l) parts.is at.invariant.own));
      doors = λ new puts.
          at.invariant.doors new
          (gates_put g.H.Door.Door.gate count at.workers.items fewer (g.H.Host.desk at.host) (g.H.Host.desk c.part_last.new.host) new c.in-Some.failed at.invariant.own parts puts);
      failed = failed_more g.H.Door.Door.gate at.workers.items fewer (g.H.Host.desk at.host) (g.H.Host.desk c.part_last.new.host) at.has_failed c.in-Some.failed parts ∙ at.invariant.failed;
      pagers = c.in-Some.ensures.pagers ∙ at.invariant.pagers;
      room = omega (arith, ap length c.in-Some.ensures.pagers, c.in-Some.ensures.pager_room, at.invariant.room);
      rows = c.in-Some.ensures.rows ∙ at.invariant.rows;
    }

pub returns-clause-doors : goal.returns-clause-doors
returns-clause-doors g c =
    let at = c.loop-failed in
    let none = c.in_default.ensures.none in
    at.invariant.doors (g.H.Host.desk c.part_last.new.host)
    (gates_put_none g.H.Door.Door.gate at.workers.items (g.H.Host.desk at.host) (g.H.Host.desk c.part_last.new.host) none.0 none.1)

-- all pagers are back
pub returns-clause-pagers : goal.returns-clause-pagers
returns-clause-pagers g c =
    let W : Type 0 = Worker g.row.H-Door.Denot g.row.H-Bell.Denot g.row.H-Clock.Denot g.row.H-Disk.Denot in
    let at = c.loop-failed in
    let none = c.in_default.ensures.none in
    ap (λ (v : Vec PagerView Global). v.items) none.3 ∙ sym (append-nil at.pagers.items)
    ∙ ap (λ (l : List W). with_pagers l at.pagers.items) (sym none.0) ∙ at.invariant.pagers
