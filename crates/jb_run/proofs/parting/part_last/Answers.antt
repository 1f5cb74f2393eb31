use Rattle.std.proofs.Common.{◌-◌, ◌++◌, ◌∙◌, ℕ, List, ap, arith, length, subst, sym}
use Rattle.std.specs.Prelude.{All, Option, option_to_list}
use Rattle.jb_host.specs.Desk.{TakesDoor}
use Rattle.jb_host.specs.Gate.{Gate}
use Rattle.jb_page.specs.Pagers.{PagerView}
use Rattle.jb_server.specs.declared.tally.Tally.{Tally}
use Rattle.jb_server.specs.declared.worker.Worker.{Worker}
use Rattle.jb_run.specs.Workers.{HasDoor, gate_of, with_pagers}
use Rattle.jb_run.proofs.EachLemmas.{all_end}
use Rattle.jb_run.proofs.Own.{has_slot, rows_given}
use Rattle.jb_run.proofs.PagerLemmas.{pager_fits, pager_given}
use Rattle.jb_run.proofs.parting.part_last.Goals as goal

-- the last has a door
pub slot_of-node-requires : goal.slot_of-node-requires
slot_of-node-requires g c =
    let W : Type 0 = Worker g.row.H-Door.Denot g.row.H-Bell.Denot g.row.H-Clock.Denot g.row.H-Disk.Denot in
    all_end HasDoor c.pop.new.self.items c.in_ok-worker.worker (subst (λ (l : List W). All HasDoor l) c.in_ok-worker.ensures.items c.requires.doors)

pub returns-clause-some : goal.returns-clause-some
returns-clause-some g c =
    let one = c.in_ok-worker.worker in
    let slot = c.slot_of-node.result in
    let has = has_slot one slot c.slot_of-node.ensures in
    let old = g.H.Host.desk c.args.host.now in
    let new = g.H.Host.desk c.put_door.new.self in
    record {
      worker = one;
      is = c.in_ok-worker.ensures.items;
      back = subst (λ (n : ℕ). TakesDoor n (gate_of g.H.Door.Door.gate one) old new) has.number (subst (λ (d : Gate). TakesDoor slot.node d old new) (has.door g.H.Door.Door.gate) c.put_door.ensures);
      failed = ap (λ (t : Tally). t.door_failed) has.tally;
    }

pub returns-clause-rows : goal.returns-clause-rows
returns-clause-rows g c =
    let one = c.in_ok-worker.worker in
    let slot = c.slot_of-node.result in
    let has = has_slot one slot c.slot_of-node.ensures in
    rows_given c.args.workers.now.items c.pop.new.self.items one c.args.nodes.now.items slot.passes (slot.node - 1) c.in_ok-worker.ensures.items
    (ap (λ (n : ℕ). n - 1) has.number) has.passes

-- there is room for its pager
pub put_back-requires : goal.put_back-requires
put_back-requires g c =
    let W : Type 0 = Worker g.row.H-Door.Denot g.row.H-Bell.Denot g.row.H-Clock.Denot g.row.H-Disk.Denot in
    let one = c.in_ok-worker.worker in
    let slot = c.slot_of-node.result in
    let has = has_slot one slot c.slot_of-node.ensures in
    let waiting = c.args.pagers.now.items in
    omega (
      arith,
      c.requires.room,
      ap (λ (l : List W). length (with_pagers l waiting)) c.in_ok-worker.ensures.items,
      ap (λ (o : Option PagerView). length (option_to_list o)) has.pager,
      pager_fits c.pop.new.self.items one waiting,
    )

pub returns-clause-pagers : goal.returns-clause-pagers
returns-clause-pagers g c =
    let W : Type 0 = Worker g.row.H-Door.Denot g.row.H-Bell.Denot g.row.H-Clock.Denot g.row.H-Disk.Denot in
    let one = c.in_ok-worker.worker in
    let slot = c.slot_of-node.result in
    let has = has_slot one slot c.slot_of-node.ensures in
    let fewer = c.pop.new.self.items in
    let waiting = c.args.pagers.now.items in
    ap (λ (l : List PagerView). with_pagers fewer l) c.put_back.ensures.items
    ∙ ap (λ (o : Option PagerView). with_pagers fewer (waiting ++ option_to_list o)) has.pager ∙ pager_given fewer one waiting
    ∙ ap (λ (l : List W). with_pagers l waiting) (sym c.in_ok-worker.ensures.items)
