use Rattle.std.proofs.Common.{◌-◌, refl}
use Rattle.jb_server.specs.declared.worker.Worker.TheVariants.{Packer}
use Rattle.jb_run.proofs.Own.{rows_given}
use Rattle.jb_run.proofs.parting.part_packer.Goals as goal

pub returns-clause-bell : goal.returns-clause-bell
returns-clause-bell g c = record {
  slot = c.in-Some-Packer.slot;
  is = rw c.in-Some-Packer.field-0-is at c.in-Some-Packer.ensures.items;
  back = c.put_bell.ensures;
  left = refl;
}

pub returns-clause-rows : goal.returns-clause-rows
returns-clause-rows g c =
    let slot = c.in-Some-Packer.slot in
    rows_given c.args.workers.now.items c.pop.new.self.items (Packer slot) c.args.nodes.now.items slot.passes (slot.node - 1)
    (rw c.in-Some-Packer.field-0-is at c.in-Some-Packer.ensures.items) refl refl
