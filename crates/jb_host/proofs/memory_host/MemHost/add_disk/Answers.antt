use Rattle.std.proofs.Common.{ap, ◌∙◌, Some}
use Rattle.jb_host.specs.declared.shelf.Shelf.{Shelf}
use Rattle.jb_host.specs.Desk.{Disks}
use Rattle.jb_host.specs.Shelves.{memory_desk, shelved}
use Rattle.jb_host.proofs.Shelving.{shelved-push}
use Rattle.jb_host.proofs.memory_host.MemHost.add_disk.Goals as goal

pub returns-clause-ok : goal.returns-clause-ok
returns-clause-ok c =
    let old = c.args.self.now in
    let shelf : Shelf = record { dir = c.in_ok-copy.field-0; name = c.in_ok-copy-2.field-0; disk = Some c.args.disk } in
    let disks = ap shelved c.in_ok-push.ensures.items
    ∙ shelved-push c.args.dir.now c.args.name.now old.shelves.items shelf (c.in_ok-copy.ensures ∙ c.as_bytes.ensures.value) (c.in_ok-copy-2.ensures ∙ c.as_bytes-2.ensures.value) in
    ap (λ (d : Disks). record (memory_desk old) { disks = Some d }) disks
