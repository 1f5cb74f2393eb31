use Rattle.std.proofs.Common.{◌≡◌, ap, sym, ◌∙◌, [], None}
use Rattle.jb_host.specs.declared.shelf.Shelf.{Shelf}
use Rattle.jb_host.specs.Desk.{has_disk, no_disk}
use Rattle.jb_host.specs.Shelves.{stands_on}
use Rattle.jb_host.proofs.Shelving.{if_none, lent_none, lent_there, shelved-first, shelved-none}
use Rattle.jb_host.proofs.memory_host.MemHost.disk_at.Goals as goal

pub returns-in_err-k-clause-none : goal.returns-in_err-k-clause-none
returns-in_err-k-clause-none c =
    let at = rw c.as_bytes.ensures.value at (rw c.as_bytes-2.ensures.value at (rw c.as_slice.ensures.value at c.in_err-k.ensures)) in
    let d : Shelf = record { dir = []; name = []; disk = None } in
    let none = shelved-none c.args.dir.now c.args.name.now c.args.self.now.shelves.items d (λ k low. at k d low) in
    if_none c.from_residual.result _ (λ device there. let both : no_disk ≡ has_disk device = sym none ∙ there in absurd (cc))

pub returns-clause-found : goal.returns-clause-found
returns-clause-found c =
    let at = rw c.as_bytes.ensures.value at (rw c.as_bytes-2.ensures.value at (rw c.as_slice.ensures.value at c.in_ok-k.ensures)) in
    let d = c.index.result.now in
    let first = shelved-first c.args.dir.now c.args.name.now c.args.self.now.shelves.items c.in_ok-k.k d at.0 (at.1 d) (λ j low. at.2 j d low) in
    lent_there _ c.index.result.now.disk c.as_ref.result c.as_ref.ensures.value (first ∙ ap (λ (s : Shelf). stands_on s.disk) (sym c.index.ensures))

pub returns-clause-none : goal.returns-clause-none
returns-clause-none c =
    let at = rw c.as_bytes.ensures.value at (rw c.as_bytes-2.ensures.value at (rw c.as_slice.ensures.value at c.in_ok-k.ensures)) in
    let d = c.index.result.now in
    let first = shelved-first c.args.dir.now c.args.name.now c.args.self.now.shelves.items c.in_ok-k.k d at.0 (at.1 d) (λ j low. at.2 j d low) in
    lent_none _ c.index.result.now.disk c.as_ref.result c.as_ref.ensures.value (first ∙ ap (λ (s : Shelf). stands_on s.disk) (sym c.index.ensures))
