use Rattle.std.proofs.Common.{ap, sym, ◌∙◌}
use Rattle.jb_disk.specs.Memory.{Recording}
use Rattle.jb_host.specs.declared.shelf.Shelf.{Shelf}
use Rattle.jb_host.specs.Desk.{with_place}
use Rattle.jb_host.specs.Shelves.{shelved, stands_on}
use Rattle.jb_host.proofs.Shelving.{if_some, shelved-first, shelved-set, stood_there}
use Rattle.jb_host.proofs.shelf.take_from.Goals as goal

pub returns-clause-found : goal.returns-clause-found
returns-clause-found c =
    let at = rw c.as_slice.ensures.value at c.in_ok-k.ensures in
    let d = c.index_mut.result.now in
    let first = shelved-first c.args.dir.now c.args.name.now c.args.shelves.now.items c.in_ok-k.k d at.0 (at.1 d) (λ j low. at.2 j d low) in
    let stood = ap (λ (s : Shelf). stands_on s.disk) (sym c.index_mut.ensures.value) in
    stood_there _ _ _ c.take_off-taken.ensures.found (first ∙ stood)

pub returns-clause-out : goal.returns-clause-out
returns-clause-out c =
    let at = rw c.as_slice.ensures.value at c.in_ok-k.ensures in
    let d = c.index_mut.result.now in
    let set_is = shelved-set c.args.dir.now c.args.name.now c.args.shelves.now.items c.in_ok-k.k c.take_off-taken.new.shelf d at.0 (at.1 d) (λ j low. at.2 j d low)
    (c.take_off-taken.ensures.dir ∙ ap (λ (s : Shelf). s.dir) c.index_mut.ensures.value) (c.take_off-taken.ensures.name ∙ ap (λ (s : Shelf). s.name) c.index_mut.ensures.value) in
    let out = set_is ∙ ap (λ o. with_place c.args.dir.now c.args.name.now (stands_on o) (shelved c.args.shelves.now.items)) c.take_off-taken.ensures.out in
    if_some {A = Recording} c.take_off-taken.result _ out
