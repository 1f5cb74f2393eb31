use Rattle.std.proofs.Common.{◌≡◌, ◌<◌, ℕ, List, [], None, length, false, ap, ◌∙◌, subst, sym}
use Rattle.std.specs.Prelude.{slice_index_or}
use Rattle.jb_host.specs.declared.shelf.Shelf.{Shelf}
use Rattle.jb_host.specs.Desk.{handed_out, no_disk}
use Rattle.jb_host.specs.Shelves.{is_for}
use Rattle.jb_host.proofs.Shelving.{shelved-set, shelved-none}
use Rattle.jb_host.proofs.shelf.put_on.Goals as goal

pub returns-in-Some : goal.returns-in-Some
returns-in-Some c = λ out.
    let at = rw c.as_slice.ensures.value at c.in-Some.ensures in
    let d = c.index_mut.result.now in
    shelved-set c.args.dir.now c.args.name.now c.args.shelves.now.items c.in-Some.k _ d at.0 (at.1 d) (λ j low. at.2 j d low)
    (ap (λ (s : Shelf). s.dir) c.index_mut.ensures.value) (ap (λ (s : Shelf). s.name) c.index_mut.ensures.value)

pub returns-in_default : goal.returns-in_default
returns-in_default c = λ out.
    let at = rw c.in_default.is at c.shelf_at.ensures in
    let d : Shelf = record { dir = []; name = []; disk = None } in
    let P : List Shelf → Type 0 = λ l. (k : ℕ) → k < length l → is_for c.args.dir.now c.args.name.now (slice_index_or l k d) ≡ false in
    let none = shelved-none c.args.dir.now c.args.name.now c.args.shelves.now.items d (subst P c.as_slice.ensures.value (λ k low. at k d low)) in
    let both : no_disk ≡ handed_out = sym none ∙ out in
    absurd (cc)
