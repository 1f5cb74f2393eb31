use Rattle.std.proofs.Common.{◌≡◌, ◌<◌, ℕ, List, None, length, ap, ◌∙◌, subst, sym}
use Rattle.std.specs.Prelude.{◌≢◌, slice_index_or}
use Rattle.jb_host.specs.declared.handed_out.HandedOut.{HandedOut}
use Rattle.jb_host.specs.Desk.{door_out, no_door}
use Rattle.jb_host.proofs.Entering.{by_node-none, by_node-set}
use Rattle.jb_host.proofs.handed_out.put_at.Goals as goal

pub returns-in-Some-clause-back : goal.returns-in-Some-clause-back
returns-in-Some-clause-back c = λ out.
    let at = rw c.as_slice.ensures.value at c.in-Some.ensures in
    let d = c.index_mut.result.now in
    by_node-set c.args.node c.args.entries.now.items c.in-Some.k _ d at.0 (at.1 d) (λ j low. at.2 j d low) (ap (λ (e : HandedOut). e.node) c.index_mut.ensures.value)

pub returns-in_default-clause-back : goal.returns-in_default-clause-back
returns-in_default-clause-back c = λ out.
    let at = rw c.in_default.is at c.entry_of.ensures in
    let d : HandedOut = record { node = 0; door = None } in
    let P : List HandedOut → Type 0 = λ l. (k : ℕ) → k < length l → c.args.node ≢ (slice_index_or l k d).node in
    let none = by_node-none c.args.node c.args.entries.now.items d (subst P c.as_slice.ensures.value (λ k low. at k d low)) in
    let both : no_door ≡ door_out = sym none ∙ out in
    absurd (cc)
