use Rattle.std.proofs.Common.{ap, sym, ◌∙◌}
use Rattle.jb_host.specs.declared.handed_out.HandedOut.{HandedOut}
use Rattle.jb_host.specs.Entrances.{came_back}
use Rattle.jb_host.proofs.Entering.{by_node-first, lent_back}
use Rattle.jb_host.proofs.entrances.Entrances.door_of.Goals as goal

pub returns : goal.returns
returns c =
    let at = rw c.as_slice.ensures.value at c.in_ok-k.ensures in
    let d = c.index.result.now in
    let first = by_node-first c.args.node c.args.self.now.handed.items c.in_ok-k.k d at.0 (at.1 d) (λ j low. at.2 j d low) in
    record { found = lent_back _ c.index.result.now.door c.as_ref.result c.as_ref.ensures.value (first ∙ ap (λ (e : HandedOut). came_back e.door) (sym c.index.ensures)) }
