use Rattle.std.proofs.Common.{List, [], ◌∷◌, ◌++◌, map, ap, ◌∙◌}
use Rattle.jb_state.specs.LiveSlots.{linkables}
use Rattle.jb_link.specs.declared.orphans.Orphan.{Orphan}
use Rattle.jb_index.specs.declared.op.OpEdit.{OpEdit}
use Rattle.jb_index.specs.declared.op.OpEdit.TheVariants.{Drop}
use Rattle.jb_index.proofs.KillLemmas.{edit_for_orphan, edits_from_orphans}
use Rattle.jb_index.proofs.kills.killed.Goals as goal

pub returns : goal.returns
returns c =
    c.in_ok-put_parents.ensures
    ∙ ap (λ (edits : List OpEdit). edits ++ map edit_for_orphan c.deref.result.now) (c.in_ok-push.ensures.ok ∙ ap (λ (edits : List OpEdit). edits ++ Drop c.args.number ∷ []) c.new-op.ensures)
    ∙ ap (λ (orphans : List Orphan). Drop c.args.number ∷ map edit_for_orphan orphans) (c.deref.ensures.value ∙ c.in_ok-orphans.ensures)
    ∙ edits_from_orphans (linkables [] c.args.loaded.now) c.args.number
