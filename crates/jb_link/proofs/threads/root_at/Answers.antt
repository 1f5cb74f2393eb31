use Rattle.std.proofs.Common.{◌+◌, [], inl, inr, ◌∙◌}
use Rattle.jb_state.specs.LiveSlots.{linkables}
use Rattle.jb_link.proofs.ThreadLemmas.{root_of_parent, root_read, root_without_parent}
use Rattle.jb_link.proofs.threads.root_at.Goals as goal

pub returns-then-parent-eq0 : goal.returns-then-parent-eq0
returns-then-parent-eq0 c =
    root_without_parent (linkables [] c.args.loaded.now) (c.args.loaded.now.base + c.args.place) c.parent_at-parent.result c.parent_at-parent.ensures.found c.if-parent-eq0.true

pub returns-else-parent-eq0 : goal.returns-else-parent-eq0
returns-else-parent-eq0 c =
    elim c.parent_at-parent.ensures.below [
      | inl none ↦ absurd (c.if-parent-eq0.false none)
      | inr (from, to) ↦
          root_read (linkables [] c.args.loaded.now) c.args.loaded.now.base c.args.place c.parent_at-parent.result c.args.roots.now from to c.requires.roots
          ∙ root_of_parent (linkables [] c.args.loaded.now) (c.args.loaded.now.base + c.args.place) c.parent_at-parent.result c.parent_at-parent.ensures.found c.if-parent-eq0.false
    ]
