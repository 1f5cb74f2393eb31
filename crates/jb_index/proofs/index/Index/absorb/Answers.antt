use Rattle.std.proofs.Common.{◌+◌, ap, drop, sym, ◌∙◌}
use Rattle.std.proofs.lemmas.List.{at_drop_all, at_drop_more}
use Rattle.jb_index.specs.Edit.{absorbed, edited}
use Rattle.jb_index.specs.Index.{AreaIndex}
use Rattle.jb_index.specs.declared.op.OpEdit.{OpEdit}
use Rattle.jb_index.proofs.index.Index.absorb.Goals as goal

pub loop-edit-preserved : goal.loop-edit-preserved
loop-edit-preserved c =
    let items = c.as_slice-edit-items.result.now in
    ap (λ (index : AreaIndex). absorbed index (drop (c.loop-edit.edit-index + 1) items)) c.apply.ensures
    ∙ ap (λ (edit : OpEdit). absorbed (edited c.loop-edit.self edit) (drop (c.loop-edit.edit-index + 1) items)) c.edit-item.is
    ∙ sym (at_drop_more (absorbed c.loop-edit.self) items c.loop-edit.edit-index c.edit-item.result c.loop-edit-test.true)
    ∙ c.loop-edit.invariant

pub returns : goal.returns
returns c =
    let items = c.as_slice-edit-items.result.now in
    sym (at_drop_all (absorbed c.loop-edit.self) items c.loop-edit.edit-index c.loop-edit-test.false)
    ∙ c.loop-edit.invariant ∙ ap (absorbed c.args.self.now) c.as_slice-edit-items.ensures
