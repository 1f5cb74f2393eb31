use Rattle.std.specs.declared.alloc.Global.{Global}
use Rattle.std.proofs.Common.{Vec, ap, ◌∙◌, set}
use Rattle.std.proofs.lemmas.List.{map-set}
use Rattle.jb_run.specs.Rows.{lists_of}
use Rattle.jb_shared.specs.Passes.{PassView}
use Rattle.jb_run.proofs.lines.take_passes.Goals as goal

-- none are left at the place
pub returns-clause-left : goal.returns-clause-left
returns-clause-left c =
    map-set (λ (passes : Vec PassView Global). passes.items) c.args.nodes.now.items c.args.place c.replace.new.dest
    ∙ ap (set (lists_of c.args.nodes.now.items) c.args.place) (ap (λ (passes : Vec PassView Global). passes.items) c.replace.ensures.after ∙ c.new.ensures.items)
