use Rattle.std.proofs.Common.{[], Option, subst, sym}
use Rattle.jb_index.specs.Index.{AreaIndex}
use Rattle.jb_model.specs.declared.entry.Entry.{Entry}
use Rattle.jb_publish.specs.Marks.{ValueStandsFrom}
use Rattle.jb_shared.specs.Shows.{IsShownAs}
use Rattle.jb_shared.specs.declared.opening.Opening.{Opening}
use Rattle.jb_shared.proofs.MakingLemmas.{shows_new}
use Rattle.jb_shared.proofs.making.ends.Goals as goal

pub pair-requires-clause-stands : goal.pair-requires-clause-stands
pair-requires-clause-stands g c =
    subst (λ (o : Option Opening). ValueStandsFrom {T = AreaIndex} {E = Entry} IsShownAs o c.args.first []) (sym c.requires.names)
    (shows_new g.D.Disk.device c.args.area.now c.args.first c.requires.rest c.requires.first)
