use Rattle.std.proofs.Common.{[], ap, sym, ◌∙◌, subst}
use Rattle.jb_area.specs.Holds.{IsAtRest}
use Rattle.jb_decide.specs.Holds.{AreTexts}
use Rattle.jb_disk.specs.declared.file.FileId.TheVariants.{Jdt}
use Rattle.jb_tool.proofs.LoadBaseLemmas.{empty_rests, empty_texts}
use Rattle.jb_state.specs.State.{state_of}
use Rattle.jb_state.specs.declared.loaded.Loaded.{Loaded}
use Rattle.jb_tool.proofs.load_base.open.Goals as goal

pub from_loaded-requires-clause-rests : goal.from_loaded-requires-clause-rests
from_loaded-requires-clause-rests g c = λ files there.
    subst (λ (l : Loaded). IsAtRest l (files Jdt) files) (sym c.requires.loaded) (empty_rests files (c.requires.made files there))

pub returns-in-Ok-from_loaded-clause-empty : goal.returns-in-Ok-from_loaded-clause-empty
returns-in-Ok-from_loaded-clause-empty g c =
    let contents = (g.D.Disk.device c.args.disk).contents in
    record {
      texts = [];
      rests = c.in-Ok-from_loaded.ensures.rests [] (subst (λ (l : Loaded). AreTexts l [] contents) (sym c.requires.loaded) (empty_texts contents c.requires.made));
      is = ap (λ (l : Loaded). state_of [] l) (c.in-Ok-from_loaded.ensures.loaded ∙ c.requires.loaded);
    }
