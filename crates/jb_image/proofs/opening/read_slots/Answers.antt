use Rattle.std.proofs.Common.{List, ◌∙◌}
use Rattle.std.proofs.lemmas.Result.{IfOk-weaker}
use Rattle.std.specs.Option.{ForSome}
use Rattle.jb_state.specs.declared.loaded.LoadedSlot.{LoadedSlot}
use Rattle.jb_image.specs.Reading.{AreSlotsOf}
use Rattle.jb_image.proofs.opening.read_slots.Goals as goal

pub returns-in-None-clause-named : goal.returns-in-None-clause-named
returns-in-None-clause-named g c =
    IfOk-weaker c.read_mixed_slots.result _ (λ (slots : List LoadedSlot). ForSome (g.D.Disk.device c.args.disk.now).contents (λ files. AreSlotsOf files slots))
    (λ slots named files contents_is. named files (c.load_rising.ensures.kept.contents ∙ contents_is)) c.read_mixed_slots.ensures.named
