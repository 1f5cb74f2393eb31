use Rattle.std.proofs.Common.{List, reverse, ap, sym, ◌∙◌}
use Rattle.std.proofs.lemmas.List.{reverse-reverse}
use Rattle.jb_state.specs.declared.links.Links.{Links}
use Rattle.jb_state.specs.Plan.{plan_of}
use Rattle.jb_state.specs.LiveSlots.{linkables_from}
use Rattle.jb_link.proofs.LiveLemmas.{linkables_with_texts}
use Rattle.jb_link.proofs.relinking.relink_plan.Goals as goal

pub returns : goal.returns
returns c = λ texts.
    c.from.ensures ∙ c.reverse.ensures.items ∙ ap (λ (l : List Links). reverse l) c.in_ok-plan.ensures
    ∙ reverse-reverse (plan_of (linkables_from c.args.loaded.now.base c.as_slice-slots.result.now))
    ∙ ap (λ slots. plan_of (linkables_from c.args.loaded.now.base slots)) c.as_slice-slots.ensures
    ∙ ap plan_of (sym (linkables_with_texts texts c.args.loaded.now.base c.args.loaded.now.slots))
