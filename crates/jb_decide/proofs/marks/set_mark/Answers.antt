use Rattle.std.proofs.Common.{◌≡◌, None, sym, ◌∙◌, ap}
use Rattle.jb_decide.specs.SetMark.{present_mark, raised, set_refusal}
use Rattle.jb_decide.proofs.MarkLemmas.{marking_is}
use Rattle.jb_decide.proofs.marks.set_mark.Goals as goal

pub returns-clause-step : goal.returns-clause-step
returns-clause-step c = λ moment.
    let loaded = c.args.loaded.now in
    let user = c.args.user.now in
    let accepted : set_refusal loaded (present_mark loaded user) c.args.number ≡ None =
    ap (λ p. set_refusal loaded p c.args.number) (sym c.requires.present) ∙ sym c.refusal.ensures ∙ c.in_default-refusal.is in
    marking_is c.args.rules.now loaded user moment c.args.number c.args.place c.raised-mark.result (sym c.denied.ensures ∙ c.in_default.is) accepted
    (c.raised-mark.ensures ∙ ap (λ p. raised p user c.args.number) c.requires.present) c.requires.placed c.requires.sound
