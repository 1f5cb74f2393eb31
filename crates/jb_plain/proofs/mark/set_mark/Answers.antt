use Rattle.std.proofs.Common.{ap, sym, ◌∙◌}
use Rattle.jb_model.specs.SetMark.{mark_done}
use Rattle.jb_model.specs.declared.reply.Reply.TheVariants.{Marked}
use Rattle.jb_plain.specs.Seen.{seen_state}
use Rattle.jb_plain.proofs.SeenLaws.{answer, mark_way, with_marks}
use Rattle.jb_plain.proofs.mark.set_mark.Goals as goal

pub returns : goal.returns
returns c =
    ap (answer (Marked c.raised-mark.result.last c.raised-mark.result.high)) (ap (with_marks (seen_state c.args.state.now)) c.in_ok-put_mark.ensures)
    ∙ ap (mark_done (seen_state c.args.state.now)) c.raised-mark.ensures
    ∙ sym (mark_way c.args.rules.now (seen_state c.args.state.now) c.args.user.now c.args.number (sym c.denied.ensures ∙ c.in_default.is) (sym c.refusal.ensures ∙ c.in_default-refusal.is))
