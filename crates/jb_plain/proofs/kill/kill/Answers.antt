use Rattle.std.proofs.Common.{ap, sym, ◌∙◌}
use Rattle.jb_state.specs.Live.{counted}
use Rattle.jb_state.specs.Tight.{owned}
use Rattle.jb_model.specs.declared.reply.Reply.TheVariants.{Killed}
use Rattle.jb_plain.specs.Seen.{seen_state}
use Rattle.jb_plain.proofs.SeenLaws.{answer, kill_way}
use Rattle.jb_plain.proofs.kill.kill.Goals as goal

pub returns : goal.returns
returns c =
    ap (answer (Killed c.args.number)) (c.count.ensures ∙ ap counted c.put_slot.ensures)
    ∙ sym (kill_way c.args.rules.now (seen_state c.args.state.now) c.args.user.now c.args.number (owned c.in-Some-visible_at.message.now)
    (sym c.denied.ensures ∙ c.in_default.is) (sym c.in-Some-visible_at.ensures.named) (sym c.kill_denied.ensures ∙ c.in_default-kill_denied.is))
