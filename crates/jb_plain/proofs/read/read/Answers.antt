use Rattle.std.proofs.Common.{ap, sym, ◌∙◌}
use Rattle.jb_state.specs.Live.{counted}
use Rattle.jb_model.specs.Letter.{letter_of}
use Rattle.jb_model.specs.Read.{read_done}
use Rattle.jb_state.specs.State.{LiveMessage}
use Rattle.jb_state.specs.Tight.{owned}
use Rattle.jb_model.specs.declared.reply.Letter.{Letter}
use Rattle.jb_model.specs.declared.reply.Reply.TheVariants.{Text}
use Rattle.jb_plain.specs.Seen.{seen_state, with_head}
use Rattle.jb_plain.proofs.SeenLaws.{answer, read_way}
use Rattle.jb_plain.proofs.read.read.Goals as goal

pub returns : goal.returns
returns c =
    let message : LiveMessage = owned c.in-Some-visible_at.message.now in
    let made : LiveMessage = with_head c.read_head-head.result message in
    ap (λ (letter : Letter). answer (Text letter) (seen_state c.count.new.self)) c.in_ok-letter.ensures
    ∙ ap (answer (Text (letter_of c.args.number made)))
    (c.count.ensures ∙ ap counted (c.put_head.ensures c.in-Some-visible_at.message.now c.in-Some-visible_at.ensures.placed))
    ∙ ap (read_done (seen_state c.args.state.now) c.args.number) c.read_head-head.ensures
    ∙ sym (read_way c.args.rules.now (seen_state c.args.state.now) c.args.user.now c.args.moment c.args.number message
    (sym c.denied.ensures ∙ c.in_default.is) (sym c.in-Some-visible_at.ensures.named))
