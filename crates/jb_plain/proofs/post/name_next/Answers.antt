use Rattle.std.proofs.Common.{ap, ◌∙◌}
use Rattle.std.specs.Prelude.{Option, option_map}
use Rattle.jb_state.specs.Posted.{with_next_reply}
use Rattle.jb_state.specs.State.{LiveMessage}
use Rattle.jb_plain.specs.Seen.{seen_state}
use Rattle.jb_plain.proofs.SeenLaws.{renamed_with}
use Rattle.jb_plain.proofs.post.name_next.Goals as goal

pub returns-in-Some : goal.returns-in-Some
returns-in-Some c =
    c.put_head.ensures c.in-Some.message.now c.in-Some.ensures.placed
    ∙ ap (λ (found : Option LiveMessage). renamed_with (seen_state c.args.state.now) c.args.named (option_map (with_next_reply c.args.number) found)) c.in-Some.ensures.named

pub returns-in_default : goal.returns-in_default
returns-in_default c =
    ap (λ (found : Option LiveMessage). renamed_with (seen_state c.args.state.now) c.args.named (option_map (with_next_reply c.args.number) found)) c.in_default.ensures.named
