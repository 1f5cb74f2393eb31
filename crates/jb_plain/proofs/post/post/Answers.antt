use Rattle.std.proofs.Common.{ℕ, ap, sym, ◌∙◌, arith}
use Rattle.jb_model.specs.declared.reply.Reply.TheVariants.{NumbersSpent}
use Rattle.jb_plain.specs.Changes.{draft_of}
use Rattle.jb_plain.specs.Seen.{seen_state}
use Rattle.jb_plain.proofs.SeenLaws.{answer, spent_way}
use Rattle.jb_plain.proofs.post.post.Goals as goal

pub returns-then-number-gt-LAST_POSTED_NUMBER : goal.returns-then-number-gt-LAST_POSTED_NUMBER
returns-then-number-gt-LAST_POSTED_NUMBER c =
    ap (λ (n : ℕ). answer (NumbersSpent n) (seen_state c.args.state.now)) c.next-number.ensures
    ∙ sym (spent_way c.args.rules.now (seen_state c.args.state.now) c.args.user.now c.args.moment (draft_of c.args.draft)
    (sym c.denied.ensures ∙ c.in_default.is) (sym c.unfit.ensures ∙ c.in_default-unfit.is) (sym c.unanswered.ensures ∙ c.in_default-unanswered.is)
    (omega (arith, c.next-number.ensures, c.if-number-gt-LAST_POSTED_NUMBER.true)))
