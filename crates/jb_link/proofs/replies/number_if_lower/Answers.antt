use Rattle.std.proofs.Common.{arith, inr, sym, ◌∙◌}
use Rattle.jb_state.specs.Plan.{loaded_at}
use Rattle.std.proofs.lemmas.Bool.{both_ways}
use Rattle.jb_link.proofs.FoundLemmas.{lent_message, no_parent_kept, parent_kept_live, some_live}
use Rattle.jb_link.proofs.replies.number_if_lower.Goals as goal
use Rattle.jb_link.proofs.replies.number_if_lower.Goals.{else-kept-number-via-then-kept-number+else-is_some, else-kept-number-via-else-kept-number}

pub returns-then-is_some-clause-found : goal.returns-then-is_some-clause-found
returns-then-is_some-clause-found c =
    sym (parent_kept_live c.args.loaded.now c.args.number c.args.kept c.if-kept-number.true (lent_message _ (loaded_at c.args.loaded.now c.args.kept) c.message_at.ensures.named (sym c.is_some.ensures ∙ c.if-is_some.true)))

pub returns-then-is_some-clause-live : goal.returns-then-is_some-clause-live
returns-then-is_some-clause-live c = inr (some_live c.args.loaded.now c.args.kept (lent_message _ (loaded_at c.args.loaded.now c.args.kept) c.message_at.ensures.named (sym c.is_some.ensures ∙ c.if-is_some.true)))

pub returns-else-kept-number-clause-found : goal.returns-else-kept-number-clause-found
returns-else-kept-number-clause-found c =
    elim c.else-kept-number.branch [
      | else-kept-number-via-then-kept-number+else-is_some w ↦
          sym (no_parent_kept c.args.loaded.now c.args.number c.args.kept (λ lower live. both_ways _ (lent_message _ (loaded_at c.args.loaded.now c.args.kept) w.message_at.ensures.named (sym w.is_some.ensures ∙ w.if-is_some.false)) live))
      | else-kept-number-via-else-kept-number w ↦ sym (no_parent_kept c.args.loaded.now c.args.number c.args.kept (λ lower live. omega (arith, lower, w.if-kept-number.false)))
    ]
