use Rattle.std.proofs.Common.{◌-◌, ◌∙◌, ap, sym, arith}
use Rattle.jb_state.specs.Links.{number_or_0}
use Rattle.jb_link.proofs.LiveLemmas.{live_here, none_numbered, not_live_here}
use Rattle.jb_link.proofs.slots.number_if_live.Goals as goal
use Rattle.jb_link.proofs.slots.number_if_live.Goals.{else-number-base-via-then-number-base+else-is_live_at, else-number-base-via-else-number-base}

pub returns-then-is_live_at : goal.returns-then-is_live_at
returns-then-is_live_at c =
    live_here (c.args.number - c.args.base) c.args.base c.args.number c.args.slots.now (omega arith) (sym c.is_live_at.ensures ∙ c.if-is_live_at.true)

pub returns-else-number-base : goal.returns-else-number-base
returns-else-number-base c =
    elim c.else-number-base.branch [
      | else-number-base-via-then-number-base+else-is_live_at w ↦
          not_live_here (c.args.number - c.args.base) c.args.base c.args.number c.args.slots.now (omega arith) (sym w.is_live_at.ensures ∙ w.if-is_live_at.false)
      | else-number-base-via-else-number-base w ↦ sym (ap number_or_0 (none_numbered c.args.number c.args.base c.args.slots.now w.if-number-base.false))
    ]
