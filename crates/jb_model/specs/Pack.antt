-- Killed messages are dropped, and the files are written anew without gaps.
use Rattle.std.specs.Prelude.{nat_lt, Option, Some, None, if◌then◌else◌}
use Rattle.jb_base.specs.Access.{first_refusal}
use Rattle.jb_base.specs.declared.area.Action.TheVariants.{Tend as Tending}
use Rattle.jb_base.specs.declared.area.AreaRules.{AreaRules}
use Rattle.jb_limits.specs.declared.limits.TheConstants.{TEXTS_CEILING}
use Rattle.jb_base.specs.declared.user.User.{User}
use Rattle.jb_model.specs.Answered.{Answered, unless_denied, unless_refused}
use Rattle.jb_state.specs.Live.{killed_count, live_count}
use Rattle.jb_state.specs.State.{AreaState}
use Rattle.jb_state.specs.Tight.{texts_together}
use Rattle.jb_model.specs.declared.reply.Reply.{Reply}
use Rattle.jb_model.specs.declared.reply.Reply.TheVariants.{Packed, TextFull}
use Rattle.jb_state.specs.PackedState.{packed_base, packed_state}

-- the live texts together are larger than .JDT may be
abbrev pub pack_refusal : AreaState → Option Reply
pack_refusal state = if nat_lt TEXTS_CEILING (texts_together state.slots) then Some (TextFull (texts_together state.slots)) else None

-- the packed area, with how many messages are live and how many were killed
abbrev pub pack_done : AreaState → Answered
pack_done state =
    record { reply = Packed (packed_base state) (live_count state.slots) (killed_count state.slots); state = packed_state state }

-- the sysop has the area packed
abbrev pub pack_step : AreaRules → AreaState → User → Answered
pack_step rules state user =
    unless_denied state (first_refusal user rules Tending None) (unless_refused state (pack_refusal state) (pack_done state))
