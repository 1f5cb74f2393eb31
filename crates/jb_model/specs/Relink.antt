-- The reply links of an area are computed anew.
use Rattle.std.specs.Prelude.{◌==◌, None, if◌then◌else◌}
use Rattle.jb_base.specs.Access.{first_refusal}
use Rattle.jb_base.specs.declared.area.Action.TheVariants.{Tend as Tending}
use Rattle.jb_base.specs.declared.area.AreaRules.{AreaRules}
use Rattle.jb_base.specs.declared.user.User.{User}
use Rattle.jb_model.specs.Answered.{Answered, unless_denied}
use Rattle.jb_state.specs.Live.{counted}
use Rattle.jb_state.specs.State.{AreaState}
use Rattle.jb_model.specs.declared.reply.Reply.TheVariants.{Relinked}
use Rattle.jb_state.specs.Relinked.{wrongly_linked, relinked_area}

-- the links are written where one differs; where none does, nothing is
abbrev pub relink_done : AreaState → Answered
relink_done state =
    if wrongly_linked state == 0 then record { reply = Relinked 0; state = state }
    else record { reply = Relinked (wrongly_linked state); state = counted (relinked_area state) }

-- the sysop has the links computed anew
abbrev pub relink_step : AreaRules → AreaState → User → Answered
relink_step rules state user = unless_denied state (first_refusal user rules Tending None) (relink_done state)
