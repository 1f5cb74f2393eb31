-- A command that is refused.
use Rattle.std.specs.Prelude.{◌≡◌, ℕ, true, List}
use Rattle.jb_base.specs.declared.area.AreaRules.{AreaRules}
use Rattle.jb_base.specs.declared.user.User.{User}
use Rattle.jb_model.specs.Standing.{is_refusal}
use Rattle.jb_state.specs.State.{state_of}
use Rattle.jb_model.specs.Step.{Step}
use Rattle.jb_model.specs.declared.command.Command.{Command}
use Rattle.jb_state.specs.declared.loaded.Loaded.{Loaded}
use Rattle.jb_model.specs.declared.reply.Reply.{Reply}

-- at every moment the user's command is answered so, and the area stays as it is
pub record IsRefusal (rules : AreaRules) (loaded : Loaded) (user : User) (command : Command) (reply : Reply) : Type 0 where
  pub refusal : is_refusal reply ≡ true
  pub step : (texts : List ℕ) (moment : ℕ) → Step rules (state_of texts loaded) user moment command reply (state_of texts loaded)
