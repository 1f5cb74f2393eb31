-- What each command answers and does.
use Rattle.std.specs.Prelude.{◌≡◌, ℕ}
use Rattle.jb_base.specs.declared.area.AreaRules.{AreaRules}
use Rattle.jb_base.specs.declared.user.User.{User}
use Rattle.jb_model.specs.Answered.{Answered}
use Rattle.jb_model.specs.Edit.{edit_step}
use Rattle.jb_model.specs.Kill.{kill_step}
use Rattle.jb_model.specs.Pack.{pack_step}
use Rattle.jb_model.specs.Post.{post_step}
use Rattle.jb_model.specs.Read.{peek_step, read_step}
use Rattle.jb_model.specs.Relink.{relink_step}
use Rattle.jb_model.specs.SetMark.{set_mark_step}
use Rattle.jb_state.specs.State.{AreaState}
use Rattle.jb_model.specs.declared.command.Command.{Command}
use Rattle.jb_model.specs.declared.command.Command.TheVariants.{Post, Edit, Read, Peek, Kill, SetMark, Pack, Relink}
use Rattle.jb_model.specs.declared.reply.Reply.{Reply}

-- the reply to a user's command at a moment, and the state after it
abbrev pub step : AreaRules → AreaState → User → ℕ → Command → Answered
step rules state user moment (Post to subject text reply_to private) =
    post_step rules state user moment (record { to = to; subject = subject; text = text; reply_to = reply_to; private = private })
step rules state user moment (Edit number subject text) = edit_step rules state user number subject text
step rules state user moment (Read number) = read_step rules state user moment number
step rules state user moment (Peek number) = peek_step rules state user number
step rules state user moment (Kill number) = kill_step rules state user number
step rules state user moment (SetMark number) = set_mark_step rules state user number
step rules state user moment Pack = pack_step rules state user
step rules state user moment Relink = relink_step rules state user

-- the command is answered so, and leaves this state
abbrev pub Step : AreaRules → AreaState → User → ℕ → Command → Reply → AreaState → Type 0
Step rules state user moment command reply after = step rules state user moment command ≡ record { reply = reply; state = after }
