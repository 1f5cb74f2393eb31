-- What a command is answered with over an area as it is loaded, and what it changes.
use Rattle.std.specs.Prelude.{◌≡◌, ◌⊎◌, ℕ, ◌+◌, List, [], length, true}
use Rattle.jb_base.specs.declared.area.AreaRules.{AreaRules}
use Rattle.jb_base.specs.declared.user.User.{User}
use Rattle.jb_change.specs.Put.{IsNoPacking, IsTextOf}
use Rattle.jb_state.specs.Change.{Fits, after, texts_after}
use Rattle.jb_state.specs.Sound.{IsSound}
use Rattle.jb_model.specs.Standing.{is_refusal}
use Rattle.jb_state.specs.State.{state_of}
use Rattle.jb_model.specs.Step.{Step}
use Rattle.jb_state.specs.declared.change.Change.{Change}
use Rattle.jb_state.specs.declared.change.Change.TheVariants.{Edited, Nothing, Posted}
use Rattle.jb_model.specs.declared.command.Command.{Command}
use Rattle.jb_model.specs.declared.command.Command.TheVariants.{Edit, Pack, Peek, Post}
use Rattle.jb_state.specs.declared.loaded.Loaded.{Loaded}
use Rattle.jb_model.specs.declared.reply.Reply.{Reply}
use Rattle.jb_model.specs.declared.reply.Reply.TheVariants as replies
use Rattle.jb_decide.specs.Draft.{next_of}
use Rattle.jb_decide.specs.Telling.{IsToldBy}

-- the text that a command writes: that of a post or an edit
abbrev pub written_text : Command → List ℕ
written_text (Post to subject text reply_to private) = text
written_text (Edit number subject text) = text
written_text _ = []

-- the text that a change puts behind the others, where this is that of its command
abbrev pub text_behind : Change → List ℕ → List ℕ
text_behind (Posted message neighbour) text = text
text_behind (Edited place message) text = text
text_behind _ text = []

-- a command that leaves the files in their places, which is each but a pack
abbrev pub IsNoPack : Command → Type 0
IsNoPack Pack = ⊥
IsNoPack _ = Unit {0}

-- a command that looks
abbrev pub IsLook : Command → Type 0
IsLook (Peek number) = Unit {0}
IsLook _ = ⊥

-- a command that is answered so changes nothing: it is refused, it is a look, or a relink that finds no wrong link
abbrev pub ChangesNothing : Command → Reply → Type 0
ChangesNothing command reply = (is_refusal reply ≡ true) ⊎ (IsLook command ⊎ (reply ≡ replies.Relinked 0))

-- where a message is posted, the reply names the area's next number, and where one is edited its number
abbrev pub NamesNumber : Change → Loaded → Reply → Type 0
NamesNumber (Posted message neighbour) from reply = reply ≡ replies.Posted (next_of from)
NamesNumber (Edited place message) from reply = reply ≡ replies.Edited (from.base + place)
NamesNumber _ from reply = Unit {0}

-- over the area, which is sound afterwards too, the user's command is answered so at that moment, by the texts, and this is what it changes
pub record IsStepOf (rules : AreaRules) (from : Loaded) (user : User) (moment : ℕ) (command : Command) (reply : List ℕ → Reply) (change : Change) : Type 0 where
  pub step : (texts : List ℕ) → length texts ≡ from.texts_len
      → Step rules (state_of texts from) user moment command (reply texts) (state_of (texts_after change from (written_text command) texts) (after change from))
  pub fits : Fits rules.slots change from
  pub sound : IsSound rules.slots (after change from)
  -- it is none of a pack, and what it puts behind the texts is the text of the command
  pub kind : IsNoPacking change
  pub text : IsTextOf change (text_behind change (written_text command))
  -- what the reply tells of it
  pub idle : (texts : List ℕ) → ChangesNothing command (reply texts) → change ≡ Nothing
  pub told : (texts : List ℕ) → IsToldBy (reply texts) change
  pub named : (texts : List ℕ) → NamesNumber change from (reply texts)
