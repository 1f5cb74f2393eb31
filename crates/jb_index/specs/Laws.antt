-- What an answer of an index says of the area.
use Rattle.std.specs.Prelude.{◌≡◌, ◌≤◌, length}
use Rattle.jb_base.specs.declared.area.AreaRules.{AreaRules}
use Rattle.jb_base.specs.declared.user.User.{User}
use Rattle.jb_index.specs.Answer.{answer_to}
use Rattle.jb_index.specs.Area.{answer_of}
use Rattle.jb_index.specs.Index.{index_of}
use Rattle.jb_state.specs.State.{AreaState}
use Rattle.jb_state.specs.declared.look.Question.{Question}

-- to a user with a name of 1 to 36 bytes the index of an area answers what the area shows
abbrev pub AnswersOfTheArea : Type 0
AnswersOfTheArea = (rules : AreaRules) (state : AreaState) (user : User) (question : Question)
    → 1 ≤ length user.name → length user.name ≤ 36 → answer_to (index_of rules state) user question ≡ answer_of rules state user question
