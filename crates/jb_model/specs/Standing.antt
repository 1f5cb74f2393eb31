-- Where an area stands: settled at a state, or in doubt whether its last change stands.
use Rattle.std.specs.Prelude.{◌≡◌, Bool, true, false, Option, Some, None, if◌then◌else◌}
use Rattle.jb_base.specs.declared.area.AreaRules.{AreaRules}
use Rattle.jb_model.specs.Answered.{Answered}
use Rattle.jb_state.specs.State.{AreaState}
use Rattle.jb_model.specs.Step.{step}
use Rattle.jb_model.specs.declared.entry.Entry.{Entry}
use Rattle.jb_model.specs.declared.entry.Entry.TheVariants.{Called, Reopened}
use Rattle.jb_model.specs.declared.entry.Outcome.TheVariants.{Replied, InDoubt as LeftInDoubt, NotBegun}
use Rattle.jb_model.specs.declared.reply.Reply.{Reply}
use Rattle.jb_model.specs.declared.reply.Reply.TheVariants.{Posted, Edited, Text, Killed, Marked, Packed, Relinked, Denied, NoMessage, TooLong, EmptyName, SlotsFull, SubfieldsFull, HeadersFull, TextFull, NumbersSpent, MarksFull}

-- at a state; or between the state before a change and, where there was a change, the one after it
pub data Standing : Type 0 where
  Settled : AreaState → Standing
  InDoubt : AreaState → Option AreaState → Standing

-- the area is settled
abbrev pub is_settled : Standing → Bool
is_settled (Settled state) = true
is_settled (InDoubt before after) = false

-- the reply is a refusal
abbrev pub is_refusal : Reply → Bool
is_refusal (Posted number) = false
is_refusal (Edited number) = false
is_refusal (Text letter) = false
is_refusal (Killed number) = false
is_refusal (Marked last high) = false
is_refusal (Packed base live dropped) = false
is_refusal (Relinked changed) = false
is_refusal (Denied rule) = true
is_refusal (NoMessage number) = true
is_refusal (TooLong field len) = true
is_refusal (EmptyName field) = true
is_refusal (SlotsFull slots) = true
is_refusal (SubfieldsFull len) = true
is_refusal (HeadersFull len) = true
is_refusal (TextFull len) = true
is_refusal (NumbersSpent next) = true
is_refusal (MarksFull marks) = true

-- what may stand after this answer besides the state before: its state, or nothing where it refuses
abbrev pub change_of : Answered → Option AreaState
change_of answered = if is_refusal answered.reply then None else Some answered.state

-- the entry may come where the area stands so: an answer only where it is settled, and then that of the step
abbrev pub Allows : AreaRules → Standing → Entry → Type 0
Allows rules (Settled state) (Called node call user moment command (Replied reply)) = (step rules state user moment command).reply ≡ reply
Allows rules (Settled state) (Called node call user moment command (LeftInDoubt faults)) = Unit {0}
Allows rules (Settled state) (Called node call user moment command (NotBegun faults)) = ⊥
Allows rules (Settled state) (Reopened stands) = ⊥
Allows rules (InDoubt before after) (Called node call user moment command (Replied reply)) = ⊥
Allows rules (InDoubt before after) (Called node call user moment command (LeftInDoubt faults)) = ⊥
Allows rules (InDoubt before after) (Called node call user moment command (NotBegun faults)) = Unit {0}
Allows rules (InDoubt before after) (Reopened false) = Unit {0}
Allows rules (InDoubt before (Some after)) (Reopened true) = Unit {0}
Allows rules (InDoubt before None) (Reopened true) = ⊥

-- where the area stands after an entry that may come; another entry changes nothing
abbrev pub after_entry : AreaRules → Standing → Entry → Standing
after_entry rules (Settled state) (Called node call user moment command (Replied reply)) =
    Settled (step rules state user moment command).state
after_entry rules (Settled state) (Called node call user moment command (LeftInDoubt faults)) =
    InDoubt state (change_of (step rules state user moment command))
after_entry rules (Settled state) (Called node call user moment command (NotBegun faults)) = Settled state
after_entry rules (Settled state) (Reopened stands) = Settled state
after_entry rules (InDoubt before after) (Called node call user moment command outcome) = InDoubt before after
after_entry rules (InDoubt before after) (Reopened false) = Settled before
after_entry rules (InDoubt before (Some after)) (Reopened true) = Settled after
after_entry rules (InDoubt before None) (Reopened true) = InDoubt before None

-- what stands so, stands also for this: a doubt without a change is one of any change
abbrev pub StandsWithin : Standing → Standing → Type 0
StandsWithin (Settled state) (Settled other) = state ≡ other
StandsWithin (Settled state) (InDoubt before after) = ⊥
StandsWithin (InDoubt before after) (Settled state) = ⊥
StandsWithin (InDoubt before None) (InDoubt other after) = before ≡ other
StandsWithin (InDoubt before (Some change)) (InDoubt other after) = (before ≡ other) × (after ≡ Some change)
