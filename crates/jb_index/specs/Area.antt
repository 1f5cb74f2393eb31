-- The same answers said of an area as its users see it, with no index.
use Rattle.std.specs.Prelude.{ℕ, nat_le, ◌==◌, List, [], filter, is_some, length, map, take, if◌then◌else◌}
use Rattle.jb_bytes.specs.Name.{same_name}
use Rattle.jb_bytes.specs.Subfields.{receiver_of}
use Rattle.jb_base.specs.declared.area.AreaRules.{AreaRules}
use Rattle.jb_base.specs.declared.user.User.{User}
use Rattle.jb_index.specs.Index.{summary_of}
use Rattle.jb_state.specs.Links.{linkables_of, thread_root}
use Rattle.jb_state.specs.Live.{Numbered}
use Rattle.jb_state.specs.State.{AreaState, next_number}
use Rattle.jb_state.specs.Visible.{highest_read_by, last_read_by, unread_by, visible_at, visible_to}
use Rattle.jb_state.specs.declared.look.Answer.{Answer}
use Rattle.jb_state.specs.declared.look.Answer.TheVariants.{Summaries as Listed, Figures as Counted}
use Rattle.jb_state.specs.declared.look.Question.{Question}
use Rattle.jb_state.specs.declared.look.Question.TheVariants.{List as Listing, Unread, Thread, To, Figures as Counting}
use Rattle.jb_state.specs.declared.summary.Figures.{Figures}

-- the messages that the user sees and whose receiver is the user
abbrev pub to_user : AreaRules → User → AreaState → List Numbered
to_user rules user state = filter (λ one. same_name user.name (receiver_of one.message.subfields)) (visible_to rules user state)

-- the messages that the user sees of the thread of one that the user sees; else none
abbrev pub thread_shown : AreaRules → User → AreaState → ℕ → List Numbered
thread_shown rules user state number =
    if is_some (visible_at rules user state number)
    then filter (λ one. thread_root (linkables_of state) one.number == thread_root (linkables_of state) number) (visible_to rules user state)
    else []

-- the first of them
abbrev pub first_answer : AreaState → ℕ → List Numbered → Answer
first_answer state most messages = Listed (map (summary_of (linkables_of state)) (take most messages))

-- those with numbers from this one on
abbrev pub from_on : ℕ → List Numbered → List Numbered
from_on from messages = filter (λ one. nat_le from one.number) messages

-- the figures for the user
abbrev pub figures_of : AreaRules → User → AreaState → Figures
figures_of rules user state = record {
  base = state.base;
  next = next_number state;
  visible = length (visible_to rules user state);
  unread = length (unread_by rules user state);
  last = last_read_by user state;
  high = highest_read_by user state;
}

-- the answer to a question
abbrev pub answer_of : AreaRules → AreaState → User → Question → Answer
answer_of rules state user (Listing from most) = first_answer state most (from_on from (visible_to rules user state))
answer_of rules state user (Unread from most) = first_answer state most (from_on from (unread_by rules user state))
answer_of rules state user (Thread number most) = first_answer state most (thread_shown rules user state number)
answer_of rules state user (To from most) = first_answer state most (from_on from (to_user rules user state))
answer_of rules state user Counting = Counted (figures_of rules user state)
