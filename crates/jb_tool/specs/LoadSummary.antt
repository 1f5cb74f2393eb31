-- What is printed of a run: eleven lines, each a name, a space and a number.
use Rattle.std.specs.Prelude.{ℕ, ◌*◌, ◌==◌, Bool, false, not, List, [], ◌∷◌, ◌++◌, codes, count_by, decimal, length}
use Rattle.jb_base.specs.declared.area.AreaRules.{AreaRules}
use Rattle.jb_base.specs.declared.user.User.{User}
use Rattle.jb_state.specs.Live.{live_count}
use Rattle.jb_state.specs.State.{AreaState, SlotState, killed_message, live_message, next_number, no_message}
use Rattle.jb_state.specs.Visible.{is_shown, unread_by}
use Rattle.jb_tool.specs.Workload.{LoadRun, load_rules, loader}

-- the user sees the live message that stands there
abbrev pub is_seen : AreaRules → User → SlotState → Bool
is_seen rules user no_message = false
is_seen rules user killed_message = false
is_seen rules user (live_message message) = is_shown rules user message

-- a live message that has a parent
abbrev pub has_parent : SlotState → Bool
has_parent no_message = false
has_parent killed_message = false
has_parent (live_message message) = not (message.head.reply_to == 0)

-- so many live messages that have a parent
abbrev pub answer_count : List SlotState → ℕ
answer_count slots = count_by has_parent slots

-- so many messages that the user has not read
abbrev pub unread_count : AreaState → ℕ
unread_count area = length (unread_by load_rules loader area)

-- a name, a space, a number and the end of the line
abbrev pub figure_line : List ℕ → ℕ → List ℕ
figure_line name number = name ++ codes " " ++ decimal number ++ 10 ∷ []

-- the lines of what was done
abbrev pub done_lines : LoadRun → List ℕ
done_lines run = figure_line (codes "posts") run.posts ++ figure_line (codes "reads") run.reads ++ figure_line (codes "kills") run.kills

-- the lines of the messages in these slots, where so many are not read
abbrev pub slot_lines : List SlotState → ℕ → List ℕ
slot_lines slots unread =
    figure_line (codes "live") (live_count slots) ++ figure_line (codes "linked") (answer_count slots) ++ figure_line (codes "unread") unread

-- the lines of the messages that there are then
abbrev pub message_lines : AreaState → List ℕ
message_lines area = slot_lines area.slots (unread_count area)

-- the lines of the numbers, and of the lengths of three files in bytes
abbrev pub file_lines : AreaState → List ℕ
file_lines area =
    figure_line (codes "base") area.base ++ figure_line (codes "next") (next_number area)
    ++ figure_line (codes "JHR") area.headers_len ++ figure_line (codes "JDT") area.texts_len
    ++ figure_line (codes "JDX") (8 * length area.slots)

-- the summary of a run
abbrev pub run_summary : LoadRun → List ℕ
run_summary run = done_lines run ++ message_lines run.area ++ file_lines run.area
