-- The threads of an index: from parent to parent until there is none.
use Rattle.std.specs.Prelude.{ℕ, zero, suc, nat_lt, ◌==◌, List, [], Option, Some, None, filter, find, is_some, if◌then◌else◌}
use Rattle.jb_state.specs.declared.summary.Summary.{Summary}

-- the parent of a message in a list, where there is one; it has a lower number
abbrev pub lower_parent : Option Summary → ℕ
lower_parent None = 0
lower_parent (Some one) = if nat_lt one.parent one.number then one.parent else 0

-- the parent that a list has for a number, or 0
abbrev pub parent_in : List Summary → ℕ → ℕ
parent_in summaries number = lower_parent (find (λ one. one.number == number) summaries)

-- so many parents up from a number, or fewer where there is no further one
abbrev pub up_within : ℕ → List Summary → ℕ → ℕ
up_within zero summaries number = number
up_within (suc steps) summaries number =
    if parent_in summaries number == 0 then number else up_within steps summaries (parent_in summaries number)

-- the message with which the thread of this one begins
abbrev pub root_in : List Summary → ℕ → ℕ
root_in summaries number = up_within number summaries number

-- those of them whose thread begins where that of the number does, which is one of theirs; else none
abbrev pub thread_among : List Summary → List Summary → ℕ → List Summary
thread_among summaries shown number =
    if is_some (find (λ one. one.number == number) shown)
    then filter (λ one. root_in summaries one.number == root_in summaries number) shown
    else []
