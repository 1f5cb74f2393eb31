-- What an index of an area has: a line for each live message, the marks, two numbers and the rules.
use Rattle.std.specs.Prelude.{ℕ, List, map}
use Rattle.jb_bytes.specs.Subfields.{receiver_of, sender_of}
use Rattle.jb_base.specs.declared.area.AreaRules.{AreaRules}
use Rattle.jb_bytes.specs.declared.subfield.Subfield.{Subfield}
use Rattle.jb_state.specs.Links.{Linkable, linkables_of, parent_at, parent_of}
use Rattle.jb_state.specs.Live.{Numbered, live_in}
use Rattle.jb_state.specs.Message.{subject_of}
use Rattle.jb_state.specs.Short.{short_of}
use Rattle.jb_state.specs.State.{AreaState, next_number}
use Rattle.jb_state.specs.declared.mark.Mark.{Mark}
use Rattle.jb_state.specs.declared.message.Head.{Head}
use Rattle.jb_state.specs.declared.summary.Summary.{Summary}

-- summaries in rising order of their numbers, of which the rules' `slots` fit, the marks, the base number, the next number
pub record AreaIndex : Type 0 where
  pub summaries : List Summary
  pub marks : List Mark
  pub base : ℕ
  pub next : ℕ
  pub rules : AreaRules

-- the summary of a message with this number, header, subfields and parent
abbrev pub summary_with : ℕ → Head → List Subfield → ℕ → Summary
summary_with number head subfields parent = record {
  number = number;
  from = short_of 36 (sender_of subfields);
  to = short_of 36 (receiver_of subfields);
  subject = short_of 72 (subject_of subfields);
  written = head.written;
  attribute = head.attribute;
  parent = parent;
}

-- the summary of a message, with the parent that these live messages give it
abbrev pub summary_of : List Linkable → Numbered → Summary
summary_of live one = summary_with one.number one.message.head one.message.subfields (parent_at live one.number)

-- the index of an area
abbrev pub index_of : AreaRules → AreaState → AreaIndex
index_of rules state = record {
  summaries = map (summary_of (linkables_of state)) (live_in state);
  marks = state.marks;
  base = state.base;
  next = next_number state;
  rules = rules;
}

-- the parent of each live message, in rising order of the numbers
abbrev pub parents_in : AreaState → List ℕ
parents_in state = map (parent_of (linkables_of state)) (linkables_of state)
