-- The answers of an index: filters of its summaries.
use Rattle.std.specs.Prelude.{ℕ, nat_le, nat_lt, Bool, List, [], Option, filter, length, option_map, take, unwrap_or, if◌then◌else◌}
use Rattle.jb_base.specs.Access.{Envelope, is_visible}
use Rattle.jb_bytes.specs.Crc.{jam_crc_of}
use Rattle.jb_bytes.specs.Name.{same_name}
use Rattle.jb_base.specs.declared.area.AreaRules.{AreaRules}
use Rattle.jb_base.specs.declared.user.User.{User}
use Rattle.jb_index.specs.Index.{AreaIndex}
use Rattle.jb_index.specs.Thread.{thread_among}
use Rattle.jb_state.specs.Marks.{mark_of}
use Rattle.jb_state.specs.Short.{kept_of}
use Rattle.jb_state.specs.declared.look.Answer.{Answer}
use Rattle.jb_state.specs.declared.look.Answer.TheVariants.{Summaries as Listed, Figures as Counted}
use Rattle.jb_state.specs.declared.look.Question.{Question}
use Rattle.jb_state.specs.declared.look.Question.TheVariants.{List as Listing, Unread, Thread, To, Figures as Counting}
use Rattle.jb_state.specs.declared.mark.Mark.{Mark}
use Rattle.jb_state.specs.declared.short.Short.{Short}
use Rattle.jb_state.specs.declared.summary.Figures.{Figures}
use Rattle.jb_state.specs.declared.summary.Summary.{Summary}

-- the name of a party; one that is longer than what is kept of it is nobody's, as the empty one
abbrev pub name_in : Short 36 → List ℕ
name_in short = if nat_lt 36 short.length then [] else kept_of 36 short

-- what the rules of an area look at
abbrev pub envelope_in : Summary → Envelope
envelope_in one = record { sender = name_in one.from; receiver = name_in one.to; attribute = one.attribute }

-- no rule refuses that the user sees the message
abbrev pub is_listed : AreaRules → User → Summary → Bool
is_listed rules user one = is_visible user rules (envelope_in one)

-- the messages that the user sees
abbrev pub listed_to : AreaIndex → User → List Summary
listed_to index user = filter (is_listed index.rules user) index.summaries

-- the user's mark
abbrev pub mark_in : AreaIndex → User → Option Mark
mark_in index user = mark_of (jam_crc_of user.name) user.id index.marks

-- the number that the mark has as read last, or 0
abbrev pub last_of : Option Mark → ℕ
last_of mark = unwrap_or (option_map (λ one. one.last) mark) 0

-- the highest number that the mark has had, or 0
abbrev pub high_of : Option Mark → ℕ
high_of mark = unwrap_or (option_map (λ one. one.high) mark) 0

-- those of them above the number read last
abbrev pub unread_to : AreaIndex → User → List Summary
unread_to index user = filter (λ one. nat_lt (last_of (mark_in index user)) one.number) (listed_to index user)

-- those of them whose receiver is the user
abbrev pub received_by : AreaIndex → User → List Summary
received_by index user = filter (λ one. same_name user.name (name_in one.to)) (listed_to index user)

-- those of them in the thread of this number, which is one of theirs; else none
abbrev pub thread_to : AreaIndex → User → ℕ → List Summary
thread_to index user number = thread_among index.summaries (listed_to index user) number

-- the first of them with numbers from this one on
abbrev pub first_from : ℕ → ℕ → List Summary → List Summary
first_from from most summaries = take most (filter (λ one. nat_le from one.number) summaries)

-- the figures for the user
abbrev pub figures_to : AreaIndex → User → Figures
figures_to index user = record {
  base = index.base;
  next = index.next;
  visible = length (listed_to index user);
  unread = length (unread_to index user);
  last = last_of (mark_in index user);
  high = high_of (mark_in index user);
}

-- the answer to a question
abbrev pub answer_to : AreaIndex → User → Question → Answer
answer_to index user (Listing from most) = Listed (first_from from most (listed_to index user))
answer_to index user (Unread from most) = Listed (first_from from most (unread_to index user))
answer_to index user (Thread number most) = Listed (take most (thread_to index user number))
answer_to index user (To from most) = Listed (first_from from most (received_by index user))
answer_to index user Counting = Counted (figures_to index user)
