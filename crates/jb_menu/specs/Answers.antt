-- The rows of what an area answers.
use Rattle.std.specs.Prelude.{ℕ, not, ◌==◌, Bool, true, false, bit_and, List, [], ◌∷◌, ◌++◌, flat_map, Some}
use Rattle.jb_base.specs.declared.attribute.TheConstants.{PRIVATE}
use Rattle.jb_conf.specs.declared.board.Board.{Board}
use Rattle.jb_model.specs.declared.command.Command.TheVariants.{Read, SetMark}
use Rattle.jb_state.specs.declared.look.Answer.TheVariants.{Summaries}
use Rattle.jb_model.specs.declared.reply.Letter.{Letter}
use Rattle.jb_model.specs.declared.reply.Reply.TheVariants.{Marked, Text}
use Rattle.jb_state.specs.declared.summary.Summary.{Summary}
use Rattle.jb_state.specs.Short.{kept_of}
use Rattle.jb_text.specs.declared.standing.Fixed.TheVariants.{Nothing, NoUnread}
use Rattle.jb_text.specs.Faults.{fault_text}
use Rattle.jb_text.specs.Fixed.{fixed_text}
use Rattle.jb_text.specs.Letter.{letter_text, line}
use Rattle.jb_text.specs.Lines.{listing_text}
use Rattle.jb_text.specs.Replies.{reply_text}
use Rattle.jb_menu.specs.Says.{ask, passed_over, to_area}
use Rattle.jb_menu.specs.declared.given.Given.{Given}
use Rattle.jb_menu.specs.declared.given.Given.TheVariants.{Answer, Fault, Reply}
use Rattle.jb_menu.specs.declared.moves.Moved.{Moved}
use Rattle.jb_menu.specs.declared.state.Shown.{Shown}
use Rattle.jb_menu.specs.declared.state.MenuStage.TheVariants.{Acting, Listing, Marking, Reading, Seeking}
use Rattle.jb_menu.specs.declared.state.State.TheVariants.{Area}
use Rattle.jb_menu.specs.declared.state.Visit.{Visit}

-- the line of a message in a list, with as much of its names and subject as a summary keeps
abbrev pub listing_line : Summary → List ℕ
listing_line one = line (listing_text one.number (kept_of 36 one.from) (kept_of 36 one.to) (kept_of 72 one.subject))

-- the lines of a list; an empty one says so
abbrev pub list_lines : List Summary → List ℕ
list_lines [] = line (fixed_text Nothing)
list_lines (first ∷ rest) = flat_map listing_line (first ∷ rest)

-- L, T, Y: the lines of the list
abbrev pub listing_row : Board → Visit → Given → Moved
listing_row board visit (Answer (Summaries messages)) = to_area board visit (list_lines messages)
listing_row board visit (Fault fault) = to_area board visit (line (fault_text fault))
listing_row board visit _ = passed_over (Area visit Listing)

-- N: the first unread message is read, and marked
abbrev pub seeking_row : Board → Visit → Given → Moved
seeking_row board visit (Answer (Summaries [])) = to_area board visit (line (fixed_text NoUnread))
seeking_row board visit (Answer (Summaries (first ∷ rest))) = ask visit (Read first.number) (Reading true)
seeking_row board visit (Fault fault) = to_area board visit (line (fault_text fault))
seeking_row board visit _ = passed_over (Area visit Seeking)

-- what is kept of a message that is shown
abbrev pub shown_of : Letter → Shown
shown_of letter = record {
  number = letter.number;
  from = letter.from;
  subject = letter.subject;
  private = not (bit_and letter.attribute PRIVATE == 0);
}

-- the visit in which the message was shown last
abbrev pub with_shown : Visit → Letter → Visit
with_shown visit letter = record { user = visit.user; area = visit.area; shown = Some (shown_of letter) }

-- N and a number: the message; N asks for the mark of its number before it says it; a refusal keeps the message shown before
abbrev pub reading_row : Board → Visit → Bool → Given → Moved
reading_row board visit true (Reply (Text letter)) =
    ask (with_shown visit letter) (SetMark letter.number) (Marking (letter_text letter board.offset))
reading_row board visit false (Reply (Text letter)) = to_area board (with_shown visit letter) (letter_text letter board.offset)
reading_row board visit marks (Reply reply) = to_area board visit (line (reply_text reply))
reading_row board visit marks (Fault fault) = to_area board visit (line (fault_text fault))
reading_row board visit marks _ = passed_over (Area visit (Reading marks))

-- N: the message; what comes of the mark is said behind it, where it is not marked
abbrev pub marking_row : Board → Visit → List ℕ → Given → Moved
marking_row board visit text (Reply (Marked last high)) = to_area board visit text
marking_row board visit text (Reply reply) = to_area board visit (text ++ line (reply_text reply))
marking_row board visit text (Fault fault) = to_area board visit (text ++ line (fault_text fault))
marking_row board visit text _ = passed_over (Area visit (Marking text))

-- a post, an edit, K, M, X, Z: the line of the reply
abbrev pub acting_row : Board → Visit → Given → Moved
acting_row board visit (Reply reply) = to_area board visit (line (reply_text reply))
acting_row board visit (Fault fault) = to_area board visit (line (fault_text fault))
acting_row board visit _ = passed_over (Area visit Acting)
