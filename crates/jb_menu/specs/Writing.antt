-- The rows of writing a message.
use Rattle.std.specs.Prelude.{ℕ, ◌+◌, ◌==◌, nat_lt, Bool, ◌||◌, List, [], ◌∷◌, ◌++◌, length, take, codes, bytes_eq, Option, Some, None, if◌then◌else◌}
use Rattle.std.specs.List.{starts_with}
use Rattle.jb_limits.specs.declared.limits.TheConstants.{MOST_POSTED_TEXT_BYTES, MOST_SUBJECT_BYTES}
use Rattle.jb_conf.specs.declared.board.Board.{Board}
use Rattle.jb_model.specs.declared.command.Command.{Command}
use Rattle.jb_model.specs.declared.command.Command.TheVariants as command
use Rattle.jb_text.specs.declared.standing.Fixed.TheVariants.{AskPrivate, AskSubject, Cancelled, NoMessageShown, TextFull, TextLine}
use Rattle.jb_text.specs.Fixed.{fixed_text}
use Rattle.jb_text.specs.Letter.{line}
use Rattle.jb_text.specs.Lines.{replying_text}
use Rattle.jb_menu.specs.Says.{ask, passed_over, say, to_area}
use Rattle.jb_menu.specs.declared.given.Given.{Given}
use Rattle.jb_menu.specs.declared.given.Given.TheVariants.{Line}
use Rattle.jb_menu.specs.declared.moves.Moved.{Moved}
use Rattle.jb_menu.specs.declared.state.Composing.{Composing}
use Rattle.jb_menu.specs.declared.state.Composing.TheVariants.{Edit, New}
use Rattle.jb_menu.specs.declared.state.DraftHead.{DraftHead}
use Rattle.jb_menu.specs.declared.state.Shown.{Shown}
use Rattle.jb_menu.specs.declared.state.MenuStage.TheVariants.{Acting, Private, Subject, Text, To}
use Rattle.jb_menu.specs.declared.state.State.TheVariants.{Area}
use Rattle.jb_menu.specs.declared.state.Visit.{Visit}

-- a subject says already that it is an answer
abbrev pub has_re : List ℕ → Bool
has_re subject = starts_with (λ one other. one == other) subject (codes "Re: ")

-- a subject that says that it is an answer
abbrev pub marked_subject : List ℕ → List ℕ
marked_subject subject = if has_re subject then subject else codes "Re: " ++ subject

-- the subject of the answer to a message, cut to what a post takes
abbrev pub answer_subject : List ℕ → List ℕ
answer_subject subject = take MOST_SUBJECT_BYTES (marked_subject subject)

-- the answer to a message: to its sender, and private where the message is
abbrev pub answering_draft : Shown → DraftHead
answering_draft shown = record {
  to = shown.from;
  subject = answer_subject shown.subject;
  reply_to = shown.number;
  private = shown.private;
}

-- R: the answer to the message that was shown last
abbrev pub reply_row : Board → Visit → Option Shown → Moved
reply_row board visit None = to_area board visit (line (fixed_text NoMessageShown))
reply_row board visit (Some shown) =
    say (line (replying_text shown.from (answer_subject shown.subject)) ++ line (fixed_text TextLine)) (Area visit (Text (New (answering_draft shown)) []))

-- To: the receiver, as it is typed; an empty line cancels
abbrev pub to_row : Board → Visit → Given → Moved
to_row board visit (Line []) = to_area board visit (line (fixed_text Cancelled))
to_row board visit (Line (first ∷ rest)) = say (fixed_text AskSubject) (Area visit (Subject (first ∷ rest)))
to_row board visit _ = passed_over (Area visit To)

-- Subject: the subject, as it is typed
abbrev pub subject_row : Visit → List ℕ → Given → Moved
subject_row visit to (Line subject) = say (fixed_text AskPrivate) (Area visit (Private to subject))
subject_row visit to _ = passed_over (Area visit (Subject to))

-- the line says yes: it is a Y alone, in either case
abbrev pub says_yes : List ℕ → Bool
says_yes typed = bytes_eq typed (codes "Y") || bytes_eq typed (codes "y")

-- Private: private where the line says yes
abbrev pub private_row : Visit → List ℕ → List ℕ → Given → Moved
private_row visit to subject (Line typed) =
    say (line (fixed_text TextLine)) (Area visit (Text (New (record { to = to; subject = subject; reply_to = 0; private = says_yes typed })) []))
private_row visit to subject _ = passed_over (Area visit (Private to subject))

-- the command that a draft is with this text
abbrev pub drafted : Composing → List ℕ → Command
drafted (New head) text = command.Post head.to head.subject text head.reply_to head.private
drafted (Edit number subject) text = command.Edit number subject text

-- the message is posted, or edited
abbrev pub done_row : Visit → Composing → List ℕ → Moved
done_row visit draft text = ask visit (drafted draft text) Acting

-- the line is put behind the text with a carriage return, and nothing is said; where the text would be too long, it is dropped
abbrev pub more_row : Visit → Composing → List ℕ → List ℕ → Moved
more_row visit draft text typed =
    if nat_lt MOST_POSTED_TEXT_BYTES (length text + length typed + 1) then say (line (fixed_text TextFull)) (Area visit (Text draft text))
    else say [] (Area visit (Text draft (text ++ typed ++ 13 ∷ [])))

-- Text: a stop alone posts or edits, an exclamation mark alone cancels, and any other line belongs to the text
abbrev pub text_row : Board → Visit → Composing → List ℕ → Given → Moved
text_row board visit draft text (Line typed) =
    if bytes_eq typed (codes ".") then done_row visit draft text
    else if bytes_eq typed (codes "!") then to_area board visit (line (fixed_text Cancelled))
    else more_row visit draft text typed
text_row board visit draft text _ = passed_over (Area visit (Text draft text))
