-- The rows of editing a message, up to its text.
use Rattle.std.specs.Prelude.{ℕ, List, [], ◌∷◌}
use Rattle.jb_conf.specs.declared.board.Board.{Board}
use Rattle.jb_model.specs.declared.reply.Letter.{Letter}
use Rattle.jb_model.specs.declared.reply.Reply.TheVariants as reply
use Rattle.jb_text.specs.declared.standing.Fixed.TheVariants.{AskEdit, TextLine}
use Rattle.jb_text.specs.Faults.{fault_text}
use Rattle.jb_text.specs.Fixed.{fixed_text}
use Rattle.jb_text.specs.Letter.{line}
use Rattle.jb_text.specs.Replies.{reply_text}
use Rattle.jb_menu.specs.Says.{passed_over, say, to_area}
use Rattle.jb_menu.specs.declared.given.Given.{Given}
use Rattle.jb_menu.specs.declared.given.Given.TheVariants.{Fault, Line, Reply}
use Rattle.jb_menu.specs.declared.moves.Moved.{Moved}
use Rattle.jb_menu.specs.declared.state.Composing.TheVariants.{Edit}
use Rattle.jb_menu.specs.declared.state.MenuStage.TheVariants.{EditSubject, Peeking, Text}
use Rattle.jb_menu.specs.declared.state.State.TheVariants.{Area}
use Rattle.jb_menu.specs.declared.state.Visit.{Visit}

-- another subject of the message is asked for, and the whole subject that it has is kept
abbrev pub edit_asked : Visit → Letter → Moved
edit_asked visit letter = say (fixed_text AskEdit) (Area visit (EditSubject letter.number letter.subject))

-- E: the message, which is not shown; after a refusal there is nothing to edit
abbrev pub peeking_row : Board → Visit → Given → Moved
peeking_row board visit (Reply (reply.Text letter)) = edit_asked visit letter
peeking_row board visit (Reply refusal) = to_area board visit (line (reply_text refusal))
peeking_row board visit (Fault fault) = to_area board visit (line (fault_text fault))
peeking_row board visit _ = passed_over (Area visit Peeking)

-- the subject that is typed; an empty line keeps the one that the message has, however long it is
abbrev pub chosen_subject : List ℕ → List ℕ → List ℕ
chosen_subject [] subject = subject
chosen_subject (first ∷ rest) subject = first ∷ rest

-- EditSubject: the subject, as it is typed
abbrev pub edit_subject_row : Visit → ℕ → List ℕ → Given → Moved
edit_subject_row visit number subject (Line typed) =
    say (line (fixed_text TextLine)) (Area visit (Text (Edit number (chosen_subject typed subject)) []))
edit_subject_row visit number subject _ = passed_over (Area visit (EditSubject number subject))
