use Rattle.std.proofs.Common.{ℕ, ◌+◌, ◌<◌, List, [], ◌∷◌, ◌++◌, length, take, drop, get_or, refl, sym, ap, ◌∙◌, subst, append_assoc, take-append-drop}
use Rattle.std.proofs.lemmas.List.{drop_more}
use Rattle.jb_conf.specs.declared.board.Board.{Board}
use Rattle.jb_menu.specs.declared.given.Given.{Given}
use Rattle.jb_news.specs.Commands.{command_of}
use Rattle.jb_news.specs.declared.line.NewsLine.{NewsLine}
use Rattle.jb_speech.specs.Conversations.{Turn}
use Rattle.jb_speech.specs.Laws.{IsFront}
use Rattle.jb_speech.specs.declared.request.Request.{Request}
use Rattle.jb_speech.proofs.Asking.{Keeps, each_is_asked}
use Rattle.jb_news_talk.specs.Conversations.{given_turn, line_turn, manner_of}
use Rattle.jb_news_talk.specs.Laws.{OnlyReads}
use Rattle.jb_news_talk.specs.Reading.{IsPlaceOn}
use Rattle.jb_news_talk.specs.declared.place.NewsPlace.{NewsPlace}
use Rattle.jb_news_talk.proofs.Hands.{IsTurnOn, command_on, given_on}
use Rattle.jb_news_talk.proofs.Turning.{not_waiting}
use Rattle.jb_news_talk.proofs.laws.news_only_reads.Goals as goal

module _ (board : Board) where
  -- a request only reads, wherever it is asked
  abbrev Reads : NewsPlace → Request → Type 0
  Reads place = OnlyReads board

  keeps : (turn : Turn NewsPlace) → IsTurnOn board turn → Keeps (IsPlaceOn board) Reads turn
  keeps turn on = record { place = on.place; request = on.reads }

  line_keeps : (place : NewsPlace) (line : NewsLine) → IsPlaceOn board place → Keeps (IsPlaceOn board) Reads (line_turn board place line)
  line_keeps place line on = keeps (line_turn board place line) (command_on board place.chosen on.group (command_of line))

  given_keeps : (place : NewsPlace) (given : Given) → IsPlaceOn board place → Keeps (IsPlaceOn board) Reads (given_turn board place given)
  given_keeps place given on = keeps (given_turn board place given) (given_on board place.chosen place.stage given on.group on.stage)

-- each request stands behind those before it
front_at : (asked : List Request) (k : ℕ) (d : Request) → k < length asked → IsFront (take k asked ++ get_or asked k d ∷ []) asked
front_at asked k d within = record {
  rest = drop (k + 1) asked;
  is = sym (take-append-drop k asked) ∙ ap (λ w. take k asked ++ w) (drop_more asked k d within)
      ∙ sym (append_assoc (take k asked) (get_or asked k d ∷ []) (drop (k + 1) asked));
}

pub returns : goal.returns
returns c = λ board bytes out answers asked end talked k d within.
    (each_is_asked (manner_of board) (λ place. not_waiting place.stage) (IsPlaceOn board) (Reads board) (take k asked) (get_or asked k d) (line_keeps board)
    (given_keeps board) (record { group = tt; stage = record { area = tt; order = tt } }) refl refl talked.events answers
    (subst (IsFront (take k asked ++ get_or asked k d ∷ [])) talked.asks (front_at asked k d within))).of
