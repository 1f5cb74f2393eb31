-- What is sent and asked in one turn, and which message an area names first.
use Rattle.std.specs.Prelude.{ℕ, List, [], ◌∷◌, Option, Some, None}
use Rattle.jb_state.specs.declared.look.Question.TheVariants as question
use Rattle.jb_state.specs.declared.summary.Summary.{Summary}
use Rattle.jb_news.specs.Responses.{response_text}
use Rattle.jb_news.specs.declared.responses.FixedResponse.{FixedResponse}
use Rattle.jb_speech.specs.Conversations.{Turn}
use Rattle.jb_speech.specs.declared.request.Act.{Act}
use Rattle.jb_speech.specs.declared.request.Act.TheVariants.{Look}
use Rattle.jb_speech.specs.declared.request.Request.TheVariants.{Area, Clock}
use Rattle.jb_news_talk.specs.declared.place.Chosen.{Chosen}
use Rattle.jb_news_talk.specs.declared.place.NewsPlace.{NewsPlace}
use Rattle.jb_news_talk.specs.declared.place.NewsStage.{NewsStage}
use Rattle.jb_news_talk.specs.declared.place.NewsStage.TheVariants as stage

-- the greatest number of an article
abbrev pub greatest : ℕ
greatest = 2_147_483_647

-- so many messages are looked at together
abbrev pub piece : ℕ
piece = 100

-- these bytes are sent, and the next line is awaited
abbrev pub answers : Chosen → List ℕ → Turn NewsPlace
answers chosen text = record { place = record { chosen = chosen; stage = stage.Idle }; text = text; request = None }

-- an answer that is always the same
abbrev pub responds : Chosen → FixedResponse → Turn NewsPlace
responds chosen response = answers chosen (response_text response)

-- these bytes are sent, and the area is asked this, whose answer is awaited at a stage
abbrev pub tells_and_asks : Chosen → List ℕ → NewsStage → ℕ → Act → Turn NewsPlace
tells_and_asks chosen text awaited area act =
    record { place = record { chosen = chosen; stage = awaited }; text = text; request = Some (Area (record { user = 0; area = area; act = act })) }

-- the area is asked this
abbrev pub asks : Chosen → NewsStage → ℕ → Act → Turn NewsPlace
asks chosen awaited area act = tells_and_asks chosen [] awaited area act

-- the clock is asked
abbrev pub asks_clock : Chosen → Turn NewsPlace
asks_clock chosen = record { place = record { chosen = chosen; stage = stage.Dating }; text = []; request = Some Clock }

-- the messages from a number on, at most so many
abbrev pub listing : ℕ → ℕ → Act
listing from most = Look (question.List from most)

-- the number of the first of these messages
abbrev pub first_number : List Summary → Option ℕ
first_number [] = None
first_number (one ∷ rest) = Some one.number
