-- What a conversation that takes a turn hands out, and that it does not go on while it waits.
use Rattle.std.proofs.Common.{◌≡◌, true, false, refl, arith}
use Rattle.std.specs.Prelude.{Err, IfOk, Ok, Result}
use Rattle.jb_conf.specs.declared.board.Board.{Board}
use Rattle.jb_speech.specs.Conversations.{Turn, owing}
use Rattle.jb_news_talk.specs.Conversations.{is_going, is_waiting}
use Rattle.jb_news_talk.specs.Newsgroups.{news_user}
use Rattle.jb_news_talk.specs.Reading.{NewsHands, NewsTalking}
use Rattle.jb_news_talk.specs.declared.place.NewsPlace.{NewsPlace}
use Rattle.jb_news_talk.specs.declared.place.NewsStage.{NewsStage}
use Rattle.jb_news_talk.specs.declared.place.NewsStage.TheVariants as stage
use Rattle.jb_news_talk.proofs.Hands.{IsTurnOn}

-- two facts of one answer
pub ok_both : {T E : Type 0} (r : Result T E) (P Q R : T → Type 0) → ((x : T) → P x → Q x → R x) → IfOk r P → IfOk r Q → IfOk r R
ok_both (Ok x) P Q R f p q = f x p q
ok_both (Err e) P Q R f p q = tt

-- a turn that keeps the areas hands out its request
pub hands_turn : (board : Board) (talk : NewsTalking) (turn : Turn NewsPlace) → talk.user ≡ news_user board → IsTurnOn board turn
    → NewsHands board (record talk { held = owing talk.held turn }) turn.request
hands_turn board talk turn user on = record { user = user; place = on.place; waits = on.waits; of = on.of }

-- what goes on does not wait
pub not_waiting : (at : NewsStage) → is_going at ≡ true → is_waiting at ≡ false
not_waiting stage.Idle going = refl
not_waiting stage.Over going = refl
not_waiting stage.Broken going = refl
not_waiting _ going = absurd (grind arith)
