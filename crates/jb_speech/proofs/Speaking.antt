-- That there is one conversation over any bytes and answers, and that with more of them it only says and asks more.
use Rattle.std.proofs.Common.{◌≡◌, ℕ, List, ◌++◌, false, true, sym, ◌∙◌, ap, refl, length}
use Rattle.jb_conf.specs.declared.board.Board.{Board}
use Rattle.jb_speech.specs.Conversations.{Conversation, Manner, Says, conversation}
use Rattle.jb_speech.specs.Laws.{EachTalks, TalksGrow, TalksOneWay}
use Rattle.jb_speech.proofs.Growing.{conversation_grows}

-- any bytes are cut into events in one way, and the events of more bytes go on from those of fewer
pub record IsCutting {E : Type 0} (cuts : List ℕ → List E → Type 0) : Type 0 where
  pub each : (bytes : List ℕ) → (events : List E) × cuts bytes events
  pub same : (bytes : List ℕ) (events others : List E) → cuts bytes events → cuts bytes others → events ≡ others
  pub grow : (bytes more : List ℕ) (events : List E) → cuts bytes events → (later : List E) × cuts (bytes ++ more) (events ++ later)

module _ {S E : Type 0} (manner : Board → Manner S E) (cut : (board : Board) → IsCutting (manner board).cuts) where
  pub says_each : EachTalks (λ board. Says (manner board))
  says_each = λ board bytes answers.
      let events = (cut board).each bytes in
      let talk = conversation (manner board) answers events.0 in
      record {
        out = talk.course.out;
        asked = talk.course.asked;
        end = (manner board).end_of talk.course.place (length bytes);
        says = record { events = events.0; cuts = events.1; sends = refl; asks = refl; ends = refl };
      }

  pub says_one_way : TalksOneWay (λ board. Says (manner board))
  says_one_way = λ board bytes answers out other asked others end another one two.
      let same = (cut board).same bytes one.events two.events one.cuts two.cuts in
      let C : List E → Conversation S = λ w. conversation (manner board) answers w in (
        one.sends ∙ ap (λ (w : List E). (C w).course.out) same ∙ sym two.sends,
        one.asks ∙ ap (λ (w : List E). (C w).course.asked) same ∙ sym two.asks,
        one.ends ∙ ap (λ (w : List E). (manner board).end_of (C w).course.place (length bytes)) same ∙ sym two.ends,
      )

  pub says_grow : ((board : Board) (place : S) → (manner board).is_going place ≡ true → (manner board).is_waiting place ≡ false)
      → ((board : Board) → (manner board).is_waiting (manner board).first.place ≡ false) → TalksGrow (λ board. Says (manner board))
  says_grow apart idle = λ board bytes more answers later out all asked every end another one two.
      let on = (cut board).grow bytes more one.events one.cuts in
      let same = (cut board).same (bytes ++ more) (one.events ++ on.0) two.events on.1 two.cuts in
      let grown = conversation_grows (manner board) (apart board) (idle board) answers later one.events on.0 in (
        rw (one.sends, two.sends, ← same) grown.out,
        rw (one.asks, two.asks, ← same) grown.asked,
      )
