-- A conversation: what is sent and asked over all events and answers, by what one of each leads to.
use Rattle.std.specs.Prelude.{◌≡◌, ℕ, Bool, List, [], ◌∷◌, ◌++◌, length, Option, if◌then◌else◌}
use Rattle.std.specs.List.{fold}
use Rattle.std.specs.Option.{option_to_list}
use Rattle.jb_menu.specs.declared.given.Given.{Given}
use Rattle.jb_speech.specs.Laws.{IsFront}
use Rattle.jb_speech.specs.declared.end.TalkEnd.{TalkEnd}
use Rattle.jb_speech.specs.declared.request.Request.{Request}

-- where a speaker is then, what is sent, and what is asked
pub record Turn (S : Type 0) : Type 0 where
  pub place : S
  pub text : List ℕ
  pub request : Option Request

-- where a conversation has come to: what was sent and asked so far
pub record Course (S : Type 0) : Type 0 where
  pub place : S
  pub out : List ℕ
  pub asked : List Request

-- where it has come to, and the answers that are left
pub record Conversation (S : Type 0) : Type 0 where
  pub course : Course S
  pub left : List Given

-- how a speaker speaks: how it begins, which events bytes are, what an event and an answer lead to, where it goes on, where it waits for an
-- answer, and how it ends at a place behind so many bytes
pub record Manner (S E : Type 0) : Type 1 where
  pub first : Course S
  pub cuts : List ℕ → List E → Type 0
  pub event_turn : S → E → Turn S
  pub given_turn : S → Given → Turn S
  pub is_going : S → Bool
  pub is_waiting : S → Bool
  pub end_of : S → ℕ → TalkEnd

-- a turn more
abbrev pub went : {S : Type 0} → Course S → Turn S → Course S
went course turn = record {
  place = turn.place;
  out = course.out ++ turn.text;
  asked = course.asked ++ option_to_list turn.request;
}

module _ {S E : Type 0} (manner : Manner S E) where
  -- as many of these answers as are asked for, one after the other
  abbrev pub answered : Course S → List Given → Conversation S
  answered course [] = record { course = course; left = [] }
  answered course (given ∷ left) =
      if manner.is_waiting course.place then answered (went course (manner.given_turn course.place given)) left
      else record { course = course; left = given ∷ left }

  -- an event, and the answers that it leads to ask for; behind the end, or while an answer is missing, it is not heard
  abbrev pub heard : Conversation S → E → Conversation S
  heard talk event =
      if manner.is_going talk.course.place then answered (went talk.course (manner.event_turn talk.course.place event)) talk.left
      else talk

  -- the conversation over these events, with these answers
  abbrev pub conversation : List Given → List E → Conversation S
  conversation answers events = fold heard (record { course = manner.first; left = answers }) events

  -- over these bytes, with these answers, this is sent and asked, and it ends so
  pub record Says (bytes : List ℕ) (answers : List Given) (out : List ℕ) (asked : List Request) (end : TalkEnd) : Type 0 where
    pub events : List E
    pub cuts : manner.cuts bytes events
    pub sends : out ≡ (conversation answers events).course.out
    pub asks : asked ≡ (conversation answers events).course.asked
    pub ends : end ≡ manner.end_of (conversation answers events).course.place (length bytes)

  -- over these events and answers it has come here, whatever answers come later
  abbrev pub ComesTo : List E → List Given → Course S → Type 0
  ComesTo events answers course = (later : List Given) → conversation (answers ++ later) events ≡ answered course later

  -- over a beginning of these events and answers it asks this request behind those before, and there this holds of its place and of the request
  pub record IsAsked (events : List E) (answers : List Given) (before : List Request) (request : Request) (Of : S → Request → Type 0) : Type 0 where
    pub front : List E
    pub given : List Given
    pub heard : IsFront front events
    pub answered : IsFront given answers
    pub asks : (conversation given front).course.asked ≡ before ++ request ∷ []
    pub of : Of (conversation given front).course.place request

-- a speaker as it is held: what is kept of bytes that are no event yet, how many bytes were taken, where it is, and what is to be sent
pub record Held (K S : Type 0) : Type 0 where
  pub kept : K
  pub taken : ℕ
  pub place : S
  pub owed : List ℕ

-- where the conversation has come to, where these bytes and requests were handed out
abbrev pub course_of : {K S : Type 0} → Held K S → List ℕ → List Request → Course S
course_of held sent asked = record { place = held.place; out = sent ++ held.owed; asked = asked }

-- a turn was taken: its text is owed besides
abbrev pub owing : {K S : Type 0} → Held K S → Turn S → Held K S
owing held turn = record held { place = turn.place; owed = held.owed ++ turn.text }

-- over these bytes and answers, these bytes and requests were handed out, and the rest stands ready: whatever answers come later
pub record HasSaid {K S E : Type 0} (manner : Manner S E) (reads : K → List ℕ → List E → Type 0) (held : Held K S)
    (bytes : List ℕ) (answers : List Given) (sent : List ℕ) (asked : List Request) : Type 0 where
  pub counted : held.taken ≡ length bytes
  pub events : List E
  pub read : reads held.kept bytes events
  pub is : ComesTo manner events answers (course_of held sent asked)
