-- A conversation from where it has come to: a turn after the other, as long as one follows.
use Rattle.std.proofs.Common.{◌≡◌, Bool, true, false, List, [], ◌∷◌, ◌++◌, refl, sym, ◌∙◌, ap, subst, arith, append_assoc, append-nil}
use Rattle.std.specs.List.{fold}
use Rattle.std.proofs.lemmas.List.Sums.{fold-append}
use Rattle.jb_menu.specs.declared.given.Given.{Given}
use Rattle.jb_speech.specs.Conversations.{ComesTo, Conversation, Course, Manner, answered, conversation, heard, went}

module _ {S E : Type 0} (m : Manner S E) where
  -- where no answer is waited for, the answers are left
  pub stays : (course : Course S) (left : List Given) → m.is_waiting course.place ≡ false → answered m course left ≡ record { course = course; left = left }
  stays course [] idle = refl
  stays course (given ∷ left) idle = rw idle refl

  -- where one is waited for, it is taken
  pub takes : (course : Course S) (given : Given) (left : List Given) → m.is_waiting course.place ≡ true
      → answered m course (given ∷ left) ≡ answered m (went course (m.given_turn course.place given)) left
  takes course given left waits = rw waits refl

  -- an event is heard where the conversation goes on
  pub hears : (talk : Conversation S) (event : E) → m.is_going talk.course.place ≡ true
      → heard m talk event ≡ answered m (went talk.course (m.event_turn talk.course.place event)) talk.left
  hears talk event on = rw on refl

  -- and passed over elsewhere
  pub passes : (talk : Conversation S) (event : E) → m.is_going talk.course.place ≡ false → heard m talk event ≡ talk
  passes talk event off = rw off refl

  -- where it does not go on, nothing is heard
  stays_off : (talk : Conversation S) (events : List E) → m.is_going talk.course.place ≡ false → fold (heard m) talk events ≡ talk
  stays_off talk [] off = refl
  stays_off talk (event ∷ events) off = ap (λ (w : Conversation S). fold (heard m) w events) (passes talk event off) ∙ stays_off talk events off

  -- where it comes to from here over these answers and events
  abbrev pub run : Course S → List Given → List E → Course S
  run course left events = (fold (heard m) (answered m course left) events).course

  pub run_answer : (course : Course S) (given : Given) (left : List Given) (events : List E) → m.is_waiting course.place ≡ true
      → run course (given ∷ left) events ≡ run (went course (m.given_turn course.place given)) left events
  run_answer course given left events waits = ap (λ (w : Conversation S). (fold (heard m) w events).course) (takes course given left waits)

  pub run_event : (course : Course S) (left : List Given) (event : E) (events : List E) → m.is_waiting course.place ≡ false → m.is_going course.place ≡ true
      → run course left (event ∷ events) ≡ run (went course (m.event_turn course.place event)) left events
  run_event course left event events idle on =
      ap (λ (w : Conversation S). (fold (heard m) (heard m w event) events).course) (stays course left idle)
      ∙ ap (λ (w : Conversation S). (fold (heard m) w events).course) (hears (record { course = course; left = left }) event on)

  pub run_first : m.is_waiting m.first.place ≡ false → (answers : List Given) (events : List E) → (conversation m answers events).course ≡ run m.first answers events
  run_first idle answers events = ap (λ (w : Conversation S). (fold (heard m) w events).course) (sym (stays m.first answers idle))

  -- what holds where nothing more is done, and is kept by the turn before an answer and by the turn before an event, holds of each
  module _ (apart : (place : S) → m.is_going place ≡ true → m.is_waiting place ≡ false) (P : Course S → List Given → List E → Course S → Type 0)
      (stop : (course : Course S) (left : List Given) (events : List E) → P course left events course)
      (answer : (course : Course S) (given : Given) (left : List Given) (events : List E) (to : Course S) → m.is_waiting course.place ≡ true
      → P (went course (m.given_turn course.place given)) left events to → P course (given ∷ left) events to)
      (hear : (course : Course S) (left : List Given) (event : E) (events : List E) (to : Course S) → m.is_waiting course.place ≡ false → m.is_going course.place ≡ true
      → P (went course (m.event_turn course.place event)) left events to → P course left (event ∷ events) to) where
    -- the answers first
    by_answers : (events : List E) → ((course : Course S) (left : List Given) → m.is_waiting course.place ≡ false → P course left events (run course left events))
        → (left : List Given) (course : Course S) → P course left events (run course left events)
    by_answers events idle [] course = by (m.is_waiting course.place) (m.is_going course.place) refl refl
      where
        by : (waits on : Bool) → m.is_waiting course.place ≡ waits → m.is_going course.place ≡ on → P course [] events (run course [] events)
        by false on waits is = idle course [] waits
        by true false waits is =
            subst (P course [] events) (sym (ap (λ (w : Conversation S). w.course) (stays_off (record { course = course; left = [] }) events is))) (stop course [] events)
        by true true waits is = absurd (grind (arith, waits, apart course.place is))
    by_answers events idle (given ∷ left) course =
        by (m.is_waiting course.place) refl (by_answers events idle left (went course (m.given_turn course.place given)))
      where
        by : (waits : Bool) → m.is_waiting course.place ≡ waits
            → P (went course (m.given_turn course.place given)) left events (run (went course (m.given_turn course.place given)) left events)
            → P course (given ∷ left) events (run course (given ∷ left) events)
        by false waits later = idle course (given ∷ left) waits
        by true waits later = subst (P course (given ∷ left) events) (sym (run_answer course given left events waits)) (answer course given left events _ waits later)

    -- and then the events
    by_events : (events : List E) (course : Course S) (left : List Given) → m.is_waiting course.place ≡ false → P course left events (run course left events)
    by_events [] course left idle = subst (P course left []) (sym (ap (λ (w : Conversation S). w.course) (stays course left idle))) (stop course left [])
    by_events (event ∷ events) course left idle =
        by (m.is_going course.place) refl (by_answers events (by_events events) left (went course (m.event_turn course.place event)))
      where
        by : (on : Bool) → m.is_going course.place ≡ on
            → P (went course (m.event_turn course.place event)) left events (run (went course (m.event_turn course.place event)) left events)
            → P course left (event ∷ events) (run course left (event ∷ events))
        by false off later =
            subst (P course left (event ∷ events)) (sym (ap (λ (w : Conversation S). (fold (heard m) w (event ∷ events)).course) (stays course left idle)
            ∙ ap (λ (w : Conversation S). w.course) (stays_off (record { course = course; left = left }) (event ∷ events) off)))
            (stop course left (event ∷ events))
        by true on later =
            subst (P course left (event ∷ events)) (sym (run_event course left event events idle on)) (hear course left event events _ idle on later)

    pub runs : (course : Course S) (left : List Given) (events : List E) → P course left events (run course left events)
    runs course left events = by_answers events (by_events events) left course

  -- it begins
  pub comes_first : m.is_waiting m.first.place ≡ false → ComesTo m [] [] m.first
  comes_first idle = λ later. sym (stays m.first later idle)

  -- an event is heard
  pub comes_on : (events : List E) (answers : List Given) (course : Course S) (event : E) → ComesTo m events answers course → m.is_going course.place ≡ true
      → m.is_waiting course.place ≡ false → ComesTo m (events ++ event ∷ []) answers (went course (m.event_turn course.place event))
  comes_on events answers course event come on idle = λ later.
      fold-append (heard m) (record { course = m.first; left = answers ++ later }) events (event ∷ [])
      ∙ ap (λ (w : Conversation S). heard m w event) (come later ∙ stays course later idle) ∙ hears (record { course = course; left = later }) event on

  -- an event is passed over
  pub comes_over : (events : List E) (answers : List Given) (course : Course S) (event : E) → ComesTo m events answers course → m.is_going course.place ≡ false
      → m.is_waiting course.place ≡ false → ComesTo m (events ++ event ∷ []) answers course
  comes_over events answers course event come off idle = λ later.
      fold-append (heard m) (record { course = m.first; left = answers ++ later }) events (event ∷ [])
      ∙ ap (λ (w : Conversation S). heard m w event) (come later ∙ stays course later idle) ∙ passes (record { course = course; left = later }) event off
      ∙ sym (stays course later idle)

  -- an answer is taken
  pub comes_by : (events : List E) (answers : List Given) (course : Course S) (given : Given) → ComesTo m events answers course → m.is_waiting course.place ≡ true
      → ComesTo m events (answers ++ given ∷ []) (went course (m.given_turn course.place given))
  comes_by events answers course given come waits = λ later.
      ap (λ (w : List Given). conversation m w events) (append_assoc answers (given ∷ []) later) ∙ come (given ∷ later) ∙ takes course given later waits

  -- it is the conversation so far
  pub comes : (events : List E) (answers : List Given) (course : Course S) → ComesTo m events answers course → conversation m answers events ≡ record { course = course; left = [] }
  comes events answers course come = ap (λ (w : List Given). conversation m w events) (sym (append-nil answers)) ∙ come []
