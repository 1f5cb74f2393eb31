-- That each request is asked by a turn, so that what holds of the requests of turns holds of all that are asked.
use Rattle.std.proofs.Common.{◌≡◌, ◌⊎◌, inl, inr, ◌<◌, ◌≤◌, true, false, List, [], ◌∷◌, ◌++◌, length, Option, None, Some, refl, sym, ◌∙◌, ap, subst, arith, length-append}
use Rattle.std.specs.Prelude.{IfSome, get_or, take}
use Rattle.std.specs.Option.{option_to_list}
use Rattle.std.proofs.lemmas.Bool.{cases_lt}
use Rattle.std.proofs.lemmas.List.{get_or_at, take_at}
use Rattle.jb_menu.specs.declared.given.Given.{Given}
use Rattle.jb_speech.specs.Conversations.{Course, IsAsked, Manner, Turn, conversation, went}
use Rattle.jb_speech.specs.Laws.{IsFront}
use Rattle.jb_speech.specs.declared.request.Request.{Request}
use Rattle.jb_speech.proofs.Growing.{Grows, grows_refl, grows_went}
use Rattle.jb_speech.proofs.Running.{run, run_answer, run_event, run_first, runs}

front_more : {T : Type 0} (x : T) (xs ys : List T) → IsFront xs ys → IsFront (x ∷ xs) (x ∷ ys)
front_more x xs ys front = record { rest = front.rest; is = ap (λ w. x ∷ w) front.is }

front_within : {T : Type 0} (xs ys : List T) → IsFront xs ys → length xs ≤ length ys
front_within xs ys front = omega (arith, ap length front.is, length-append xs front.rest)

-- two beginnings of one list that are as long are the same
same_front : {T : Type 0} (xs ys whole : List T) → IsFront xs whole → IsFront ys whole → length xs ≡ length ys → xs ≡ ys
same_front xs ys whole one two same =
    sym (take_at xs one.rest (length xs) refl) ∙ ap (take (length xs)) (sym one.is ∙ two.is) ∙ take_at ys two.rest (length xs) (sym same)

last_same : {T : Type 0} (xs ys : List T) (x y : T) → xs ++ x ∷ [] ≡ ys ++ y ∷ [] → length xs ≡ length ys → x ≡ y
last_same xs ys x y is same =
    sym (get_or_at xs x [] x (length xs) refl) ∙ ap (λ w. get_or w (length xs) x) is ∙ get_or_at ys y [] x (length xs) (sym same)

-- a turn keeps what holds of places, and asks only as may be asked
pub record Keeps {S : Type 0} (P : S → Type 0) (Of : S → Request → Type 0) (turn : Turn S) : Type 0 where
  pub place : P turn.place
  pub request : IfSome turn.request (Of turn.place)

module _ {S E : Type 0} (m : Manner S E) (apart : (place : S) → m.is_going place ≡ true → m.is_waiting place ≡ false) (P : S → Type 0) (Of : S → Request → Type 0)
    (before : List Request) (request : Request) where
  -- over a beginning of these it asks this request behind those before
  record Asks (c : Course S) (left : List Given) (events : List E) : Type 0 where
    front : List E
    given : List Given
    heard : IsFront front events
    answered : IsFront given left
    asks : (run m c given front).asked ≡ before ++ request ∷ []
    of : Of (run m c given front).place request

  -- where it has not asked more than those before, and comes to ask this one
  abbrev Reaches : Course S → List Given → List E → Course S → Type 0
  Reaches c left events to = IsFront (before ++ request ∷ []) to.asked → length c.asked ≤ length before → Asks c left events

  -- this turn asks it, or one behind it
  by_turn : (c : Course S) (turn : Turn S) (left : List Given) (events : List E) (to : Course S) → Keeps P Of turn → IsFront (went c turn).asked to.asked
      → Reaches (went c turn) left events to → IsFront (before ++ request ∷ []) to.asked → length c.asked ≤ length before → Asks (went c turn) left events
  by_turn c turn left events to keeps grown later front short = by turn.request refl (cases_lt (length before) (length (went c turn).asked))
    where
      by : (asked : Option Request) → turn.request ≡ asked → (length before < length (went c turn).asked) ⊎ (length (went c turn).asked ≤ length before)
          → Asks (went c turn) left events
      by asked is (inr more) = later front more
      by None is (inl over) = absurd (omega (arith, short, over, ap (λ w. length (c.asked ++ option_to_list w)) is, length-append c.asked []))
      by (Some one) is (inl over) =
          let asked : (went c turn).asked ≡ c.asked ++ one ∷ [] = ap (λ w. c.asked ++ option_to_list w) is in
          let long : length c.asked ≡ length before = omega (arith, short, over, ap length asked, length-append c.asked (one ∷ [])) in
          let same : (went c turn).asked ≡ before ++ request ∷ [] =
          same_front (went c turn).asked (before ++ request ∷ []) to.asked grown front
          (omega (arith, long, ap length asked, length-append c.asked (one ∷ []), length-append before (request ∷ []))) in
          let of : IfSome (Some one) (Of turn.place) = subst (λ w. IfSome w (Of turn.place)) is keeps.request in
          record {
            front = [];
            given = [];
            heard = record { rest = events; is = refl };
            answered = record { rest = left; is = refl };
            asks = same;
            of = subst (λ (w : Request). Of turn.place w) (last_same c.asked before one request (sym asked ∙ same) long) of;
          }

  -- what holds of places is kept
  module _ (event_keeps : (place : S) (event : E) → P place → Keeps P Of (m.event_turn place event))
      (given_keeps : (place : S) (given : Given) → P place → Keeps P Of (m.given_turn place given)) where
    reaches : (c : Course S) (left : List Given) (events : List E) → Grows c (run m c left events) × (P c.place → Reaches c left events (run m c left events))
    reaches = runs m apart (λ c left events to. Grows c to × (P c.place → Reaches c left events to))
        (λ c left events. (
          grows_refl c,
          λ holds front short.
              absurd (omega (arith, short, front_within (before ++ request ∷ []) c.asked front, length-append before (request ∷ []))),
        ))
        (λ c given left events to waits later. (
          grows_went c (m.given_turn c.place given) to later.0,
          λ holds front short.
              let turn = m.given_turn c.place given in
              let keeps = given_keeps c.place given holds in
              let asks = by_turn c turn left events to keeps later.0.asked (later.1 keeps.place) front short in
              let on = run_answer m c given asks.given asks.front waits in
              record {
                front = asks.front;
                given = given ∷ asks.given;
                heard = asks.heard;
                answered = front_more given asks.given left asks.answered;
                asks = ap (λ (w : Course S). w.asked) on ∙ asks.asks;
                of = subst (λ (w : Course S). Of w.place request) (sym on) asks.of;
              },
        ))
        (λ c left event events to idle going later. (
          grows_went c (m.event_turn c.place event) to later.0,
          λ holds front short.
              let turn = m.event_turn c.place event in
              let keeps = event_keeps c.place event holds in
              let asks = by_turn c turn left events to keeps later.0.asked (later.1 keeps.place) front short in
              let on = run_event m c asks.given event asks.front idle going in
              record {
                front = event ∷ asks.front;
                given = asks.given;
                heard = front_more event asks.front events asks.heard;
                answered = asks.answered;
                asks = ap (λ (w : Course S). w.asked) on ∙ asks.asks;
                of = subst (λ (w : Course S). Of w.place request) (sym on) asks.of;
              },
        ))

    -- each request of a conversation was asked by a turn
    pub each_is_asked : P m.first.place → m.is_waiting m.first.place ≡ false → m.first.asked ≡ [] → (events : List E) (answers : List Given)
        → IsFront (before ++ request ∷ []) (conversation m answers events).course.asked → IsAsked m events answers before request Of
    each_is_asked holds idle none events answers front =
        let asks = (reaches m.first answers events).1 holds
        (subst (λ (w : Course S). IsFront (before ++ request ∷ []) w.asked) (run_first m idle answers events) front) (omega (arith, ap length none)) in
        let same = run_first m idle asks.given asks.front in
        record {
          front = asks.front;
          given = asks.given;
          heard = asks.heard;
          answered = asks.answered;
          asks = ap (λ (w : Course S). w.asked) same ∙ asks.asks;
          of = subst (λ (w : Course S). Of w.place request) (sym same) asks.of;
        }
