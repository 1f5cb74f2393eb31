-- With more events and more answers, a conversation only says and asks more.
use Rattle.std.proofs.Common.{◌≡◌, true, false, List, [], ◌++◌, refl, sym, ◌∙◌, ap, append_assoc, append-nil}
use Rattle.std.specs.Option.{option_to_list}
use Rattle.jb_menu.specs.declared.given.Given.{Given}
use Rattle.jb_speech.specs.Conversations.{Course, Manner, Turn, conversation, went}
use Rattle.jb_speech.specs.Laws.{IsFront}
use Rattle.jb_speech.proofs.Running.{run, run_answer, run_event, run_first, runs}

pub front_refl : {T : Type 0} (xs : List T) → IsFront xs xs
front_refl xs = record { rest = []; is = sym (append-nil xs) }

front_then : {T : Type 0} (xs ys zs : List T) → IsFront xs ys → IsFront ys zs → IsFront xs zs
front_then xs ys zs one two = record { rest = one.rest ++ two.rest; is = two.is ∙ ap (λ w. w ++ two.rest) one.is ∙ append_assoc xs one.rest two.rest }

-- more is said and asked
pub record Grows {S : Type 0} (old new : Course S) : Type 0 where
  pub out : IsFront old.out new.out
  pub asked : IsFront old.asked new.asked

pub grows_refl : {S : Type 0} (c : Course S) → Grows c c
grows_refl c = record { out = front_refl c.out; asked = front_refl c.asked }

-- a turn and what follows it
pub grows_went : {S : Type 0} (c : Course S) (turn : Turn S) (to : Course S) → Grows (went c turn) to → Grows c to
grows_went c turn to grown = record {
  out = front_then c.out (went c turn).out to.out (record { rest = turn.text; is = refl }) grown.out;
  asked = front_then c.asked (went c turn).asked to.asked (record { rest = option_to_list turn.request; is = refl }) grown.asked;
}

module _ {S E : Type 0} (m : Manner S E) (apart : (place : S) → m.is_going place ≡ true → m.is_waiting place ≡ false) where
  grows_from : (c : Course S) (left : List Given) (events : List E) → Grows c (run m c left events)
  grows_from = runs m apart (λ c left events to. Grows c to) (λ c left events. grows_refl c)
      (λ c given left events to waits grown. grows_went c (m.given_turn c.place given) to grown)
      (λ c left event events to idle on grown. grows_went c (m.event_turn c.place event) to grown)

  grows_with : (later : List Given) (more : List E) (c : Course S) (left : List Given) (events : List E)
      → Grows (run m c left events) (run m c (left ++ later) (events ++ more))
  grows_with later more = runs m apart (λ c left events to. Grows to (run m c (left ++ later) (events ++ more)))
      (λ c left events. grows_from c (left ++ later) (events ++ more))
      (λ c given left events to waits grown. rw (run_answer m c given (left ++ later) (events ++ more) waits) grown)
      (λ c left event events to idle on grown. rw (run_event m c (left ++ later) event (events ++ more) idle on) grown)

  -- the conversation over more events, with more answers
  pub conversation_grows : m.is_waiting m.first.place ≡ false → (answers later : List Given) (events more : List E)
      → Grows (conversation m answers events).course (conversation m (answers ++ later) (events ++ more)).course
  conversation_grows idle answers later events more =
      rw (run_first m idle answers events, run_first m idle (answers ++ later) (events ++ more)) (grows_with later more m.first answers events)
