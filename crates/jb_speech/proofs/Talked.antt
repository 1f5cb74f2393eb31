-- What a speaker has handed out, an act more at a time.
use Rattle.std.proofs.Common.{◌≡◌, ℕ, ◌+◌, true, false, List, [], ◌∷◌, ◌++◌, length, sym, ◌∙◌, ap, subst, arith, append_assoc, append-nil, length-append}
use Rattle.std.specs.Option.{option_to_list}
use Rattle.jb_menu.specs.declared.given.Given.{Given}
use Rattle.jb_speech.specs.declared.request.Request.{Request}
use Rattle.jb_speech.specs.Conversations.{ComesTo, Conversation, Course, HasSaid, Held, Manner, Says, Turn, course_of, owing, went}
use Rattle.jb_speech.proofs.Running.{comes, comes_by, comes_first, comes_on, comes_over}

one_more : (n taken : ℕ) (bytes : List ℕ) (byte : ℕ) → n ≡ taken + 1 → taken ≡ length bytes → n ≡ length (bytes ++ byte ∷ [])
one_more n taken bytes byte more counted = omega (arith, more, counted, length-append bytes (byte ∷ []))

-- a turn goes behind what was handed out
went_on : {K S : Type 0} (held : Held K S) (sent : List ℕ) (asked : List Request) (turn : Turn S)
    → went (course_of held sent asked) turn ≡ course_of (owing held turn) sent (asked ++ option_to_list turn.request)
went_on {K} {S} held sent asked turn =
    let F : List ℕ → Course S = λ w. record { place = turn.place; out = w; asked = asked ++ option_to_list turn.request } in
    ap F (append_assoc sent held.owed turn.text)

module _ {K S E : Type 0} (m : Manner S E) (reads : K → List ℕ → List E → Type 0) (held : Held K S) (bytes sent : List ℕ) (answers : List Given) (asked : List Request)
    (h : HasSaid m reads held bytes answers sent asked) where
  -- a byte that ends an event
  module _ (kept : K) (byte taken : ℕ) (more : taken ≡ held.taken + 1) (event : E) (read : reads kept (bytes ++ byte ∷ []) (h.events ++ event ∷ [])) where
    -- one behind the end
    pub talked_over : m.is_going held.place ≡ false → m.is_waiting held.place ≡ false
        → HasSaid m reads (record held { kept = kept; taken = taken }) (bytes ++ byte ∷ []) answers sent (asked ++ [])
    talked_over off idle = record {
      counted = one_more taken held.taken bytes byte more h.counted;
      events = h.events ++ event ∷ [];
      read = read;
      is = subst (λ (w : List Request). ComesTo m (h.events ++ event ∷ []) answers (course_of held sent w)) (sym (append-nil asked))
          (comes_over m h.events answers (course_of held sent asked) event h.is off idle);
    }

    -- one that is heard
    pub talked_event : m.is_going held.place ≡ true → m.is_waiting held.place ≡ false
        → HasSaid m reads (owing (record held { kept = kept; taken = taken }) (m.event_turn held.place event)) (bytes ++ byte ∷ []) answers sent
        (asked ++ option_to_list (m.event_turn held.place event).request)
    talked_event on idle = record {
      counted = one_more taken held.taken bytes byte more h.counted;
      events = h.events ++ event ∷ [];
      read = read;
      is = subst (λ (w : Course S). ComesTo m (h.events ++ event ∷ []) answers w) (went_on held sent asked (m.event_turn held.place event))
          (comes_on m h.events answers (course_of held sent asked) event h.is on idle);
    }

  -- an answer
  pub talked_answer : (given : Given) → m.is_waiting held.place ≡ true
      → HasSaid m reads (owing held (m.given_turn held.place given)) bytes (answers ++ given ∷ []) sent (asked ++ option_to_list (m.given_turn held.place given).request)
  talked_answer given waits = record {
    counted = h.counted;
    events = h.events;
    read = h.read;
    is = subst (λ (w : Course S). ComesTo m h.events (answers ++ given ∷ []) w) (went_on held sent asked (m.given_turn held.place given))
        (comes_by m h.events answers (course_of held sent asked) given h.is waits);
  }

  -- what was handed out and is owed is the conversation
  pub talks : ((kept : K) (bytes : List ℕ) (events : List E) → reads kept bytes events → m.cuts bytes events)
      → Says m bytes answers (sent ++ held.owed) asked (m.end_of held.place held.taken)
  talks cut =
      let is = comes m h.events answers (course_of held sent asked) h.is in
      record {
        events = h.events;
        cuts = cut held.kept bytes h.events h.read;
        sends = sym (ap (λ (w : Conversation S). w.course.out) is);
        asks = sym (ap (λ (w : Conversation S). w.course.asked) is);
        ends = ap (m.end_of held.place) h.counted ∙ sym (ap (λ (w : Conversation S). m.end_of w.course.place (length bytes)) is);
      }

-- one that begins
pub talked_first : {K S E : Type 0} (m : Manner S E) (reads : K → List ℕ → List E → Type 0) (held : Held K S) → held.taken ≡ 0 → reads held.kept [] []
    → held.place ≡ m.first.place → held.owed ≡ m.first.out → m.first.asked ≡ [] → m.is_waiting m.first.place ≡ false → HasSaid m reads held [] [] [] []
talked_first m reads held none read at owed asked idle = record {
  counted = none;
  events = [];
  read = read;
  is = rw (at, owed) (subst (λ (w : List Request). ComesTo m [] [] (record { place = m.first.place; out = m.first.out; asked = w })) asked (comes_first m idle));
}
