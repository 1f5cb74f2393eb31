-- A session in its middle, and how it goes on or ends.
use Rattle.std.proofs.Common.{◌≡◌, ◌≢◌, ℕ, ◌+◌, ◌-◌, ◌≤◌, length, take, drop, List, [], ◌∷◌, ◌++◌, Option, Some, None, inl, inr, refl, sym, ◌∙◌, ap, subst, append_assoc, append-nil, length-append, arith}
use Rattle.std.specs.Option.{option_to_list, ForSome}
use Rattle.std.specs.Prelude.{Result, Ok, Err, IfErr, IfOk, OnErr}
use Rattle.std.specs.Result.{IsErrAnd}
use Rattle.std.proofs.lemmas.List.{map-append, same_lists, places, take-take}
use Rattle.jb_bytes.specs.Fault.{Rose}
use Rattle.jb_limits.specs.declared.limits.TheConstants.{MOST_SESSION_BYTES}
use Rattle.jb_base.specs.declared.user.User.{User}
use Rattle.jb_conf.specs.declared.board.Board.{Board}
use Rattle.jb_host.specs.Wire.{IsFrontOf, Sends, Takes, Wire}
use Rattle.jb_host.proofs.Wires.{rose_later, sends_more, sends_none, takes_more, takes_none}
use Rattle.jb_menu.specs.declared.given.Given.{Given}
use Rattle.jb_speech.proofs.Growing.{front_refl}
use Rattle.jb_speech.specs.Laws.{EachTalks, IsFront, Talk}
use Rattle.jb_speech.specs.Posture.{Posture}
use Rattle.jb_speech.specs.declared.request.AreaRequest.{AreaRequest}
use Rattle.jb_speech.specs.declared.request.Request.{Request}
use Rattle.jb_speech.specs.declared.end.TalkEnd.{TalkEnd}
use Rattle.jb_speech.specs.declared.end.TalkEnd.TheVariants as talk
use Rattle.jb_session.specs.Ends.{end_as}
use Rattle.jb_session.specs.Speakers.{IsLawful}
use Rattle.jb_session.specs.Exchanges.{Exchange, Exchanged, NodeState, Passed, PassedLast, answers_of, asks_of}
use Rattle.jb_session.specs.Served.{EndsAs, Later, MayLack, NeverFails, SaysAll, SaysSome, ServedBy, Stands}
use Rattle.jb_session.specs.declared.end.SessionEnd.{SessionEnd}
use Rattle.jb_session.specs.declared.end.SessionEnd.TheVariants.{Quit, Hangup, LoginRefused, LinkFault, Spent, OutOfMemory}

pub later_refl : (w : Wire) → Later w w
later_refl w = record { faults = omega arith; ends = omega arith; unsent = omega arith }

pub later_then : (a b c : Wire) → Later a b → Later b c → Later a c
later_then a b c one two = record {
  faults = omega (arith, one.faults, two.faults);
  ends = omega (arith, one.ends, two.ends);
  unsent = omega (arith, one.unsent, two.unsent);
}

-- a write, whole or in part
pub wrote : (a b : Wire) → b.ends ≡ a.ends → a.unsent ≤ b.unsent → a.faults ≤ b.faults → Later a b
wrote a b ends unsent faults = record { faults = faults; ends = omega (arith, ends); unsent = unsent }

-- a read
pub read : (a b : Wire) → a.ends ≤ b.ends → b.unsent ≡ a.unsent → a.faults ≤ b.faults → Later a b
read a b ends unsent faults = record { faults = faults; ends = ends; unsent = omega (arith, unsent) }

-- calls of which none failed
never_then : (a b c : Wire) → NeverFails a b → NeverFails b c → NeverFails a c
never_then a b c one two = record { faults = two.faults ∙ one.faults; unsent = two.unsent ∙ one.unsent }

takes_same : (a b c : Option (List ℕ)) (xs : List ℕ) → Takes a xs b → c ≡ b → Takes a xs c
takes_same a b c xs takes same = let P : Option (List ℕ) → Type 0 = λ w. Takes a xs w in subst P (sym same) takes

sends_same : (a b c : Option (List ℕ)) (xs : List ℕ) → Sends a xs b → c ≡ b → Sends a xs c
sends_same a b c xs sends same = let P : Option (List ℕ) → Type 0 = λ w. Sends a xs w in subst P (sym same) sends

takes_nothing : (a b : Option (List ℕ)) → Takes a [] b → b ≡ a
takes_nothing a None is = sym is
takes_nothing a (Some xs) is = sym is

-- no byte was read
pub takes_no : (a b : Option (List ℕ)) (n : ℕ) (xs : List ℕ) → n ≡ 0 → Takes a (take n xs) b → b ≡ a
takes_no a b n xs zero is = let P : ℕ → Type 0 = λ w. Takes a (take w xs) b in takes_nothing a b (subst P zero is)

cut_at : (n : ℕ) (xs : List ℕ) → xs ≡ take n xs ++ drop n xs
cut_at n xs = same_lists _ _ (grind (arith, places)) (λ k d h. grind (arith, places))

-- a part that reaches to the end
rest_of : (n : ℕ) (xs : List ℕ) → take (length xs - n) (drop n xs) ≡ drop n xs
rest_of n xs = same_lists _ _ (grind (arith, places)) (λ k d h. grind (arith, places))

drop_then : (n m : ℕ) (xs : List ℕ) → drop m (drop n xs) ≡ drop (n + m) xs
drop_then n m xs = same_lists _ _ (grind (arith, places)) (λ k d h. grind (arith, places))

pub drop_all : (n : ℕ) (xs : List ℕ) → length xs ≤ n → drop n xs ≡ []
drop_all n xs all = same_lists _ _ (grind (arith, places)) (λ k d h. grind (arith, places))

asks_then : (xs : List Exchange) (x : Exchange) → asks_of (xs ++ x ∷ []) ≡ asks_of xs ++ x.request ∷ []
asks_then xs x = map-append (λ (exchange : Exchange). exchange.request) xs (x ∷ [])

answers_then : (xs : List Exchange) (x : Exchange) → answers_of (xs ++ x ∷ []) ≡ answers_of xs ++ x.given ∷ []
answers_then xs x = map-append (λ (exchange : Exchange). exchange.given) xs (x ∷ [])

lacks_none : (end : SessionEnd) → MayLack end None
lacks_none Quit = refl
lacks_none Hangup = refl
lacks_none LoginRefused = refl
lacks_none LinkFault = refl
lacks_none Spent = refl
lacks_none OutOfMemory = tt

passed_then : (user_of : AreaRequest → Option User) (from mid to : NodeState) (xs : List Exchange) (x : Exchange)
    → Passed user_of from xs mid → Exchanged user_of x mid to → Passed user_of from (xs ++ x ∷ []) to
passed_then user_of from mid to [] x is last =
    let P : NodeState → Type 0 = λ w. Exchanged user_of x w to in
    (to, subst P is last, refl)
passed_then user_of from mid to (y ∷ ys) x passed last = (passed.0, passed.1, passed_then user_of passed.0 mid to ys x passed.2 last)

module _ {talks : Talk} {board : Board} where
  -- all of it is a beginning of it
  some_of_all : (taken out : List ℕ) (answers : List Given) (asked : List Request) → SaysAll talks board taken answers out asked → SaysSome talks board taken answers out asked
  some_of_all taken out answers asked all = record { all = out; every = asked; says = all; sent = front_refl out; made = front_refl asked }

  -- a request that is not made stands in what would be asked
  unmade : (taken out : List ℕ) (answers : List Given) (asked : List Request) (next : Option Request)
      → SaysSome talks board taken answers out (asked ++ option_to_list next) → SaysSome talks board taken answers out (asked ++ [])
  unmade taken out answers asked next some = record {
    all = some.all;
    every = some.every;
    says = some.says;
    sent = some.sent;
    made = record {
      rest = option_to_list next ++ some.made.rest;
      is = some.made.is
          ∙ append_assoc asked (option_to_list next) some.made.rest
          ∙ ap (λ w. w ++ (option_to_list next ++ some.made.rest)) (sym (append-nil asked));
    };
  }

by_talk : (talks : Talk) (board : Board) (old now : Wire) (taken out : List ℕ) (answers : List Given) (asked : List Request) (end : TalkEnd) → (end ≡ talk.Hangup → ⊥)
    → talks board taken answers out asked end → EndsAs talks board (end_as end) old now taken answers out asked
by_talk talks board old now taken out answers asked talk.Quit other says = says
by_talk talks board old now taken out answers asked talk.LoginRefused other says = says
by_talk talks board old now taken out answers asked talk.Spent other says = says
by_talk talks board old now taken out answers asked talk.Hangup other says = absurd (other refl)
by_talk talks board old now taken out answers asked talk.Unanswered other says = some_of_all taken out answers asked (record { end = talk.Unanswered; is = says })
by_talk talks board old now taken out answers asked talk.OutOfMemory other says = some_of_all taken out answers asked (record { end = talk.OutOfMemory; is = says })

-- of what a speaker has handed out
module _ {S : Type 0} {user_of : Board → AreaRequest → Option User} {has_talked : Board → S → List ℕ → List Given → List ℕ → List Request → Type 0} {board : Board} where
  -- a request was answered, and the talk has heard it
  pub responded : (old now : Wire) (from mid to : NodeState) (rest : List ℕ) (talking after : S) (x : Exchange) (next : Option Request)
      → (s : Stands user_of has_talked board old from now rest talking (Some x.request) mid) → Exchanged (user_of board) x mid to
      → has_talked board after s.heard (answers_of s.exchanges ++ x.given ∷ []) s.out ((asks_of s.exchanges ++ x.request ∷ []) ++ option_to_list next)
      → Stands user_of has_talked board old from now rest after next to
  responded old now from mid to rest talking after x next s done talked = record {
    heard = s.heard;
    within = s.within;
    takes = s.takes;
    exchanges = s.exchanges ++ x ∷ [];
    passed = passed_then _ from mid to s.exchanges x s.passed done;
    out = s.out;
    sends = s.sends;
    later = s.later;
    quiet = s.quiet;
    talked =
        let P : List Given → Type 0 = λ w. has_talked board after s.heard w s.out (asks_of (s.exchanges ++ x ∷ []) ++ option_to_list next) in
        let Q : List Request → Type 0 = λ w. has_talked board after s.heard (answers_of s.exchanges ++ x.given ∷ []) s.out (w ++ option_to_list next) in
        subst P (sym (answers_then s.exchanges x)) (subst Q (sym (asks_then s.exchanges x)) talked);
  }

  -- a part of the rest was heard
  pub heard_on : (old now : Wire) (from to : NodeState) (part rest : List ℕ) (talking after : S) (next : Option Request)
      → (s : Stands user_of has_talked board old from now (part ++ rest) talking None to)
      → has_talked board after (s.heard ++ part) (answers_of s.exchanges) s.out ((asks_of s.exchanges ++ []) ++ option_to_list next)
      → Stands user_of has_talked board old from now rest after next to
  heard_on old now from to part rest talking after next s talked = record {
    heard = s.heard ++ part;
    within = omega (arith, s.within, length-append s.heard part, length-append part rest);
    takes =
        let P : List ℕ → Type 0 = λ w. Takes old.to_come w now.to_come in
        subst P (sym (append_assoc s.heard part rest)) s.takes;
    exchanges = s.exchanges;
    passed = s.passed;
    out = s.out;
    sends = s.sends;
    later = s.later;
    quiet = s.quiet;
    talked =
        let Q : List Request → Type 0 = λ w. has_talked board after (s.heard ++ part) (answers_of s.exchanges) s.out (w ++ option_to_list next) in
        subst Q (append-nil (asks_of s.exchanges)) talked;
  }

  -- so many bytes of a piece were heard
  pub hear_on : (old now : Wire) (from to : NodeState) (n : ℕ) (piece line : List ℕ) (talking after : S) (next : Option Request)
      → Stands user_of has_talked board old from now piece talking None to → line ≡ take (length line) piece → n ≤ length line
      → ((bytes sent : List ℕ) (answers : List Given) (asked : List Request) → has_talked board talking bytes answers sent asked
      → has_talked board after (bytes ++ take n line) answers sent (asked ++ option_to_list next))
      → Stands user_of has_talked board old from now (drop n piece) after next to
  hear_on old now from to n piece line talking after next s front within fits =
      let P : List ℕ → Type 0 = λ w. Stands user_of has_talked board old from now w talking None to in
      let t : Stands user_of has_talked board old from now (take n piece ++ drop n piece) talking None to = subst P (cut_at n piece) s in
      let Q : List ℕ → Type 0 = λ w. has_talked board after (t.heard ++ w) (answers_of t.exchanges) t.out ((asks_of t.exchanges ++ []) ++ option_to_list next) in
      heard_on old now from to (take n piece) (drop n piece) talking after next t
      (subst Q (ap (take n) front ∙ take-take n (length line) piece within) (fits t.heard t.out (answers_of t.exchanges) (asks_of t.exchanges ++ []) t.talked))

  -- what is left of a piece, as a part of it
  pub rest_on : (old now : Wire) (from to : NodeState) (at : ℕ) (piece : List ℕ) (talking : S)
      → Stands user_of has_talked board old from now (drop at piece) talking None to → Stands user_of has_talked board old from now (take (length piece - at) (drop at piece)) talking None to
  rest_on old now from to at piece talking s =
      let P : List ℕ → Type 0 = λ w. Stands user_of has_talked board old from now w talking None to in
      subst P (sym (rest_of at piece)) s

  -- and what is left behind more of it
  pub left_on : (old now : Wire) (from to : NodeState) (at n : ℕ) (piece : List ℕ) (talking : S)
      → Stands user_of has_talked board old from now (drop n (take (length piece - at) (drop at piece))) talking None to → Stands user_of has_talked board old from now (drop (at + n) piece) talking None to
  left_on old now from to at n piece talking s =
      let P : List ℕ → Type 0 = λ w. Stands user_of has_talked board old from now w talking None to in
      subst P (ap (drop n) (rest_of at piece) ∙ drop_then at n piece) s

  -- all that was owed was sent
  pub sent_on : (old now now' : Wire) (from to : NodeState) (rest owed : List ℕ) (talking after : S) (next : Option Request)
      → (s : Stands user_of has_talked board old from now rest talking next to) → Sends now.sent owed now'.sent → now'.to_come ≡ now.to_come → NeverFails now now' → Later now now'
      → has_talked board after s.heard (answers_of s.exchanges) (s.out ++ owed) (asks_of s.exchanges ++ option_to_list next) → Stands user_of has_talked board old from now' rest after next to
  sent_on old now now' from to rest owed talking after next s sends to_come quiet later talked = record {
    heard = s.heard;
    within = s.within;
    takes = takes_same _ _ _ _ s.takes to_come;
    exchanges = s.exchanges;
    passed = s.passed;
    out = s.out ++ owed;
    sends = sends_more _ _ _ _ _ s.sends sends;
    later = later_then old now now' s.later later;
    quiet = never_then old now now' s.quiet quiet;
    talked = talked;
  }

  -- at the start
  pub stands_first : (w : Wire) (from : NodeState) (talking : S) → has_talked board talking [] [] [] [] → Stands user_of has_talked board w from w [] talking None from
  stands_first w from talking talked = record {
    heard = [];
    within = omega arith;
    takes = takes_none w.to_come;
    exchanges = [];
    passed = refl;
    out = [];
    sends = sends_none w.sent;
    later = later_refl w;
    quiet = record { faults = refl; unsent = refl };
    talked = talked;
  }

module _ {S : Type 0} {talks : Talk} {user_of : Board → AreaRequest → Option User} {has_talked : Board → S → List ℕ → List Given → List ℕ → List Request → Type 0} {board : Board} where
  -- a session that stands with nothing left to hear ends so
  ends_so : (old now now' : Wire) (from to : NodeState) (talking : S) (end : SessionEnd) (part : List ℕ)
      → (s : Stands user_of has_talked board old from now [] talking None to) → MayLack end None → Sends now.sent part now'.sent → now'.to_come ≡ now.to_come → Later now now'
      → (end ≢ LinkFault → NeverFails now now') → EndsAs talks board end old now' s.heard (answers_of s.exchanges) (s.out ++ part) (asks_of s.exchanges ++ []) → ServedBy talks user_of board old from end now' to
  ends_so old now now' from to talking end part s only sends to_come later quiet ends = record {
    taken = s.heard;
    within = omega (arith, s.within);
    takes =
        let P : List ℕ → Type 0 = λ w. Takes old.to_come w now'.to_come in
        subst P (append-nil s.heard) (takes_same _ _ _ _ s.takes to_come);
    exchanges = s.exchanges;
    mid = to;
    passed = s.passed;
    last = None;
    lacks = refl;
    only = only;
    out = s.out ++ part;
    sends = sends_more _ _ _ _ _ s.sends sends;
    later = later_then old now now' s.later later;
    quiet = λ other. never_then old now now' s.quiet (quiet other);
    ends = ends;
  }

-- of a speaker
module _ {S : Type 0} {talks : Talk} {posture : S → Posture} {has_talked : Board → S → List ℕ → List Given → List ℕ → List Request → Type 0} {board : Board} where
  -- what was handed out, and a part of what is owed, is a beginning of what is said over more bytes with more answers
  says_part : IsLawful talks posture has_talked → (talking : S) (heard rest out part : List ℕ) (answers later : List Given) (asked : List Request)
      → has_talked board talking heard answers out asked → IsFront part (posture talking).owed → SaysSome talks board (heard ++ rest) (answers ++ later) (out ++ part) asked
  says_part laws talking heard rest out part answers later asked talked begins =
      let so_far = laws.stands board talking heard out answers asked talked in
      let whole = laws.some board (heard ++ rest) (answers ++ later) in
      let grown = laws.grows board heard rest answers later (out ++ (posture talking).owed) whole.out asked whole.asked (posture talking).end whole.end so_far whole.says in
      record {
        all = whole.out;
        every = whole.asked;
        says = record { end = whole.end; is = whole.says };
        sent = record {
          rest = begins.rest ++ grown.0.rest;
          is = grown.0.is
              ∙ ap (λ w. (out ++ w) ++ grown.0.rest) begins.is
              ∙ ap (λ w. w ++ grown.0.rest) (sym (append_assoc out part begins.rest))
              ∙ append_assoc (out ++ part) begins.rest grown.0.rest;
        };
        made = grown.1;
      }

  -- what was handed out is one
  says_some : IsLawful talks posture has_talked → (talking : S) (heard rest out : List ℕ) (answers later : List Given) (asked : List Request)
      → has_talked board talking heard answers out asked → SaysSome talks board (heard ++ rest) (answers ++ later) out asked
  says_some laws talking heard rest out answers later asked talked =
      let P : List ℕ → Type 0 = λ w. SaysSome talks board (heard ++ rest) (answers ++ later) w asked in
      subst P (append-nil out)
      (says_part laws talking heard rest out [] answers later asked talked (record { rest = (posture talking).owed; is = refl }))

-- and of a session with it
module _ {S : Type 0} {talks : Talk} {user_of : Board → AreaRequest → Option User} {posture : S → Posture} {has_talked : Board → S → List ℕ → List Given → List ℕ → List Request → Type 0} {board : Board} where
  -- memory was wanting: what was handed out stays, and the last request has no answer
  pub ends_short : IsLawful talks posture has_talked → (old now : Wire) (from mid to : NodeState) (rest : List ℕ) (talking : S) (last : Option Request)
      → Stands user_of has_talked board old from now rest talking last mid → PassedLast (user_of board) mid last to → ServedBy talks user_of board old from OutOfMemory now to
  ends_short laws old now from mid to rest talking last s lacks = record {
    taken = s.heard ++ rest;
    within = omega (arith, s.within, length-append s.heard rest);
    takes = s.takes;
    exchanges = s.exchanges;
    mid = mid;
    passed = s.passed;
    last = last;
    lacks = lacks;
    only = tt;
    out = s.out;
    sends = s.sends;
    later = s.later;
    quiet = λ other. s.quiet;
    ends =
        let P : List Given → Type 0 = λ w. SaysSome talks board (s.heard ++ rest) w s.out (asks_of s.exchanges ++ option_to_list last) in
        subst P (append-nil (answers_of s.exchanges))
        (says_some laws talking s.heard rest s.out (answers_of s.exchanges) [] (asks_of s.exchanges ++ option_to_list last) s.talked);
  }

  -- a request was answered, and the talk wants memory for it
  pub ends_unheard : IsLawful talks posture has_talked → (old now : Wire) (from mid to : NodeState) (rest : List ℕ) (talking : S) (x : Exchange)
      → Stands user_of has_talked board old from now rest talking (Some x.request) mid → Exchanged (user_of board) x mid to → ServedBy talks user_of board old from OutOfMemory now to
  ends_unheard laws old now from mid to rest talking x s done = record {
    taken = s.heard ++ rest;
    within = omega (arith, s.within, length-append s.heard rest);
    takes = s.takes;
    exchanges = s.exchanges ++ x ∷ [];
    mid = to;
    passed = passed_then _ from mid to s.exchanges x s.passed done;
    last = None;
    lacks = refl;
    only = tt;
    out = s.out;
    sends = s.sends;
    later = s.later;
    quiet = λ other. s.quiet;
    ends =
        let P : List Given → Type 0 = λ w. SaysSome talks board (s.heard ++ rest) w s.out (asks_of (s.exchanges ++ x ∷ []) ++ []) in
        let Q : List Request → Type 0 = λ w. SaysSome talks board (s.heard ++ rest) (answers_of s.exchanges ++ x.given ∷ []) s.out w in
        subst P (sym (answers_then s.exchanges x))
        (subst Q (sym (append-nil (asks_of (s.exchanges ++ x ∷ [])) ∙ asks_then s.exchanges x))
        (says_some laws talking s.heard rest s.out (answers_of s.exchanges) (x.given ∷ []) (asks_of s.exchanges ++ x.request ∷ []) s.talked));
  }

  -- a piece was read
  pub read_on : IsLawful talks posture has_talked → (old now now' : Wire) (from to : NodeState) (piece : List ℕ) (talking : S)
      → Stands user_of has_talked board old from now [] talking None to → Takes now.to_come piece now'.to_come → now'.sent ≡ now.sent → NeverFails now now' → Later now now'
      → (posture talking).taken + length piece ≤ MOST_SESSION_BYTES → Stands user_of has_talked board old from now' piece talking None to
  read_on laws old now now' from to piece talking s takes sent quiet later room = record {
    heard = s.heard;
    within = omega (arith, room, laws.counts board talking s.heard s.out (answers_of s.exchanges) (asks_of s.exchanges ++ []) s.talked);
    takes =
        let P : List ℕ → Type 0 = λ w. Takes old.to_come (w ++ piece) now'.to_come in
        subst P (append-nil s.heard) (takes_more _ _ _ _ _ s.takes takes);
    exchanges = s.exchanges;
    passed = s.passed;
    out = s.out;
    sends = sends_same _ _ _ _ s.sends sent;
    later = later_then old now now' s.later later;
    quiet = never_then old now now' s.quiet quiet;
    talked = s.talked;
  }

  -- a write failed: a request that was to be made is not
  pub ends_unsent : IsLawful talks posture has_talked → (old now now' : Wire) (from to : NodeState) (rest : List ℕ) (talking : S) (next : Option Request) (part : List ℕ)
      → Stands user_of has_talked board old from now rest talking next to → IsFrontOf part (posture talking).owed → Sends now.sent part now'.sent → now'.to_come ≡ now.to_come → Later now now'
      → Rose now.faults now'.faults → Rose now.unsent now'.unsent → ServedBy talks user_of board old from LinkFault now' to
  ends_unsent laws old now now' from to rest talking next part s begins sends to_come later faults unsent = record {
    taken = s.heard ++ rest;
    within = omega (arith, s.within, length-append s.heard rest);
    takes = takes_same _ _ _ _ s.takes to_come;
    exchanges = s.exchanges;
    mid = to;
    passed = s.passed;
    last = None;
    lacks = refl;
    only = refl;
    out = s.out ++ part;
    sends = sends_more _ _ _ _ _ s.sends sends;
    later = later_then old now now' s.later later;
    quiet = λ other. absurd (other refl);
    ends =
        let P : List Given → Type 0 = λ w. SaysSome talks board (s.heard ++ rest) w (s.out ++ part) (asks_of s.exchanges ++ []) in (
          subst P (append-nil (answers_of s.exchanges))
              (unmade (s.heard ++ rest) (s.out ++ part) (answers_of s.exchanges ++ []) (asks_of s.exchanges) next
              (says_part laws talking s.heard rest s.out part (answers_of s.exchanges) [] (asks_of s.exchanges ++ option_to_list next) s.talked (record { rest = begins.rest; is = begins.is }))),
          rose_later old.faults now.faults now'.faults now'.faults s.later.faults faults (omega arith),
          inl (rose_later old.unsent now.unsent now'.unsent now'.unsent s.later.unsent unsent (omega arith)),
        );
  }

  -- what is said over all that was heard
  said : IsLawful talks posture has_talked → (old now : Wire) (from to : NodeState) (talking : S) (s : Stands user_of has_talked board old from now [] talking None to) (part : List ℕ) → (posture talking).owed ≡ part
      → talks board s.heard (answers_of s.exchanges) (s.out ++ part) (asks_of s.exchanges ++ []) (posture talking).end
  said laws old now from to talking s part owed =
      let P : List ℕ → Type 0 = λ w. talks board s.heard (answers_of s.exchanges) (s.out ++ w) (asks_of s.exchanges ++ []) (posture talking).end in
      subst P owed (laws.stands board talking s.heard s.out (answers_of s.exchanges) (asks_of s.exchanges ++ []) s.talked)

  -- a read failed, with nothing owed
  pub ends_unread : IsLawful talks posture has_talked → (old now now' : Wire) (from to : NodeState) (talking : S)
      → Stands user_of has_talked board old from now [] talking None to → (posture talking).owed ≡ [] → now'.sent ≡ now.sent → now'.to_come ≡ now.to_come → Later now now'
      → Rose now.faults now'.faults → ServedBy talks user_of board old from LinkFault now' to
  ends_unread laws old now now' from to talking s none sent to_come later faults =
      let all : SaysAll talks board s.heard (answers_of s.exchanges) (s.out ++ []) (asks_of s.exchanges ++ []) = record { end = (posture talking).end; is = said laws old now from to talking s [] none } in
      ends_so old now now' from to talking LinkFault [] s refl (sends_same _ _ _ _ (sends_none now.sent) sent) to_come later (λ other. absurd (other refl)) (
        some_of_all s.heard (s.out ++ []) (answers_of s.exchanges) (asks_of s.exchanges ++ []) all,
        rose_later old.faults now.faults now'.faults now'.faults s.later.faults faults (omega arith),
        inr all,
      )

  -- the input is at its end, with nothing owed
  pub ends_hangup : IsLawful talks posture has_talked → (old now now' : Wire) (from to : NodeState) (talking : S)
      → Stands user_of has_talked board old from now [] talking None to → (posture talking).owed ≡ [] → (posture talking).end ≡ talk.Hangup
      → now'.sent ≡ now.sent → now'.to_come ≡ now.to_come → NeverFails now now' → Later now now' → Rose now.ends now'.ends → ForSome now.to_come (λ bytes. bytes ≡ [])
      → ServedBy talks user_of board old from Hangup now' to
  ends_hangup laws old now now' from to talking s none hangup sent to_come quiet later ends gone =
      let P : TalkEnd → Type 0 = λ w. talks board s.heard (answers_of s.exchanges) (s.out ++ []) (asks_of s.exchanges ++ []) w in
      let Q : Option (List ℕ) → Type 0 = λ w. ForSome w (λ bytes. bytes ≡ []) in
      ends_so old now now' from to talking Hangup [] s refl (sends_same _ _ _ _ (sends_none now.sent) sent) to_come later (λ other. quiet) (
        subst P hangup (said laws old now from to talking s [] none),
        rose_later old.ends now.ends now'.ends now'.ends s.later.ends ends (omega arith),
        subst Q (sym to_come) gone,
      )

  -- the talk is over
  pub ends_over : IsLawful talks posture has_talked → (old now : Wire) (from to : NodeState) (talking : S)
      → Stands user_of has_talked board old from now [] talking None to → (posture talking).owed ≡ [] → ((posture talking).end ≡ talk.Hangup → ⊥)
      → ServedBy talks user_of board old from (end_as (posture talking).end) now to
  ends_over laws old now from to talking s none other =
      ends_so old now now from to talking (end_as (posture talking).end) [] s (lacks_none _) (sends_none now.sent) refl (later_refl now) (λ other. record { faults = refl; unsent = refl })
      (by_talk talks board old now s.heard (s.out ++ []) (answers_of s.exchanges) (asks_of s.exchanges ++ []) (posture talking).end other (said laws old now from to talking s [] none))

module _ {talks : Talk} {user_of : Board → AreaRequest → Option User} {board : Board} where
  -- memory was wanting before the greeting
  pub served_none : EachTalks talks → (w : Wire) (from : NodeState) → ServedBy talks user_of board w from OutOfMemory w from
  served_none each w from =
      let whole = each board [] [] in
      record {
        taken = [];
        within = omega arith;
        takes = takes_none w.to_come;
        exchanges = [];
        mid = from;
        passed = refl;
        last = None;
        lacks = refl;
        only = tt;
        out = [];
        sends = sends_none w.sent;
        later = later_refl w;
        quiet = λ other. record { faults = refl; unsent = refl };
        ends = record {
          all = whole.out;
          every = whole.asked;
          says = record { end = whole.end; is = whole.says };
          sent = record { rest = whole.out; is = refl };
          made = record { rest = whole.asked; is = refl };
        };
      }

  -- a session between two notes, which change nothing of the link
  pub served_by : (old old' new new' : Wire) (end end' : SessionEnd) (from to : NodeState)
      → old' ≡ old → new ≡ new' → end ≡ end' → ServedBy talks user_of board old' from end' new' to → ServedBy talks user_of board old from end new to
  served_by old old' new new' end end' from to begun ended same s =
      let E : SessionEnd → Type 0 = λ w. ServedBy talks user_of board old' from w new' to in
      let N : Wire → Type 0 = λ w. ServedBy talks user_of board old' from end w to in
      let O : Wire → Type 0 = λ w. ServedBy talks user_of board w from end new to in
      subst O begun (subst N (sym ended) (subst E (sym same) s))

-- what holds of an answer, by what else holds of it
pub ok_map : {T E : Type 0} (r : Result T E) (P Q : T → Type 0) → ((x : T) → P x → Q x) → IfOk r P → IfOk r Q
ok_map (Ok x) P Q f p = f x p
ok_map (Err e) P Q f p = tt

pub on_err : {T E : Type 0} (r : Result T E) (X : Type 0) → X → OnErr r X
on_err (Ok x) X it = tt
on_err (Err e) X it = it

-- a `?` that returns this error
pub if_err : {T E : Type 0} (r : Result T E) (end : E) (P : E → Type 0) → IsErrAnd r (λ error. error ≡ end) → P end → IfErr r P
if_err (Ok x) end P is it = tt
if_err (Err e) end P is it = subst P (sym is) it

-- how many requests are still to come, at most
abbrev pub to_come : Posture → Board → Option Request → ℕ
to_come speaker board None = 0
to_come speaker board (Some request) = speaker.most_asked board + 1
