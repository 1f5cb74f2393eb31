-- What requests make of what a pass knows.
use Rattle.std.proofs.Common.{◌≡◌, ◌≢◌, inl, inr, ℕ, ◌==◌, Bool, true, false, List, [], ◌∷◌, Option, Some, None, Result, Ok, Err, refl, sym, ap, subst, ◌∙◌, arith}
use Rattle.std.specs.Prelude.{slice_index_or}
use Rattle.std.proofs.lemmas.Bool.Decides.{Decides-eqb, nat_tests}
use Rattle.jb_base.specs.declared.user.User.{User}
use Rattle.jb_menu.specs.declared.given.Given.{Given}
use Rattle.jb_menu.specs.declared.given.Given.TheVariants as given
use Rattle.jb_model.specs.declared.command.Command.{Command}
use Rattle.jb_model.specs.declared.entry.Entry.{Entry}
use Rattle.jb_state.specs.declared.look.SharedFault.TheVariants as fault
use Rattle.jb_model.specs.declared.reply.Reply.{Reply}
use Rattle.jb_shared.specs.Calls.{Asks, Calls, IsStoppedCall, ending, recording}
use Rattle.jb_shared.specs.Looks.{Looks}
use Rattle.jb_shared.specs.Passes.{Known, PassView, refusing, seen, stepping, turned_away}
use Rattle.jb_shared.specs.declared.error.SharedError.{SharedError}
use Rattle.jb_shared.specs.declared.refusal.Refusal.{Refusal}
use Rattle.jb_shared.specs.declared.error.SharedError.TheVariants.{StoreFault, RunSpent, OutOfMemory}
use Rattle.jb_speech.specs.declared.request.Act.{Act}
use Rattle.jb_speech.specs.declared.request.Act.TheVariants.{Ask, Look, Count}
use Rattle.jb_speech.specs.declared.request.AreaRequest.{AreaRequest}
use Rattle.jb_speech.specs.declared.request.Request.{Request}
use Rattle.jb_speech.specs.declared.request.Request.TheVariants.{Area, Clock, Send, Take}
use Rattle.jb_session.specs.Exchanges.{Answers, Exchange, GivesAnswer, Lacks, Happens, NodeState, Passed, PassedLast, Wants}

-- a call was asked: all stays but what calls leave
abbrev pub HasCalled : Known → Known → Type 0
HasCalled old new = new ≡ record old { front = new.front; mine = new.mine; refused = new.refused }

and_called : (a b c : Known) → HasCalled a b → HasCalled b c → HasCalled a c
and_called a b c one two = two ∙ ap (λ (w : Known). record w { front = c.front; mine = c.mine; refused = c.refused }) one

-- what a call leaves
left : (old new made : Known) → new ≡ made → HasCalled old made → HasCalled old new
left old new made is has = let P : Known → Type 0 = λ w. HasCalled old w in subst P (sym is) has

ended : (old new : Known) (ended : Option Bool) → new ≡ ending old ended → HasCalled old new
ended old new None is = left old new old is refl
ended old new (Some stands) is = left old new (ending old (Some stands)) is refl

recorded : (old new : Known) (ended : Option Bool) (call : Entry) → new ≡ recording (ending old ended) call → HasCalled old new
recorded old new None call is = left old new (recording old call) is refl
recorded old new (Some stands) call is = left old new (recording (ending old (Some stands)) call) is refl

refused : (old new : Known) (refusal : Refusal) → new ≡ refusing old refusal → HasCalled old new
refused old new refusal is = left old new (refusing old refusal) is refl

stopped : (old new : Known) (user : User) (moment : ℕ) (command : Command) → IsStoppedCall old new user moment command → HasCalled old new
stopped old new user moment command (inl begun) = recorded old new begun.0 _ begun.2
stopped old new user moment command (inr not_begun) = recorded old new None _ not_begun.1

-- with the whole history taken first
asked_on : (old new : Known) (taken : List Entry) → HasCalled (seen old taken) new → HasCalled old new
asked_on old new taken has = and_called old (seen old taken) new refl has

asked : (old new : Known) (user : User) (moment : ℕ) (command : Command) (result : Result Reply SharedError)
    → Asks old new user moment command result → HasCalled old new
asked old new user moment command (Ok reply) c = asked_on old new c.taken (recorded (seen old c.taken) new c.answers.1.0 _ c.answers.1.1)
asked old new user moment command (Err StoreFault) c = asked_on old new c.taken (stopped (seen old c.taken) new user moment command c.answers.1)
asked old new user moment command (Err OutOfMemory) c = asked_on old new c.taken (ended (seen old c.taken) new c.answers.1.0 c.answers.1.1)
asked old new user moment command (Err RunSpent) c = asked_on old new c.taken (refused (seen old c.taken) new _ c.answers.1)

steps_on : (old new : Known) (steps : List Refusal) → HasCalled (stepping old steps) new → HasCalled old new
steps_on old new [] has = has
steps_on old new (step ∷ steps) has = and_called old (refusing old step) new refl (steps_on (refusing old step) new steps has)

pub called : (old new : Known) (user : User) (moment : ℕ) (command : Command) (result : Result Reply SharedError)
    → Calls old new user moment command result → HasCalled old new
called old new user moment command result c = steps_on old new c.steps (asked (stepping old c.steps) new user moment command result c.asks)

-- what calls, looks, counts and those that are not let in keep, requests keep
module _ (Keeps : Known → Known → Type 0) (same : (known : Known) → Keeps known known) (and_then : (a b c : Known) → Keeps a b → Keeps b c → Keeps a c)
    (by_call : (old new : Known) → HasCalled old new → Keeps old new) (by_look : (old new : Known) → Looks old new → Keeps old new)
    (by_bar : (old new : Known) → new ≡ turned_away old → Keeps old new) where
  -- on a pass and on the same one
  abbrev OnEach : NodeState → NodeState → Type 0
  OnEach old new = (k : ℕ) (pass : PassView) → Keeps (slice_index_or old.passes k pass).known (slice_index_or new.passes k pass).known

  stays : (old new : Known) → new ≡ old → Keeps old new
  stays old new is = let P : Known → Type 0 = λ w. Keeps old w in subst P (sym is) (same old)

  answered : (readings : Option (List ℕ)) (user : User) (act : Act) (old new : Known) (what : Given) → GivesAnswer readings user act old new what → Keeps old new
  answered readings user (Ask command) old new (given.Reply reply) g = by_call old new (called old new user g.0 command (Ok reply) g.2)
  answered readings user (Ask command) old new (given.Fault fault.StoreFault) g = by_call old new (called old new user g.0 command (Err StoreFault) g.2)
  answered readings user (Ask command) old new (given.Fault fault.RunSpent) g = by_call old new (called old new user g.0 command (Err RunSpent) g.2)
  answered readings user (Look question) old new (given.Answer answer) g = by_look old new g.0
  answered readings user (Look question) old new (given.Fault fault.Barred) g = by_bar old new g
  answered readings user Count old new (given.Count unread) g = by_look old new g.0
  answered readings user Count old new (given.Fault fault.Barred) g = by_bar old new g
  answered readings user act old new what g = absurd g

  wanted : (readings : Option (List ℕ)) (user : User) (act : Act) (old new : Known) → Wants readings user act old new → Keeps old new
  wanted readings user (Ask command) old new w = by_call old new (called old new user w.0 command (Err OutOfMemory) w.2)
  wanted readings user (Look question) old new w = by_look old new w
  wanted readings user Count old new w = absurd w

  happened : (user_of : AreaRequest → Option User) (request : AreaRequest) (happens : User → Known → Known → Type 0) (old new : NodeState)
      → Happens user_of request happens old new → ((user : User) (before after : Known) → happens user before after → Keeps before after) → OnEach old new
  happened user_of request happens old new h each k pass = by (k == request.area) refl
    where
      here : k ≡ request.area → Keeps (slice_index_or old.passes k pass).known (slice_index_or new.passes k pass).known
      here is =
          let P : ℕ → Type 0 = λ n. Keeps (slice_index_or old.passes n pass).known (slice_index_or new.passes n pass).known in
          subst P (sym is) (each _ _ _ (h.does pass))

      by : (b : Bool) → (k == request.area) ≡ b → Keeps (slice_index_or old.passes k pass).known (slice_index_or new.passes k pass).known
      by true is = here ((Decides-eqb k request.area).0 is)
      by false is =
          let other : k ≢ request.area = grind (arith, nat_tests) in
          stays _ _ (ap (λ (p : PassView). p.known) (h.others k pass other))

  stay : (old new : NodeState) → new.passes ≡ old.passes → OnEach old new
  stay old new is k pass = stays _ _ (ap (λ (w : List PassView). (slice_index_or w k pass).known) is)

  answered_to : (user_of : AreaRequest → Option User) (request : Request) (what : Given) (old new : NodeState) → Answers user_of request what old new → OnEach old new
  answered_to user_of (Area request) what old new h =
      happened user_of request _ old new h (λ user before after gives. answered old.readings user request.act before after what gives)
  answered_to user_of Clock (given.Moment moment) old new a = stay old new (ap (λ (w : NodeState). w.passes) a.1)
  answered_to user_of (Send to text) (given.Sent result) old new a = stay old new (ap (λ (w : NodeState). w.passes) a.5)
  answered_to user_of Take (given.Page taken) old new a = stay old new (ap (λ (w : NodeState). w.passes) a.3)
  answered_to user_of request what old new a = absurd a

  passed : (user_of : AreaRequest → Option User) (exchanges : List Exchange) (old new : NodeState) → Passed user_of old exchanges new → OnEach old new
  passed user_of [] old new is = stay old new (ap (λ (w : NodeState). w.passes) is)
  passed user_of (exchange ∷ exchanges) old new p = λ k pass.
      and_then _ _ _ (answered_to user_of exchange.request exchange.given old p.0 p.1 k pass) (passed user_of exchanges p.0 new p.2 k pass)

  lacked : (user_of : AreaRequest → Option User) (request : Request) (old new : NodeState) → Lacks user_of request old new → OnEach old new
  lacked user_of (Area request) old new lacks = happened user_of request _ old new lacks (λ user before after wants. wanted old.readings user request.act before after wants)
  lacked user_of request old new lacks = absurd lacks

  passed_last : (user_of : AreaRequest → Option User) (last : Option Request) (old new : NodeState) → PassedLast user_of old last new → OnEach old new
  passed_last user_of None old new is = stay old new (ap (λ (w : NodeState). w.passes) is)
  passed_last user_of (Some request) old new lacks = lacked user_of request old new lacks

  -- through all that a session asks
  pub keeps_through : (user_of : AreaRequest → Option User) (exchanges : List Exchange) (last : Option Request) (from mid to : NodeState)
      → Passed user_of from exchanges mid → PassedLast user_of mid last to → OnEach from to
  keeps_through user_of exchanges last from mid to through at_last k pass =
      and_then _ _ _ (passed user_of exchanges from mid through k pass) (passed_last user_of last mid to at_last k pass)
