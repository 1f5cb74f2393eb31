-- What a session asks of its node, and what it is answered.
use Rattle.std.specs.Prelude.{◌≡◌, ◌≢◌, ℕ, ◌<◌, ◌≤◌, List, [], ◌∷◌, length, map, slice_index_or, Option, Some, None, Result, Ok, Err}
use Rattle.std.specs.Option.{ForSome, option_map}
use Rattle.jb_base.specs.declared.user.User.{User}
use Rattle.jb_host.specs.Readings.{reading_of, readings_after}
use Rattle.jb_index.specs.Answer.{answer_to, unread_to}
use Rattle.jb_menu.specs.declared.given.Given.{Given}
use Rattle.jb_menu.specs.declared.given.Given.TheVariants as given
use Rattle.jb_model.specs.declared.command.Command.{Command}
use Rattle.jb_state.specs.Short.{kept_of, short_of}
use Rattle.jb_state.specs.declared.look.SharedFault.TheVariants as fault
use Rattle.jb_state.specs.declared.short.Short.{Short}
use Rattle.jb_model.specs.declared.reply.Reply.{Reply}
use Rattle.jb_page.specs.Pagers.{AnswersSend, AnswersTake, PagerView, sent_with, taken_with}
use Rattle.jb_shared.specs.Areas.{IsOf}
use Rattle.jb_shared.specs.Calls.{Calls}
use Rattle.jb_shared.specs.Looks.{Looks, OfShown}
use Rattle.jb_shared.specs.Passes.{Known, PassView, turned_away}
use Rattle.jb_shared.specs.declared.error.SharedError.{SharedError}
use Rattle.jb_shared.specs.declared.error.SharedError.TheVariants.{StoreFault, RunSpent, OutOfMemory}
use Rattle.jb_shared.specs.declared.shared.SharedArea.{SharedArea}
use Rattle.jb_speech.specs.declared.request.Act.{Act}
use Rattle.jb_speech.specs.declared.request.Act.TheVariants.{Ask, Look, Count}
use Rattle.jb_speech.specs.declared.request.AreaRequest.{AreaRequest}
use Rattle.jb_speech.specs.declared.request.Request.{Request}
use Rattle.jb_speech.specs.declared.request.Request.TheVariants.{Area, Clock, Send, Take}

-- a request, and what was answered to it
pub record Exchange : Type 0 where
  pub request : Request
  pub given : Given

-- what was asked
abbrev pub asks_of : List Exchange → List Request
asks_of exchanges = map (λ exchange. exchange.request) exchanges

-- what was answered
abbrev pub answers_of : List Exchange → List Given
answers_of exchanges = map (λ exchange. exchange.given) exchanges

-- a node or the packer, with what it asks by: the readings that its clock will give, where it tells them, a pass of each area, in order, and
-- its pager, where it has one
pub record NodeState : Type 0 where
  pub readings : Option (List ℕ)
  pub passes : List PassView
  pub pager : Option PagerView

-- one with these
abbrev pub node_with : Option (List ℕ) → List PassView → Option PagerView → NodeState
node_with readings passes pager = record { readings = readings; passes = passes; pager = pager }

-- there are as many passes as areas, one of each in order
pub record AreOf {D : Type 0} (areas : List (SharedArea D)) (passes : List PassView) : Type 0 where
  pub count : length areas ≡ length passes
  pub each : (k : ℕ) (area : SharedArea D) (pass : PassView) → k < length areas → IsOf (slice_index_or areas k area) (slice_index_or passes k pass)

-- the readings that are left behind an act: a command takes the next, a look and a count take none
abbrev pub left_by : Act → Option (List ℕ) → Option (List ℕ)
left_by (Ask command) readings = option_map readings_after readings
left_by (Look question) readings = readings
left_by Count readings = readings

-- the text of a page that is sent: what is kept of it
abbrev pub text_sent : Short 72 → Short 72
text_sent text = short_of 72 (kept_of 72 text)

-- the readings that the clock tells as the act is done
module _ (readings : Option (List ℕ)) where
  -- the command is asked on a pass as its node's next call, at the moment that the clock shows
  abbrev pub AsksPass : User → Command → Known → Known → Result Reply SharedError → Type 0
  AsksPass user command old new result = (moment : ℕ) × ForSome readings (λ all. moment ≡ reading_of all) × Calls old new user moment command result

  -- how a pass answers an act of the user: a call with its reply or the fault that stopped it, a look and a count by what they show,
  -- or that they were not let in
  abbrev pub GivesAnswer : User → Act → Known → Known → Given → Type 0
  GivesAnswer user (Ask command) old new (given.Reply reply) = AsksPass user command old new (Ok reply)
  GivesAnswer user (Ask command) old new (given.Fault fault.StoreFault) = AsksPass user command old new (Err StoreFault)
  GivesAnswer user (Ask command) old new (given.Fault fault.RunSpent) = AsksPass user command old new (Err RunSpent)
  GivesAnswer user (Look question) old new (given.Answer answer) = Looks old new × OfShown new (λ index. answer ≡ answer_to index user question)
  GivesAnswer user (Look question) old new (given.Fault fault.Barred) = new ≡ turned_away old
  GivesAnswer user Count old new (given.Count unread) = Looks old new × OfShown new (λ index. unread ≡ length (unread_to index user))
  GivesAnswer user Count old new (given.Fault fault.Barred) = new ≡ turned_away old
  GivesAnswer user act old new what = ⊥

  -- how a pass stands where memory was wanting for the answer
  abbrev pub Wants : User → Act → Known → Known → Type 0
  Wants user (Ask command) old new = AsksPass user command old new (Err OutOfMemory)
  Wants user (Look question) old new = Looks old new
  Wants user Count old new = ⊥

-- where it is known for whom each area is asked, if there is such a user
module _ (user_of : AreaRequest → Option User) where
  -- on the pass of the area that is asked, for the user for whom it is; the other passes and the pager stay. The clock moves on for a command
  pub record Happens (request : AreaRequest) (happens : User → Known → Known → Type 0) (old new : NodeState) : Type 0 where
    pub user : User
    pub of : user_of request ≡ Some user
    pub area : request.area < length old.passes
    pub does : (pass : PassView) → happens user (slice_index_or old.passes request.area pass).known (slice_index_or new.passes request.area pass).known
    pub clock : new.readings ≡ left_by request.act old.readings
    pub count : length new.passes ≡ length old.passes
    pub others : (k : ℕ) (pass : PassView) → k ≢ request.area → slice_index_or new.passes k pass ≡ slice_index_or old.passes k pass
    pub pager : new.pager ≡ old.pager

  -- a request was answered: by a pass of the area; by what the clock shows, which moves on; by what came of a send to a node that there is, or
  -- of a take, of which the node's pager tells
  abbrev pub Answers : Request → Given → NodeState → NodeState → Type 0
  Answers (Area request) what old new = Happens request (λ user before after. GivesAnswer old.readings user request.act before after what) old new
  Answers Clock (given.Moment moment) old new =
      ForSome old.readings (λ all. moment ≡ reading_of all) × (new ≡ record old { readings = option_map readings_after old.readings })
  Answers (Send to text) (given.Sent result) old new = (pager : PagerView) × (old.pager ≡ Some pager) × (0 < to) × (to ≤ length pager.rows)
      × AnswersSend pager to result × (new ≡ record old { pager = Some (sent_with pager to (text_sent text) result) })
  Answers Take (given.Page taken) old new = (pager : PagerView) × (old.pager ≡ Some pager) × AnswersTake pager taken
      × (new ≡ record old { pager = Some (taken_with pager taken) })
  Answers _ _ old new = ⊥

  abbrev pub Exchanged : Exchange → NodeState → NodeState → Type 0
  Exchanged exchange old new = Answers exchange.request exchange.given old new

  -- a request was made, and memory was wanting for its answer: only an area takes memory for one
  abbrev pub Lacks : Request → NodeState → NodeState → Type 0
  Lacks (Area request) old new = Happens request (λ user before after. Wants old.readings user request.act before after) old new
  Lacks _ old new = ⊥

  -- the requests were made one after the other of this node, and so answered
  abbrev pub Passed : NodeState → List Exchange → NodeState → Type 0
  Passed old [] new = new ≡ old
  Passed old (exchange ∷ exchanges) new = (mid : NodeState) × Exchanged exchange old mid × Passed mid exchanges new

  -- a last request, where there was one, that memory was wanting for
  abbrev pub PassedLast : NodeState → Option Request → NodeState → Type 0
  PassedLast old None new = new ≡ old
  PassedLast old (Some request) new = Lacks request old new
