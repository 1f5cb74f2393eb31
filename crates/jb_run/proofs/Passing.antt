-- What a session leaves of what its passes know: whose they are, and the opening from which they went on; and whose its pager is.
use Rattle.std.proofs.Common.{◌≡◌, ℕ, List, [], ◌∷◌, Result, refl, sym, ap, ◌∙◌}
use Rattle.std.specs.Prelude.{Option, Some, None, Ok, Err, slice_index_or}
use Rattle.jb_base.specs.declared.user.User.{User}
use Rattle.jb_conf.specs.declared.board.Board.{Board}
use Rattle.jb_host.specs.Wire.{Wire}
use Rattle.jb_menu.specs.declared.given.Given.{Given}
use Rattle.jb_menu.specs.declared.given.Given.TheVariants as given
use Rattle.jb_model.specs.declared.command.Command.{Command}
use Rattle.jb_model.specs.declared.reply.Reply.{Reply}
use Rattle.jb_page.specs.Pagers.{PagerView, sent_with, taken_with}
use Rattle.jb_page.specs.declared.page.Page.{Page}
use Rattle.jb_page.specs.declared.page.PageError.{PageError}
use Rattle.jb_page.specs.declared.page.PageError.TheVariants.{Full, Spent}
use Rattle.jb_session.specs.Exchanges.{Answers, Exchange, Lacks, NodeState, Passed, PassedLast}
use Rattle.jb_server.specs.Sessions.{ServedAs}
use Rattle.jb_server.specs.declared.service.Service.{Service}
use Rattle.jb_server.specs.declared.service.Service.TheVariants.{Menus, News}
use Rattle.jb_session.specs.Served.{Served, ServedBy}
use Rattle.jb_session.specs.declared.end.SessionEnd.{SessionEnd}
use Rattle.jb_session.proofs.Passing as session
use Rattle.jb_shared.specs.Calls.{Calls}
use Rattle.jb_shared.specs.Looks.{Looks}
use Rattle.jb_shared.specs.Passes.{Known, PassView, turned_away}
use Rattle.jb_shared.specs.declared.error.SharedError.{SharedError}
use Rattle.jb_speech.specs.declared.request.AreaRequest.{AreaRequest}
use Rattle.jb_speech.specs.declared.request.Request.{Request}
use Rattle.jb_speech.specs.declared.request.Request.TheVariants.{Area, Clock, Send, Take}
use Rattle.jb_state.specs.declared.short.Short.{Short}
use Rattle.jb_talk.specs.Talking.{asker_of}
use Rattle.jb_run.specs.Workers.{pager_number}

-- the pass is still of this node, and goes on from this opening
pub record KeepsStart (old new : Known) : Type 0 where
  pub node : new.node ≡ old.node
  pub opening : new.opening ≡ old.opening

pub is_same : (old new : Known) → new ≡ old → KeepsStart old new
is_same old new is = record { node = ap (λ (k : Known). k.node) is; opening = ap (λ (k : Known). k.opening) is }

pub and_then : (a b c : Known) → KeepsStart a b → KeepsStart b c → KeepsStart a c
and_then a b c one two = record { node = two.node ∙ one.node; opening = two.opening ∙ one.opening }

by_call : (old new : Known) → session.HasCalled old new → KeepsStart old new
by_call old new is = record { node = ap (λ (k : Known). k.node) is; opening = ap (λ (k : Known). k.opening) is }

pub called : (old new : Known) (user : User) (moment : ℕ) (command : Command) (result : Result Reply SharedError)
    → Calls old new user moment command result → KeepsStart old new
called old new user moment command result c = by_call old new (session.called old new user moment command result c)

looked : (old new : Known) → Looks old new → KeepsStart old new
looked old new l = record { node = ap (λ (k : Known). k.node) l.same; opening = ap (λ (k : Known). k.opening) l.same }

barred : (old new : Known) → new ≡ turned_away old → KeepsStart old new
barred old new is = record { node = ap (λ (k : Known). k.node) is; opening = ap (λ (k : Known). k.opening) is }

-- through a whole session, whatever is said in it
through : (talks : _) (asker_of : _) (board : Board) (one other : Wire) (from to : NodeState) (end : SessionEnd) → ServedBy talks asker_of board one from end other to
    → (k : ℕ) (pass : PassView) → KeepsStart (slice_index_or from.passes k pass).known (slice_index_or to.passes k pass).known
through talks asker_of board one other from to end served =
    session.keeps_through KeepsStart (λ known. is_same known known refl) and_then by_call looked barred (asker_of board) served.exchanges served.last from served.mid to
    served.passed served.lacks

pub keeps_starts : (board : Board) (one other : Wire) (from to : NodeState) (end : SessionEnd) → Served board one from end other to
    → (k : ℕ) (pass : PassView) → KeepsStart (slice_index_or from.passes k pass).known (slice_index_or to.passes k pass).known
keeps_starts board one other from to end served = through _ _ board one other from to end served

-- in whatever way the caller is served
pub served_keeps : (service : Service) (board : Board) (one other : Wire) (from to : NodeState) (end : SessionEnd) → ServedAs service board one from end other to
    → (k : ℕ) (pass : PassView) → KeepsStart (slice_index_or from.passes k pass).known (slice_index_or to.passes k pass).known
served_keeps Menus board one other from to end served = through _ _ board one other from to end served
served_keeps News board one other from to end served = through _ _ board one other from to end served

-- whose the pager of a node is
abbrev pub pager_at : NodeState → Option ℕ
pager_at node = pager_number node.pager

sent_same : (pager : PagerView) (to : ℕ) (text : Short 72) (result : Result _ PageError) → (sent_with pager to text result).number ≡ pager.number
sent_same pager to text (Ok _) = refl
sent_same pager to text (Err (Full n)) = refl
sent_same pager to text (Err (Spent n)) = refl

taken_same : (pager : PagerView) (taken : Option Page) → (taken_with pager taken).number ≡ pager.number
taken_same pager (Some taken) = refl
taken_same pager None = refl

-- is kept by what is asked
module _ (user_of : AreaRequest → Option User) where
  answer_keeps : (request : Request) (what : Given) (old new : NodeState) → Answers user_of request what old new → pager_at new ≡ pager_at old
  answer_keeps (Area request) what old new is = ap pager_number is.pager
  answer_keeps Clock (given.Moment moment) old new is = ap pager_at is.1
  answer_keeps (Send to text) (given.Sent result) old new is =
      ap pager_at is.5 ∙ ap (λ (n : ℕ). Some n) (sent_same is.0 to _ result) ∙ ap pager_number (sym is.1)
  answer_keeps Take (given.Page taken) old new is = ap pager_at is.3 ∙ ap (λ (n : ℕ). Some n) (taken_same is.0 taken) ∙ ap pager_number (sym is.1)
  answer_keeps request what old new is = absurd is

  lack_keeps : (request : Request) (old new : NodeState) → Lacks user_of request old new → pager_at new ≡ pager_at old
  lack_keeps (Area request) old new is = ap pager_number is.pager
  lack_keeps request old new is = absurd is

  asks_keep : (exchanges : List Exchange) (old new : NodeState) → Passed user_of old exchanges new → pager_at new ≡ pager_at old
  asks_keep [] old new is = ap pager_at is
  asks_keep (exchange ∷ exchanges) old new passed =
      asks_keep exchanges passed.0 new passed.2 ∙ answer_keeps exchange.request exchange.given old passed.0 passed.1

  last_keeps : (last : Option Request) (old new : NodeState) → PassedLast user_of old last new → pager_at new ≡ pager_at old
  last_keeps None old new is = ap pager_at is
  last_keeps (Some request) old new lacks = lack_keeps request old new lacks

-- and so by a session
pub session_keeps : (board : Board) (one other : Wire) (from to : NodeState) (end : SessionEnd) → Served board one from end other to → pager_at to ≡ pager_at from
session_keeps board one other from to end served =
    let user_of = asker_of board in
    last_keeps user_of served.last served.mid to served.lacks ∙ asks_keep user_of served.exchanges from served.mid served.passed
