-- One session over a link, by what is said and asked in it.
use Rattle.std.specs.Prelude.{◌≡◌, ◌≢◌, ◌⊎◌, ℕ, ◌+◌, ◌≤◌, List, [], ◌++◌, length, Option, None}
use Rattle.std.specs.Option.{ForSome, option_to_list}
use Rattle.jb_bytes.specs.Fault.{Rose}
use Rattle.jb_limits.specs.declared.limits.TheConstants.{MOST_SESSION_BYTES}
use Rattle.jb_base.specs.declared.user.User.{User}
use Rattle.jb_conf.specs.declared.board.Board.{Board}
use Rattle.jb_host.specs.Wire.{Wire, Sends, Takes}
use Rattle.jb_menu.specs.declared.given.Given.{Given}
use Rattle.jb_speech.specs.Laws.{IsFront, Talk}
use Rattle.jb_speech.specs.declared.request.AreaRequest.{AreaRequest}
use Rattle.jb_speech.specs.declared.request.Request.{Request}
use Rattle.jb_speech.specs.declared.end.TalkEnd.{TalkEnd}
use Rattle.jb_speech.specs.declared.end.TalkEnd.TheVariants as talk
use Rattle.jb_news_talk.specs.Conversations.{NewsTalks, reader_of}
use Rattle.jb_talk.specs.Conversations.{Talks}
use Rattle.jb_talk.specs.Talking.{asker_of}
use Rattle.jb_session.specs.Exchanges.{Exchange, NodeState, Passed, PassedLast, answers_of, asks_of}
use Rattle.jb_session.specs.declared.end.SessionEnd.{SessionEnd}
use Rattle.jb_session.specs.declared.end.SessionEnd.TheVariants.{Quit, Hangup, LoginRefused, LinkFault, Spent, OutOfMemory}

-- no count of the link fell
pub record Later (old new : Wire) : Type 0 where
  pub faults : old.faults ≤ new.faults
  pub ends : old.ends ≤ new.ends
  pub unsent : old.unsent ≤ new.unsent

-- no read and no write of the link failed
pub record NeverFails (old new : Wire) : Type 0 where
  pub faults : new.faults ≡ old.faults
  pub unsent : new.unsent ≡ old.unsent

-- where it is known what is said and asked on the board
module _ (talks : Talk) (board : Board) where
  -- all that the conversation says was sent and asked
  pub record SaysAll (taken : List ℕ) (answers : List Given) (out : List ℕ) (asked : List Request) : Type 0 where
    pub end : TalkEnd
    pub is : talks board taken answers out asked end

  -- a beginning of it was
  pub record SaysSome (taken : List ℕ) (answers : List Given) (out : List ℕ) (asked : List Request) : Type 0 where
    pub all : List ℕ
    pub every : List Request
    pub says : SaysAll taken answers all every
    pub sent : IsFront out all
    pub made : IsFront asked every

  -- how a session ended, and why: what it took, was answered, sent and asked, and the link before and after
  abbrev pub EndsAs : SessionEnd → Wire → Wire → List ℕ → List Given → List ℕ → List Request → Type 0
  EndsAs Quit old new taken answers out asked = talks board taken answers out asked talk.Quit
  EndsAs LoginRefused old new taken answers out asked = talks board taken answers out asked talk.LoginRefused
  EndsAs Spent old new taken answers out asked = talks board taken answers out asked talk.Spent
  EndsAs Hangup old new taken answers out asked =
      talks board taken answers out asked talk.Hangup × Rose old.ends new.ends × ForSome new.to_come (λ bytes. bytes ≡ [])
  EndsAs LinkFault old new taken answers out asked =
      SaysSome taken answers out asked × Rose old.faults new.faults × (Rose old.unsent new.unsent ⊎ SaysAll taken answers out asked)
  EndsAs OutOfMemory old new taken answers out asked = SaysSome taken answers out asked

-- a request stays without an answer only where memory was wanting
abbrev pub MayLack : SessionEnd → Option Request → Type 0
MayLack OutOfMemory last = Unit
MayLack _ last = last ≡ None

-- where it is known for whom an area is asked, too
module _ (talks : Talk) (asker_of : Board → AreaRequest → Option User) (board : Board) where
  -- a session from its greeting to its end: the bytes taken, the requests that were made of its node and their answers, and the bytes
  -- sent; no read and no write failed but where the link is said to have
  pub record ServedBy (old : Wire) (from : NodeState) (end : SessionEnd) (new : Wire) (to : NodeState) : Type 0 where
    pub taken : List ℕ
    pub within : length taken ≤ MOST_SESSION_BYTES
    pub takes : Takes old.to_come taken new.to_come
    pub exchanges : List Exchange
    pub mid : NodeState
    pub passed : Passed (asker_of board) from exchanges mid
    pub last : Option Request
    pub lacks : PassedLast (asker_of board) mid last to
    pub only : MayLack end last
    pub out : List ℕ
    pub sends : Sends old.sent out new.sent
    pub later : Later old new
    pub quiet : end ≢ LinkFault → NeverFails old new
    pub ends : EndsAs talks board end old new taken (answers_of exchanges) out (asks_of exchanges ++ option_to_list last)

-- and what the speaker has handed out
module _ {S : Type 0} (asker_of : Board → AreaRequest → Option User) (has_talked : Board → S → List ℕ → List Given → List ℕ → List Request → Type 0) (board : Board) where
  -- a session in its middle: of the bytes taken, the speaker has heard all but the rest, and what it has handed out was sent and
  -- asked, but for the next request
  pub record Stands (old : Wire) (from : NodeState) (now : Wire) (rest : List ℕ) (speaker : S) (next : Option Request) (to : NodeState) : Type 0 where
    pub heard : List ℕ
    pub within : length heard + length rest ≤ MOST_SESSION_BYTES
    pub takes : Takes old.to_come (heard ++ rest) now.to_come
    pub exchanges : List Exchange
    pub passed : Passed (asker_of board) from exchanges to
    pub out : List ℕ
    pub sends : Sends old.sent out now.sent
    pub later : Later old now
    pub quiet : NeverFails old now
    pub talked : has_talked board speaker heard (answers_of exchanges) out (asks_of exchanges ++ option_to_list next)

-- a session of a caller by Telnet
abbrev pub Served : Board → Wire → NodeState → SessionEnd → Wire → NodeState → Type 0
Served = ServedBy Talks asker_of

-- a session of a news reader
abbrev pub ServedNews : Board → Wire → NodeState → SessionEnd → Wire → NodeState → Type 0
ServedNews = ServedBy NewsTalks reader_of
