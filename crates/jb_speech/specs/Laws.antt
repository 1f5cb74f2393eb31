-- That there is one conversation over any bytes and answers, and that with more of them it only says and asks more.
use Rattle.std.specs.Prelude.{◌≡◌, ℕ, ◌<◌, ◌≤◌, List, ◌++◌, length, ◌≢◌, Option, Some, None}
use Rattle.jb_conf.specs.declared.board.Board.{Board}
use Rattle.jb_menu.specs.declared.given.Given.{Given}
use Rattle.jb_speech.specs.declared.request.Request.{Request}
use Rattle.jb_speech.specs.declared.request.Request.TheVariants.{Send, Take}
use Rattle.jb_speech.specs.declared.end.TalkEnd.{TalkEnd}
use Rattle.jb_speech.specs.declared.end.TalkEnd.TheVariants.{Unanswered}
use Rattle.jb_speech.specs.Posture.{Posture}

-- what a conversation over bytes and answers sends and asks, and how it ends
abbrev pub Talk : Type 1
Talk = Board → List ℕ → List Given → List ℕ → List Request → TalkEnd → Type 0

-- the whole begins with the front
pub record IsFront {T : Type 0} (front whole : List T) : Type 0 where
  pub rest : List T
  pub is : whole ≡ front ++ rest

module _ (talks : Talk) where
  -- a conversation over these bytes, with these answers
  pub record IsTalked (board : Board) (bytes : List ℕ) (answers : List Given) : Type 0 where
    pub out : List ℕ
    pub asked : List Request
    pub end : TalkEnd
    pub says : talks board bytes answers out asked end

  -- over any bytes, with any answers, there is a conversation
  abbrev pub EachTalks : Type 0
  EachTalks = (board : Board) (bytes : List ℕ) (answers : List Given) → IsTalked board bytes answers

  -- and no other: in which pieces the bytes come does not matter
  abbrev pub TalksOneWay : Type 0
  TalksOneWay = (board : Board) (bytes : List ℕ) (answers : List Given) (out other : List ℕ) (asked others : List Request) (end another : TalkEnd)
      → talks board bytes answers out asked end → talks board bytes answers other others another
      → (out ≡ other) × (asked ≡ others) × (end ≡ another)

  -- with more bytes and more answers, what was sent and asked stays, and more comes behind it
  abbrev pub TalksGrow : Type 0
  TalksGrow = (board : Board) (bytes more : List ℕ) (answers later : List Given) (out all : List ℕ) (asked every : List Request) (end another : TalkEnd)
      → talks board bytes answers out asked end → talks board (bytes ++ more) (answers ++ later) all every another
      → IsFront out all × IsFront asked every

-- of speakers that show themselves so
module _ {S : Type 0} (talks : Talk) (posture : S → Posture) (has_talked : Board → S → List ℕ → List Given → List ℕ → List Request → Type 0) where
  -- a speaker stands at all times where its conversation ends that has these bytes and answers
  abbrev pub EachStands : Type 0
  EachStands = (board : Board) (speaker : S) (bytes sent : List ℕ) (answers : List Given) (asked : List Request)
      → has_talked board speaker bytes answers sent asked
      → talks board bytes answers (sent ++ (posture speaker).owed) asked (posture speaker).end

-- a speaker has taken as many bytes as it has talked over
abbrev pub EachCounts : {S : Type 0} → (S → Posture) → (Board → S → List ℕ → List Given → List ℕ → List Request → Type 0) → Type 0
EachCounts {S} posture has_talked = (board : Board) (speaker : S) (bytes sent : List ℕ) (answers : List Given) (asked : List Request)
    → has_talked board speaker bytes answers sent asked → (posture speaker).taken ≡ length bytes

-- a speaker that hands nothing out waits for no answer
abbrev pub EachWaits : {S : Type 0} → (S → Posture) → (Board → S → Option Request → Type 0) → Type 0
EachWaits {S} posture hands_out = (board : Board) (speaker : S) → hands_out board speaker None → (posture speaker).end ≢ Unanswered

-- a page is asked for only where there are nodes, and sent only to one of them
abbrev pub IsWithin : ℕ → Request → Type 0
IsWithin nodes (Send to text) = (0 < to) × (to ≤ nodes)
IsWithin nodes Take = 0 < nodes
IsWithin nodes _ = Unit {0}

-- whatever a speaker hands out is within the nodes that it reaches
abbrev pub EachReaches : {S : Type 0} → (Board → ℕ) → (Board → S → Option Request → Type 0) → Type 0
EachReaches {S} reach hands_out = (board : Board) (speaker : S) (request : Request) → hands_out board speaker (Some request) → IsWithin (reach board) request
