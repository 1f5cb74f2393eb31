-- What a news reader's conversation asks, what a reader never is shown, and how a conversation never ends.
use Rattle.std.specs.Prelude.{◌≡◌, ℕ, true, false, List}
use Rattle.std.specs.List.{All}
use Rattle.jb_base.specs.Access.{Envelope, has_attribute, is_party, is_visible}
use Rattle.jb_base.specs.declared.attribute.TheConstants.{NODISP, PRIVATE}
use Rattle.jb_conf.specs.declared.board.Board.{Board}
use Rattle.jb_conf.specs.declared.board.BoardArea.{BoardArea}
use Rattle.jb_menu.specs.declared.given.Given.{Given}
use Rattle.jb_model.specs.declared.command.Command.TheVariants.{Peek}
use Rattle.jb_speech.specs.declared.end.TalkEnd.{TalkEnd}
use Rattle.jb_speech.specs.declared.end.TalkEnd.TheVariants.{LoginRefused}
use Rattle.jb_speech.specs.declared.request.Act.{Act}
use Rattle.jb_speech.specs.declared.request.Act.TheVariants.{Ask, Look}
use Rattle.jb_speech.specs.declared.request.Request.{Request}
use Rattle.jb_speech.specs.declared.request.Request.TheVariants.{Area, Clock}
use Rattle.jb_news_talk.specs.Conversations.{NewsTalks}
use Rattle.jb_news_talk.specs.Newsgroups.{IsGroupAt, is_group, news_user}

-- an area is asked only to look, or for a message without a mark, and it is a group
abbrev pub ReadsGroup : Board → Act → ℕ → Type 0
ReadsGroup board (Look question) area = IsGroupAt board area
ReadsGroup board (Ask (Peek number)) area = IsGroupAt board area
ReadsGroup board _ area = ⊥

-- what is asked is to look at a group or for a message of it, or what the clock shows
abbrev pub OnlyReads : Board → Request → Type 0
OnlyReads board (Area asked) = ReadsGroup board asked.act asked.area
OnlyReads board Clock = Unit
OnlyReads board _ = ⊥

-- over any bytes, with any answers, each request is such a one
abbrev pub EachOnlyReads : Type 0
EachOnlyReads = (board : Board) (bytes out : List ℕ) (answers : List Given) (asked : List Request) (end : TalkEnd)
    → NewsTalks board bytes answers out asked end → All (OnlyReads board) asked

-- in a group news sees nothing that is not to be shown, and nothing private but what bears its own name
pub record IsOpen (board : Board) (message : Envelope) : Type 0 where
  pub shown : has_attribute NODISP message ≡ false
  pub public : is_party (news_user board) message ≡ false → has_attribute PRIVATE message ≡ false

abbrev pub SeesOpenOnly : Type 0
SeesOpenOnly = (board : Board) (area : BoardArea) (message : Envelope) → is_group board area ≡ true
    → is_visible (news_user board) area.rules message ≡ true → IsOpen board message

-- no log-in is refused, since there is none
abbrev pub NeverRefused : Type 0
NeverRefused = (board : Board) (bytes out : List ℕ) (answers : List Given) (asked : List Request) → NewsTalks board bytes answers out asked LoginRefused → ⊥
