use Rattle.std.proofs.Common.{◌≡◌, ◌+◌, ◌-◌, ◌≤◌, ◌++◌, ℕ, List, None, length, take}
use Rattle.jb_menu.specs.declared.given.Given.{Given}
use Rattle.jb_speech.specs.declared.request.Request.{Request}
use Rattle.jb_news_talk.specs.Reading.{NewsHands, NewsHasTalked}
use Rattle.jb_news_talk.proofs.talk.NewsTalkSpeaker.hear.Given as goal

abbrev pub invariant-loop-taken : goal.invariant-loop-taken
invariant-loop-taken l =
    (l.taken ≤ length l.initial.piece) × (l.self.held.taken ≡ l.initial.self.held.taken + l.taken) × NewsHands l.initial.board l.self None
    × ((bytes sent : List ℕ) (answers : List Given) (asked : List Request) → NewsHasTalked l.initial.board l.initial.self bytes answers sent asked
    → NewsHasTalked l.initial.board l.self (bytes ++ take l.taken l.initial.piece) answers sent asked)

abbrev pub decreases-loop-taken : goal.decreases-loop-taken
decreases-loop-taken l = length l.initial.piece - l.taken
