use Rattle.std.proofs.Common.{◌≡◌, ◌+◌, ◌-◌, ◌≤◌, ◌++◌, ℕ, List, false, length, take}
use Rattle.jb_menu.specs.Awaits.{IsFor}
use Rattle.jb_menu.specs.declared.given.Given.{Given}
use Rattle.jb_speech.specs.declared.request.Request.{Request}
use Rattle.jb_talk.specs.Conversations.{is_waiting}
use Rattle.jb_talk.specs.Talking.{HasTalked}
use Rattle.jb_talk.proofs.talk.TalkSpeaker.hear.Given as goal

abbrev pub invariant-loop-taken : goal.invariant-loop-taken
invariant-loop-taken l =
    (l.taken ≤ length l.initial.piece) × (l.self.taken ≡ l.initial.self.taken + l.taken) × IsFor l.initial.board l.self.place.menu
    × (is_waiting l.self.place.standing ≡ false)
    × ((bytes sent : List ℕ) (answers : List Given) (asked : List Request) → HasTalked l.initial.board l.initial.self bytes answers sent asked
    → HasTalked l.initial.board l.self (bytes ++ take l.taken l.initial.piece) answers sent asked)

abbrev pub decreases-loop-taken : goal.decreases-loop-taken
decreases-loop-taken l = length l.initial.piece - l.taken
