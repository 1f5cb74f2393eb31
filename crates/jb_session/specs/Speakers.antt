-- What a session rests on of its speaker.
use Rattle.std.specs.Prelude.{ℕ, List}
use Rattle.jb_conf.specs.declared.board.Board.{Board}
use Rattle.jb_menu.specs.declared.given.Given.{Given}
use Rattle.jb_speech.specs.Laws.{EachCounts, EachStands, EachTalks, Talk, TalksGrow}
use Rattle.jb_speech.specs.Posture.{Posture}
use Rattle.jb_speech.specs.declared.request.Request.{Request}

-- what a session needs of that which holds of every speaker
pub record IsLawful {S : Type 0} (talks : Talk) (posture : S → Posture) (has_talked : Board → S → List ℕ → List Given → List ℕ → List Request → Type 0) : Type 0 where
  pub some : EachTalks talks
  pub grows : TalksGrow talks
  pub stands : EachStands talks posture has_talked
  pub counts : EachCounts posture has_talked
