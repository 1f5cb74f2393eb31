-- Laws of a shared area: what is settled of its history, and that no stop takes back what was shown.
use Rattle.std.specs.Prelude.{◌≡◌, List}
use Rattle.jb_area.specs.Area.{device_of}
use Rattle.jb_disk.specs.Device.{Device}
use Rattle.jb_disk.specs.Runs.{Shows}
use Rattle.jb_model.specs.History.{settled_prefix}
use Rattle.jb_model.specs.declared.entry.Entry.{Entry}
use Rattle.jb_publish.specs.Publications.{publication_of}
use Rattle.jb_publish.specs.declared.known.PairMark.{PairMark}
use Rattle.jb_shared.specs.Histories.{IsHistory, Tells, first_state, settled_of}
use Rattle.jb_shared.specs.Keeping.{IsKept}
use Rattle.jb_shared.specs.Stops.{OpensBehind}
use Rattle.jb_shared.specs.declared.opening.Opening.{Opening}
use Rattle.jb_shared.specs.declared.shown.ShownArea.{ShownArea}

-- of a legal history, where the disk tells its files, all that is settled is the longest beginning after which the area is settled
abbrev pub SettledIsLongest : Type 0
SettledIsLongest = (opening : Opening) (history : List Entry) → IsHistory opening history → Tells opening
    → settled_of history ≡ settled_prefix opening.rules (first_state opening) history

-- of whatever lies in the turn for a history, and of a disk that tells its files: what looks see is all that is settled of the history,
-- and what is read of the files, and whatever a crash leaves of them, opens to the area after the history, which begins with that
abbrev pub ShownSurvivesStops : {D : Type 0} → (D → Device) → Type 0
ShownSurvivesStops {D} shown = (state : ShownArea D) (mark : PairMark Opening) (history : List Entry) → IsKept shown state mark history → Tells mark.opening
    → ((publication_of state.shower).list ≡ settled_of history) × Shows (OpensBehind mark.opening (publication_of state.shower).list history) (device_of shown state.area)
