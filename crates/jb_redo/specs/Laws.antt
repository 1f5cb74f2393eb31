-- What makes the reading of a record one that has one answer.
use Rattle.std.specs.Prelude.{◌≡◌, ℕ, List}
use Rattle.jb_disk.specs.declared.piece.Length.{Length}
use Rattle.jb_disk.specs.declared.piece.Piece.{Piece}
use Rattle.jb_disk.specs.Files.{Files}
use Rattle.jb_redo.specs.Reading.{IsRecordOf, HasRecord, IsBadAt}
use Rattle.jb_disk.specs.Gate.{IsGateOpen}
use Rattle.jb_redo.specs.OnTheWay.{IsOnTheWay}
use Rattle.jb_redo.specs.Replay.{Replays, IsGrowthCovered}

-- a journal holds one record at most
abbrev pub HasOneRecordAtMost : Type 0
HasOneRecordAtMost = (files : Files) (lengths lengths' : List Length) (pieces pieces' : List Piece)
    (one : IsRecordOf files lengths pieces) (other : IsRecordOf files lengths' pieces')
    → (lengths ≡ lengths') × (pieces ≡ pieces') × (one.change ≡ other.change)

-- where it holds none, one place is to blame
abbrev pub HasOneBadPlaceAtMost : Type 0
HasOneBadPlaceAtMost = (files : Files) (at other : ℕ) → IsBadAt files at → IsBadAt files other → at ≡ other

-- and where it holds one, no place is
abbrev pub HasRecordOrBadPlace : Type 0
HasRecordOrBadPlace = (files : Files) (at : ℕ) → IsBadAt files at → HasRecord files → ⊥

-- files replay to one family of files at most
abbrev pub HasOneReplayAtMost : Type 0
HasOneReplayAtMost = (files one other : Files) → Replays files one → Replays files other → one ≡ other

-- files on their way replay as those at the start do, where each byte past an old end is written
abbrev pub ReplayOnTheWay : Type 0
ReplayOnTheWay = (lengths : List Length) (pieces : List Piece) (start now after : Files) → IsGateOpen start
    → IsRecordOf start lengths pieces → IsGrowthCovered lengths pieces start → IsOnTheWay lengths pieces start now
    → Replays start after → Replays now after
