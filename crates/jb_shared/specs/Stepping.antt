-- What the steps of a pack make of what is known, and how much one of them copies.
use Rattle.std.specs.Prelude.{◌≡◌, ◌⊎◌, ℕ, ◌<◌, Bool, false, List, Option, None, Some, Result, Ok, Err}
use Rattle.jb_area.specs.Area.{IsResting, copied_of, loaded_of, rules_of}
use Rattle.jb_area.specs.Copying.{HasCopiedSome, begun_of}
use Rattle.jb_area.specs.declared.area.OpenArea.{OpenArea}
use Rattle.jb_limits.specs.declared.limits.TheConstants.{MOST_ENTRIES}
use Rattle.jb_pack.specs.declared.run.TheConstants.{PACK_STEP_BYTES}
use Rattle.jb_base.specs.declared.user.User.{User}
use Rattle.jb_decide.specs.Packs.{is_pack_refused}
use Rattle.jb_disk.specs.Device.{Device}
use Rattle.jb_model.specs.declared.command.Command.TheVariants.{Pack}
use Rattle.jb_model.specs.declared.entry.Entry.{Entry}
use Rattle.jb_pack.specs.Shadow.{left}
use Rattle.jb_state.specs.Packed.{texts_size}
use Rattle.jb_turn.specs.Rows.{Begins}
use Rattle.jb_turn.specs.declared.seat.Held.{Held}
use Rattle.jb_shared.specs.Calls.{AreLeft, Asks, Runs, call_of}
use Rattle.jb_shared.specs.InTurn.{Leads, SeatRow}
use Rattle.jb_shared.specs.Passes.{Known, refusing, seen, stepping}
use Rattle.jb_shared.specs.declared.error.SharedError.{SharedError}
use Rattle.jb_shared.specs.declared.refusal.Refusal.{Refusal}
use Rattle.jb_shared.specs.declared.refusal.Refusal.TheVariants.{Stepped}
use Rattle.jb_shared.specs.declared.shown.ShownArea.{ShownArea}

-- more of the history was taken, and all else that is known stays
abbrev pub HasTaken : Known → Known → Type 0
HasTaken old new = (taken : List Entry) × Begins old.front taken × (new ≡ seen old taken)

-- a step of a pack, by its answer: it is known what it left, or the pack has ended so
abbrev pub StepsAs : Known → Known → User → ℕ → Result (Option ℕ) SharedError → Type 0
StepsAs old new user moment (Ok left) = HasTaken (refusing old (Stepped left)) new
StepsAs old new user moment (Err error) = Asks old new user moment Pack (Err error)

-- steps: such ones were made, and the pack goes on from the history that was taken; or it has ended so behind some
abbrev pub StepsOn : (List Refusal → Type 0) → Known → Known → User → ℕ → Result (Unit {0}) SharedError → Type 0
StepsOn made old new user moment (Ok done) = (steps : List Refusal) × made steps × HasTaken (stepping old steps) new
StepsOn made old new user moment (Err error) = (steps : List Refusal) × AreLeft steps × Asks (stepping old steps) new user moment Pack (Err error)

-- a step while the area is out with the seat: it records nothing, or what stopped the pack
abbrev pub RunsStep : {T : Type 0} → SeatRow → SeatRow → User → ℕ → Result T SharedError → Type 0
RunsStep old new user moment (Ok value) = new ≡ old
RunsStep old new user moment (Err error) = Leads (λ before after. Runs before after (call_of old.node old.mine user moment Pack) (Err error)) old new

-- of the texts of the area as many were copied as a step may copy, and it is said whether one is left; or the area is as it was,
-- and it is said that none is
abbrev pub CopiesOnePart : {D : Type 0} → OpenArea D → OpenArea D → Bool → Type 0
CopiesOnePart old new more = HasCopiedSome PACK_STEP_BYTES (loaded_of old).slots (copied_of old) (copied_of new) more ⊎ ((new ≡ old) × (more ≡ false))

-- how many bytes of the area's texts are left to copy for a pack
abbrev pub uncopied : {D : Type 0} → OpenArea D → ℕ
uncopied area = left (begun_of (copied_of area)) (loaded_of area).slots

-- of a disk that shows itself so
module _ {D : Type 0} (shown : D → Device) where
  -- a pack of this user may copy texts: the history is not spent, the area is at rest, and the pack is not refused
  pub record MayCopy (held : Held (ShownArea D)) (user : User) : Type 0 where
    pub room : held.count < MOST_ENTRIES
    pub texts : List ℕ
    pub rests : IsResting shown held.state.area texts
    pub allowed : is_pack_refused (rules_of held.state.area) texts (loaded_of held.state.area) user ≡ false

  -- what a step of a pack says behind it: the bytes of all live texts, where one is left to copy; or none, where all are copied
  -- or none may be
  abbrev pub LeavesAs : Held (ShownArea D) → User → Option ℕ → Type 0
  LeavesAs held user None = MayCopy held user → uncopied held.state.area ≡ 0
  LeavesAs held user (Some bytes) = (0 < uncopied held.state.area) × (bytes ≡ texts_size (loaded_of held.state.area).slots)

  -- the remark is none of a step, or what a step of a pack of this user says
  abbrev pub TellsLeft : Held (ShownArea D) → User → Option Refusal → Type 0
  TellsLeft held user (Some (Stepped left)) = LeavesAs held user left
  TellsLeft held user _ = Unit {0}
