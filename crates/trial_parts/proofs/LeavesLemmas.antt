-- What a call leaves, from the contract that it meets.
use Rattle.std.specs.Prelude.{◌≡◌, ℕ, List, None, Some, Result, Ok, Err, IfOk, OnErr}
use Rattle.jb_area.specs.Area.{HasBegun, HasDoubt, IsBegun, IsDoubtful, RestsAt}
use Rattle.jb_area.specs.Calls.{BeginsCall, HasRest, MeetsCall}
use Rattle.jb_area.specs.declared.area.OpenArea.{OpenArea}
use Rattle.jb_base.specs.declared.user.User.{User}
use Rattle.jb_decide.specs.declared.error.AreaError.{AreaError}
use Rattle.jb_decide.specs.declared.error.AreaError.TheVariants.{StoreFault, OutOfMemory}
use Rattle.jb_decide.specs.Coming.{Coming}
use Rattle.jb_disk.specs.Device.{Device}
use Rattle.jb_journal.specs.declared.stopped.Stopped.{Stopped}
use Rattle.jb_model.specs.declared.command.Command.{Command}
use Rattle.jb_model.specs.declared.reply.Reply.{Reply}
use Rattle.trial_parts.specs.Leaves.{LeavesAtRest, LeavesBegun, LeavesEnded}

-- a call from its beginning to its end
pub leaves : {D : Type 0} (shown : D → Device) (old new : OpenArea D) (user : User) (moment : ℕ) (command : Command) (result : Result Reply AreaError)
    → HasRest shown old → MeetsCall shown old new user moment command result → LeavesAtRest shown new result
leaves shown old new user moment command (Ok reply) has meets =
    let answered = meets.answered has.texts has.rests in
    record { texts = answered.coming.texts; rests = answered.rests.rests }
leaves shown old new user moment command (Err StoreFault) has meets =
    let stopped = meets.failed has.texts has.rests in
    record { texts = has.texts; coming = stopped.coming; doubt = stopped.doubt }
leaves shown old new user moment command (Err OutOfMemory) has meets =
    record { texts = has.texts; rests = (meets.failed has.texts has.rests).0.rests }

-- a call that is begun
pub leaves_begun : {D : Type 0} (shown : D → Device) (old new : OpenArea D) (user : User) (moment : ℕ) (command : Command) (result : Result (Unit {0}) AreaError)
    → HasRest shown old → BeginsCall shown old new user moment command result → LeavesBegun shown new result
leaves_begun shown old new user moment command (Ok done) has begins =
    let begun = begins.begun has.texts has.rests in
    record { texts = has.texts; reply = begun.reply; coming = begun.coming; begun = begun.begun }
leaves_begun shown old new user moment command (Err StoreFault) has begins =
    record { texts = has.texts; coming = None; doubt = begins.failed has.texts has.rests }
leaves_begun shown old new user moment command (Err OutOfMemory) has begins =
    record { texts = has.texts; rests = (begins.failed has.texts has.rests).rests }

-- a call that was begun, and ends
pub leaves_ended : {D : Type 0} (shown : D → Device) (old new : OpenArea D) (result : Result Reply Stopped)
    → HasBegun shown old
    → IfOk result (λ (reply : Reply). (texts : List ℕ) (decided : Reply) (coming : Coming) → IsBegun shown old texts decided coming
    → (reply ≡ decided) × RestsAt shown new coming.texts coming.to)
    → OnErr result ((texts : List ℕ) (decided : Reply) (coming : Coming) → IsBegun shown old texts decided coming
    → IsDoubtful shown new texts (Some coming))
    → LeavesEnded shown new result
leaves_ended shown old new (Ok reply) has done doubt =
    record { texts = has.coming.texts; rests = (done has.texts has.reply has.coming has.begun).1.rests }
leaves_ended shown old new (Err stopped) has done doubt =
    record { texts = has.texts; coming = Some has.coming; doubt = doubt has.texts has.reply has.coming has.begun }
