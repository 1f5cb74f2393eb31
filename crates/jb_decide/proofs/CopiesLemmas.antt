-- What is decided over files with any copies of the texts.
use Rattle.std.proofs.Common.{inl, inr, ℕ, List, Option, None}
use Rattle.jb_base.specs.declared.area.AreaRules.{AreaRules}
use Rattle.jb_base.specs.declared.user.User.{User}
use Rattle.jb_disk.specs.RedoView.{RedoView}
use Rattle.jb_disk.specs.Files.{Files}
use Rattle.jb_model.specs.declared.command.Command.{Command}
use Rattle.jb_state.specs.declared.loaded.Loaded.{Loaded}
use Rattle.jb_pack.specs.Shadow.{Shadow}
use Rattle.jb_decide.specs.Coming.{Coming}
use Rattle.jb_decide.specs.Decided.{IsDecided, IsPending}
use Rattle.jb_decide.specs.Holds.{HoldsWith}
use Rattle.jb_decide.specs.declared.decided.Decided.{Decided}
use Rattle.jb_decide.specs.StepOf.{written_text}
use Rattle.jb_state.specs.declared.change.Change.{Change}

-- files with copies of the texts hold the area without them
bare : (from : Loaded) (texts : List ℕ) (copies : Option Shadow) (files : Files) → HoldsWith from texts copies files → HoldsWith from texts None files
bare from texts copies files has = record { holds = has.holds; has = tt }

-- a change of files without copies is one of files with some
pending_with : (limit : ℕ) (contents : Option Files) (copies : Option Shadow) (redo : RedoView) (pending : Change) (from : Loaded) (posted texts : List ℕ) (coming : Coming)
    → IsPending limit contents None redo pending from posted texts coming → IsPending limit contents copies redo pending from posted texts coming
pending_with limit contents copies redo pending from posted texts coming is = record {
  some = is.some;
  becomes = is.becomes;
  texts_are = is.texts_are;
  change = record {
    brings = λ own told. record {
      legal = λ files has. (is.change.brings own told).legal files (bare from texts copies files has);
      grown = λ files has. (is.change.brings own told).grown files (bare from texts copies files has);
      made = λ files has. (is.change.brings own told).made files (bare from texts copies files has);
    };
    writable = is.change.writable;
  };
  fits = is.fits;
  sound = is.sound;
  sized = is.sized;
  short = is.short;
}

-- and so is what is decided
pub with_copies : (rules : AreaRules) (from : Loaded) (texts : List ℕ) (contents : Option Files) (copies : Option Shadow) (redo : RedoView) (user : User) (moment : ℕ) (command : Command) (decided : Decided)
    → IsDecided rules from texts contents None redo user moment command decided → IsDecided rules from texts contents copies redo user moment command decided
with_copies rules from texts contents copies redo user moment command decided is = record {
  coming = is.coming;
  change = elim is.change [
    | inl none ↦ inl none
    | inr pending ↦ inr (pending_with rules.slots contents copies redo decided.pending.change from (written_text command) texts is.coming pending)
  ];
  room = is.room;
  step = is.step;
  somewhere = is.somewhere;
  idle = is.idle;
  kind = is.kind;
  told = is.told;
  headers = λ same files has. is.headers same files (bare from texts copies files has);
  index = is.index;
  packs = λ files has. is.packs files (bare from texts copies files has);
}
