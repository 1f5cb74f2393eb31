-- The packs that a bell asks for, one after another, and the backups behind them.
use Rattle.std.specs.Prelude.{◌≡◌, ◌⊎◌, ℕ, ◌+◌, ◌<◌, Bool, true, false, List, [], ◌∷◌, ◌++◌, length, map, Option, Some, None, Result, Ok, if◌then◌else◌}
use Rattle.std.specs.List.{fold}
use Rattle.std.specs.Option.{option_map}
use Rattle.jb_base.specs.declared.user.User.{User}
use Rattle.jb_host.specs.Readings.{readings_after}
use Rattle.jb_host.specs.Rings.{Rings}
use Rattle.jb_model.specs.declared.command.Command.TheVariants.{Pack}
use Rattle.jb_model.specs.declared.reply.Reply.{Reply}
use Rattle.jb_model.specs.declared.reply.Reply.TheVariants.{Packed}
use Rattle.jb_session.specs.Exchanges.{AsksPass}
use Rattle.jb_shared.specs.declared.error.SharedError.{SharedError}
use Rattle.jb_server.specs.Backups.{BacksUpOnce}
use Rattle.jb_server.specs.Packers.{OnPass, PackerState}
use Rattle.jb_server.specs.Tallies.{more_of}

-- what came of a ring: nothing where no area has its number, else the answer to a pack
abbrev pub Came : Type 0
Came = Option (Result Reply SharedError)

-- a ring: the number of the area that it was for, and what came of it
pub record Rung : Type 0 where
  pub number : ℕ
  pub came : Came

-- the numbers of rings
abbrev pub ring_numbers : List Rung → List ℕ
ring_numbers rungs = map (λ rung. rung.number) rungs

-- and what came of them
abbrev pub came_of : List Rung → List Came
came_of rungs = map (λ rung. rung.came) rungs

-- the answer says that the area is packed
abbrev pub is_packed : Came → Bool
is_packed (Some (Ok (Packed base live dropped))) = true
is_packed _ = false

-- the packs that were done, where this came of one ring more
abbrev pub packs_with : ℕ → Came → ℕ
packs_with packs came = if is_packed came then more_of packs else packs

-- and where this came of several
abbrev pub packs_after : ℕ → List Came → ℕ
packs_after packs all = fold packs_with packs all

-- the user who packs
module _ (user : User) where
  -- a pack is asked of the area with this number, as the packer's next call, at the moment that its clock shows, which moves on
  pub record PacksArea (number : ℕ) (answer : Result Reply SharedError) (old new : PackerState) : Type 0 where
    pub asks : OnPass number (λ before after. AsksPass old.node.readings user Pack before after answer) old.node.passes new.node.passes
    pub clock : new.node.readings ≡ option_map readings_after old.node.readings
    pub targets : new.targets ≡ old.targets
    pub backups : new.backups ≡ old.backups

  -- a ring for an area that is not there is passed over; else it is packed, and then it is backed up, where that was not tried yet
  abbrev pub AnswersRing : ℕ → Came → PackerState → PackerState → Type 0
  AnswersRing number None old new = ((number ≡ 0) ⊎ (length old.node.passes < number)) × (new ≡ old)
  AnswersRing number (Some answer) old new = (packed : PackerState) × PacksArea number answer old packed × BacksUpOnce number packed new

  -- the rings, one after another
  abbrev pub RungsRun : PackerState → List Rung → PackerState → Type 0
  RungsRun from [] to = to ≡ from
  RungsRun from (rung ∷ rungs) to = (mid : PackerState) × AnswersRing rung.number rung.came from mid × RungsRun mid rungs to

  -- the rings are those that the bell was to give next, each answered
  pub record AnswersRings (rungs : List Rung) (old : Rings) (from : PackerState) (new : Rings) (to : PackerState) : Type 0 where
    pub run : RungsRun from rungs to
    pub rang : old.to_come ≡ option_map (λ rest. ring_numbers rungs ++ rest) new.to_come
    pub left : old.left ≡ option_map (λ n. n + length rungs) new.left

  -- what a packer has done once its bell is shut, since no ring was left: it has answered the rings, and counted the packs that were done
  pub record PackerWorks (old : Rings) (from : PackerState) (before : ℕ) (new : Rings) (to : PackerState) (after : ℕ) : Type 0 where
    pub rungs : List Rung
    pub answers : AnswersRings rungs old from new to
    pub shut : new.is_shut ≡ true
    pub over : new.left ≡ Some 0
    pub packs : after ≡ packs_after before (came_of rungs)
