-- An area at rest and a command of a tool: what the files open to meanwhile.
use Rattle.std.proofs.Common.{◌≡◌, inl, inr, ℕ, ◌≤◌, List, length, ap, refl, sym, subst, arith}
use Rattle.jb_area.specs.Area.{IsBegun}
use Rattle.jb_area.specs.Holds.{IsAtRest, Opens, OpensToEither}
use Rattle.jb_area.specs.declared.area.OpenArea.{OpenArea}
use Rattle.jb_limits.specs.declared.limits.TheConstants.{MOST_SLOTS}
use Rattle.jb_decide.specs.Coming.{Coming}
use Rattle.jb_decide.specs.Holds.{Holds}
use Rattle.jb_disk.proofs.RunLemmas.{runs-weaken}
use Rattle.jb_disk.specs.Device.{Device}
use Rattle.jb_disk.specs.Files.{Files}
use Rattle.jb_disk.specs.Runs.{LeavesOnly}
use Rattle.jb_image.specs.Stands.{StandsFor}
use Rattle.jb_state.specs.State.{AreaState, state_of}
use Rattle.jb_model.specs.declared.command.Command.{Command}
use Rattle.jb_state.specs.declared.loaded.Loaded.{Loaded}
use Rattle.jb_model.specs.declared.reply.Reply.{Reply}
use Rattle.jb_tool.specs.Tending.{OpensFor, OpensForEither, tool_answered}
use Rattle.jb_disk.proofs.FileLemmas.{leaves_map}

-- files that hold a loaded area stand for its state
pub holds_stands : (loaded : Loaded) (texts : List ℕ) (files : Files) → length loaded.slots ≤ MOST_SLOTS → Holds loaded texts files → StandsFor MOST_SLOTS files (state_of texts loaded)
holds_stands loaded texts files few holds =
    record { loaded = loaded; loads = holds.loads; few_slots = few; same = ap (λ (t : List ℕ). state_of t loaded) (sym holds.texts_are) }

-- files that open to a loaded area open to its state
pub opens_area : (loaded : Loaded) (texts : List ℕ) (files : Files) → length loaded.slots ≤ MOST_SLOTS → Opens loaded texts files → OpensFor (state_of texts loaded) files
opens_area loaded texts files few opens = record { after = opens.after; replays = opens.replays; stands = holds_stands loaded texts opens.after few opens.holds }

-- so do files at rest
pub rest_opens : (loaded : Loaded) (texts : List ℕ) (files : Files) → length loaded.slots ≤ MOST_SLOTS → IsAtRest loaded texts files → OpensFor (state_of texts loaded) files
rest_opens loaded texts files few rests =
    record { after = files; replays = inl (λ is_open. rests.plain.shut is_open.gate, refl); stands = holds_stands loaded texts files few rests.holds }

-- and of what one leaves at any moment
pub leaves_only_weaken : (P Q : Files → Type 0) (old new : Device) → ((files : Files) → P files → Q files) → LeavesOnly old new P → LeavesOnly old new Q
leaves_only_weaken P Q old new weaker leaves = record {
  first = leaves_map P Q old.moments weaker leaves.first;
  run = runs-weaken P Q weaker old.moments new.moments leaves.run;
}

module _ {D : Type 0} (shown : D → Device) (command : Command) where
  -- the area to come of a call that is begun has no more slots than any may have
  few_coming : (area : OpenArea D) (texts : List ℕ) (reply : Reply) (coming : Coming) → IsBegun shown area texts reply coming → length coming.to.slots ≤ MOST_SLOTS
  few_coming area texts reply coming begun =
      let limit = begun.kept.ruled.few_slots in
      elim begun.change [
        | inl same ↦ let few = begun.kept.ruled.sound.few_slots in let slots = ap (λ (c : Coming). length c.to.slots) same.same in omega (arith, limit, few, slots)
        | inr pending ↦ let few = pending.sound.few_slots in omega (arith, limit, few)
      ]

  -- files between the area and the one to come
  pub either_way : (area : OpenArea D) (texts : List ℕ) (reply : Reply) (coming : Coming) → IsBegun shown area texts reply coming
      → (tool_answered command (state_of texts area.held)).state ≡ state_of coming.texts coming.to
      → (files : Files) → OpensToEither area.held texts coming files → OpensForEither command (state_of texts area.held) files
  either_way area texts reply coming begun becomes files opens =
      let limit = begun.kept.ruled.few_slots in
      let few = begun.kept.ruled.sound.few_slots in
      elim opens [
        | inl from ↦ inl (opens_area area.held texts files (omega (arith, limit, few)) from)
        | inr to ↦ inr (subst (λ (s : AreaState). OpensFor s files) (sym becomes) (opens_area coming.to coming.texts files (few_coming area texts reply coming begun) to))
      ]
