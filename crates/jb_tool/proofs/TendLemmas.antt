-- The opening of a base, and what a tool that tends its area makes of it then.
use Rattle.std.proofs.Common.{◌≡◌, inl, inr, ℕ, List, [], ◌∷◌, refl, sym, ◌∙◌, subst, Some}
use Rattle.std.specs.Prelude.{Ok, Err, ◌⊎◌}
use Rattle.std.specs.Option.{ForSome}
use Rattle.jb_area.specs.Calls.{HasRest}
use Rattle.jb_area.specs.Holds.{Opens}
use Rattle.jb_area.specs.declared.area.OpenArea.{OpenArea}
use Rattle.jb_area_open.specs.Opening.{IsOpenAt, IsRecovered, KeepsOpening, OpensAsAtStart, Refuses}
use Rattle.jb_area_open.specs.declared.error.OpeningError.{OpeningError}
use Rattle.jb_area_open.specs.declared.error.OpeningError.TheVariants.{BadJournal as bad_journal, Base}
use Rattle.jb_limits.specs.declared.limits.TheConstants.{MOST_SLOTS}
use Rattle.jb_disk.proofs.RunLemmas.{runs-refl, runs-then, runs-weaken}
use Rattle.jb_disk.specs.Device.{Device, OnlyReads}
use Rattle.jb_disk.specs.Files.{Files}
use Rattle.jb_disk.specs.Images.{Images}
use Rattle.jb_disk.specs.Runs.{LeavesNow}
use Rattle.jb_image.specs.Stands.{StandsFor}
use Rattle.jb_journal.specs.Recover.{IsGrowthSafe}
use Rattle.jb_state.specs.State.{AreaState, state_of}
use Rattle.jb_model.specs.declared.command.Command.{Command}
use Rattle.jb_area.proofs.BackupLemmas.{rest_few}
use Rattle.jb_tool.proofs.ChangingLemmas.{holds_stands, leaves_only_weaken, opens_area}
use Rattle.jb_tool.proofs.Recovering.{IsTold, is_told}
use Rattle.jb_tool.specs.Changing.{DoesCommand, of_opening}
use Rattle.jb_tool.specs.Tending.{ToolAnswer, IsOldOrNew, IsOpenedTo, KeepsOrTends, OpensFor, OpensForEither, Tends, tool_answered}
use Rattle.jb_tool.specs.declared.error.ToolError.{ToolError}
use Rattle.jb_disk.proofs.FileLemmas.{leaves_map}

-- what a crash leaves now opens to just what some opens to that it might leave now
now_left : (command : Command) (was : Files) (moments : List Images) → LeavesNow (λ files. OpensAsAtStart moments files ⊎ IsOldOrNew command was files) moments
now_left command was [] = tt
now_left command was (now ∷ earlier) = λ files image. inl (record { was = files; might = image; same = λ loaded texts. (λ x. x, λ x. x) })

-- nothing is done
pub nothing_left : (command : Command) (device : Device) → KeepsOrTends command device device
nothing_left command device = λ was there safe. record {
  first = now_left command was device.moments;
  run = runs-refl (λ files. OpensAsAtStart device.moments files ⊎ IsOldOrNew command was files) device.moments device.moments refl;
}

-- a base that is not opened
pub refused_tends : (command : Command) (before after : Device) (error : OpeningError) → Refuses MOST_SLOTS before after error
    → Tends command before after (Err (of_opening error))
refused_tends command before after (bad_journal at) refuses = refuses
refused_tends command before after (Base error) refuses = inr (inl refuses)

-- and what a crash leaves then
pub refused_left : (command : Command) (before after : Device) → KeepsOpening before after → KeepsOrTends command before after
refused_left command before after keeps = λ was there safe.
    leaves_only_weaken (OpensAsAtStart before.moments) (λ files. OpensAsAtStart before.moments files ⊎ IsOldOrNew command was files) before after
    (λ files opens. inl opens) (keeps was there safe)

module _ {D : Type 0} (shown : D → Device) (before : Device) (area : OpenArea D)
    (recovered : ForSome before.contents (λ was. IsRecovered was (shown area.disk)))
    (opened : ForSome before.contents (λ was. IsGrowthSafe was → IsOpenAt shown was area))
    (rest : HasRest shown area) where
  -- the state of the area that was opened
  abbrev pub from : AreaState
  from = state_of rest.texts area.held

  -- its files, told
  pub opened_files : (was : Files) → before.contents ≡ Some was → IsTold (shown area.disk).contents
  opened_files was there = is_told (shown area.disk).contents (recovered was there).told

  -- the base opened to it
  pub opened_as : (was : Files) → before.contents ≡ Some was → IsGrowthSafe was → OpensFor from was
  opened_as was there safe =
      let at = opened was there safe in
      let now = opened_files was there in
      let one = (at.rests.kept.settled.rests now.files now.is).holds.texts_are in
      let other = (rest.rests.kept.settled.rests now.files now.is).holds.texts_are in
      opens_area area.held rest.texts was (rest_few shown area rest.texts rest.rests) (subst (λ (t : List ℕ). Opens area.held t was) (sym one ∙ other) at.opens)

  -- and its files stand for it, also where the disk was only read since
  pub opened_stands : (after : Device) → OnlyReads (shown area.disk) after → ForSome after.contents (λ files. StandsFor MOST_SLOTS files from)
  opened_stands after reads files is =
      holds_stands area.held rest.texts files (rest_few shown area rest.texts rest.rests) (rest.rests.kept.settled.rests files (sym reads.contents ∙ is)).holds

  module _ (command : Command) where
    -- and what a crash leaves since then
    opened_to : (new : OpenArea D) (answer : ToolAnswer) → DoesCommand shown command area new answer → (was : Files) → before.contents ≡ Some was
        → IsOpenedTo command from was (shown area.disk) (shown new.disk)
    opened_to new answer changes was there =
        let now = opened_files was there in
        record { recovered = recovered was there; stands = opened_stands (shown area.disk) (record { contents = refl; moments = refl }); since = changes.crash now.files now.is rest.texts rest.rests }

    module _ (new : OpenArea D) where
      -- the command is tended, or not
      pub tends_opened : (answer : ToolAnswer) → DoesCommand shown command area new answer → Tends command before (shown new.disk) answer
      tends_opened (Ok text) changes = λ was there.
          let now = opened_files was there in
          record {
            old = from;
            new = (tool_answered command from).state;
            outcome = (changes.answered now.files now.is rest.texts rest.rests, refl);
            record_found = (recovered was there).record_found;
            opening = shown area.disk;
            opened_to = opened_to new (Ok text) changes was there;
            opened = opened_as was there;
            now = changes.now now.files now.is rest.texts rest.rests;
            synced = changes.synced;
          }
      tends_opened (Err error) changes = elim changes.failed [
        | inl fault ↦ subst (λ (e : ToolError). Tends command before (shown new.disk) (Err e)) (sym fault) (inr (inl (λ other. absurd (other refl))))
        | inr unchanged ↦ elim unchanged [
          | inl memory ↦ subst (λ (e : ToolError). Tends command before (shown new.disk) (Err e)) (sym memory.0)
              (inr (inr (
                refl,
                λ was there. record { opening = shown area.disk; recovered = recovered was there; reads = memory.1.reads; synced = memory.1.synced rest.texts rest.rests },
              )))
          | inr full ↦ subst (λ (e : ToolError). Tends command before (shown new.disk) (Err e)) (sym full.1) (λ was there.
              let now = opened_files was there in
              let kept = full.2 in
              record {
                old = from;
                new = from;
                outcome = (full.3 now.files now.is rest.texts rest.rests, refl);
                record_found = (recovered was there).record_found;
                opening = shown area.disk;
                opened_to = opened_to new (Err error) changes was there;
                opened = opened_as was there;
                now = opened_stands (shown new.disk) kept;
                synced = λ last last_is. subst (LeavesNow (λ left. left ≡ last)) (sym kept.moments) (rest.rests.kept.settled.synced last (sym kept.contents ∙ last_is));
              })
        ]
      ]

      -- and what a crash leaves meanwhile
      pub crash_opened : (answer : ToolAnswer) → KeepsOpening before (shown area.disk) → DoesCommand shown command area new answer → KeepsOrTends command before (shown new.disk)
      crash_opened answer keeps changes = λ was there safe.
          let now = opened_files was there in
          let P : Files → Type 0 = λ files. OpensAsAtStart before.moments files ⊎ IsOldOrNew command was files in
          let one = keeps was there safe in
          let two = changes.crash now.files now.is rest.texts rest.rests in
          let first : (files : Files) → OpensAsAtStart before.moments files → P files = λ files opens. inl opens in
          let second : (files : Files) → OpensForEither command from files → P files = λ files opens. inr (record { old = from; before = opened_as was there safe; now = opens }) in
          record {
            first = leaves_map (OpensAsAtStart before.moments) P before.moments first one.first;
            run = runs-then P before.moments (shown area.disk).moments (shown new.disk).moments
                (runs-weaken (OpensAsAtStart before.moments) P first before.moments (shown area.disk).moments one.run)
                (runs-weaken (OpensForEither command from) P second (shown area.disk).moments (shown new.disk).moments two.run);
          }
