-- A command of a tool over an open area: begun, and then done, stopped or dropped.
use Rattle.std.proofs.Common.{◌≡◌, inl, inr, ℕ, List, Option, None, Result, ap, refl, sym, ◌∙◌, subst, arith, Some}
use Rattle.std.proofs.lemmas.Bool.{false≢true}
use Rattle.std.specs.Prelude.{IsSome, Ok, Err, is_some, Bool, false}
use Rattle.std.specs.Option.{ForSome}
use Rattle.jb_area.specs.Area.{IsBegun, IsResting, RestsAt}
use Rattle.jb_area.specs.Calls.{BeginsCall, HasRest, OnlyReadsOrCopies}
use Rattle.jb_area.specs.Holds.{Opens, OpensToEither}
use Rattle.jb_area.specs.declared.area.OpenArea.{OpenArea}
use Rattle.jb_base.specs.declared.area.AreaRules.{AreaRules}
use Rattle.jb_limits.specs.declared.limits.TheConstants.{MOST_SLOTS}
use Rattle.jb_decide.specs.Coming.{Coming}
use Rattle.jb_decide.specs.Errors.{is_area_fault}
use Rattle.jb_decide.specs.declared.error.AreaError.{AreaError}
use Rattle.jb_decide.specs.declared.error.AreaError.TheVariants as failed
use Rattle.jb_disk.specs.Device.{CountsFaults, Device, OnlyReads, RoseIf, is_disk_fault}
use Rattle.jb_disk.specs.Files.{Files}
use Rattle.jb_disk.proofs.RunLemmas.{runs-then}
use Rattle.jb_disk.specs.Runs.{IsAllSynced, LeavesOnly}
use Rattle.jb_image.specs.Stands.{StandsFor}
use Rattle.jb_journal.specs.declared.stopped.Stopped.{Stopped}
use Rattle.jb_model.specs.Answered.{Answered}
use Rattle.jb_model.specs.Standing.{is_refusal}
use Rattle.jb_state.specs.State.{state_of}
use Rattle.jb_model.specs.Step.{Step}
use Rattle.jb_model.specs.declared.command.Command.{Command}
use Rattle.jb_state.specs.declared.loaded.Loaded.{Loaded}
use Rattle.jb_model.specs.declared.reply.Reply.{Reply}
use Rattle.jb_area.proofs.BackupLemmas.{rest_few}
use Rattle.jb_tool.proofs.ChangingLemmas.{either_way, holds_stands, leaves_only_weaken, opens_area}
use Rattle.jb_tool.proofs.Recovering.{counts_then}
use Rattle.jb_tool.specs.Changing.{DoesCommand, HasNoLine, IsStoppedBy, of_area}
use Rattle.jb_tool.specs.Recovered.{is_tool_fault}
use Rattle.jb_tool.specs.Tending.{OpensForEither, tool_answered, tool_answer, tool_rules, tool_user}
use Rattle.jb_tool.specs.declared.error.ToolError.{ToolError}

-- a disk that tells its files goes on telling them
told_alike : (old new : Option Files) (files : Files) → is_some new ≡ is_some old → old ≡ Some files → (now : Files) × (new ≡ Some now)
told_alike old (Some now) files alike there = (now, refl)
told_alike old None files alike there = absurd (false≢true (alike ∙ ap is_some there))

-- what a crash leaves, one after another
leaves_only_then : (P : Files → Type 0) (old mid new : Device) → LeavesOnly old mid P → LeavesOnly mid new P → LeavesOnly old new P
leaves_only_then P old mid new one two = record { first = one.first; run = runs-then P old.moments mid.moments new.moments one.run two.run }

-- a failed call of an area counts as the refusal of the tool
area_counts : (error : AreaError) (old new : Device) → CountsFaults {T = Unit {0}} is_area_fault old new (Err error) → CountsFaults {T = List ℕ} is_tool_fault old new (Err (of_area error))
area_counts failed.StoreFault old new counts = record { quiet = tt; later = counts.later; cause = counts.cause }
area_counts failed.OutOfMemory old new counts = record { quiet = tt; later = counts.later; cause = counts.cause }

module _ {D : Type 0} (shown : D → Device) (command : Command) (old : OpenArea D) where
  -- a crash until it is begun leaves what opens to the area
  left_begun : (new : OpenArea D) (result : Result (Unit {0}) AreaError) → BeginsCall shown old new tool_user 0 command result → (files : Files) → (shown old.disk).contents ≡ Some files
      → (texts : List ℕ) → IsResting shown old texts → LeavesOnly (shown old.disk) (shown new.disk) (OpensForEither command (state_of texts old.held))
  left_begun new result begins files there texts rests =
      leaves_only_weaken (Opens old.held texts) (OpensForEither command (state_of texts old.held)) (shown old.disk) (shown new.disk)
      (λ left opens. inl (opens_area old.held texts left (rest_few shown old texts rests) opens)) (begins.crash texts rests files there)

  -- why it was not begun
  stopped_by : (error : AreaError) (new : OpenArea D) → BeginsCall shown old new tool_user 0 command (Err error) → IsStoppedBy shown command old new (of_area error)
  stopped_by failed.StoreFault new begins = inl refl
  stopped_by failed.OutOfMemory new begins =
      inr (inl (refl, record { reads = begins.reads; synced = λ texts rests. (begins.failed texts rests).rests.kept.settled.synced }))

  -- it was not begun
  pub not_begun : (new : OpenArea D) (error : AreaError) → BeginsCall shown old new tool_user 0 command (Err error) → DoesCommand shown command old new (Err (of_area error))
  not_begun new error begins = record {
    answered = tt;
    now = tt;
    synced = tt;
    failed = stopped_by error new begins;
    crash = left_begun new (Err error) begins;
    faults = area_counts error (shown old.disk) (shown new.disk) begins.faults;
  }

  module _ (mid new : OpenArea D) (rules : old.rules ≡ tool_rules) (begins : BeginsCall shown old mid tool_user 0 command (Ok tt)) where
    -- what the command comes to
    becomes : (texts : List ℕ) (files : Files) → (shown old.disk).contents ≡ Some files → (rests : IsResting shown old texts)
        → tool_answered command (state_of texts old.held) ≡ record { reply = (begins.begun texts rests).reply; state = state_of (begins.begun texts rests).coming.texts (begins.begun texts rests).coming.to }
    becomes texts files there rests =
        let begun = begins.begun texts rests in
        let after = state_of begun.coming.texts begun.coming.to in
        let one = begun.step (λ letter is. let mid_there = told_alike (shown old.disk).contents (shown mid.disk).contents files begins.alike there in subst IsSome (sym mid_there.1) refl) in
        let two = subst (λ (r : AreaRules). Step r (state_of texts mid.held) tool_user 0 command begun.reply after) (begins.rules ∙ rules) one in
        subst (λ (l : Loaded). Step tool_rules (state_of texts l) tool_user 0 command begun.reply after) begins.loaded two

    -- what a crash leaves until it has ended
    pub ending : ((texts : List ℕ) (decided : Reply) (coming : Coming) → IsBegun shown mid texts decided coming
        → ForSome (shown mid.disk).contents (λ _. LeavesOnly (shown mid.disk) (shown new.disk) (OpensToEither mid.held texts coming)))
        → (files : Files) → (shown old.disk).contents ≡ Some files → (texts : List ℕ) → IsResting shown old texts
        → LeavesOnly (shown old.disk) (shown new.disk) (OpensForEither command (state_of texts old.held))
    ending crash files there texts rests =
        let begun = begins.begun texts rests in
        let to : (tool_answered command (state_of texts mid.held)).state ≡ state_of begun.coming.texts begun.coming.to =
        ap (λ (l : Loaded). (tool_answered command (state_of texts l)).state) begins.loaded ∙ ap (λ (a : Answered). a.state) (becomes texts files there rests) in
        let either = either_way shown command mid texts begun.reply begun.coming begun.begun to in
        let P : Files → Type 0 = OpensForEither command (state_of texts mid.held) in
        let leaves = leaves_only_weaken (OpensToEither mid.held texts begun.coming) P (shown mid.disk) (shown new.disk) either
        (let mid_there = told_alike (shown old.disk).contents (shown mid.disk).contents files begins.alike there in crash texts begun.reply begun.coming begun.begun mid_there.0 mid_there.1) in
        leaves_only_then (OpensForEither command (state_of texts old.held)) (shown old.disk) (shown mid.disk) (shown new.disk) (left_begun mid (Ok tt) begins files there texts rests)
        (subst (λ (l : Loaded). LeavesOnly (shown mid.disk) (shown new.disk) (OpensForEither command (state_of texts l))) begins.loaded leaves)

    -- it was done, and its line printed
    pub command_done : (text : List ℕ) (said answered : Reply) → HasRest shown old → tool_answer said ≡ Ok text
        → ((texts : List ℕ) (decided : Reply) (coming : Coming) → IsBegun shown mid texts decided coming → said ≡ decided)
        → ((texts : List ℕ) (decided : Reply) (coming : Coming) → IsBegun shown mid texts decided coming → (answered ≡ decided) × RestsAt shown new coming.texts coming.to)
        → ((texts : List ℕ) (decided : Reply) (coming : Coming) → IsBegun shown mid texts decided coming
        → ForSome (shown mid.disk).contents (λ _. LeavesOnly (shown mid.disk) (shown new.disk) (OpensToEither mid.held texts coming)))
        → CountsFaults {E = Stopped} is_disk_fault (shown mid.disk) (shown new.disk) (Ok answered) → DoesCommand shown command old new (Ok text)
    command_done text said answered rest line decided done crash ends = record {
      answered = λ files there texts rests.
          let begun = begins.begun texts rests in
          ap (λ (a : Answered). tool_answer a.reply) (becomes texts files there rests)
          ∙ ap (λ (r : Reply). tool_answer r) (sym (decided texts begun.reply begun.coming begun.begun)) ∙ line;
      now = λ files there texts rests last last_is.
          let begun = begins.begun texts rests in
          let at = (done texts begun.reply begun.coming begun.begun).1 in
          let stands = holds_stands new.held begun.coming.texts last (rest_few shown new begun.coming.texts at.rests) (at.rests.kept.settled.rests last last_is).holds in
          subst (StandsFor MOST_SLOTS last) (ap (λ (l : Loaded). state_of begun.coming.texts l) at.is ∙ ap (λ (a : Answered). a.state) (sym (becomes texts files there rests))) stands;
      synced =
          let begun = begins.begun rest.texts rest.rests in
          (done rest.texts begun.reply begun.coming begun.begun).1.rests.kept.settled.synced;
      failed = tt;
      crash = ending crash;
      faults = counts_then is_tool_fault (shown old.disk) (shown mid.disk) (shown new.disk) (Ok text) begins.faults.quiet (record { quiet = ends.quiet; later = ends.later; cause = tt });
    }

    -- it was stopped by a fault
    pub command_stopped : (stopped : Stopped) → CountsFaults {T = Reply} is_disk_fault (shown mid.disk) (shown new.disk) (Err stopped)
        → ((texts : List ℕ) (decided : Reply) (coming : Coming) → IsBegun shown mid texts decided coming
        → ForSome (shown mid.disk).contents (λ _. LeavesOnly (shown mid.disk) (shown new.disk) (OpensToEither mid.held texts coming)))
        → DoesCommand shown command old new (Err (of_area failed.StoreFault))
    command_stopped stopped ends crash = record {
      answered = tt;
      now = tt;
      synced = tt;
      failed = inl refl;
      crash = ending crash;
      faults = counts_then is_tool_fault (shown old.disk) (shown mid.disk) (shown new.disk) (Err (of_area failed.StoreFault)) begins.faults.quiet
          (record { quiet = tt; later = ends.later; cause = ends.cause });
    }

    -- it was dropped, for want of memory or since the texts are too long
    pub command_dropped : (said : Reply) (error : ToolError) → HasRest shown old → HasNoLine said error
        → ((texts : List ℕ) (decided : Reply) (coming : Coming) → IsBegun shown mid texts decided coming → said ≡ decided)
        → shown new.disk ≡ shown mid.disk → DoesCommand shown command old new (Err error)
    command_dropped said error rest none decided same =
        let was = begins.begun rest.texts rest.rests in
        record {
          answered = tt;
          now = tt;
          synced = tt;
          failed = elim none [
            | inl memory ↦ inr (inl (
              memory,
              record {
                reads = subst (λ (d : Device). OnlyReadsOrCopies command (shown old.disk) d) (sym same) begins.reads;
                synced = λ texts rests. subst IsAllSynced (sym same) (begins.begun texts rests).begun.kept.settled.synced;
              },
            ))
            | inr full ↦ inr (inr (
              full.0,
              full.1,
              subst (OnlyReads (shown old.disk)) (sym same)
                  (begins.idle (was.idle (inl (ap is_refusal (sym (decided rest.texts was.reply was.coming was.begun) ∙ full.2)))).0),
              λ files there texts rests.
                  let begun = begins.begun texts rests in
                  ap (λ (a : Answered). tool_answer a.reply) (becomes texts files there rests)
                  ∙ ap (λ (r : Reply). tool_answer r) (sym (decided texts begun.reply begun.coming begun.begun) ∙ full.2),
            ))
          ];
          crash = λ files there texts rests. subst (λ (d : Device). LeavesOnly (shown old.disk) d (OpensForEither command (state_of texts old.held))) (sym same) (left_begun mid (Ok tt) begins files there texts rests);
          faults =
              let quiet = ap (λ (d : Device). d.faults) same ∙ begins.faults.quiet in
              let no_fault : is_tool_fault error ≡ false = elim none [ inl memory ↦ ap is_tool_fault memory | inr full ↦ ap is_tool_fault full.1 ] in record {
                quiet = tt;
                later = omega (arith, quiet);
                cause = subst (λ (fault : Bool). RoseIf fault (shown old.disk).faults (shown new.disk).faults) (sym no_fault) quiet;
              };
        }
