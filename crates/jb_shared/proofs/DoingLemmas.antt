-- A command that is begun, and finished or abandoned.
use Rattle.std.proofs.Common.{◌≡◌, ℕ, List, Result, Ok, Err, true, sym, ◌∙◌, ap, subst}
use Rattle.std.specs.Option.{ForSome}
use Rattle.std.specs.Prelude.{IfErr, is_some}
use Rattle.jb_area.specs.Area.{IsBegun, IsResting, RestsAt, commits_of, copied_of, device_of, loaded_of, packs_of, rules_of}
use Rattle.jb_area.specs.Calls.{BeginsCall, MeetsCall, OnlyReadsOrCopies}
use Rattle.jb_area.specs.Holds.{Opens}
use Rattle.jb_area.specs.declared.area.OpenArea.{OpenArea}
use Rattle.jb_base.specs.declared.area.AreaRules.{AreaRules}
use Rattle.jb_base.specs.declared.user.User.{User}
use Rattle.jb_decide.specs.Coming.{Coming}
use Rattle.jb_decide.specs.Errors.{is_area_fault}
use Rattle.jb_decide.specs.declared.error.AreaError.{AreaError}
use Rattle.jb_decide.specs.declared.error.AreaError.TheVariants as area
use Rattle.jb_disk.specs.Device.{CountsFaults, Device}
use Rattle.jb_disk.specs.Runs.{LeavesOnly}
use Rattle.jb_index.specs.Edit.{absorbed}
use Rattle.jb_index.specs.Index.{index_of}
use Rattle.jb_index.specs.declared.op.OpEdit.{OpEdit}
use Rattle.jb_model.specs.Answered.{Answered}
use Rattle.jb_state.specs.State.{state_of}
use Rattle.jb_model.specs.Step.{step}
use Rattle.jb_model.specs.declared.command.Command.{Command}
use Rattle.jb_state.specs.declared.loaded.Loaded.{Loaded}
use Rattle.jb_model.specs.declared.reply.Reply.{Reply}
use Rattle.jb_shared.specs.Begun.{IsFollowed}
use Rattle.jb_shared.specs.Keeping.{FollowsCommand, HasChange, LeavesAsIs}
use Rattle.jb_shared.proofs.IndexLemmas.{rests_no_change}
use Rattle.jb_state.proofs.LinkLaws.{true_not_false}

-- want of memory is no fault
pub no_want : (result : Result Reply AreaError) → result ≡ Err area.OutOfMemory → IfErr result (λ error. is_area_fault error ≡ true) → ⊥
no_want result wanting fault = true_not_false (sym (subst (λ (r : Result Reply AreaError). IfErr r (λ error. is_area_fault error ≡ true)) wanting fault))

module _ {D : Type 0} (shown : D → Device) where
  -- the edits that follow what is begun follow the command
  pub follows_begun : (old mid : OpenArea D) (user : User) (moment : ℕ) (command : Command) (value : Unit {0}) (edits : List OpEdit) → BeginsCall shown old mid user moment command (Ok value) → IsFollowed shown mid edits
      → FollowsCommand shown old user moment command edits
  follows_begun old mid user moment command value edits begins followed = λ texts resting told.
      let P : AreaRules → Loaded → Type 0 = λ rules loaded. absorbed (index_of rules (state_of texts loaded)) edits ≡ index_of rules (step rules (state_of texts loaded) user moment command).state in
      subst (λ (rules : AreaRules). P rules (loaded_of old)) begins.rules
      (subst (P (rules_of mid)) begins.loaded (
      let begun = begins.begun texts resting in
      followed texts begun.reply begun.coming begun.begun
      ∙ sym (ap (λ (a : Answered). index_of (rules_of mid) a.state) (begun.step (λ letter is. begins.alike ∙ told)))))

  -- a call that is abandoned wanted memory, and has left all as it was
  pub meets_abandoned : (old mid new : OpenArea D) (user : User) (moment : ℕ) (command : Command) (value : Unit {0}) → BeginsCall shown old mid user moment command (Ok value)
      → ((texts : List ℕ) (decided : Reply) (coming : Coming) → IsBegun shown mid texts decided coming → RestsAt shown new texts (loaded_of mid)) → device_of shown new ≡ device_of shown mid → rules_of new ≡ rules_of mid
      → copied_of new ≡ copied_of mid → commits_of new ≡ commits_of mid → packs_of new ≡ packs_of mid → MeetsCall shown old new user moment command (Err area.OutOfMemory)
  meets_abandoned old mid new user moment command value begins rests device rules copied commits packs =
      let refused : Result Reply AreaError = Err area.OutOfMemory in
      record {
        answered = tt;
        failed = λ texts resting.
            let begun = begins.begun texts resting in (
              subst (λ (l : Loaded). RestsAt shown new texts l) begins.loaded (rests texts begun.reply begun.coming begun.begun),
              subst (λ (d : Device). OnlyReadsOrCopies command (device_of shown old) d) (sym device) begins.reads,
            );
        faults = subst (λ (d : Device). CountsFaults is_area_fault (device_of shown old) d refused) (sym device) (record { quiet = tt; later = begins.faults.later; cause = begins.faults.quiet });
        alike = ap (λ (d : Device). is_some d.contents) device ∙ begins.alike;
        rules = rules ∙ begins.rules;
        copies = λ kind. copied ∙ begins.copies kind;
        packed = tt;
        unspent = λ wanting. commits ∙ begins.commits;
        unpacked = λ wanting. packs ∙ begins.packs;
      }

  -- whatever a crash leaves meanwhile
  pub leaves_abandoned : (old mid new : OpenArea D) (user : User) (moment : ℕ) (command : Command) (result : Result (Unit {0}) AreaError) → BeginsCall shown old mid user moment command result → device_of shown new ≡ device_of shown mid
      → LeavesAsIs shown old new
  leaves_abandoned old mid new user moment command result begins device = λ texts resting.
      subst (λ (d : Device). ForSome (device_of shown old).contents (λ files. LeavesOnly (device_of shown old) d (Opens (loaded_of old) texts))) (sym device) (begins.crash texts resting)

  -- and leaves no change in doubt
  pub abandoned_no_change : (old mid new : OpenArea D) (texts : List ℕ) (user : User) (moment : ℕ) (command : Command) (value : Unit {0}) → BeginsCall shown old mid user moment command (Ok value) → IsResting shown old texts
      → ((texts : List ℕ) (decided : Reply) (coming : Coming) → IsBegun shown mid texts decided coming → RestsAt shown new texts (loaded_of mid)) → HasChange shown new → ⊥
  abandoned_no_change old mid new texts user moment command value begins resting rests change =
      let begun = begins.begun texts resting in rests_no_change shown new (rests texts begun.reply begun.coming begun.begun).rests.stage change
