use Rattle.std.proofs.Common.{List, ℕ, Some, ap, arith, refl, subst, sym, ◌∙◌}
use Rattle.jb_decide.specs.Coming.{Coming}
use Rattle.jb_decide.specs.Telling.{IsPacking}
use Rattle.jb_journal.specs.declared.stopped.Stopped.{Stopped}
use Rattle.jb_model.specs.declared.reply.Reply.{Reply}
use Rattle.jb_state.specs.declared.change.Change.{Change}
use Rattle.jb_area.specs.Area.{copied_after, packs_in, stopped_in, IsBegun, IsBetween}
use Rattle.jb_area.specs.Commits.{StandsLate, packs_with}
use Rattle.jb_area.specs.declared.stage.Stage.{Stage}
use Rattle.jb_area.proofs.CommitLemmas.{idle_opens}
use Rattle.jb_area.proofs.DoubtLemmas.{doubt_reads, doubt_stands}
use Rattle.jb_area.proofs.PackedLemmas.{copies_drop}
use Rattle.jb_area.proofs.StageLemmas.{between, counted_change, counted_nothing, kept_by, made_change, made_nothing, may_apply, may_commit, packing_is, rests_changed, rests_unchanged, settled_with, short_after, some_change, some_in}
use Rattle.jb_area.proofs.area.OpenArea.finish.Goals as goal

pub returns-in-Nothing-clause-ends : goal.returns-in-Nothing-clause-ends
returns-in-Nothing-clause-ends g c =
    let area = c.args.self.now in
    let is = sym c.replace-stage.ensures.value ∙ c.in-Begun.is in
    record {
      done = λ texts decided coming begun.
          rests_unchanged g.D.Disk.device area texts decided coming begun c.in-Begun.reply c.in-Begun.pending c.put_redo.new.place c.replace-stage.new.dest is c.in-Nothing.is c.put_redo.ensures c.replace-stage.ensures.after;
      made = made_nothing g.D.Disk.device area c.in-Begun.reply c.in-Begun.pending is area.disk area.held c.put_redo.new.place c.replace-stage.new.dest c.in-Nothing.is refl;
      idle = λ none. (refl, refl);
      fault = tt;
      doubt = tt;
      opens = tt;
      loaded = tt;
      counted = counted_nothing g.D.Disk.device area c.in-Begun.reply c.in-Begun.pending is (g.D.Disk.device area.disk).contents c.in-Nothing.is;
      spent = tt;
      faults = record { quiet = refl; later = omega arith; cause = tt };
      alike = refl;
      crash = λ texts decided coming begun was there.
          idle_opens area.held texts coming (g.D.Disk.device area.disk) was there begun.kept.settled;
      room = refl;
      rules = refl;
      copies = sym (kept_by area.stage c.in-Begun.reply c.in-Begun.pending area.packer is ∙ ap (λ (change : Change). copied_after change area.packer) c.in-Nothing.is);
      kept = tt;
      packs = sym (ap (λ (s : Stage). packs_in s area.packs) is ∙ ap (λ (change : Change). packs_with change area.packs) c.in-Nothing.is);
      unpacked = tt;
      packed = λ packed.
          let has = c.requires.begun in
          absurd (subst IsPacking c.in-Nothing.is (packing_is g.D.Disk.device area has.texts has.reply has.coming has.begun c.in-Begun.reply c.in-Begun.pending is packed));
    }

pub returns-in-Ok-clause-ends : goal.returns-in-Ok-clause-ends
returns-in-Ok-clause-ends g c =
    let area = c.args.self.now in
    let is = sym c.replace-stage.ensures.value ∙ c.in-Begun.is in
    record {
      done = λ texts decided coming begun.
          rests_changed g.D.Disk.device area texts decided coming begun c.in-Begun.reply c.in-Begun.pending c.commit_change.new.disk c.saturating_add-self.result c.count_pack-self.result c.apply.new.self c.put_redo-in-Ok.new.place c.keep_after.new.kept c.replace-stage.new.dest c.in_use.result.now
          c.in_use.ensures is c.in_default-change.not-Nothing c.put_redo-in-Ok.ensures c.keep_after.ensures c.replace-stage.ensures.after c.apply.ensures
          c.commit_change.ensures.alike c.in-Ok.ensures.made c.in-Ok.ensures.done;
      made = made_change g.D.Disk.device area c.in-Begun.reply c.in-Begun.pending is c.commit_change.new.disk c.saturating_add-self.result c.count_pack-self.result c.apply.new.self c.put_redo-in-Ok.new.place c.keep_after.new.kept c.replace-stage.new.dest c.in_use.result.now
          c.in_use.ensures c.in_default-change.not-Nothing c.in-Ok.ensures.made;
      idle = λ none. absurd (some_change area c.in-Begun.reply c.in-Begun.pending is c.in_default-change.not-Nothing none);
      fault = tt;
      doubt = tt;
      opens = tt;
      loaded = tt;
      counted = counted_change g.D.Disk.device area c.in-Begun.reply c.in-Begun.pending is c.saturating_add-self.result c.in_use.result.now (g.D.Disk.device c.commit_change.new.disk).contents
          c.in_default-change.not-Nothing c.saturating_add-self.ensures c.in-Ok.ensures.recorded;
      spent = tt;
      faults = record { quiet = c.in-Ok.ensures.faults.quiet; later = c.commit_change.ensures.faults.later; cause = tt };
      alike = c.commit_change.ensures.alike;
      crash = λ texts decided coming begun was there.
          c.in-Ok.ensures.crash area.held texts area.packer coming (settled_with g.D.Disk.device area texts decided coming begun)
          (some_in g.D.Disk.device area texts decided coming begun c.in-Begun.reply c.in-Begun.pending c.in_use.result.now c.in_use.ensures is c.in_default-change.not-Nothing).change was there;
      room = refl;
      rules = refl;
      copies = c.keep_after.ensures ∙ sym (kept_by area.stage c.in-Begun.reply c.in-Begun.pending area.packer is);
      kept = tt;
      packs = c.count_pack-self.ensures ∙ sym (ap (λ (s : Stage). packs_in s area.packs) is);
      unpacked = tt;
      packed = λ packed.
          let has = c.requires.begun in
          let packing = packing_is g.D.Disk.device area has.texts has.reply has.coming has.begun c.in-Begun.reply c.in-Begun.pending is packed in
          record {
            dropped = c.keep_after.ensures ∙ copies_drop c.in-Begun.pending.change area.packer packing;
            short = short_after g.D.Disk.device area has.texts has.reply has.coming has.begun c.in-Begun.reply c.in-Begun.pending c.commit_change.new.disk c.saturating_add-self.result c.in_use.result.now
                c.in_use.ensures is c.in_default-change.not-Nothing packing c.in-Ok.ensures.done c.in-Ok.ensures.recorded;
          };
    }

pub returns-in-Err-clause-ends : goal.returns-in-Err-clause-ends
returns-in-Err-clause-ends g c =
    let area = c.args.self.now in
    let is = sym c.replace-stage.ensures.value ∙ c.in-Begun.is in
    let new = record area { disk = c.commit_change.new.disk; commits = c.saturating_add-self.result; stage = c.put_stage.new.place } in
    let doubt : (texts : List ℕ) (decided : Reply) (coming : Coming) → IsBegun g.D.Disk.device area texts decided coming → IsBetween g.D.Disk.device new texts coming =
    λ texts decided coming begun.
    between g.D.Disk.device area texts decided coming begun c.in-Begun.reply c.in-Begun.pending c.commit_change.new.disk c.saturating_add-self.result area.large c.put_stage.new.place c.in_use.result.now c.in-Err.stopped
    c.put_stage.ensures c.in_use.ensures c.in_use.ensures is c.in_default-change.not-Nothing c.commit_change.ensures.alike c.in-Err.ensures.doubt in
    record {
      done = tt;
      made = tt;
      idle = λ none. absurd (some_change area c.in-Begun.reply c.in-Begun.pending is c.in_default-change.not-Nothing none);
      fault = refl;
      doubt = doubt;
      opens = λ texts decided coming begun. doubt_reads g.D.Disk.device new texts (Some coming) (doubt texts decided coming begun);
      loaded = refl;
      counted = tt;
      spent = c.saturating_add-self.ensures;
      faults = record { quiet = tt; later = c.commit_change.ensures.faults.later; cause = c.in-Err.ensures.faults.cause };
      alike = c.commit_change.ensures.alike;
      crash = λ texts decided coming begun was there.
          c.in-Err.ensures.crash area.held texts area.packer coming (settled_with g.D.Disk.device area texts decided coming begun)
          (some_in g.D.Disk.device area texts decided coming begun c.in-Begun.reply c.in-Begun.pending c.in_use.result.now c.in_use.ensures is c.in_default-change.not-Nothing).change was there;
      room = refl;
      rules = refl;
      copies = tt;
      kept = refl;
      packs = tt;
      unpacked = (refl, ap (λ (s : Stage). packs_in s area.packs) c.put_stage.ensures ∙ sym (ap (λ (s : Stage). packs_in s area.packs) is));
      packed = tt;
    }

pub returns-in-Err-clause-place : goal.returns-in-Err-clause-place
returns-in-Err-clause-place g c = ap stopped_in c.put_stage.ensures

pub returns-in-Err-clause-late : goal.returns-in-Err-clause-late
returns-in-Err-clause-late g c = λ texts decided coming begun.
    subst (λ (s : Stopped). StandsLate s coming (g.D.Disk.device c.commit_change.new.disk)) (returns-in-Err-clause-place g c) (doubt_stands g.D.Disk.device _ texts coming ((returns-in-Err-clause-ends g c).doubt texts decided coming begun))

pub commit_change-requires : goal.commit_change-requires
commit_change-requires g c =
    let has = c.requires.begun in
    record { may = may_commit g.D.Disk.device c.args.self.now has.texts has.reply has.coming has.begun c.in-Begun.reply c.in-Begun.pending c.in_use.result.now c.in_use.ensures (sym c.replace-stage.ensures.value ∙ c.in-Begun.is) c.in_default-change.not-Nothing }

pub apply-requires : goal.apply-requires
apply-requires g c =
    let has = c.requires.begun in
    let is = sym c.replace-stage.ensures.value ∙ c.in-Begun.is in
    record { may = may_apply g.D.Disk.device c.args.self.now has.texts has.reply has.coming has.begun c.in-Begun.reply c.in-Begun.pending is }
