use Rattle.std.proofs.Common.{Bool, Some, ap, inl, inr, refl, sym, subst, ◌∙◌}
use Rattle.std.specs.Prelude.{IsTrue}
use Rattle.jb_journal.specs.declared.stopped.Stopped.{Stopped}
use Rattle.jb_area.specs.Area.{packs_in, stopped_in}
use Rattle.jb_area.specs.Commits.{IsAnsweredAs, StandsLate, StopsAgain}
use Rattle.jb_area.specs.declared.stage.Stage.{Stage}
use Rattle.jb_area.proofs.DoubtLemmas.{at_doubt, copying_again, copying_crashes, copying_firm, copying_late, copying_settles, copying_still, crashes, doubt_reads, doubt_stands, drops, early_late, falls, firm, idle, may_apply, may_settle, stands, still, unchanged_early, unchanged_firm}
use Rattle.jb_area.proofs.area.OpenArea.reopen.Goals as goal

pub unreachable-requires : goal.unreachable-requires
unreachable-requires g c =
    let has = c.requires.doubt in
    elim (at_doubt g.D.Disk.device c.args.self.now has.texts has.coming has.doubt) [
      | inl at ↦ c.in_default-stage.not-Doubtful at.0 at.1 (c.replace-stage.ensures.value ∙ at.2)
      | inr copying ↦ c.in_default.not-Copying copying
    ]

pub returns-in-Ok-clause-settled : goal.returns-in-Ok-clause-settled
returns-in-Ok-clause-settled g c =
    copying_settles g.D.Disk.device c.args.self.now c.in-Copying.is c.clear_copies.new.disk c.drop_both.new.large c.drop_both.new.packer c.put_stage.new.place c.drop_both.ensures.large c.drop_both.ensures.packer c.put_stage.ensures c.in-Ok.ensures.settled

pub returns-in-Ok-clause-crash : goal.returns-in-Ok-clause-crash
returns-in-Ok-clause-crash g c =
    copying_crashes g.D.Disk.device c.args.self.now c.in-Copying.is (g.D.Disk.device c.clear_copies.new.disk) c.clear_copies.ensures.crash

pub returns-in-Ok-clause-emptied : goal.returns-in-Ok-clause-emptied
returns-in-Ok-clause-emptied g c = λ texts half. c.in-Ok.ensures.empty

pub returns-in-Nothing-clause-emptied : goal.returns-in-Nothing-clause-emptied
returns-in-Nothing-clause-emptied g c = λ texts half. absurd (c.in_default.not-Copying half.stage)

pub returns-in-Ok-true-clause-emptied : goal.returns-in-Ok-true-clause-emptied
returns-in-Ok-true-clause-emptied g c = λ texts half. absurd (c.in_default.not-Copying half.stage)

pub returns-in-Ok-false-clause-emptied : goal.returns-in-Ok-false-clause-emptied
returns-in-Ok-false-clause-emptied g c = λ texts half. absurd (c.in_default.not-Copying half.stage)

pub returns-in-Err-clause-still : goal.returns-in-Err-clause-still
returns-in-Err-clause-still g c =
    copying_still g.D.Disk.device c.args.self.now c.in-Copying.is c.clear_copies.new.disk c.in-Err.ensures.still

pub returns-in-Err-clause-opens : goal.returns-in-Err-clause-opens
returns-in-Err-clause-opens g c = λ texts coming doubt. doubt_reads g.D.Disk.device _ texts coming (returns-in-Err-clause-still g c texts coming doubt)

pub returns-in-Err-clause-crash : goal.returns-in-Err-clause-crash
returns-in-Err-clause-crash g c =
    copying_crashes g.D.Disk.device c.args.self.now c.in-Copying.is (g.D.Disk.device c.clear_copies.new.disk) c.clear_copies.ensures.crash

pub returns-in-Nothing-clause-settled : goal.returns-in-Nothing-clause-settled
returns-in-Nothing-clause-settled g c =
    drops g.D.Disk.device c.args.self.now c.in-Doubtful.stopped c.in-Doubtful.pending (sym c.replace-stage.ensures.value ∙ c.in-Doubtful.is) c.in-Nothing.is c.drop_both-in-Nothing.new.large c.drop_both-in-Nothing.new.packer c.replace-stage.new.dest c.drop_both-in-Nothing.ensures.large c.drop_both-in-Nothing.ensures.packer c.replace-stage.ensures.after

pub returns-in-Nothing-clause-crash : goal.returns-in-Nothing-clause-crash
returns-in-Nothing-clause-crash g c =
    idle g.D.Disk.device c.args.self.now c.in-Doubtful.stopped c.in-Doubtful.pending (sym c.replace-stage.ensures.value ∙ c.in-Doubtful.is) c.in-Nothing.is

pub settle_change-requires : goal.settle_change-requires
settle_change-requires g c =
    let has = c.requires.doubt in
    record { may = may_settle g.D.Disk.device c.args.self.now c.in-Doubtful.stopped c.in-Doubtful.pending (sym c.replace-stage.ensures.value ∙ c.in-Doubtful.is) c.in_default-change.not-Nothing c.in_use.result.now c.in_use.ensures has.texts has.coming has.doubt }

pub returns-in-Ok-true-clause-settled : goal.returns-in-Ok-true-clause-settled
returns-in-Ok-true-clause-settled g c =
    stands g.D.Disk.device c.args.self.now c.in-Doubtful.stopped c.in-Doubtful.pending (sym c.replace-stage.ensures.value ∙ c.in-Doubtful.is) c.in_default-change.not-Nothing c.in_use.result.now c.in_use.ensures
    c.settle_change.new.disk c.count_pack-self.result c.apply.new.self c.drop_both-in-Ok-true.new.large c.drop_both-in-Ok-true.new.packer c.replace-stage.new.dest c.drop_both-in-Ok-true.ensures.large c.drop_both-in-Ok-true.ensures.packer c.replace-stage.ensures.after c.apply.ensures
    (λ from texts copies coming doubt is. subst (λ (b : Bool). IsAnsweredAs b from texts coming (g.D.Disk.device c.settle_change.new.disk)) c.in-Ok-true.field-0-test (c.in-Ok-true.ensures.answer from texts copies coming doubt is))

pub returns-in-Ok-true-clause-crash : goal.returns-in-Ok-true-clause-crash
returns-in-Ok-true-clause-crash g c =
    crashes g.D.Disk.device c.args.self.now c.in-Doubtful.stopped c.in-Doubtful.pending (sym c.replace-stage.ensures.value ∙ c.in-Doubtful.is) c.in_default-change.not-Nothing c.in_use.result.now c.in_use.ensures
    (g.D.Disk.device c.settle_change.new.disk) c.settle_change.ensures.crash

pub returns-in-Ok-false-clause-settled : goal.returns-in-Ok-false-clause-settled
returns-in-Ok-false-clause-settled g c =
    falls g.D.Disk.device c.args.self.now c.in-Doubtful.stopped c.in-Doubtful.pending (sym c.replace-stage.ensures.value ∙ c.in-Doubtful.is) c.in_default-change.not-Nothing c.in_use.result.now c.in_use.ensures
    c.settle_change.new.disk c.drop_both-in-Ok-false.new.large c.drop_both-in-Ok-false.new.packer c.replace-stage.new.dest c.drop_both-in-Ok-false.ensures.large c.drop_both-in-Ok-false.ensures.packer c.replace-stage.ensures.after
    (λ from texts copies coming doubt is. subst (λ (b : Bool). IsAnsweredAs b from texts coming (g.D.Disk.device c.settle_change.new.disk)) c.in-Ok-false.field-0-test (c.in-Ok-false.ensures.answer from texts copies coming doubt is))

pub returns-in-Ok-false-clause-crash : goal.returns-in-Ok-false-clause-crash
returns-in-Ok-false-clause-crash g c =
    crashes g.D.Disk.device c.args.self.now c.in-Doubtful.stopped c.in-Doubtful.pending (sym c.replace-stage.ensures.value ∙ c.in-Doubtful.is) c.in_default-change.not-Nothing c.in_use.result.now c.in_use.ensures
    (g.D.Disk.device c.settle_change.new.disk) c.settle_change.ensures.crash

pub returns-in-Err-settle_change-clause-still : goal.returns-in-Err-settle_change-clause-still
returns-in-Err-settle_change-clause-still g c =
    still g.D.Disk.device c.args.self.now c.in-Doubtful.stopped c.in-Doubtful.pending (sym c.replace-stage.ensures.value ∙ c.in-Doubtful.is) c.in_default-change.not-Nothing c.in_use.result.now c.in_use.ensures
    c.settle_change.new.disk c.args.self.now.large c.put_stage-in-Err-settle_change.new.place c.in-Err-settle_change.again c.put_stage-in-Err-settle_change.ensures c.in_use.ensures c.settle_change.ensures.alike c.in-Err-settle_change.ensures.still

pub returns-in-Err-settle_change-clause-opens : goal.returns-in-Err-settle_change-clause-opens
returns-in-Err-settle_change-clause-opens g c = λ texts coming doubt. doubt_reads g.D.Disk.device _ texts coming (returns-in-Err-settle_change-clause-still g c texts coming doubt)

pub returns-in-Err-settle_change-clause-crash : goal.returns-in-Err-settle_change-clause-crash
returns-in-Err-settle_change-clause-crash g c =
    crashes g.D.Disk.device c.args.self.now c.in-Doubtful.stopped c.in-Doubtful.pending (sym c.replace-stage.ensures.value ∙ c.in-Doubtful.is) c.in_default-change.not-Nothing c.in_use.result.now c.in_use.ensures
    (g.D.Disk.device c.settle_change.new.disk) c.settle_change.ensures.crash

pub apply-requires : goal.apply-requires
apply-requires g c =
    let has = c.requires.doubt in
    let is = sym c.replace-stage.ensures.value ∙ c.in-Doubtful.is in
    record { may = may_apply g.D.Disk.device c.args.self.now c.in-Doubtful.stopped c.in-Doubtful.pending is c.in_default-change.not-Nothing has.texts has.coming has.doubt }

pub returns-in-Ok-clause-stands : goal.returns-in-Ok-clause-stands
returns-in-Ok-clause-stands g c = λ late. absurd (early_late (sym (ap stopped_in c.in-Copying.is) ∙ late))

pub returns-in-Nothing-clause-stands : goal.returns-in-Nothing-clause-stands
returns-in-Nothing-clause-stands g c = λ late.
    let has = c.requires.doubt in
    absurd (early_late (sym (unchanged_early g.D.Disk.device c.args.self.now c.in-Doubtful.stopped c.in-Doubtful.pending (sym c.replace-stage.ensures.value ∙ c.in-Doubtful.is) c.in-Nothing.is has.texts has.coming has.doubt) ∙ late))

pub returns-in-Ok-false-clause-stands : goal.returns-in-Ok-false-clause-stands
returns-in-Ok-false-clause-stands g c = λ late.
    subst IsTrue c.in-Ok-false.field-0-test (c.in-Ok-false.ensures.late (sym (ap stopped_in (sym c.replace-stage.ensures.value ∙ c.in-Doubtful.is)) ∙ late))

pub returns-in-Err-clause-place : goal.returns-in-Err-clause-place
returns-in-Err-clause-place g c = ap stopped_in c.in-Copying.is ∙ sym c.in-Err.ensures.early

pub returns-in-Err-clause-again : goal.returns-in-Err-clause-again
returns-in-Err-clause-again g c =
    let has = c.requires.doubt in
    copying_again g.D.Disk.device c.args.self.now c.in-Copying.is (g.D.Disk.device c.clear_copies.new.disk) c.in-Err.again c.in-Err.ensures.early has.texts has.coming has.doubt

pub returns-in-Err-clause-late : goal.returns-in-Err-clause-late
returns-in-Err-clause-late g c = λ texts coming doubt.
    copying_late g.D.Disk.device c.args.self.now c.in-Copying.is (g.D.Disk.device c.clear_copies.new.disk) c.in-Err.again c.in-Err.ensures.early coming

pub returns-in-Err-settle_change-clause-place : goal.returns-in-Err-settle_change-clause-place
returns-in-Err-settle_change-clause-place g c = ap stopped_in c.put_stage-in-Err-settle_change.ensures

pub returns-in-Err-settle_change-clause-again : goal.returns-in-Err-settle_change-clause-again
returns-in-Err-settle_change-clause-again g c =
    subst (λ (s : Stopped). StopsAgain s c.in-Err-settle_change.again (g.D.Disk.device c.args.self.now.disk) (g.D.Disk.device c.settle_change.new.disk))
    (sym (ap stopped_in (sym c.replace-stage.ensures.value ∙ c.in-Doubtful.is))) c.in-Err-settle_change.ensures.again

pub returns-in-Err-settle_change-clause-late : goal.returns-in-Err-settle_change-clause-late
returns-in-Err-settle_change-clause-late g c = λ texts coming doubt.
    subst (λ (s : Stopped). StandsLate s coming (g.D.Disk.device c.settle_change.new.disk)) (returns-in-Err-settle_change-clause-place g c)
    (doubt_stands g.D.Disk.device _ texts coming (returns-in-Err-settle_change-clause-still g c texts (Some coming) doubt))

pub returns-in-Ok-clause-firm : goal.returns-in-Ok-clause-firm
returns-in-Ok-clause-firm g c = λ texts coming doubt. copying_firm g.D.Disk.device c.args.self.now c.in-Copying.is (g.D.Disk.device c.clear_copies.new.disk) coming

pub returns-in-Err-clause-firm : goal.returns-in-Err-clause-firm
returns-in-Err-clause-firm g c = λ texts coming doubt. copying_firm g.D.Disk.device c.args.self.now c.in-Copying.is (g.D.Disk.device c.clear_copies.new.disk) coming

pub returns-in-Nothing-clause-firm : goal.returns-in-Nothing-clause-firm
returns-in-Nothing-clause-firm g c = λ texts coming. unchanged_firm g.D.Disk.device c.args.self.now c.in-Doubtful.stopped c.in-Doubtful.pending (sym c.replace-stage.ensures.value ∙ c.in-Doubtful.is) c.in-Nothing.is coming texts

pub returns-in-Ok-true-clause-firm : goal.returns-in-Ok-true-clause-firm
returns-in-Ok-true-clause-firm g c =
    firm g.D.Disk.device c.args.self.now c.in-Doubtful.stopped c.in-Doubtful.pending (sym c.replace-stage.ensures.value ∙ c.in-Doubtful.is) c.in_default-change.not-Nothing c.in_use.result.now c.in_use.ensures (g.D.Disk.device c.settle_change.new.disk) c.settle_change.ensures.firm

pub returns-in-Ok-false-clause-firm : goal.returns-in-Ok-false-clause-firm
returns-in-Ok-false-clause-firm g c =
    firm g.D.Disk.device c.args.self.now c.in-Doubtful.stopped c.in-Doubtful.pending (sym c.replace-stage.ensures.value ∙ c.in-Doubtful.is) c.in_default-change.not-Nothing c.in_use.result.now c.in_use.ensures (g.D.Disk.device c.settle_change.new.disk) c.settle_change.ensures.firm

pub returns-in-Err-settle_change-clause-firm : goal.returns-in-Err-settle_change-clause-firm
returns-in-Err-settle_change-clause-firm g c =
    firm g.D.Disk.device c.args.self.now c.in-Doubtful.stopped c.in-Doubtful.pending (sym c.replace-stage.ensures.value ∙ c.in-Doubtful.is) c.in_default-change.not-Nothing c.in_use.result.now c.in_use.ensures (g.D.Disk.device c.settle_change.new.disk) c.settle_change.ensures.firm

pub returns-in-Ok-true-clause-packs : goal.returns-in-Ok-true-clause-packs
returns-in-Ok-true-clause-packs g c =
    c.count_pack-self.ensures ∙ sym (ap (λ (s : Stage). packs_in s c.args.self.now.packs) (sym c.replace-stage.ensures.value ∙ c.in-Doubtful.is))

pub returns-in-Err-settle_change-clause-unpacked : goal.returns-in-Err-settle_change-clause-unpacked
returns-in-Err-settle_change-clause-unpacked g c = (
  refl,
  ap (λ (s : Stage). packs_in s c.args.self.now.packs) c.put_stage-in-Err-settle_change.ensures
      ∙ sym (ap (λ (s : Stage). packs_in s c.args.self.now.packs) (sym c.replace-stage.ensures.value ∙ c.in-Doubtful.is)),
)
