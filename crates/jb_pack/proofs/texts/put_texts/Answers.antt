use Rattle.std.proofs.Common.{◌∷◌, ◌+◌, ◌∙◌, List, ℕ, drop, min, subst, ap, refl}
use Rattle.std.specs.Prelude.{Option}
use Rattle.std.proofs.lemmas.List.Elements.{All-head}
use Rattle.jb_limits.specs.declared.limits.TheConstants.{TEXTS_CEILING}
use Rattle.jb_disk.specs.Files.{Files}
use Rattle.jb_state.specs.Sound.{IsSlotWithin}
use Rattle.jb_state.specs.declared.loaded.LoadedMessage.{LoadedMessage}
use Rattle.jb_state.specs.declared.loaded.LoadedSlot.{LoadedSlot}
use Rattle.jb_state.specs.declared.loaded.LoadedSlot.TheVariants.{Live}
use Rattle.jb_pack.specs.Copying.{PutsRun}
use Rattle.jb_pack.proofs.CopyLemmas.{IsCopied, copied_all, copied_end, copied_joined, copied_next, copied_no_message, copied_none, text_placed, text_run}
use Rattle.jb_pack.proofs.SlotLemmas.{from_place, keeps_then}
use Rattle.jb_pack.proofs.texts.put_texts.Goals as goal

pub loop-slot-preserved-in-Some : goal.loop-slot-preserved-in-Some
loop-slot-preserved-in-Some g c =
    let k : ℕ = c.loop-slot.slot-index in
    let rest : List LoadedSlot = drop (k + 1) c.args.slots.now in
    let message : LoadedMessage = c.in-Live.message in
    let contents : Option Files = (g.D.Disk.device c.args.disk.now).contents in
    let was = c.loop-slot.invariant.copied in
    let here : IsCopied c.args.loaded.now contents c.args.slots.now c.args.redo.now c.loop-slot.redo c.loop-slot.run c.loop-slot.end (Live message ∷ rest) =
    subst (IsCopied c.args.loaded.now contents c.args.slots.now c.args.redo.now c.loop-slot.redo c.loop-slot.run c.loop-slot.end)
    (from_place c.args.slots.now k c.slot-item.result c.loop-slot-test.true c.slot-item.is ∙ ap (λ (s : LoadedSlot). s ∷ rest) c.in-Live.is) was in
    let within = All-head (IsSlotWithin c.args.loaded.now.headers_len c.args.loaded.now.texts_len) (Live message) rest here.within in
    record {
      copied = copied_joined c.args.loaded.now contents c.args.slots.now c.args.redo.now c.loop-slot.redo c.loop-slot.run c.in-Some.more c.loop-slot.end message rest
          c.in-Some.ensures.joined (c.in-Some.ensures.run (min c.args.loaded.now.texts_len TEXTS_CEILING) here.run_is (text_placed c.args.loaded.now.texts_len message.text_at message.text_len within.text)) here;
      kept = c.loop-slot.invariant.kept;
      quiet = c.loop-slot.invariant.quiet;
    }

pub loop-slot-preserved : goal.loop-slot-preserved
loop-slot-preserved g c =
    let k : ℕ = c.loop-slot.slot-index in
    let rest : List LoadedSlot = drop (k + 1) c.args.slots.now in
    let message : LoadedMessage = c.in-Live.message in
    let contents : Option Files = (g.D.Disk.device c.args.disk.now).contents in
    let was = c.loop-slot.invariant.copied in
    let kept = c.loop-slot.invariant.kept in
    let keeps = c.in_ok-end.ensures.kept in
    let here : IsCopied c.args.loaded.now contents c.args.slots.now c.args.redo.now c.loop-slot.redo c.loop-slot.run c.loop-slot.end (Live message ∷ rest) =
    subst (IsCopied c.args.loaded.now contents c.args.slots.now c.args.redo.now c.loop-slot.redo c.loop-slot.run c.loop-slot.end)
    (from_place c.args.slots.now k c.slot-item.result c.loop-slot-test.true c.slot-item.is ∙ ap (λ (s : LoadedSlot). s ∷ rest) c.in-Live.is) was in
    let within = All-head (IsSlotWithin c.args.loaded.now.headers_len c.args.loaded.now.texts_len) (Live message) rest here.within in
    record {
      copied = copied_next c.args.loaded.now contents c.args.slots.now c.args.redo.now c.loop-slot.redo c.put_run.new.redo c.loop-slot.run c.loop-slot.end c.in_ok-end.end message rest
          (subst (λ (o : Option Files). PutsRun o c.loop-slot.run c.loop-slot.redo c.put_run.new.redo) kept.contents c.in_ok-end.ensures.puts)
          c.in_ok-end.ensures.next c.in_ok-end.ensures.room (text_run (min c.args.loaded.now.texts_len TEXTS_CEILING) (record { at = message.text_at; len = message.text_len }) c.in_default-joined.ensures.other
          (text_placed c.args.loaded.now.texts_len message.text_at message.text_len within.text)) here;
      kept = record { contents = keeps.contents ∙ kept.contents; moments = keeps.moments ∙ kept.moments };
      quiet = c.in_ok-end.ensures.faults.quiet ∙ c.loop-slot.invariant.quiet;
    }

pub loop-slot-init : goal.loop-slot-init
loop-slot-init g c = record {
  copied = copied_none c.args.loaded.now (g.D.Disk.device c.args.disk.now).contents c.args.slots.now c.args.redo.now c.requires.within c.requires.begin;
  kept = record { contents = refl; moments = refl };
  quiet = refl;
}

pub loop-slot-preserved-in_default : goal.loop-slot-preserved-in_default
loop-slot-preserved-in_default g c =
    let k : ℕ = c.loop-slot.slot-index in
    let rest : List LoadedSlot = drop (k + 1) c.args.slots.now in
    let contents : Option Files = (g.D.Disk.device c.args.disk.now).contents in
    record {
      copied = copied_no_message c.args.loaded.now contents c.args.slots.now c.args.redo.now c.loop-slot.redo c.loop-slot.run c.loop-slot.end c.slot-item.result rest c.in_default.not-Live
          (subst (IsCopied c.args.loaded.now contents c.args.slots.now c.args.redo.now c.loop-slot.redo c.loop-slot.run c.loop-slot.end)
          (from_place c.args.slots.now k c.slot-item.result c.loop-slot-test.true c.slot-item.is) c.loop-slot.invariant.copied);
      kept = c.loop-slot.invariant.kept;
      quiet = c.loop-slot.invariant.quiet;
    }

pub returns-clause-puts : goal.returns-clause-puts
returns-clause-puts g c =
    let contents : Option Files = (g.D.Disk.device c.args.disk.now).contents in
    copied_all c.args.loaded.now contents c.args.slots.now c.args.redo.now c.loop-slot.redo c.put_run-2.new.redo c.loop-slot.run c.loop-slot.end
    (subst (λ (o : Option Files). PutsRun o c.loop-slot.run c.loop-slot.redo c.put_run-2.new.redo) c.loop-slot.invariant.kept.contents c.in_ok-put_run.ensures.puts)
    (copied_end c.args.loaded.now contents c.args.slots.now c.args.redo.now c.loop-slot.redo c.loop-slot.run c.loop-slot.end c.loop-slot.slot-index c.loop-slot-test.false c.loop-slot.auto.slot-index-end c.loop-slot.invariant.copied)

pub returns-clause-room : goal.returns-clause-room
returns-clause-room g c = keeps_then c.args.redo.now c.loop-slot.redo c.put_run-2.new.redo c.loop-slot.invariant.copied.room c.put_run-2.ensures.room

pub returns-in_err-put_run-clause-room : goal.returns-in_err-put_run-clause-room
returns-in_err-put_run-clause-room g c = keeps_then c.args.redo.now c.loop-slot.redo c.put_run-2.new.redo c.loop-slot.invariant.copied.room c.put_run-2.ensures.room

pub returns-in_err-end-clause-room : goal.returns-in_err-end-clause-room
returns-in_err-end-clause-room g c = keeps_then c.args.redo.now c.loop-slot.redo c.put_run.new.redo c.loop-slot.invariant.copied.room c.put_run.ensures.room
