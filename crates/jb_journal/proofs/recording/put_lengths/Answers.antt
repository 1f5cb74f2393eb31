use Rattle.std.proofs.Common.{length, drop, ap, sym, arith, refl, length-drop}
use Rattle.jb_disk.specs.declared.version.Version.TheVariants.{Two}
use Rattle.std.specs.List.{flat_map}
use Rattle.std.proofs.lemmas.List.{drop_all}
use Rattle.jb_redo.specs.Record.{length_bytes}
use Rattle.jb_journal.proofs.RecordLemmas.{more_lengths}
use Rattle.jb_journal.proofs.PutsLemmas.{writing_start, writing_on, writing_failed, writing_end}
use Rattle.jb_redo.proofs.LengthLemmas.{length-lengths}
use Rattle.jb_journal.proofs.recording.put_lengths.Goals as goal

pub loop-entry-init : goal.loop-entry-init
loop-entry-init g c = writing_start _ _ c.args.at _ c.requires.place c.requires.bound (λ files is. omega (arith, c.requires.room files is, length-lengths c.args.lengths.now))

pub returns-in_err-put : goal.returns-in_err-put
returns-in_err-put g c = writing_failed _ _ _ _ _ _ _ _ _ _ _ _ _ c.loop-entry.invariant refl c.from_residual.ensures.0 c.in_err-put.ensures

pub put-requires-clause-fits : goal.put-requires-clause-fits
put-requires-clause-fits g c =
    let parts = more_lengths c.args.lengths.now c.loop-entry.entry-index _ _ c.loop-entry-test.true c.length_code.ensures in
    omega (arith, c.loop-entry.invariant.end, ap length c.length_code.ensures, ap length parts, c.requires.fits, length-lengths c.args.lengths.now, length-lengths (drop c.loop-entry.entry-index c.args.lengths.now), length-drop c.loop-entry.entry-index c.args.lengths.now)

pub overflow_add-place : goal.overflow_add-place
overflow_add-place g c =
    let parts = more_lengths c.args.lengths.now c.loop-entry.entry-index _ _ c.loop-entry-test.true c.length_code.ensures in
    omega (arith, c.loop-entry.invariant.end, ap length parts, c.requires.fits, length-lengths c.args.lengths.now, length-lengths (drop c.loop-entry.entry-index c.args.lengths.now), length-drop c.loop-entry.entry-index c.args.lengths.now)

pub loop-entry-preserved : goal.loop-entry-preserved
loop-entry-preserved g c =
    let parts = more_lengths c.args.lengths.now c.loop-entry.entry-index _ _ c.loop-entry-test.true c.length_code.ensures in
    writing_on _ _ _ _ _ _ _ _ 12 _ _ c.length_code.result _ _ c.loop-entry.invariant (ap length (sym c.length_code.ensures)) parts c.in_ok-put.ensures

pub returns : goal.returns
returns g c = writing_end _ _ _ _ _ _ _ _ _ c.loop-entry.invariant (ap (flat_map (length_bytes Two)) (drop_all c.loop-entry.entry-index c.args.lengths.now (omega arith)))
