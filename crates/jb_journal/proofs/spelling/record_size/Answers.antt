use Rattle.std.proofs.Common.{◌<◌, length, ap, arith, ◌∙◌}
use Rattle.jb_journal.specs.Spelling.{spelled_size}
use Rattle.jb_journal.proofs.RecordLemmas.{head-nth, more_size}
use Rattle.jb_journal.proofs.spelling.record_size.Goals as goal
use Rattle.jb_redo.proofs.LengthLemmas.{length-record}

pub loop-k-init : goal.loop-k-init
loop-k-init c = omega (arith, length-record 0 c.args.redo.now.lengths c.args.redo.now.pieces, ap length c.lengths.ensures)

pub loop-k-preserved : goal.loop-k-preserved
loop-k-preserved c =
    let pieces = c.args.redo.now.pieces in
    let k = c.loop-k.k in
    let low : k < length pieces = omega (arith, c.loop-k-test.true, c.pieces-k-end.ensures) in
    let size = c.piece_size-size.ensures ∙ ap spelled_size (head-nth pieces k c.head.result low c.head.ensures.found) in
    omega (arith, c.loop-k.invariant, more_size pieces k low, size)

pub piece_size-size-requires : goal.piece_size-size-requires
piece_size-size-requires c =
    let pieces = c.args.redo.now.pieces in
    let k = c.loop-k.k in
    let low : k < length pieces = omega (arith, c.loop-k-test.true, c.pieces-k-end.ensures) in
    let short = c.requires.short in
    omega (arith, c.loop-k.invariant, more_size pieces k low, ap spelled_size (head-nth pieces k c.head.result low c.head.ensures.found), short)

pub overflow_add-size-in-loop-k : goal.overflow_add-size-in-loop-k
overflow_add-size-in-loop-k c =
    let pieces = c.args.redo.now.pieces in
    let k = c.loop-k.k in
    let low : k < length pieces = omega (arith, c.loop-k-test.true, c.pieces-k-end.ensures) in
    let size = c.piece_size-size.ensures ∙ ap spelled_size (head-nth pieces k c.head.result low c.head.ensures.found) in
    let short = c.requires.short in
    omega (arith, c.loop-k.invariant, more_size pieces k low, size, short)
