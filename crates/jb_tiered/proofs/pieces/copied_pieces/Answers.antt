use Rattle.std.proofs.Common.{ap, arith, get_or, length, sym, ◌∙◌}
use Rattle.jb_tiered.proofs.CopyLemmas.{one_more}
use Rattle.jb_tiered.proofs.pieces.copied_pieces.Goals as goal

pub loop-piece-preserved : goal.loop-piece-preserved
loop-piece-preserved g c =
    let same = c.deref-piece-items.ensures.value in
    rw (c.in_ok-push.ensures.items)
    (one_more c.args.pieces.now.items c.loop-piece.copies.items c.loop-piece.piece-index c.piece-item.result c.in_ok-copied_piece.field-0 c.loop-piece.invariant
    (omega (arith, c.loop-piece-test.true, c.loop-piece.auto.piece-index-end, ap length same)) (ap (λ ps. get_or ps c.loop-piece.piece-index c.piece-item.result) (sym same) ∙ sym c.piece-item.is) c.in_ok-copied_piece.ensures)
