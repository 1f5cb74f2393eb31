use Rattle.std.proofs.Common.{◌≡◌, ◌<◌, length, ap, sym, arith, refl, ◌∙◌}
use Rattle.jb_disk.specs.declared.version.Version.TheVariants.{Two}
use Rattle.std.specs.List.{flat_map}
use Rattle.std.proofs.lemmas.List.{drop_all}
use Rattle.jb_redo.specs.Record.{piece_bytes}
use Rattle.jb_journal.specs.Spelling.{nth_piece, spelled_size}
use Rattle.jb_journal.proofs.RecordLemmas.{head-nth, length-piece, more_pieces, more_size}
use Rattle.jb_journal.proofs.PutsLemmas.{writing_on, writing_failed, writing_end}
use Rattle.jb_journal.proofs.recording.put_pieces.Goals as goal

pub returns-in_err-put_piece : goal.returns-in_err-put_piece
returns-in_err-put_piece g c = writing_failed _ _ _ _ _ _ _ _ _ _ _ _ _ c.loop-k.invariant refl c.from_residual.ensures.0 c.in_err-put_piece.ensures

pub loop-k-preserved : goal.loop-k-preserved
loop-k-preserved g c =
    let pieces = c.args.redo.now.pieces in
    let k = c.loop-k.k in
    let low : k < length pieces = omega (arith, c.loop-k-test.true, c.pieces-k-end.ensures) in
    let size : c.piece_size-place.result ≡ length (piece_bytes Two (nth_piece pieces k)) =
    c.piece_size-place.ensures ∙ ap spelled_size (head-nth pieces k c.head.result low c.head.ensures.found) ∙ sym (length-piece (nth_piece pieces k)) in
    writing_on _ _ _ _ _ _ _ _ c.piece_size-place.result _ _ (piece_bytes Two (nth_piece pieces k)) _ _ c.loop-k.invariant size (more_pieces pieces k low) c.in_ok-put_piece.ensures

pub returns : goal.returns
returns g c = writing_end _ _ _ _ _ _ _ _ _ c.loop-k.invariant (ap (flat_map (piece_bytes Two)) (drop_all c.loop-k.k c.args.redo.now.pieces (omega (arith, c.pieces-k-end.ensures, c.loop-k-test.false))))

pub piece_size-place-requires : goal.piece_size-place-requires
piece_size-place-requires g c =
    let pieces = c.args.redo.now.pieces in
    let k = c.loop-k.k in
    let low : k < length pieces = omega (arith, c.loop-k-test.true, c.pieces-k-end.ensures) in
    omega (arith, c.loop-k.invariant.end, more_size pieces k low, ap spelled_size (head-nth pieces k c.head.result low c.head.ensures.found), c.requires.fits)

pub overflow_add-place : goal.overflow_add-place
overflow_add-place g c =
    let pieces = c.args.redo.now.pieces in
    let k = c.loop-k.k in
    let low : k < length pieces = omega (arith, c.loop-k-test.true, c.pieces-k-end.ensures) in
    let size = c.piece_size-place.ensures ∙ ap spelled_size (head-nth pieces k c.head.result low c.head.ensures.found) in
    omega (arith, c.loop-k.invariant.end, more_size pieces k low, size, c.requires.fits)
