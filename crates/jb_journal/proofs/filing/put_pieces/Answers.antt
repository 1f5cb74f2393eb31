use Rattle.std.proofs.Common.{[], ◌<◌, length, arith}
use Rattle.std.proofs.lemmas.List.{drop_all}
use Rattle.jb_redo.specs.OnTheWay.{IsOnTheWay}
use Rattle.jb_disk.proofs.RunLemmas.{keeps-then}
use Rattle.jb_journal.proofs.ComingLemmas.{come_on}
use Rattle.jb_journal.proofs.PieceLemmas.{putting_start, putting_on, putting_end}
use Rattle.jb_journal.proofs.Told.{fails_then, on_ok}
use Rattle.jb_journal.proofs.filing.put_pieces.Goals as goal

pub loop-k-init : goal.loop-k-init
loop-k-init g c = putting_start _ _ _ c.new-gathering.ensures c.requires.place

pub returns-in_err-put_piece-clause-keeps : goal.returns-in_err-put_piece-clause-keeps
returns-in_err-put_piece-clause-keeps g c = λ lengths start legal.
    let was = c.loop-k.invariant.keeps lengths start legal in
    keeps-then (IsOnTheWay lengths c.args.redo.now.pieces start) _ _ _ was.1 (c.put_piece.ensures.keeps lengths start legal was.0).1

pub loop-k-preserved : goal.loop-k-preserved
loop-k-preserved g c =
    let low : c.loop-k.k < length c.args.redo.now.pieces = omega (arith, c.loop-k-test.true, c.pieces-k-end.ensures) in
    putting_on _ _ _ _ _ c.args.redo.now.pieces c.loop-k.k c.loop-k.invariant low c.in_ok-put_piece.ensures.told c.in_ok-put_piece.ensures.held c.in_ok-put_piece.ensures.come c.in_ok-put_piece.ensures.cause.kept c.put_piece.ensures.cause.alike c.put_piece.ensures.keeps

pub returns-clause-told : goal.returns-clause-told
returns-clause-told g c = putting_end _ _ _ _ _ c.args.redo.now.pieces _ c.flush.result c.loop-k.invariant (drop_all c.loop-k.k c.args.redo.now.pieces (omega (arith, c.pieces-k-end.ensures, c.loop-k-test.false))) c.flush.ensures

pub returns-clause-keeps : goal.returns-clause-keeps
returns-clause-keeps g c = λ lengths start legal.
    let was = c.loop-k.invariant.keeps lengths start legal in
    keeps-then (IsOnTheWay lengths c.args.redo.now.pieces start) _ _ _ was.1 (c.flush.ensures.way lengths c.args.redo.now.pieces start was.0)

pub returns-clause-cause : goal.returns-clause-cause
returns-clause-cause g c = fails_then _ _ _ _ c.loop-k.invariant.counted c.loop-k.invariant.alike c.flush.ensures.cause

pub returns-clause-come : goal.returns-clause-come
returns-clause-come g c = on_ok c.flush.result _ _ (come_on [] [] _ _ _ c.loop-k.invariant.come) c.flush.ensures.come
