use Rattle.std.proofs.Common.{[], ◌≡◌, ◌+◌, length, sym, ◌∙◌, ap, subst, arith, refl, ℕ}
use Rattle.std.specs.Option.{option_map}
use Rattle.jb_disk.proofs.RunLemmas.{keeps-then}
use Rattle.jb_redo.specs.OnTheWay.{IsOnTheWay}
use Rattle.jb_journal.specs.Filing.{IsWrittenBy, with_piece}
use Rattle.jb_journal.specs.Pending.{Pending, told_with, StandsInFile}
use Rattle.jb_journal.specs.Spelling.{nth_piece}
use Rattle.jb_journal.specs.Writing.{Reaches}
use Rattle.jb_journal.proofs.ComingLemmas.{come_on}
use Rattle.jb_journal.proofs.GatherLemmas.{seen-none, none_from}
use Rattle.jb_journal.proofs.RecordLemmas.{head-nth, bytes-nth}
use Rattle.jb_journal.proofs.PieceLemmas.{bytes-written, copy-written, covered-head, length-head, reaches-with}
use Rattle.jb_journal.proofs.Told.{on_ok, option_map-same, Reaches-written}
use Rattle.jb_journal.proofs.filing.put_piece.Goals as goal

pub returns-in_ok-flush-clause-told : goal.returns-in_ok-flush-clause-told
returns-in_ok-flush-clause-told g c =
    let piece = nth_piece c.args.redo.now.pieces c.args.k in
    let was = c.args.gathering.now in
    let is = head-nth c.args.redo.now.pieces c.args.k c.head-head.result c.requires.within c.head-head.ensures.found in
    on_ok c.copy.result _ _ (λ told.
    ap (λ (p : Pending). told_with p (g.D.Disk.device c.copy.new.disk).contents) (c.copy.ensures.same ∙ c.flush.ensures.none) ∙ seen-none was.file was.at (g.D.Disk.device c.copy.new.disk).contents
    ∙ told ∙ option_map-same _ _ _ (λ files there. copy-written piece c.head-head.result is c.if-head.true files) ∙ ap (option_map (with_piece piece)) c.in_ok-flush.ensures.told) c.copy.ensures.told

pub returns-in_ok-flush-clause-held : goal.returns-in_ok-flush-clause-held
returns-in_ok-flush-clause-held g c =
    let piece = nth_piece c.args.redo.now.pieces c.args.k in
    let was = c.args.gathering.now in
    let old = (g.D.Disk.device c.args.disk.now).contents in
    let new = (g.D.Disk.device c.copy.new.disk).contents in
    let is = head-nth c.args.redo.now.pieces c.args.k c.head-head.result c.requires.within c.head-head.ensures.found in
    let room : Reaches (told_with was old) was.file (was.at + 0) = Reaches-written old (told_with was old) was.file was.file was.at (was.at + 0) was.bytes refl c.requires.held (λ files there. omega (arith, c.requires.held files there)) in
    on_ok c.copy.result _ _ (λ told. subst (λ (p : Pending). StandsInFile p new) (sym (c.copy.ensures.same ∙ c.flush.ensures.none))
    (reaches-with piece (told_with was old) new was.file (was.at + 0)
    (told ∙ option_map-same _ _ _ (λ files there. copy-written piece c.head-head.result is c.if-head.true files) ∙ ap (option_map (with_piece piece)) c.in_ok-flush.ensures.told) c.requires.place room)) c.copy.ensures.told

pub returns-in_ok-flush-clause-keeps : goal.returns-in_ok-flush-clause-keeps
returns-in_ok-flush-clause-keeps g c = λ lengths start legal from.
    let pieces = c.args.redo.now.pieces in
    let is = head-nth pieces c.args.k c.head-head.result c.requires.within c.head-head.ensures.found in (
      none_from start pieces c.args.gathering.now _ (c.copy.ensures.same ∙ c.flush.ensures.none),
      keeps-then (IsOnTheWay lengths pieces start) _ _ _ (c.flush.ensures.way lengths pieces start from)
          (c.copy.ensures.keeps lengths pieces start (covered-head start lengths pieces c.args.k c.head-head.result legal c.requires.within is)),
    )

pub returns-else-head-clause-told : goal.returns-else-head-clause-told
returns-else-head-clause-told g c =
    let pieces = c.args.redo.now.pieces in
    let is = head-nth pieces c.args.k c.head-head.result c.requires.within c.head-head.ensures.found in
    let bytes = bytes-nth pieces c.args.k c.bytes.result.now c.requires.within c.bytes.ensures in
    on_ok c.put.result _ _ (λ told. told ∙ option_map-same _ _ _ (λ files there. bytes-written (nth_piece pieces c.args.k) c.head-head.result c.bytes.result.now is c.if-head.false bytes files)) c.put.ensures.told

pub returns-else-head-clause-keeps : goal.returns-else-head-clause-keeps
returns-else-head-clause-keeps g c = λ lengths start legal from.
    let pieces = c.args.redo.now.pieces in
    let is = head-nth pieces c.args.k c.head-head.result c.requires.within c.head-head.ensures.found in
    let bytes = bytes-nth pieces c.args.k c.bytes.result.now c.requires.within c.bytes.ensures in
    let size : length c.bytes.result.now ≡ c.head-head.result.len = length-head (nth_piece pieces c.args.k) c.head-head.result c.bytes.result.now is c.if-head.false bytes in
    c.put.ensures.way lengths pieces start from
    (subst (λ (n : ℕ). IsWrittenBy start pieces c.head-head.result.to c.head-head.result.to_at n) (sym size) (covered-head start lengths pieces c.args.k c.head-head.result legal c.requires.within is))

pub returns-in_ok-flush-clause-come : goal.returns-in_ok-flush-clause-come
returns-in_ok-flush-clause-come g c = on_ok c.copy.result _ _ (come_on [] [] _ _ _ c.in_ok-flush.ensures.come) c.copy.ensures.come
