use Rattle.std.proofs.Common.{[], ◌≡◌, List, sym, ◌∙◌, subst}
use Rattle.jb_disk.specs.Device.{Turns}
use Rattle.jb_disk.specs.Runs.{Keeps}
use Rattle.jb_disk.specs.declared.piece.Length.{Length}
use Rattle.jb_disk.proofs.RunLemmas.{keeps-then}
use Rattle.jb_disk.proofs.FileLemmas.{leaves_both}
use Rattle.jb_redo.specs.OnTheWay.{IsOnTheWay}
use Rattle.jb_journal.specs.Filing.{HaveNewLengths, AgreeBelow}
use Rattle.jb_journal.specs.Coming.{ComeBy}
use Rattle.jb_journal.proofs.ComingLemmas.{come_on, syncs_behind}
use Rattle.jb_journal.proofs.Told.{on_ok, on_ok_both}
use Rattle.jb_journal.proofs.FilingLemmas.{pieces_place, told_applied, same_on_way}
use Rattle.jb_journal.proofs.filing.write_files.Goals as goal

pub put_pieces-requires : goal.put_pieces-requires
put_pieces-requires g c =
    let lengths = c.args.redo.now.lengths in
    let told : Turns (HaveNewLengths lengths) (g.D.Disk.device c.args.disk.now).contents (g.D.Disk.device c.set_lengths.new.disk).contents =
    subst (λ (l : List Length). Turns (HaveNewLengths l) (g.D.Disk.device c.args.disk.now).contents (g.D.Disk.device c.set_lengths.new.disk).contents) c.lengths.ensures c.in_ok-set_lengths.ensures.told in
    record { place = pieces_place lengths c.args.redo.now.pieces _ _ told c.requires.room }

pub returns-in_err-put_pieces-clause-keeps : goal.returns-in_err-put_pieces-clause-keeps
returns-in_err-put_pieces-clause-keeps g c = λ start legal.
    let lengths = c.args.redo.now.lengths in
    let pieces = c.args.redo.now.pieces in
    keeps-then (IsOnTheWay lengths pieces start) _ _ _
    (subst (λ (l : List Length). Keeps (IsOnTheWay l pieces start) (g.D.Disk.device c.args.disk.now) (g.D.Disk.device c.set_lengths.new.disk)) c.lengths.ensures (c.set_lengths.ensures.keeps pieces start))
    (c.put_pieces.ensures.keeps lengths start legal)

pub returns-clause-keeps : goal.returns-clause-keeps
returns-clause-keeps g c = λ start legal.
    let lengths = c.args.redo.now.lengths in
    let pieces = c.args.redo.now.pieces in
    keeps-then (IsOnTheWay lengths pieces start) _ _ _
    (keeps-then (IsOnTheWay lengths pieces start) _ _ _
    (subst (λ (l : List Length). Keeps (IsOnTheWay l pieces start) (g.D.Disk.device c.args.disk.now) (g.D.Disk.device c.set_lengths.new.disk)) c.lengths.ensures (c.set_lengths.ensures.keeps pieces start))
    (c.put_pieces.ensures.keeps lengths start legal))
    (c.sync_changed.ensures.keeps start)

pub returns-clause-told : goal.returns-clause-told
returns-clause-told g c =
    let lengths = c.args.redo.now.lengths in
    let told : Turns (HaveNewLengths lengths) (g.D.Disk.device c.args.disk.now).contents (g.D.Disk.device c.set_lengths.new.disk).contents =
    subst (λ (l : List Length). Turns (HaveNewLengths l) (g.D.Disk.device c.args.disk.now).contents (g.D.Disk.device c.set_lengths.new.disk).contents) c.lengths.ensures c.in_ok-set_lengths.ensures.told in
    on_ok c.sync_changed.result _ _ (λ kept. λ start legal grown way. kept ∙ told_applied lengths c.args.redo.now.pieces start _ _ _ told c.in_ok-put_pieces.ensures.told legal grown way) c.sync_changed.ensures.kept

pub returns-clause-durable : goal.returns-clause-durable
returns-clause-durable g c =
    let lengths = c.args.redo.now.lengths in
    let pieces = c.args.redo.now.pieces in
    on_ok_both c.sync_changed.result _ _ _ (λ kept durable. λ start legal shows final there.
    let first : Keeps (IsOnTheWay lengths pieces start) (g.D.Disk.device c.args.disk.now) (g.D.Disk.device c.set_lengths.new.disk) =
    subst (λ (l : List Length). Keeps (IsOnTheWay l pieces start) (g.D.Disk.device c.args.disk.now) (g.D.Disk.device c.set_lengths.new.disk)) c.lengths.ensures (c.set_lengths.ensures.keeps pieces start) in
    let shows2 = (c.put_pieces.ensures.keeps lengths start legal).shows (first.shows shows) in
    let shows3 = (c.sync_changed.ensures.keeps start).shows shows2 in
    leaves_both (IsOnTheWay lengths pieces start) (AgreeBelow 4 final) (λ left. left ≡ final) _
    (λ left way agree. same_on_way lengths pieces start final left legal (shows3.read final there) way agree) shows3.left (durable start shows2 final (sym kept ∙ there)))
    c.sync_changed.ensures.kept c.sync_changed.ensures.durable

pub returns-clause-come : goal.returns-clause-come
returns-clause-come g c =
    let lengths = c.args.redo.now.lengths in
    let sized : ComeBy lengths [] (g.D.Disk.device c.args.disk.now).moments (g.D.Disk.device c.set_lengths.new.disk).moments =
    subst (λ (l : List Length). ComeBy l [] (g.D.Disk.device c.args.disk.now).moments (g.D.Disk.device c.set_lengths.new.disk).moments) c.lengths.ensures c.in_ok-set_lengths.ensures.come in
    on_ok c.sync_changed.result _ _ (syncs_behind lengths lengths c.args.redo.now.pieces _ _ _ (come_on lengths [] _ _ _ sized c.in_ok-put_pieces.ensures.come)) c.sync_changed.ensures.come
