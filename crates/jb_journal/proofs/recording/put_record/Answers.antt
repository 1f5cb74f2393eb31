use Rattle.std.proofs.Common.{◌≡◌, ◌+◌, ◌*◌, ◌++◌, length, ap, sym, arith, ◌∙◌, List, ℕ}
use Rattle.jb_disk.specs.declared.piece.Length.{Length}
use Rattle.jb_disk.specs.declared.version.Version.TheVariants.{Two}
use Rattle.jb_redo.specs.Record.{record_bytes}
use Rattle.jb_journal.specs.Spelling.{record_front, back_bytes}
use Rattle.jb_journal.proofs.RecordLemmas.{length-front, record-parts, same_size}
use Rattle.jb_journal.proofs.PutsLemmas.{puts_room, puts_then}
use Rattle.jb_journal.proofs.recording.put_record.Goals as goal
use Rattle.jb_redo.proofs.LengthLemmas.{length-record}

pub put_front-requires-clause-room : goal.put_front-requires-clause-room
put_front-requires-clause-room g c = λ files is.
    omega (arith, c.requires.room files is, c.requires.size, length-record 0 c.args.redo.now.lengths c.args.redo.now.pieces, ap length c.lengths.ensures)

pub put_back-requires-clause-end : goal.put_back-requires-clause-end
put_back-requires-clause-end g c = omega (arith, c.requires.size, length-record 0 c.args.redo.now.lengths c.args.redo.now.pieces, ap length c.lengths-2.ensures)

pub put_back-requires-clause-room : goal.put_back-requires-clause-room
put_back-requires-clause-room g c =
    let size = length-record 0 c.args.redo.now.lengths c.args.redo.now.pieces in
    let same = ap length c.lengths.ensures in
    puts_room 16 _ _ _ _ _ _ _ c.in_ok-put_front.ensures
    (λ files is. omega (arith, c.requires.room files is, c.requires.size, size, same, length-front c.args.change c.lengths.result.now c.pieces.result))
    (λ files is. omega (arith, c.requires.room files is, c.requires.size, size))

pub returns : goal.returns
returns g c =
    let lengths = c.args.redo.now.lengths in
    let pieces = c.args.redo.now.pieces in
    let front : record_front c.args.change c.lengths.result.now c.pieces.result ≡ record_front c.args.change lengths (length pieces) =
    ap (λ (l : List Length). record_front c.args.change l c.pieces.result) c.lengths.ensures ∙ ap (record_front c.args.change lengths) c.pieces.ensures in
    let place = 36 + 12 * length c.lengths-2.result.now in
    puts_then 16 place (record_front c.args.change c.lengths.result.now c.pieces.result) (back_bytes pieces) (record_bytes Two c.args.change lengths pieces) _ _ _ _ _ _ _ _
    (λ files is. omega (arith, c.requires.room files is, c.requires.size, same_size c.args.change c.args.redo.now))
    (omega (arith, length-front c.args.change c.lengths.result.now c.pieces.result, ap length c.lengths.ensures, ap length c.lengths-2.ensures))
    (record-parts c.args.change lengths pieces ∙ ap (λ (l : List ℕ). l ++ back_bytes pieces) (sym front)) c.in_ok-put_front.ensures c.put_back.ensures
