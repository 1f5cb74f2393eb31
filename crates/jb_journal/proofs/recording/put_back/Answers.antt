use Rattle.std.proofs.Common.{arith, refl}
use Rattle.jb_disk.specs.declared.version.Version.TheVariants.{Two}
use Rattle.std.specs.List.{flat_map}
use Rattle.jb_redo.specs.Record.{piece_bytes, record_end}
use Rattle.jb_journal.specs.Spelling.{back_bytes}
use Rattle.jb_journal.proofs.RecordLemmas.{length-back}
use Rattle.jb_journal.proofs.PutsLemmas.{puts_room, puts_then}
use Rattle.jb_journal.proofs.recording.put_back.Goals as goal

pub put-requires-clause-room : goal.put-requires-clause-room
put-requires-clause-room g c =
    puts_room c.args.at _ _ _ _ _ _ _ c.in_ok-put_pieces.ensures (λ files is. omega (arith, c.requires.room files is, c.requires.end)) (λ files is. omega (arith, c.requires.room files is))

pub returns : goal.returns
returns g c =
    puts_then c.args.at c.args.end (flat_map (piece_bytes Two) c.args.redo.now.pieces) (record_end Two) (back_bytes c.args.redo.now.pieces) _ _ _ _ _ _ _ _
    (λ files is. omega (arith, c.requires.room files is, c.requires.end, length-back c.args.redo.now.pieces)) c.requires.end refl c.in_ok-put_pieces.ensures c.put.ensures
