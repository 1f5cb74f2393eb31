use Rattle.std.proofs.Common.{◌≡◌, ◌+◌, ◌++◌, List, ℕ, length, ap, sym, arith, ◌∙◌, length-append}
use Rattle.jb_disk.specs.declared.version.Version.TheVariants.{Two}
use Rattle.jb_disk.specs.RedoView.{piece_head}
use Rattle.jb_redo.specs.Record.{piece_bytes}
use Rattle.jb_journal.specs.Spelling.{nth_piece, head_bytes, tail_bytes}
use Rattle.jb_journal.proofs.RecordLemmas.{head-nth, piece-parts}
use Rattle.jb_journal.proofs.PutsLemmas.{puts_room, puts_then}
use Rattle.jb_journal.proofs.recording.put_piece.Goals as goal

pub put_tail-requires-clause-room : goal.put_tail-requires-clause-room
put_tail-requires-clause-room g c =
    let piece = nth_piece c.args.redo.now.pieces c.args.k in
    let size : length (piece_bytes Two piece) ≡ 20 + length (tail_bytes piece) = ap length (piece-parts piece) ∙ length-append (head_bytes (piece_head piece)) (tail_bytes piece) in
    let code : length c.head_code.result ≡ 20 = ap length c.head_code.ensures in
    puts_room c.args.at c.head_code.result _ _ _ _ _ _ c.in_ok-put.ensures (λ files is. omega (arith, c.requires.room files is, size, code)) (λ files is. omega (arith, c.requires.room files is, size))

pub returns : goal.returns
returns g c =
    let piece = nth_piece c.args.redo.now.pieces c.args.k in
    let code : length c.head_code.result ≡ 20 = ap length c.head_code.ensures in
    let is : c.head_code.result ≡ head_bytes (piece_head piece) = c.head_code.ensures ∙ ap head_bytes (head-nth c.args.redo.now.pieces c.args.k c.head.result c.requires.within c.head.ensures.found) in
    puts_then c.args.at (c.args.at + 20) c.head_code.result (tail_bytes piece) (piece_bytes Two piece) _ _ _ _ _ _ _ _ c.requires.room (ap (λ (n : ℕ). c.args.at + n) (sym code))
    (piece-parts piece ∙ ap (λ (l : List ℕ). l ++ tail_bytes piece) (sym is)) c.in_ok-put.ensures c.put_tail.ensures
