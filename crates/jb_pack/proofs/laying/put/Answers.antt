use Rattle.std.proofs.Common.{List, [], ◌∷◌, ◌++◌, ◌∙◌, arith, ap}
use Rattle.jb_disk.specs.declared.piece.Piece.{Piece}
use Rattle.jb_disk.specs.declared.piece.Piece.TheVariants.{Bytes}
use Rattle.jb_pack.proofs.LaidLemmas.{lays_one}
use Rattle.jb_pack.proofs.laying.put.Goals as goal

pub returns-clause-lays : goal.returns-clause-lays
returns-clause-lays c =
    let same = c.in_ok-reserve.ensures.same in
    lays_one c.args.redo.now c.put_bytes.new.self c.args.file c.args.at c.args.bytes.now (c.put_bytes.ensures.lengths ∙ same.same_lengths)
    (c.put_bytes.ensures.pieces ∙ ap (λ (l : List Piece). l ++ Bytes c.args.file c.args.at c.args.bytes.now ∷ []) same.same_pieces)
    c.requires.place c.requires.base (omega arith) c.requires.short (omega arith)
