use Rattle.std.proofs.Common.{◌≡◌, ◌<◌, ◌^◌, arith, ap, length, List, ◌++◌, ◌∷◌, [], rules, ◌∙◌}
use Rattle.std.proofs.lemmas.Grind.{common_steps}
use Rattle.jb_disk.specs.RedoView.{RedoView}
use Rattle.jb_disk.specs.declared.piece.Piece.{Piece}
use Rattle.jb_disk.specs.declared.piece.Piece.TheVariants.{Copy}
use Rattle.jb_disk.proofs.KeptLemmas.{copy-fits, copy-map, copy-total}
use Rattle.jb_disk.proofs.redo.Redo.put_copy.Goals as goal

pub invariant_of-self : goal.invariant_of-self
invariant_of-self c =
    let starts : c.len-start.result ≡ length c.self.inside.buffer.items = search rules in
    let spare = ap (λ (x : RedoView). x.spare_pieces) c.self.view_is in
    let few : length c.push.new.self.items < 2 ^ 32 = grind (arith, common_steps) in
    record {
      fits = rw c.in-Ok.ensures.items (copy-fits c.self.inside.buffer.items c.self.inside.kept.items c.args.from c.args.from_at c.args.to c.args.to_at c.args.len _ starts c.self.invariant.fits c.requires.source c.requires.target);
      total = rw c.in-Ok.ensures.items (copy-total c.self.inside.buffer.items c.self.inside.kept.items c.args.from c.args.from_at c.args.to c.args.to_at c.args.len _ starts c.self.invariant.fits c.self.invariant.total);
      few = few;
    }

pub returns-clause-pieces : goal.returns-clause-pieces
returns-clause-pieces c =
    let starts : c.len-start.result ≡ length c.self.inside.buffer.items = search rules in
    let before = ap (λ (x : RedoView). x.pieces) c.self.view_is in
    rw c.in-Ok.ensures.items
    (copy-map c.self.inside.buffer.items c.self.inside.kept.items c.args.from c.args.from_at c.args.to c.args.to_at c.args.len _ starts c.self.invariant.fits
    ∙ ap (λ (l : List Piece). l ++ Copy c.args.from c.args.from_at c.args.to c.args.to_at c.args.len ∷ []) before)
