use Rattle.std.proofs.Common.{◌≡◌, ◌<◌, ◌^◌, arith, ap, length, List, ◌++◌, ◌∷◌, [], refl, rules, ◌∙◌}
use Rattle.std.proofs.lemmas.Grind.{common_steps}
use Rattle.jb_disk.specs.RedoView.{RedoView}
use Rattle.jb_disk.specs.declared.piece.Piece.{Piece}
use Rattle.jb_disk.specs.declared.piece.Piece.TheVariants.{Bytes}
use Rattle.jb_disk.proofs.KeptLemmas.{put-fits, put-map, put-total}
use Rattle.jb_disk.proofs.redo.Redo.put_bytes.Goals as goal

pub invariant_of-self : goal.invariant_of-self
invariant_of-self c =
    let starts : c.len-start.result ≡ length c.self.inside.buffer.items = search rules in
    let spare = ap (λ (x : RedoView). x.spare_pieces) c.self.view_is in
    let few : length c.push.new.self.items < 2 ^ 32 = grind (arith, common_steps) in
    record {
      fits = rw (c.in-Ok.ensures.items, c.in-Ok-push.ensures.items) (put-fits c.self.inside.buffer.items c.args.bytes.now c.self.inside.kept.items c.args.file c.args.at _ _ starts refl c.self.invariant.fits c.requires.low);
      total = rw (c.in-Ok.ensures.items, c.in-Ok-push.ensures.items) (put-total c.self.inside.buffer.items c.args.bytes.now c.self.inside.kept.items c.args.file c.args.at _ _ starts refl c.self.invariant.fits c.self.invariant.total);
      few = few;
    }

pub returns-clause-pieces : goal.returns-clause-pieces
returns-clause-pieces c =
    let starts : c.len-start.result ≡ length c.self.inside.buffer.items = search rules in
    let before = ap (λ (x : RedoView). x.pieces) c.self.view_is in
    rw (c.in-Ok.ensures.items, c.in-Ok-push.ensures.items)
    (put-map c.self.inside.buffer.items c.args.bytes.now c.self.inside.kept.items c.args.file c.args.at _ _ starts refl c.self.invariant.fits
    ∙ ap (λ (l : List Piece). l ++ Bytes c.args.file c.args.at c.args.bytes.now ∷ []) before)
