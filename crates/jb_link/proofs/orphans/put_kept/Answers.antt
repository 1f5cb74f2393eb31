use Rattle.std.proofs.Common.{◌∷◌, ◌++◌, [], List, append_assoc, ap, arith, map, sym, ◌∙◌}
use Rattle.jb_link.specs.Part.{part}
use Rattle.jb_link.specs.declared.orphans.Orphan.{Orphan}
use Rattle.jb_link.proofs.OrphanLemmas.{unheired}
use Rattle.jb_link.proofs.PartLemmas.{part_more}
use Rattle.jb_link.proofs.orphans.put_kept.Goals as goal

pub loop-at-preserved : goal.loop-at-preserved
loop-at-preserved c =
    let old : List Orphan = c.args.orphans.now.items in
    let so_far : List Orphan = map unheired (part c.args.from c.loop-at.at c.args.pairs.now.items) in
    record {
      start = omega (arith, c.loop-at.invariant.start);
      so_far =
          c.in_ok-push.ensures.items
          ∙ ap (λ (l : List Orphan). l ++ unheired c.index.result.now ∷ []) c.loop-at.invariant.so_far
          ∙ append_assoc old so_far (unheired c.index.result.now ∷ [])
          ∙ ap (λ (l : List Orphan). old ++ l)
          (sym (part_more unheired c.args.pairs.now.items c.args.from c.loop-at.at c.index.result.now c.loop-at.invariant.start
          (omega (arith, c.loop-at-test.true, c.requires.to)) c.index.ensures));
    }
