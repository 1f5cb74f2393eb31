use Rattle.std.proofs.Common.{◌≡◌, ◌∷◌, ◌++◌, [], ℕ, List, append_assoc, ap, arith, cond, map, nat_lt, sym, ◌∙◌}
use Rattle.std.proofs.lemmas.Bool.{le-ltb, lt-ltb}
use Rattle.jb_link.specs.Part.{part}
use Rattle.jb_link.specs.declared.orphans.Orphan.{Orphan}
use Rattle.jb_link.proofs.OrphanLemmas.{heired}
use Rattle.jb_link.proofs.PartLemmas.{part_more}
use Rattle.jb_link.proofs.orphans.put_heirs.Goals as goal
use Rattle.jb_link.proofs.orphans.put_heirs.Goals.{then-heir-number, else-heir-number}

pub loop-at-preserved : goal.loop-at-preserved
loop-at-preserved c =
    let old : List Orphan = c.args.orphans.now.items in
    let so_far : List Orphan = map (heired c.args.heir) (part c.args.from c.loop-at.at c.args.numbers.now.items) in
    let parent : c.if-heir-number.parent ≡ cond (nat_lt c.args.heir c.index-number.result.now) c.args.heir 0
    = elim c.if-heir-number.branch [
      | then-heir-number w ↦ w.parent-is ∙ sym (ap (λ b. cond b c.args.heir 0) (lt-ltb c.args.heir c.index-number.result.now w.if-heir-number.true))
      | else-heir-number w ↦ w.parent-is ∙ sym (ap (λ b. cond b c.args.heir 0) (le-ltb c.args.heir c.index-number.result.now (omega (arith, w.if-heir-number.false))))
    ] in
    record {
      start = omega (arith, c.loop-at.invariant.start);
      so_far =
          c.in_ok-push.ensures.items
          ∙ ap (λ (p : ℕ). c.loop-at.orphans.items ++ record { number = c.index-number.result.now; parent = p } ∷ []) parent
          ∙ ap (λ (l : List Orphan). l ++ heired c.args.heir c.index-number.result.now ∷ []) c.loop-at.invariant.so_far
          ∙ append_assoc old so_far (heired c.args.heir c.index-number.result.now ∷ [])
          ∙ ap (λ (l : List Orphan). old ++ l)
          (sym (part_more (heired c.args.heir) c.args.numbers.now.items c.args.from c.loop-at.at c.index-number.result.now c.loop-at.invariant.start
          (omega (arith, c.loop-at-test.true, c.requires.to)) c.index-number.ensures));
    }
