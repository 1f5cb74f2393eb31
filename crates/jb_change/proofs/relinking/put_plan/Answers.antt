use Rattle.std.proofs.Common.{ℕ, List, [], ◌≡◌, ◌∷◌, ◌++◌, ◌+◌, ◌∙◌, arith, get_or, subst, sym, take}
use Rattle.jb_change.specs.Headers.{Updates}
use Rattle.jb_state.specs.declared.links.Links.{Links}
use Rattle.jb_state.specs.Linked.{with_links_of}
use Rattle.jb_change.proofs.PlanLemmas.{left_above}
use Rattle.jb_state.proofs.LinkedLaws.{plan_more}
use Rattle.jb_change.specs.Links.{AreLeftAbove}
use Rattle.jb_change.proofs.relinking.put_plan.Goals as goal

pub loop-links-preserved : goal.loop-links-preserved
loop-links-preserved c =
    let plan : List Links = c.args.plan.now in
    let k : ℕ = c.loop-links.links-index in
    let none : Links = record { number = 0; reply_to = 0; first = 0; next = 0 } in
    let before : List Links = take k plan in
    let was = c.loop-links.invariant in
    let put = c.put_other_links.ensures in
    let more : take (k + 1) plan ≡ before ++ get_or plan k none ∷ [] = plan_more plan k none c.loop-links-test.true in
    let greatest = c.max-last.ensures in
    let spent = was.room in
    let spends = put.room in
    let kept = was.kept in
    let keeps = put.kept in
    let size = was.size in
    let sizes = put.size in
    record {
      makes = λ made. subst (λ (p : List Links). Updates c.put_other_links.new.redo c.args.loaded.now (with_links_of p c.args.loaded.now) []) (sym more)
          (put.makes before was.above (was.makes made));
      leaves = λ made left. put.leaves before (was.makes made) (was.leaves made left);
      above = subst (λ (p : List Links). AreLeftAbove p c.max-last.result c.args.loaded.now) (sym more)
          (left_above c.args.loaded.now before (get_or plan k none) c.loop-links.last c.max-last.result was.above (omega (arith, greatest)) (omega (arith, greatest)));
      lengths = put.lengths ∙ was.lengths;
      room = record {
        of_lengths = omega (arith, spent.of_lengths, spends.of_lengths);
        of_pieces = omega (arith, spent.of_pieces, spends.of_pieces);
        of_bytes = omega (arith, spent.of_bytes, spends.of_bytes);
      };
      kept = record {
        for_lengths = omega (arith, kept.for_lengths, keeps.for_lengths);
        for_pieces = omega (arith, kept.for_pieces, keeps.for_pieces);
        for_bytes = omega (arith, kept.for_bytes, keeps.for_bytes);
      };
      size = omega (arith, size, sizes);
    }
