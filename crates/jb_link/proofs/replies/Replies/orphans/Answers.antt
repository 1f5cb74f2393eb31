use Rattle.std.proofs.Common.{List, rules, subst}
use Rattle.std.specs.Prelude.{is_some}
use Rattle.std.proofs.lemmas.List.Sorted.{IsNonDecreasingBy-from_sort_by_key}
use Rattle.jb_link.specs.Orphans.{AddsOrphans}
use Rattle.jb_link.specs.declared.orphans.Orphan.{Orphan}
use Rattle.jb_link.proofs.OrphanLemmas.{all_orphans}
use Rattle.jb_link.proofs.replies.Replies.orphans.Goals as goal

pub returns : goal.returns
returns c =
    all_orphans c.args.loaded.now c.args.number c.put_by_id.new.orphans.items c.put_by_number.new.orphans.items c.sort_unstable_by_key.new.self.items
    (subst (λ (old : List Orphan). AddsOrphans is_some c.args.loaded.now c.args.number old c.put_by_id.new.orphans.items) c.new-orphans.ensures.items c.in_ok-put_by_id.ensures)
    c.in_ok-put_by_number.ensures c.sort_unstable_by_key.ensures.permutation
    (IsNonDecreasingBy-from_sort_by_key (λ x. x.number) c.sort_unstable_by_key.new.self.items c.sort_unstable_by_key.ensures.sorted (λ a r q k. search rules))
