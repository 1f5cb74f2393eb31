use Rattle.std.proofs.Common.{◌≡◌, ℕ, List, None, ap, arith, map, subst, sym, ◌∙◌}
use Rattle.std.specs.Prelude.{is_some}
use Rattle.std.proofs.lemmas.Result.{on_ok_weaker}
use Rattle.jb_bytes.specs.declared.subfield.TheConstants.{MSGID}
use Rattle.jb_link.specs.IdLists.{id_at}
use Rattle.jb_link.specs.Ids.{lent}
use Rattle.jb_link.specs.Orphans.{AreOrphans}
use Rattle.jb_link.specs.Part.{part}
use Rattle.jb_link.specs.declared.orphans.Orphan.{Orphan}
use Rattle.jb_link.proofs.FoundLemmas.{is_least_with, live_below_end, live_from_base, lower_answered, told_apart, told_same}
use Rattle.jb_link.proofs.OrphanLemmas.{heired, no_orphans, orphans_by_id}
use Rattle.jb_link.proofs.orphans.put_by_id.Goals as goal

pub returns-in_default : goal.returns-in_default
returns-in_default c =
    let from = live_from_base c.args.loaded.now c.args.number c.requires.live in
    let none : id_at MSGID c.args.loaded.now c.args.number ≡ None = sym c.id_at.ensures ∙ ap lent c.in_default.is in
    no_orphans c.args.loaded.now c.args.number c.args.orphans.now.items (omega (arith, from, c.requires.base)) (λ n id reply. let has = reply.has in cc)

pub returns-then-ne : goal.returns-then-ne
returns-then-ne c =
    let from = live_from_base c.args.loaded.now c.args.number c.requires.live in
    no_orphans c.args.loaded.now c.args.number c.args.orphans.now.items (omega (arith, from, c.requires.base))
    (lower_answered c.args.loaded.now c.args.number c.in-Some.id.now _ (sym c.id_at.ensures ∙ ap lent c.in-Some.is) c.least_with.ensures
    (told_apart _ _ (sym c.ne.ensures ∙ c.if-ne.true)))

pub overflow_add-number : goal.overflow_add-number
overflow_add-number c = let below = live_below_end c.args.loaded.now c.args.number c.requires.live in omega (arith, below, c.requires.numbers)

pub overflow_add-number-2 : goal.overflow_add-number-2
overflow_add-number-2 c = let below = live_below_end c.args.loaded.now c.args.number c.requires.live in omega (arith, below, c.requires.numbers)

pub part_with-from-requires-clause-from : goal.part_with-from-requires-clause-from
part_with-from-requires-clause-from c = let below = live_below_end c.args.loaded.now c.args.number c.requires.live in omega (arith, below, c.requires.numbers)

pub returns : goal.returns
returns c =
    let more : ℕ → List Orphan = λ heir. map (heired heir) (part c.part_with-from.result.0 c.part_with-from.result.1 c.args.answers.now.items) in
    let orphans : AreOrphans is_some c.args.loaded.now c.args.number (more c.unwrap_or-heir.result)
    = subst (λ heir. AreOrphans is_some c.args.loaded.now c.args.number (more heir)) (sym c.unwrap_or-heir.ensures)
    (orphans_by_id c.args.loaded.now c.args.number c.in-Some.id.now c.next_with.result c.args.answers.now.items c.part_with-from.result.0 c.part_with-from.result.1
    c.requires.base c.requires.live c.requires.numbers (sym c.id_at.ensures ∙ ap lent c.in-Some.is)
    (is_least_with MSGID c.args.loaded.now c.in-Some.id.now _ _ c.least_with.ensures (told_same _ _ (sym c.ne.ensures ∙ c.if-ne.false))).1
    c.next_with.ensures c.requires.answers c.part_with-from.ensures) in
    on_ok_weaker c.put_heirs.result (λ is. record { more = more c.unwrap_or-heir.result; orphans = orphans; is = is }) c.put_heirs.ensures
