use Rattle.std.proofs.Common.{◌≤◌, ◌∙◌, ap, arith, subst, sym}
use Rattle.jb_link.proofs.IdListLemmas.{bytes_had, has_bytes, last_with}
use Rattle.jb_link.specs.IdLists.{id_at}
use Rattle.jb_link.proofs.id_lists.greatest_with.Goals as goal

pub returns-then-at-eq0 : goal.returns-then-at-eq0
returns-then-at-eq0 c = λ other is.
    let last = last_with _ _ _ _ _ _ other c.requires.list c.place_of-at.ensures (omega (arith, c.requires.numbers)) is in
    omega (arith, last.some, c.if-at-eq0.true)

pub returns-then-has_id : goal.returns-then-has_id
returns-then-has_id c = (
  has_bytes _ _ (sym c.has_id.ensures ∙ c.if-has_id.true),
  λ other is.
      subst (λ n. other ≤ n) (sym c.index-number.ensures)
      ((last_with _ _ _ _ _ _ other c.requires.list c.place_of-at.ensures (omega (arith, c.requires.numbers)) is).from c.index-number.result.now),
)

pub returns-else-has_id : goal.returns-else-has_id
returns-else-has_id c = λ other is.
    let last = last_with _ _ _ _ _ _ other c.requires.list c.place_of-at.ensures (omega (arith, c.requires.numbers)) is in
    let had = bytes_had _ _ (ap (id_at c.args.kind c.args.loaded.now) c.index-number.ensures ∙ last.has c.index-number.result.now) in
    cc (c.has_id.ensures, c.if-has_id.false)
