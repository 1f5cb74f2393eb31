use Rattle.std.proofs.Common.{◌≤◌, ◌-◌, ◌∙◌, ap, arith, subst, sym}
use Rattle.std.specs.Prelude.{Contains}
use Rattle.std.proofs.lemmas.List.Elements.{Contains-get_or}
use Rattle.jb_link.proofs.KeptLemmas.{last_pair}
use Rattle.jb_link.proofs.kept.last_with.Goals as goal

pub returns-then-first-kept : goal.returns-then-first-kept
returns-then-first-kept c = (
  subst (λ k. Contains c.args.pairs.now.items (k, c.index.result.now.1)) c.if-first-kept.true
      (subst (λ p. Contains c.args.pairs.now.items p) (sym c.index.ensures)
      (Contains-get_or c.args.pairs.now.items (c.place_of-at.result - 1) c.index.result.now (omega (arith, c.place_of-at.ensures.within, c.if-at-eq0.false)))),
  λ other here.
      subst (λ p. other ≤ p.1) (sym c.index.ensures)
      ((last_pair _ _ _ _ other c.requires.rising c.place_of-at.ensures c.requires.numbers here).from c.index.result.now),
)

pub returns-else-first-kept : goal.returns-else-first-kept
returns-else-first-kept c = λ other here.
    c.if-first-kept.false
    (ap (λ p. p.0) c.index.ensures ∙ (last_pair _ _ _ _ other c.requires.rising c.place_of-at.ensures c.requires.numbers here).has c.index.result.now)
