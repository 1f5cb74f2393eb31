use Rattle.std.proofs.Common.{◌≡◌, true, sym, ap, subst, ◌∙◌}
use Rattle.jb_publish.specs.declared.edition.Edition.{Edition}
use Rattle.jb_publish.specs.Editions.{edition}
use Rattle.jb_publish.specs.Marks.{ValueStandsFrom}
use Rattle.jb_publish.proofs.Copies.{begun_common, in_step, same_value}
use Rattle.jb_publish.proofs.Showing.{binds}
use Rattle.jb_publish.proofs.pairing.bind.Goals as goal

pub show_as-requires : goal.show_as-requires
show_as-requires g c = let o = c.open-open.ensures in let w = c.args.writer in let f = c.args.front.now in
    let alike = same_value g.row.T.coded w.desk.shown.value w.desk.spare.value w.log.items w.behind w.ahead w.in_step c.requires.fresh in
    let next : c.settle.new.self ≡ edition w.desk.shown.value.value f true = c.settle.ensures ∙ ap (λ v. edition v f true) (ap (λ x. x.value) (c.deref_mut.ensures.value ∙ o.values.1) ∙ alike) in
    binds g.T.Published.stands g.J.NamesOpening.opening _ _ c.open-open.result.0.shown.value c.settle.new.self
    (subst (λ (x : Edition g.row.T.Denot g.row.E.Denot). ValueStandsFrom g.T.Published.stands g.J.NamesOpening.opening x.value x.front.seen.log) (sym next) c.requires.stands)
    (ap (λ p. p.value.begun) o.values.0 ∙ c.requires.fresh)
    (ap (λ x. x.begun) next)

pub invariant_of-writer : goal.invariant_of-writer
invariant_of-writer g c = let shelved = c.shelve.ensures in
    let shown = ap (λ p. p.value) (shelved.0 ∙ c.open-open-2.ensures.values.0) ∙ (c.show_as.ensures.values.0 ∙ c.settle.ensures) in
    let spare = shelved.1 ∙ c.settle-2.ensures in
    record { in_step = in_step _ _ _ _ _ _ _ c.args.writer.in_step (begun_common {E = g.row.E.Denot} c.shelve.result.shown.value c.shelve.result.spare.value (ap (λ x. x.begun) shown) (ap (λ x. x.begun) spare)) }

pub returns-clause-shown : goal.returns-clause-shown
returns-clause-shown g c = let w = c.args.writer in let f = c.args.front.now in
    let alike = same_value g.row.T.coded w.desk.shown.value w.desk.spare.value w.log.items w.behind w.ahead w.in_step c.requires.fresh in
    let next = c.settle.ensures ∙ ap (λ v. edition v f true) (ap (λ x. x.value) (c.deref_mut.ensures.value ∙ c.open-open.ensures.values.1) ∙ alike) in
    ap (λ p. p.value) (c.shelve.ensures.0 ∙ c.open-open-2.ensures.values.0) ∙ (c.show_as.ensures.values.0 ∙ next)
