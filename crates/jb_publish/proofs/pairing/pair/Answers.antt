use Rattle.std.proofs.Common.{rules, false, List, ap, sym, subst, ◌∙◌, refl}
use Rattle.left_right.specs.Sides.{view}
use Rattle.jb_publish.specs.declared.known.Known.{Known}
use Rattle.jb_publish.specs.declared.edition.Edition.{Edition}
use Rattle.jb_publish.specs.Marks.{ValueStandsFrom}
use Rattle.jb_publish.specs.Accounts.{IsFresh, arrived}
use Rattle.jb_publish.proofs.Places.{each_end}
use Rattle.jb_publish.proofs.Showing.{starts, admits}
use Rattle.jb_publish.proofs.pairing.pair.Goals as goal

pub new-requires-clause-rule : goal.new-requires-clause-rule
new-requires-clause-rule g c = starts g.T.Published.stands (record { value = c.args.first; front = c.again.result; begun = false }) refl

pub reader-requires : goal.reader-requires
reader-requires g c = admits g.T.Published.stands

pub bind-requires-clause-stands : goal.bind-requires-clause-stands
bind-requires-clause-stands g c = let start = c.in_ok-writer.ensures.0 in
    subst (λ (z : g.row.T.Denot × List g.row.E.Denot). ValueStandsFrom g.T.Published.stands g.J.NamesOpening.opening z.0 z.1) (λ i. (sym (ap (λ y. y.value) start) i, sym c.open-seen.ensures.1 i)) c.requires.stands

pub loop-shower-preserved : goal.loop-shower-preserved
loop-shower-preserved g c = let old = c.loop-shower.invariant in let s = c.admit.result in
    let m = (view {T = Edition g.row.T.Denot g.row.E.Denot} {V = Known g.row.O.Denot} c.bind.result.desk.place).mark in
    let fits : IsFresh m s = c.admit.ensures.reader ∙ (ap (λ p. arrived p.mark p.list) old.same ∙ ap (λ l. arrived m l) c.open-seen.ensures.1) in
    record {
      same = c.admit.ensures.same ∙ old.same;
      cap = search rules;
      most = search rules;
      each = rw c.push_reserved.ensures.items (each_end (λ k s. IsFresh m s) c.loop-shower.ends.items s old.each fits);
    }
