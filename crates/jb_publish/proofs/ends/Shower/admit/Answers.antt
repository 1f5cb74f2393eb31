use Rattle.std.proofs.Common.{◌≡◌, true, fold, sym, ap, subst, ◌∙◌}
use Rattle.std.specs.Prelude.{is_some}
use Rattle.jb_publish.specs.declared.known.Known.{Known}
use Rattle.jb_publish.specs.Marks.{book_at}
use Rattle.jb_publish.proofs.Copies.{begun_common, in_step}
use Rattle.jb_publish.proofs.Showing.{forks, merges}
use Rattle.jb_publish.proofs.ends.Shower.admit.Goals as goal

pub tell-requires : goal.tell-requires
tell-requires g c = forks g.T.Published.stands _ _

pub learn-requires-clause-rule : goal.learn-requires-clause-rule
learn-requires-clause-rule g c = merges g.T.Published.stands _ _ _ _

pub invariant_of-self : goal.invariant_of-self
invariant_of-self g c = let s = c.args.self.now in let kept = c.tell.ensures.kept in
    let shown = ap (λ p. p.value.begun) kept.0 ∙ s.begun.0 in let spare = ap (λ p. p.value.begun) kept.1 ∙ s.begun.1 in (
      (in_step _ _ _ _ _ _ _ s.writer.in_step (begun_common {E = g.row.E.Denot} c.tell.new.self.shown.value c.tell.new.self.spare.value shown spare), tt),
      (
        subst (λ (v : Known g.row.O.Denot). is_some v.mark ≡ true) (sym kept.4) s.bound,
        (
          s.tied ∙ ap (λ (v : Known g.row.O.Denot). book_at v.mark) (sym kept.4),
          (
            s.named,
            (
              (shown, spare),
              (
                ap (λ p. p.value.front.count) kept.0 ∙ s.current,
                (
                  ap (λ p. fold g.T.Absorbs.changed p.value.value s.lacking.items) kept.1 ∙ (s.lacks ∙ sym (ap (λ p. p.value.value) kept.0)),
                  (s.room, tt),
                ),
              ),
            ),
          ),
        ),
      ),
    )
