use Rattle.std.proofs.Common.{◌≡◌, ℕ, List, sym, ap, subst, ◌∙◌, fold, true}
use Rattle.std.specs.Prelude.{is_some}
use Rattle.left_right.specs.Register.{TurnsAt}
use Rattle.jb_publish.specs.declared.known.Known.{Known}
use Rattle.jb_publish.specs.declared.edition.Edition.{Edition}
use Rattle.jb_publish.specs.Books.{length_word}
use Rattle.jb_publish.specs.Marks.{ValueStandsFrom, book_at, opening_at}
use Rattle.jb_publish.specs.Publications.{publication_of}
use Rattle.jb_publish.specs.Shows.{ShowsReaders}
use Rattle.jb_publish.proofs.Copies.{begun_common, brought, in_step}
use Rattle.jb_publish.proofs.Showing.{of_edition, publishes}
use Rattle.jb_publish.proofs.ends.Shower.show.Goals as goal

pub show_as-requires : goal.show_as-requires
show_as-requires g c = let o = c.open-open.ensures in let s = c.args.self in let changed = g.T.Absorbs.changed in let stands = g.T.Published.stands in let p = publication_of s in
    let gone = brought changed c.deref_mut.result.now c.bring_up.new.copy _ _ _ _ s.lacking.items s.queued.items _ c.bring_up.ensures c.as_slice.ensures.value c.as_slice-2.ensures.value (ap (λ x. x.value) (c.deref_mut.ensures.value ∙ o.values.1)) s.lacks in
    let from : ValueStandsFrom stands (opening_at p.mark) (fold changed p.value p.queued) c.go_on-seen.result.log = subst (λ (l : List g.row.E.Denot). ValueStandsFrom stands (opening_at p.mark) (fold changed p.value p.queued) l) (sym c.go_on-seen.ensures.1) c.requires.stands in
    let shown = of_edition stands p.mark c.bring_up.new.copy _ _ gone (c.go_on-seen.ensures.0 ∙ s.tied) from in
    subst (λ (z : ℕ × Known g.row.O.Denot × Edition g.row.T.Denot g.row.E.Denot). TurnsAt (ShowsReaders stands) z.0 z.1 z.2 c.bring_up.new.copy (λ v x y w. w ≡ v))
    (λ i. (sym o.seat.0 i, sym o.seat.1 i, sym (ap (λ q. q.value) o.values.0) i)) (publishes stands _ _ s.writer.desk.shown.value c.bring_up.new.copy s.bound shown.0 shown.1)

pub invariant_of-writer : goal.invariant_of-writer
invariant_of-writer g c = let s = c.args.self in
    let shown = c.show_as.ensures.values.0 ∙ c.bring_up.ensures in
    let spare = c.show_as.ensures.values.1 ∙ ap (λ q. q.value) c.open-open.ensures.values.0 in
    record { in_step = in_step _ _ _ _ _ _ _ s.writer.in_step (begun_common {E = g.row.E.Denot} c.show_as.result.shown.value c.show_as.result.spare.value (ap (λ x. x.begun) shown) (ap (λ x. x.begun) spare ∙ s.begun.0)) }

pub invariant_of-result : goal.invariant_of-result
invariant_of-result g c = let o = c.open-open.ensures in let s = c.args.self in let changed = g.T.Absorbs.changed in
    let gone = brought changed c.deref_mut.result.now c.bring_up.new.copy _ _ _ _ s.lacking.items s.queued.items _ c.bring_up.ensures c.as_slice.ensures.value c.as_slice-2.ensures.value (ap (λ x. x.value) (c.deref_mut.ensures.value ∙ o.values.1)) s.lacks in
    let shown = c.show_as.ensures.values.0 ∙ gone in
    let spare = c.show_as.ensures.values.1 ∙ ap (λ q. q.value) o.values.0 in
    let views = c.show_as.ensures.rule.1 ∙ o.seat.1 in
    record {
      bound = subst (λ (v : Known g.row.O.Denot). is_some v.mark ≡ true) (sym views) s.bound;
      tied = c.go_on-seen.ensures.0 ∙ (s.tied ∙ ap (λ (v : Known g.row.O.Denot). book_at v.mark) (sym views));
      named = s.named ∙ ap length_word (sym c.go_on-seen.ensures.0);
      begun = (ap (λ x. x.begun) shown, ap (λ x. x.begun) spare ∙ s.begun.0);
      current = ap (λ x. x.front.count) shown;
      lacks = ap (λ x. fold changed x.value s.queued.items) spare ∙ sym (ap (λ x. x.value) shown);
      room = (s.room.1, rw c.clear.ensures.capacity s.room.0);
    }

pub returns : goal.returns
returns g c = let o = c.open-open.ensures in let s = c.args.self in let changed = g.T.Absorbs.changed in
    let gone = brought changed c.deref_mut.result.now c.bring_up.new.copy _ _ _ _ s.lacking.items s.queued.items _ c.bring_up.ensures c.as_slice.ensures.value c.as_slice-2.ensures.value (ap (λ x. x.value) (c.deref_mut.ensures.value ∙ o.values.1)) s.lacks in
    let shown = c.show_as.ensures.values.0 ∙ gone in
    let views = c.show_as.ensures.rule.1 ∙ o.seat.1 in
    λ i. record { mark = (views i).mark; list = c.go_on-seen.ensures.1 i; queued = c.clear.ensures.items i; value = (shown i).value }
