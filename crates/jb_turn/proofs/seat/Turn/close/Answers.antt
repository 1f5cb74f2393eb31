use Rattle.std.proofs.Common.{rules, ◌≡◌, ◌<◌, [], ◌∷◌, ◌++◌, map, reverse, length, Some, arith, sym, refl, ap, ◌∙◌, subst, append_assoc, length-append}
use Rattle.std.specs.Prelude.{IsSome}
use Rattle.std.proofs.lemmas.List.Elements.{All-pop}
use Rattle.jb_turn.specs.Whole.{HasRows, IsLowestRowMissing, IsWhole}
use Rattle.jb_turn.proofs.Places.{rows_joined, rows_left, same_some}
use Rattle.jb_turn.proofs.TurnKeeps.{joins, ended}
use Rattle.jb_turn.proofs.seat.Turn.close.Goals as goal

pub returns-in-Some-clause-missing : goal.returns-in-Some-clause-missing
returns-in-Some-clause-missing g c = subst (λ xs. IsLowestRowMissing (map g.P.Seated.knows xs) c.args.self.seats c.in-Some.number) c.as_slice.ensures.value c.in-Some.ensures

pub loop-seat-init : goal.loop-seat-init
loop-seat-init g c = let last = c.in-Some-pop.last in
    let known = All-pop (λ s. g.P.Seated.rests s c.args.self.table.shared.table_id) c.args.seats.items c.pop.new.self.items (Some last) c.in-Some-pop.ensures.items c.requires.seats in
    let seat = c.into_seat-last.result in
    let is = c.into_seat-last.ensures.rests c.args.self.table.shared.table_id known.1 in
    let e = c.into_place-place.ensures in let p = c.into_place-place.result in
    let one : p.me.0.rows ≡ g.P.Seated.knows last ∷ [] = ap (λ s. s.me.0.rows) e ∙ seat.one_row ∙ ap (λ r. r ∷ []) c.into_seat-last.ensures.knows in let long = ap length one in
    record { table = refl; seated = ap (λ s. s.table_id) e ∙ is.0; stage = ap (λ s. s.me.0.stage) e ∙ is.1.0; empty = ap (λ s. s.me.1) e ∙ is.1.1; some = omega (arith, long); left = known.0; taken = (last ∷ [], c.in-Some-pop.ensures.items, one) }

pub join_seat-requires : goal.join_seat-requires
join_seat-requires g c = let old = c.loop-seat.invariant in let seat = c.in-Some-pop-2.seat in
    let known = All-pop (λ s. g.P.Seated.rests s c.args.self.table.shared.table_id) c.loop-seat.seats.items c.pop-in-loop-seat.new.self.items (Some seat) c.in-Some-pop-2.ensures.items old.left in
    let is = c.into_seat-seat.ensures.rests c.args.self.table.shared.table_id known.1 in
    let some_row : 0 < length c.loop-seat.place.me.0.rows = old.some in
    let e = c.into_place-other.ensures in let other = c.into_place-other.result in (
      old.seated,
      ap (λ s. s.table_id) e ∙ is.0,
      ap (λ s. s.me.1) e ∙ is.1.1,
      search rules,
      joins g.row.S.Denot g.row.O.Denot g.row.E.Denot g.row.Q.Denot g.S.Kept.stands g.S.Kept.caller _ _ _ c.loop-seat.place.me.0 _ other.me.0 (λ e'. let z = ap length e' in absurd (omega (arith, z, some_row))) old.stage (ap (λ s. s.me.0.stage) e ∙ is.1.0),
    )

pub loop-seat-preserved : goal.loop-seat-preserved
loop-seat-preserved g c = let old = c.loop-seat.invariant in let rest = old.taken.0 in let seat = c.in-Some-pop-2.seat in let now = c.join_seat.ensures.2 in
    let known = All-pop (λ s. g.P.Seated.rests s c.args.self.table.shared.table_id) c.loop-seat.seats.items c.pop-in-loop-seat.new.self.items (Some seat) c.in-Some-pop-2.ensures.items old.left in
    let other = c.into_place-other.result in
    let one : other.me.0.rows ≡ g.P.Seated.knows seat ∷ [] = ap (λ s. s.me.0.rows) c.into_place-other.ensures ∙ c.into_seat-seat.result.one_row ∙ ap (λ r. r ∷ []) c.into_seat-seat.ensures.knows in
    let rows : c.join_seat.new.seat.me.0.rows ≡ c.loop-seat.place.me.0.rows ++ other.me.0.rows = ap (λ m. m.0.rows) now in
    record {
      table = old.table;
      seated = search rules;
      stage = ap (λ m. m.0.stage) now ∙ old.stage;
      empty = ap (λ m. m.1) now ∙ old.empty;
      some = let a : 0 < length c.loop-seat.place.me.0.rows = old.some in let b = ap length rows in let d = length-append c.loop-seat.place.me.0.rows other.me.0.rows in omega (arith, a, b, d);
      left = known.0;
      taken = (
        seat ∷ rest,
        old.taken.1 ∙ (ap (λ l. l ++ rest) c.in-Some-pop-2.ensures.items ∙ append_assoc c.pop-in-loop-seat.new.self.items (seat ∷ []) rest),
        rows_joined g.P.Seated.knows rest seat c.loop-seat.place.me.0.rows other.me.0.rows c.join_seat.new.seat.me.0.rows rows old.taken.2 one,
      );
    }

pub unwrap-state-requires : goal.unwrap-state-requires
unwrap-state-requires g c = let old = c.loop-seat.invariant in let rows = map g.P.Seated.knows c.args.seats.items in
    let all : HasRows rows c.args.self.seats = subst (λ xs. HasRows (map g.P.Seated.knows xs) c.args.self.seats) c.as_slice.ensures.value c.in_default.ensures in
    let none : length c.loop-seat.seats.items ≡ 0 = search rules in
    let is : c.loop-seat.place.me.0.rows ≡ reverse rows = rows_left g.P.Seated.knows c.args.seats.items c.loop-seat.seats.items old.taken.0 c.loop-seat.place.me.0.rows old.taken.1 none old.taken.2 in
    let e = ended g.row.S.Denot g.row.O.Denot g.row.E.Denot g.row.Q.Denot g.S.Kept.stands g.S.Kept.caller _ _ _ c.loop-seat.place.me.0 _ _ rows c.take.result c.close_with-closed.ensures.values.2 old.stage is (subst (HasRows rows) (sym c.args.self.keyed) all) c.take.ensures.value in
    subst IsSome (sym e.1) refl

pub returns-clause-all : goal.returns-clause-all
returns-clause-all g c = subst (λ xs. HasRows (map g.P.Seated.knows xs) c.args.self.seats) c.as_slice.ensures.value c.in_default.ensures

pub returns-clause-whole : goal.returns-clause-whole
returns-clause-whole g c = let old = c.loop-seat.invariant in let rows = map g.P.Seated.knows c.args.seats.items in
    let all : HasRows rows c.args.self.seats = subst (λ xs. HasRows (map g.P.Seated.knows xs) c.args.self.seats) c.as_slice.ensures.value c.in_default.ensures in
    let none : length c.loop-seat.seats.items ≡ 0 = search rules in
    let is : c.loop-seat.place.me.0.rows ≡ reverse rows = rows_left g.P.Seated.knows c.args.seats.items c.loop-seat.seats.items old.taken.0 c.loop-seat.place.me.0.rows old.taken.1 none old.taken.2 in
    let e = ended g.row.S.Denot g.row.O.Denot g.row.E.Denot g.row.Q.Denot g.S.Kept.stands g.S.Kept.caller _ _ _ c.loop-seat.place.me.0 _ _ rows c.take.result c.close_with-closed.ensures.values.2 old.stage is (subst (HasRows rows) (sym c.args.self.keyed) all) c.take.ensures.value in
    subst (IsWhole g.S.Kept.stands g.S.Kept.caller rows) (same_some e.0 c.unwrap-state.result (sym e.1 ∙ c.unwrap-state.ensures)) e.2
