use Rattle.std.proofs.Common.{◌≡◌, ℕ, ◌+◌, ◌<◌, List, length, map, arith, sym, refl, ap, ◌∙◌}
use mathlib.Core.Logic.{dite}
use mathlib.Core.Option.{some, some-injective}
use native.Mathlib.Decide.{ℕ_discrete}
use lib.ListN.{get_elem?}
use Rattle.atomic_table.proofs.Lists.{at_index}
use Rattle.jb_turn.specs.Whole.{HasRow}
use Rattle.jb_turn.specs.declared.view.Row.{Row}
use Rattle.jb_turn.proofs.Places.{map_has, has_map}
use Rattle.jb_turn.proofs.turn.has_node.Goals as goal

module _ {O E Q P : Type 0} (knows : P → Row O E Q) where
  found : (seats : List P) (i number : ℕ) (s : P) → get_elem? seats i ≡ some s → (knows s).node ≡ number → HasRow (map knows seats) number
  found seats i number s at is = (knows s, map_has knows seats i s at, is)

  further : (seats : List P) (i number : ℕ) (s : P) → get_elem? seats i ≡ some s → ((knows s).node ≡ number → ⊥) → ((k : ℕ) (t : P) → k < i → get_elem? seats k ≡ some t → (knows t).node ≡ number → ⊥)
      → (k : ℕ) (t : P) → k < i + 1 → get_elem? seats k ≡ some t → (knows t).node ≡ number → ⊥
  further seats i number s at other before k t lt at' is = dite (ℕ_discrete k i)
      (λ e. other (ap (λ (z : P). (knows z).node) (some-injective s t (sym at ∙ (ap (get_elem? seats) (sym e) ∙ at'))) ∙ is)) (λ ne. before k t (omega arith) at' is)

  nowhere : (seats : List P) (i number : ℕ) → length seats ≡ i → ((k : ℕ) (t : P) → k < i → get_elem? seats k ≡ some t → (knows t).node ≡ number → ⊥)
      → HasRow (map knows seats) number → ⊥
  nowhere seats i number long none_ (r, has, is) = let h = has_map knows seats r has in let lt = h.2 in none_ h.0 h.1 (omega arith) h.3 (ap (λ (z : _). z.node) h.4 ∙ is)

pub returns-then-number : goal.returns-then-number
returns-then-number g c = ((λ _. found g.P.Seated.knows c.args.seats.now c.loop-seat.seat-index c.args.number c.seat-item.result (at_index c.args.seats.now c.loop-seat.seat-index c.seat-item.result c.loop-seat-test.true c.seat-item.is) (sym c.number.ensures ∙ c.if-number.true)), λ _. refl)

pub loop-seat-preserved : goal.loop-seat-preserved
loop-seat-preserved g c = further g.P.Seated.knows c.args.seats.now c.loop-seat.seat-index c.args.number c.seat-item.result (at_index c.args.seats.now c.loop-seat.seat-index c.seat-item.result c.loop-seat-test.true c.seat-item.is)
    (λ e. c.if-number.false (c.number.ensures ∙ e)) c.loop-seat.invariant

pub returns : goal.returns
returns g c = let a = c.loop-seat-test.false in let b = c.loop-seat.auto.seat-index-end in ((λ e. absurd (cc (e))), λ h. absurd (nowhere g.P.Seated.knows c.args.seats.now c.loop-seat.seat-index c.args.number (omega arith) c.loop-seat.invariant h))
