-- What a seat knows between the load that told it that its turn has come and the addition that ends the turn.
use Rattle.std.proofs.Common.{◌≡◌, ℕ, ◌+◌, ◌%◌, ◌^◌, List, [], ◌∷◌, sym, refl, ap, ◌∙◌, subst, Option, Some, None}
use Rattle.std.specs.Prelude.{IsSome}
use mathlib.Core.Option.{none}
use Rattle.atomic_table.specs.Table.{Me, step, Allows, rest}
use Rattle.jb_turn.specs.declared.view.View.{View}
use Rattle.jb_turn.specs.declared.view.TicketStage.{TicketStage}
use Rattle.jb_turn.specs.declared.view.TicketStage.TheVariants.{Came}
use Rattle.jb_turn.specs.Rows.{view_of, head_row, StandsFrom}
use Rattle.jb_turn.specs.Rule.{TurnRule}
use Rattle.jb_turn.specs.Steps.{ticket, sighted, Arrives, Gives, Counts}
use Rattle.jb_turn.proofs.TurnKeeps.{counts, gives_back}

module _ (S O E Q : Type 0) (stands : S → O → List E → Type 0) (caller : E → Option ℕ) where
  abbrev Knows : Type 0
  Knows = Me (Option S) (View O E Q)

  -- what a seat that has the state out knows, after the load that told it and the exchange that took it
  pub out_with : (t : ℕ) (me m : Knows) → Arrives stands caller t me m → (old : Option S) × (m.1 ≡ (0, old) ∷ rest m.1)
  out_with t me m (log, x, is, more, more2, more3) = (Some x, ap (λ (z : Knows). z.1) is ∙ ap (λ (z : Knows). (0, Some x) ∷ rest z.1) (sym is))

  head_of : List (ℕ × Option S) → Option S
  head_of [] = None
  head_of (x ∷ xs) = x.1

  -- what is taken out of the place is a state
  pub taken_is : (t : ℕ) (me m : Knows) (y : Option S) → Arrives stands caller t me m → m.1 ≡ (0, y) ∷ rest m.1 → IsSome y
  unfolding head_of
  taken_is t me m y (log, x, is, more, more2, more3) got = let e : (0, Some x) ∷ [] ≡ (0, y) ∷ rest m.1 = ap (λ (z : Knows). z.1) (sym is) ∙ got in let same : Some x ≡ y = ap (λ (l : List (ℕ × Option S)). head_of l) e in subst IsSome same refl

  abbrev emptied : Knows → Knows
  emptied m = (m.0, (0, None) ∷ rest m.1)

  -- after the exchange and the look at the count the seat holds the turn
  pub holds_out : (t : ℕ) (me m m' m2 : Knows) → Arrives stands caller t me m → m' ≡ emptied m → m2 ≡ m' → (m2.0.stage ≡ Came (ticket m2.0.stage)) × (m2.1 ≡ (0, None) ∷ [])
  holds_out t me m m' m2 (log, x, is, more, more2, more3) now then_ = let e : m2 ≡ emptied m = then_ ∙ now in let came : m2.0.stage ≡ Came t = ap (λ (z : Knows). z.0.stage) e ∙ ap (λ (z : Knows). z.0.stage) is in
      (came ∙ ap (λ (u : ℕ). let c : TicketStage = Came u in c) (sym (ap ticket came)), ap (λ (z : Knows). z.1) e ∙ ap (λ (z : Knows). (0, None) ∷ rest z.1) is)

module _ (S O E Q : Type 0) (stands : S → O → List E → Type 0) (caller : E → Option ℕ) (first : O) where
  abbrev IsOne : View O E Q → Type 0
  IsOne v = v.rows ≡ head_row v.rows ∷ []

  -- the look at the count may be made after the exchange
  pub counts_out : (seats slots id t : ℕ) (me m m' : Me (Option S) (View O E Q)) → Arrives stands caller t me m → m' ≡ emptied S O E Q stands caller m → Allows (TurnRule stands caller first seats) slots id m' 2 (λ n. n) (Counts (step slots 2 0 0 none) m')
  counts_out seats slots id t me m m' (log, x, is, more, more2, more3) now = let view : m'.0 ≡ view_of (Came t) (sighted (head_row me.0.rows) log ∷ []) me.0.made = ap (λ (z : Me (Option S) (View O E Q)). z.0) now ∙ ap (λ (z : Me (Option S) (View O E Q)). z.0) is in
      counts S O E Q stands caller first seats slots id m' (subst IsOne (sym view) refl) t (ap (λ (z : View O E Q). z.stage) view)

  -- the turn may be given after the exchange that puts the state back
  pub gives_out : (seats slots id : ℕ) (me m : Me (Option S) (View O E Q)) (remark : Option Q) → IsOne me.0 → (t : ℕ) → me.0.stage ≡ Came t → (x : S) → me.1 ≡ (0, None) ∷ [] → m ≡ (me.0, (0, Some x) ∷ rest me.1) → StandsFrom stands (head_row me.0.rows).opening x (head_row me.0.rows).front
      → Allows (TurnRule stands caller first seats) slots id m 1 (λ n. (n + 1) % 2 ^ 64) (Gives remark (step slots 1 1 0 none) m)
  gives_out seats slots id me m remark one t is x held now st = subst (λ (z : Me (Option S) (View O E Q)). Allows (TurnRule stands caller first seats) slots id z 1 (λ n. (n + 1) % 2 ^ 64) (Gives remark (step slots 1 1 0 none) z)) (sym now)
      (gives_back S O E Q stands caller first seats slots id (me.0, (0, Some x) ∷ rest me.1) remark one t is x (ap (λ (c : List (ℕ × Option S)). (0, Some x) ∷ rest c) held) st)
