-- A sum with one number more.
use Rattle.std.proofs.Common.{◌≡◌, sum_by, ℕ, ◌+◌, List, [], ◌∷◌, ◌++◌, Option, arith, ap, subst, sym}
use Rattle.std.proofs.lemmas.List.Sums.{sum_by-append}
use Rattle.jb_turn.specs.Rows.{StandsFrom}
use Rattle.jb_turn.proofs.Callers.{stands_on}
use Rattle.trial_parts.specs.declared.adding.Total.{Total}
use Rattle.trial_parts.specs.Totals.{stands_for_total}

-- the number grew by what was added
pub one_more : (opening opening' : Option ℕ) (t t' : Total) (log log' : List (ℕ × ℕ)) (node amount : ℕ) → opening' ≡ opening → t'.sum ≡ t.sum + amount → log' ≡ log ++ (node, amount) ∷ [] → StandsFrom stands_for_total opening t log → StandsFrom stands_for_total opening' t' log'
one_more opening opening' t t' log log' node amount same grown longer here =
    subst (λ o. StandsFrom stands_for_total o t' log') (sym same) (stands_on stands_for_total opening t t' log log'
    (λ first old. omega (arith, old, grown, ap (λ l. sum_by (λ e. e.1) l) longer, sum_by-append (λ (e : ℕ × ℕ). e.1) log ((node, amount) ∷ []))) here)
