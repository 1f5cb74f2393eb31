-- A history whose last call the device stopped: its count of faults has risen.
use Rattle.std.proofs.Common.{◌≡◌, ◌⊎◌, ℕ, Bool, true, false, List, [], ◌∷◌, inl, inr, refl, sym, subst, arith}
use Rattle.std.specs.Prelude.{filter_map}
use Rattle.jb_bytes.specs.Fault.{Rose}
use Rattle.jb_model.specs.History.{Rises, faults_of, last_faults, last_told}
use Rattle.jb_model.specs.declared.entry.Entry.{Entry}
use Rattle.jb_model.specs.declared.entry.Entry.TheVariants.{Called, Reopened}
use Rattle.jb_model.specs.declared.entry.Outcome.TheVariants.{Replied, InDoubt, NotBegun}
use Rattle.jb_state.proofs.LinkLaws.{true_not_false}
use Rattle.jb_shared.specs.Histories.{IsHistory, stopped_behind, stopped_last}
use Rattle.jb_shared.specs.declared.opening.Opening.{Opening}

-- a count that rose from one that is the first or rose from it
rose_on : (before mid now : ℕ) → (mid ≡ before) ⊎ Rose before mid → Rose mid now → Rose before now
rose_on before mid now (inl same) rose = subst (λ (n : ℕ). Rose n now) same rose
rose_on before mid now (inr earlier) rose = omega (arith, earlier, rose)

-- where the last call was stopped, the last count rose from the first
rose_to : (before mid : ℕ) (is_stopped : Bool) (history : List Entry) → (mid ≡ before) ⊎ Rose before mid → (is_stopped ≡ true → Rose before mid)
    → Rises mid (filter_map faults_of history) → stopped_behind is_stopped history ≡ true → Rose before (last_told mid (filter_map faults_of history))
rose_to before mid is_stopped [] from had risen stopped = had stopped
rose_to before mid is_stopped (Called node call user moment command (Replied reply) ∷ history) from had risen stopped =
    rose_to before mid false history from (λ e. absurd (true_not_false (sym e))) risen stopped
rose_to before mid is_stopped (Called node call user moment command (InDoubt faults) ∷ history) from had risen stopped =
    let rose = rose_on before mid faults from risen.0 in rose_to before faults true history (inr rose) (λ e. rose) risen.1 stopped
rose_to before mid is_stopped (Called node call user moment command (NotBegun faults) ∷ history) from had risen stopped =
    let rose = rose_on before mid faults from risen.0 in rose_to before faults true history (inr rose) (λ e. rose) risen.1 stopped
rose_to before mid is_stopped (Reopened stands ∷ history) from had risen stopped =
    rose_to before mid false history from (λ e. absurd (true_not_false (sym e))) risen stopped

-- where the device stopped the last call, its count of faults rose since the opening
pub stopped_rose : (opening : Opening) (history : List Entry) → IsHistory opening history → stopped_last history ≡ true → Rose opening.faults (last_faults opening.faults history)
stopped_rose opening history right stopped =
    rose_to opening.faults opening.faults false history (inl refl) (λ e. absurd (true_not_false (sym e))) right.risen stopped
