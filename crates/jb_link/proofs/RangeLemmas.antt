-- What tests that agree find among the live messages of slots.
use Rattle.std.proofs.Common.{◌≡◌, ℕ, ◌+◌, ◌<◌, ◌≤◌, Bool, false, cond, List, [], ◌∷◌, Option, Some, None, find, length, refl, ap, arith}
use Rattle.std.specs.Option.{option_or}
use Rattle.jb_state.specs.Links.{Linkable}
use Rattle.jb_state.specs.declared.loaded.LoadedSlot.{LoadedSlot}
use Rattle.jb_state.specs.declared.loaded.LoadedSlot.TheVariants.{Empty, Killed, Live}
use Rattle.jb_state.specs.LiveSlots.{linkables_from, loaded_linkable}

-- nothing else is found
pub option_or_none : {X : Type 0} (found : Option X) → option_or found None ≡ found
option_or_none None = refl
option_or_none (Some x) = refl

-- two tests that agree on these numbers find the same
pub same_found : (f g : Linkable → Bool) (number : ℕ) (slots : List LoadedSlot)
    → ((one : Linkable) → number ≤ one.number → one.number < number + length slots → f one ≡ g one)
    → find f (linkables_from number slots) ≡ find g (linkables_from number slots)
same_found f g number [] same = refl
same_found f g number (Empty ∷ slots) same = same_found f g (number + 1) slots (λ one from to. same one (omega arith) (omega arith))
same_found f g number (Killed at ∷ slots) same = same_found f g (number + 1) slots (λ one from to. same one (omega arith) (omega arith))
same_found f g number (Live message ∷ slots) same =
    rw (same (loaded_linkable number message) (omega arith) (omega arith))
    (ap (λ rest. cond (g (loaded_linkable number message)) (Some (loaded_linkable number message)) rest)
    (same_found f g (number + 1) slots (λ one from to. same one (omega arith) (omega arith))))

-- where no test passes none is found
pub never_found : (live : List Linkable) → find (λ _. false) live ≡ None
never_found [] = refl
never_found (one ∷ live) = never_found live
