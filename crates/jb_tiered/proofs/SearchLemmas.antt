-- What a search by halves has found so far.
use Rattle.std.proofs.Common.{◌≡◌, ◌<◌, ◌≤◌, ◌+◌, ℕ, Bool, true, false, List, [], ◌∷◌, length, get_or, refl, sym, ◌∙◌, ap, arith}
use Rattle.std.specs.Fn.{AlwaysReturns, Called}
use Rattle.std.specs.List.{AllWithin}
use Rattle.std.specs.List.Sorted.{IsPartitionedBy}
use Rattle.std.proofs.lemmas.Bool.{both_ways}
use Rattle.std.proofs.lemmas.List.{get_or_read}
use denote.Param.Members.{Mut}

-- what a call answers, and that the next ones will
pub answers_next : {F X R : Type 0} (g : Mut F X R) (P : X → R → Type 0) (f : F) (a : X) (r : R) (f' : F) → Called g f a r f' → AlwaysReturns g P f → P a r × AlwaysReturns g P f'
answers_next g P f a r f' call all = ((all.at (a ∷ []) r f' call).0, record { at = λ xs. (all.at (a ∷ xs) r f' call).1 })

module _ {X : Type 0} (p : X → Bool) (xs : List X) where
  -- in a list that is partitioned, those below the first place pass, and from the second on none does
  pub record IsNarrowed (low high : ℕ) : Type 0 where
    pub below : AllWithin (λ y. p y ≡ true) xs 0 low
    pub above : AllWithin (λ y. p y ≡ false) xs high (length xs)

  pub at_first : IsNarrowed 0 (length xs)
  at_first = record { below = λ k d from upto. absurd (omega arith); above = λ k d from upto. absurd (omega arith) }

  pub passed : (low mid high : ℕ) (x : X) → IsPartitionedBy p xs → IsNarrowed low high → mid < length xs → x ≡ get_or xs mid x → p x ≡ true → IsNarrowed (mid + 1) high
  passed low mid high x parted so_far within is passes = record {
    below = λ k d from upto. parted k mid d (omega arith) within (ap p (sym (get_or_read xs mid x within is d)) ∙ passes);
    above = so_far.above;
  }

  pub failed : (low mid high : ℕ) (x : X) → IsPartitionedBy p xs → IsNarrowed low high → mid < length xs → x ≡ get_or xs mid x → p x ≡ false → IsNarrowed low mid
  failed low mid high x parted so_far within is fails = record {
    below = so_far.below;
    above = λ k d from upto. by k d from upto (p (get_or xs k d)) refl;
  }
    where
      by : (k : ℕ) (d : X) → mid ≤ k → k < length xs → (b : Bool) → p (get_or xs k d) ≡ b → p (get_or xs k d) ≡ false
      by k d from upto false e = e
      by k d from upto true e = absurd (both_ways _ fails (ap p (get_or_read xs mid x within is d) ∙ parted mid k d from upto e))
