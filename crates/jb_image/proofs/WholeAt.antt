-- The places of headers that need no further test.
use Rattle.std.proofs.Common.{◌≡◌, inl, inr, ℕ, sym, ◌∙◌, subst, true, false, nat_cmp, arith}
use Rattle.std.specs.BTreeSet.{BTreeSet, contains}
use Rattle.std.specs.BTreeMap.{is_at}
use Rattle.std.specs.Bool.{IsTrue}
use Rattle.std.proofs.lemmas.Bool.{cases_eq}
use Rattle.jb_disk.specs.Files.{Files}
use Rattle.jb_record.specs.declared.index.IndexRecord.{IndexRecord}
use Rattle.jb_image.specs.Reading.{AreWholeAt}
use Rattle.jb_image.specs.Tests.{IsWholeSlot, PassesAsHeader}

-- a slot that names one of them is whole
pub whole_there : (files : Files) (places : BTreeSet ℕ) (entry : IndexRecord) (place : ℕ) → AreWholeAt files places → entry.offset ≡ place
    → contains nat_cmp places place ≡ true → IsWholeSlot files entry
whole_there files places entry place whole named there =
    whole entry (subst (λ (n : ℕ). IsTrue (contains nat_cmp places n)) (sym named) there)

-- slots that name the same header are whole together
whole_too : (files : Files) (one other : IndexRecord) → one.offset ≡ other.offset → IsWholeSlot files one → IsWholeSlot files other
whole_too files one other same whole test there =
    subst (λ (n : ℕ). PassesAsHeader files n test) same (whole test (λ empty. there (sym same ∙ empty)))

-- with the place of a slot that is whole they stay so
pub whole_more : (files : Files) (places more : BTreeSet ℕ) (entry : IndexRecord) (place : ℕ) → AreWholeAt files places → entry.offset ≡ place
    → IsWholeSlot files entry → ((q : ℕ) → is_at (nat_cmp place) q ≡ false → contains nat_cmp more q ≡ contains nat_cmp places q) → AreWholeAt files more
whole_more files places more entry place whole named here others = λ other there. elim (cases_eq place other.offset) [
  | inl same ↦ whole_too files entry other (named ∙ same) here
  | inr apart ↦ whole other (sym (others other.offset (grind (arith, apart))) ∙ there)
]
