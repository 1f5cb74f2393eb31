-- Bytes begin with one subfield at most, and have one list at most.
use Rattle.std.proofs.Common.{◌≡◌, ℕ, List, [], ◌∷◌, ◌++◌, All, Ok, Err, length, drop, refl, ap, sym, ◌∙◌, inl, inr, append_assoc, arith, length-drop}
use Rattle.std.proofs.lemmas.List.{append-nil, take-append-drop}
use Rattle.std.proofs.lemmas.List.Elements.{All-head, All-tail}
use Rattle.jb_bytes.proofs.Spelled.{at_front, behind_is, fields_in-list}
use Rattle.jb_bytes.specs.Spelled.{behind_front, field_at_front}
use Rattle.jb_bytes.specs.Subfields.{IsSubfield, IsSubfieldList, IsCutAt, one_subfield, subfield_bytes}
use Rattle.jb_bytes.specs.declared.subfield.Subfield.{Subfield}
use Rattle.jb_subfield.specs.Answer.{ReadsSubfields, IsUnlessMemory}
use Rattle.jb_subfield.specs.Laws.{ArePrefixFree, HasOneListAtMost}
use Rattle.jb_bytes.specs.Whole.{HasNoWhole}
use Rattle.jb_subfield.specs.declared.error.SubfieldError.TheVariants.{Cut, OutOfMemory}

-- no spelling of one subfield is a proper prefix of another's
pub prefix_free : ArePrefixFree
prefix_free one other rest more fits fits' same = (
  sym (at_front one rest fits) ∙ ap field_at_front same ∙ at_front other more fits',
  sym (behind_is one rest fits) ∙ ap behind_front same ∙ behind_is other more fits',
)

-- no bytes begin with no subfield
nothing_whole : HasNoWhole []
nothing_whole field rest fits same = cc

-- where bytes are taken as subfields as far as they go, the subfields and what is left are settled
pub same_list : (one other : List Subfield) (rest more : List ℕ) → All IsSubfield one → All IsSubfield other → HasNoWhole rest → HasNoWhole more
    → subfield_bytes one ++ rest ≡ subfield_bytes other ++ more → (one ≡ other) × (rest ≡ more)
same_list [] [] rest more fits fits' ends ends' same = (refl, same)
same_list [] (field ∷ fields) rest more fits fits' ends ends' same =
    absurd (ends field (subfield_bytes fields ++ more) (All-head IsSubfield field fields fits') (same ∙ append_assoc (one_subfield field) (subfield_bytes fields) more))
same_list (field ∷ fields) [] rest more fits fits' ends ends' same =
    absurd (ends' field (subfield_bytes fields ++ rest) (All-head IsSubfield field fields fits) (sym same ∙ append_assoc (one_subfield field) (subfield_bytes fields) rest))
same_list (field ∷ fields) (field' ∷ fields') rest more fits fits' ends ends' same =
    let first = prefix_free field field' (subfield_bytes fields ++ rest) (subfield_bytes fields' ++ more) (All-head IsSubfield field fields fits) (All-head IsSubfield field' fields' fits')
    (sym (append_assoc (one_subfield field) (subfield_bytes fields) rest) ∙ same ∙ append_assoc (one_subfield field') (subfield_bytes fields') more) in
    let others = same_list fields fields' rest more (All-tail IsSubfield field fields fits) (All-tail IsSubfield field' fields' fits') ends ends' first.1 in
    (ap (λ f. f ∷ fields) first.0 ∙ ap (λ (l : List Subfield). field' ∷ l) others.0, others.1)

-- a list, with nothing behind it
whole_list : (fields : List Subfield) (bytes : List ℕ) → IsSubfieldList fields bytes → subfield_bytes fields ++ [] ≡ bytes
whole_list fields bytes list = append-nil (subfield_bytes fields) ∙ list.spelled

-- a list as far as it goes, with the rest behind it
cut_list : (bytes : List ℕ) (at : ℕ) (cut : IsCutAt bytes at) → subfield_bytes cut.fields ++ drop at bytes ≡ bytes
cut_list bytes at cut = ap (λ (l : List ℕ). l ++ drop at bytes) cut.before.spelled ∙ take-append-drop at bytes

-- bytes have at most one list
pub one_list : HasOneListAtMost
one_list bytes one other list list' = sym (fields_in-list one bytes list) ∙ fields_in-list other bytes list'

-- bytes that are cut have no list
cut_has_no_list : (bytes : List ℕ) (at : ℕ) (fields : List Subfield) → IsCutAt bytes at → IsSubfieldList fields bytes → ⊥
cut_has_no_list bytes at fields cut list =
    let none = (same_list cut.fields fields (drop at bytes) [] cut.before.each list.each cut.cut nothing_whole (cut_list bytes at cut ∙ sym (whole_list fields bytes list))).1 in
    let remain = cut.remain in
    omega (arith, ap length none, length-drop at bytes)

-- bytes are cut at one place
cut_once : (bytes : List ℕ) (at other : ℕ) → IsCutAt bytes at → IsCutAt bytes other → at ≡ other
cut_once bytes at other cut cut' =
    let same = (same_list cut.fields cut'.fields (drop at bytes) (drop other bytes) cut.before.each cut'.before.each cut.cut cut'.cut (cut_list bytes at cut ∙ sym (cut_list bytes other cut'))).1 in
    let remain = cut.remain in
    let remain' = cut'.remain in
    omega (arith, ap length same, length-drop at bytes, length-drop other bytes)

-- a list is the one answer
pub only_list : (bytes : List ℕ) (result : _) → ReadsSubfields bytes result → (fields : List Subfield) → IsSubfieldList fields bytes → IsUnlessMemory result (Ok fields)
only_list bytes (Ok mine) reading fields list = inl (ap Ok (one_list bytes mine fields reading list))
only_list bytes (Err (Cut at)) reading fields list = absurd (cut_has_no_list bytes at fields reading list)
only_list bytes (Err OutOfMemory) reading fields list = inr refl

-- a place is the one answer
pub only_place : (bytes : List ℕ) (result : _) → ReadsSubfields bytes result → (at : ℕ) → IsCutAt bytes at → IsUnlessMemory result (Err (Cut at))
only_place bytes (Ok mine) reading at cut = absurd (cut_has_no_list bytes at mine cut reading)
only_place bytes (Err (Cut mine)) reading at cut = inl (ap (λ n. Err (Cut n)) (cut_once bytes mine at reading cut))
only_place bytes (Err OutOfMemory) reading at cut = inr refl
