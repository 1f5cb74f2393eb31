-- Files are refused for one thing at most.
use Rattle.std.proofs.Common.{◌≡◌, inl, inr, ℕ, zero, suc, ◌+◌, Err, ap, sym, ◌∙◌, refl, subst, arith}
use Rattle.std.proofs.lemmas.Bool.{cases_lt}
use Rattle.jb_bytes.specs.Subfields.{IsCutAt}
use Rattle.jb_disk.specs.Files.{Files}
use Rattle.jb_record.specs.declared.index.IndexRecord.{IndexRecord}
use Rattle.jb_subfield.proofs.Spelling.{only_place}
use Rattle.jb_subfield.specs.declared.error.SubfieldError.TheVariants.{Cut}
use Rattle.jb_image.specs.declared.error.Damage.{Damage}
use Rattle.jb_image.specs.declared.overlapping.Overlap.{Overlap}
use Rattle.jb_image.specs.declared.error.Damage.TheVariants as damaged
use Rattle.jb_image.specs.declared.error.OpenError.{OpenError}
use Rattle.jb_image.specs.declared.error.OpenError.TheVariants as refused
use Rattle.jb_image.specs.Answers.{AreFirstOverlap, AreWhole, FailsAsFiles, FailsAsSlot, IsDamaged, IsFirstDamaged, IsRefusedBy, refusal_of}
use Rattle.jb_image.specs.Laws.{IsNotOfFiles, IsRefusedOnceAtMost}
use Rattle.jb_image.specs.Overlaps.{extents_in}
use Rattle.jb_image.specs.Places.{entry_in, fixed_in, subfields_in}
use Rattle.jb_image.specs.Tests.{FileTest, long_enough, signed, based, index_whole, marks_whole, few_slots, numbers_left, file_rank, SlotTest, header_placed, header_signed, header_revised, subfields_placed, subfields_whole, text_placed, slot_rank, IsFirstInSlot}
use Rattle.jb_image.proofs.Partners.{one_first}
use Rattle.jb_image.proofs.Theorems.{opened_undamaged}

-- a refusal for what the files hold
data Refusal : Type 0 where
  by_files : FileTest → Refusal
  by_slot : ℕ → Damage → Refusal
  by_overlap : ℕ → ℕ → Refusal

-- its answer
error_of : Refusal → OpenError
error_of (by_files long_enough) = refused.ShortHeader
error_of (by_files signed) = refused.BadSignature
error_of (by_files based) = refused.BaseZero
error_of (by_files index_whole) = refused.IndexLength
error_of (by_files marks_whole) = refused.LastreadLength
error_of (by_files few_slots) = refused.TooManySlots
error_of (by_files numbers_left) = refused.NumberRange
error_of (by_slot number damage) = refusal_of number damage
error_of (by_overlap a b) = refused.HeadersOverlap a b

-- what it says of the files
abbrev Means : ℕ → Files → Refusal → Type 0
Means limit files (by_files test) = FailsAsFiles limit files test
Means limit files (by_slot number damage) = FailsAsSlot limit files number damage
Means limit files (by_overlap a b) = AreWhole limit files × AreFirstOverlap files a b

-- an answer is that of a refusal
record IsMeant (limit : ℕ) (files : Files) (error : OpenError) : Type 0 where
  refusal : Refusal
  means : Means limit files refusal
  same : error ≡ error_of refusal

-- each answer but a fault and want of memory is
meant : (limit : ℕ) (files : Files) (error : OpenError) → IsRefusedBy limit files error → (IsNotOfFiles error → ⊥) → IsMeant limit files error
unfolding error_of
meant limit files refused.ShortHeader is of = record { refusal = by_files long_enough; means = is; same = refl }
meant limit files refused.BadSignature is of = record { refusal = by_files signed; means = is; same = refl }
meant limit files refused.BaseZero is of = record { refusal = by_files based; means = is; same = refl }
meant limit files refused.IndexLength is of = record { refusal = by_files index_whole; means = is; same = refl }
meant limit files refused.LastreadLength is of = record { refusal = by_files marks_whole; means = is; same = refl }
meant limit files refused.TooManySlots is of = record { refusal = by_files few_slots; means = is; same = refl }
meant limit files refused.NumberRange is of = record { refusal = by_files numbers_left; means = is; same = refl }
meant limit files (refused.HeaderPlace number) is of = record { refusal = by_slot number damaged.HeaderPlace; means = is; same = refl }
meant limit files (refused.HeaderSignature number) is of = record { refusal = by_slot number damaged.HeaderSignature; means = is; same = refl }
meant limit files (refused.HeaderRevision number) is of = record { refusal = by_slot number damaged.HeaderRevision; means = is; same = refl }
meant limit files (refused.Subfields number at) is of = record { refusal = by_slot number (damaged.Subfields at); means = is; same = refl }
meant limit files (refused.TextPlace number) is of = record { refusal = by_slot number damaged.TextPlace; means = is; same = refl }
meant limit files (refused.HeadersOverlap a b) is of = record { refusal = by_overlap a b; means = is; same = refl }
meant limit files refused.StoreFault is of = absurd (of tt)
meant limit files refused.OutOfMemory is of = absurd (of tt)

-- the test of the files with this rank
test_at : ℕ → FileTest
test_at zero = long_enough
test_at (suc zero) = signed
test_at (suc (suc zero)) = based
test_at (suc (suc (suc zero))) = index_whole
test_at (suc (suc (suc (suc zero)))) = marks_whole
test_at (suc (suc (suc (suc (suc zero))))) = few_slots
test_at _ = numbers_left

-- each has its own
test_at-file_rank : (test : FileTest) → test_at (file_rank test) ≡ test
unfolding test_at
test_at-file_rank long_enough = refl
test_at-file_rank signed = refl
test_at-file_rank based = refl
test_at-file_rank index_whole = refl
test_at-file_rank marks_whole = refl
test_at-file_rank few_slots = refl
test_at-file_rank numbers_left = refl

-- one test of the files is the first that fails
test_once : (limit : ℕ) (files : Files) (one other : FileTest) → FailsAsFiles limit files one → FailsAsFiles limit files other → one ≡ other
test_once limit files one other is is' = elim (cases_lt (file_rank one) (file_rank other)) [
  | inl low ↦ absurd (is.fails (is'.earlier one low))
  | inr high ↦ elim (cases_lt (file_rank other) (file_rank one)) [
    | inl low' ↦ absurd (is'.fails (is.earlier other low'))
    | inr high' ↦
        let same : file_rank one ≡ file_rank other = omega arith in
        sym (test_at-file_rank one) ∙ ap test_at same ∙ test_at-file_rank other
  ]
]

-- the test of a slot with this rank
slot_test_at : ℕ → SlotTest
slot_test_at zero = header_placed
slot_test_at (suc zero) = header_signed
slot_test_at (suc (suc zero)) = header_revised
slot_test_at (suc (suc (suc zero))) = subfields_placed
slot_test_at (suc (suc (suc (suc zero)))) = subfields_whole
slot_test_at _ = text_placed

-- each has its own
slot_test_at-slot_rank : (test : SlotTest) → slot_test_at (slot_rank test) ≡ test
unfolding slot_test_at
slot_test_at-slot_rank header_placed = refl
slot_test_at-slot_rank header_signed = refl
slot_test_at-slot_rank header_revised = refl
slot_test_at-slot_rank subfields_placed = refl
slot_test_at-slot_rank subfields_whole = refl
slot_test_at-slot_rank text_placed = refl

-- one test of a slot is the first that fails
slot_test_once : (files : Files) (entry : IndexRecord) (one other : SlotTest) → IsFirstInSlot files entry one → IsFirstInSlot files entry other → one ≡ other
slot_test_once files entry one other is is' = elim (cases_lt (slot_rank one) (slot_rank other)) [
  | inl low ↦ absurd (is.fails (is'.earlier one low))
  | inr high ↦ elim (cases_lt (slot_rank other) (slot_rank one)) [
    | inl low' ↦ absurd (is'.fails (is.earlier other low'))
    | inr high' ↦
        let same : slot_rank one ≡ slot_rank other = omega arith in
        sym (slot_test_at-slot_rank one) ∙ ap slot_test_at same ∙ slot_test_at-slot_rank other
  ]
]

-- the damage that a test finds, with the place of a cut
damage_at : SlotTest → ℕ → Damage
damage_at header_placed at = damaged.HeaderPlace
damage_at header_signed at = damaged.HeaderSignature
damage_at header_revised at = damaged.HeaderRevision
damage_at subfields_placed at = damaged.HeaderPlace
damage_at subfields_whole at = damaged.Subfields at
damage_at text_placed at = damaged.TextPlace

-- a damage is that of the first test that fails
record IsFound (files : Files) (entry : IndexRecord) (damage : Damage) : Type 0 where
  test : SlotTest
  at : ℕ
  first : IsFirstInSlot files entry test
  cut : test ≡ subfields_whole → IsCutAt (subfields_in files entry.offset) at
  same : damage ≡ damage_at test at

-- each damage is
found : (files : Files) (entry : IndexRecord) (damage : Damage) → IsDamaged files entry damage → IsFound files entry damage
unfolding damage_at
found files entry damaged.HeaderPlace (inl first) = record { test = header_placed; at = 0; first = first; cut = λ is. absurd (cc); same = refl }
found files entry damaged.HeaderPlace (inr first) = record { test = subfields_placed; at = 0; first = first; cut = λ is. absurd (cc); same = refl }
found files entry damaged.HeaderSignature first = record { test = header_signed; at = 0; first = first; cut = λ is. absurd (cc); same = refl }
found files entry damaged.HeaderRevision first = record { test = header_revised; at = 0; first = first; cut = λ is. absurd (cc); same = refl }
found files entry (damaged.Subfields at) first = record { test = subfields_whole; at = at; first = first.0; cut = λ is. first.1; same = refl }
found files entry damaged.TextPlace first = record { test = text_placed; at = 0; first = first; cut = λ is. absurd (cc); same = refl }

-- bytes are cut at one place
cut_once : (bytes : _) (at other : ℕ) → IsCutAt bytes at → IsCutAt bytes other → at ≡ other
cut_once bytes at other cut cut' = elim (only_place bytes (Err (Cut at)) cut other cut') [
  | inl same ↦ cc
  | inr memory ↦ absurd (cc)
]

-- the place matters to a cut alone
damage_once : (test : SlotTest) (at other : ℕ) → (test ≡ subfields_whole → at ≡ other) → damage_at test at ≡ damage_at test other
unfolding damage_at
damage_once header_placed at other same = refl
damage_once header_signed at other same = refl
damage_once header_revised at other same = refl
damage_once subfields_placed at other same = refl
damage_once subfields_whole at other same = ap damaged.Subfields (same refl)
damage_once text_placed at other same = refl

-- a slot is damaged in one way
damaged_once : (files : Files) (entry : IndexRecord) (one other : Damage) → IsDamaged files entry one → IsDamaged files entry other → one ≡ other
damaged_once files entry one other is is' =
    let here = found files entry one is in
    let there = found files entry other is' in
    let test : here.test ≡ there.test = slot_test_once files entry here.test there.test here.first there.first in
    here.same ∙ damage_once here.test here.at there.at (λ whole. cut_once _ here.at there.at (here.cut whole) (there.cut (sym test ∙ whole)))
    ∙ ap (λ t. damage_at t there.at) test ∙ sym there.same

-- one slot is the first that is damaged
slot_once : (files : Files) (number other_number : ℕ) (one other : Damage) → IsFirstDamaged files number one → IsFirstDamaged files other_number other
    → by_slot number one ≡ by_slot other_number other
slot_once files number other_number one other is is' = elim (cases_lt is.slot is'.slot) [
  | inl low ↦ absurd (opened_undamaged files (entry_in files is.slot) one (is'.lower is.slot low) is.damaged)
  | inr high ↦ elim (cases_lt is'.slot is.slot) [
    | inl low' ↦ absurd (opened_undamaged files (entry_in files is'.slot) other (is.lower is'.slot low') is'.damaged)
    | inr high' ↦
        let same : is.slot ≡ is'.slot = omega arith in
        let numbers : number ≡ other_number = is.numbered ∙ ap (λ (n : ℕ). (fixed_in files).base + n) same ∙ sym is'.numbered in
        let damages : one ≡ other = damaged_once files (entry_in files is'.slot) one other (subst (λ (n : ℕ). IsDamaged files (entry_in files n) one) same is.damaged) is'.damaged in
        ap (λ n. by_slot n one) numbers ∙ ap (by_slot other_number) damages
  ]
]

-- two headers are the first that overlap
overlap_once : (files : Files) (a b c d : ℕ) → AreFirstOverlap files a b → AreFirstOverlap files c d → by_overlap a b ≡ by_overlap c d
overlap_once files a b c d is is' =
    let same : is.overlap ≡ is'.overlap = one_first (extents_in files) is.overlap is'.overlap is.first is'.first in
    ap (λ n. by_overlap n b) (is.one_is ∙ ap (λ (o : Overlap). (fixed_in files).base + o.one) same ∙ sym is'.one_is)
    ∙ ap (by_overlap c) (is.other_is ∙ ap (λ (o : Overlap). (fixed_in files).base + o.other) same ∙ sym is'.other_is)

-- files are refused for one thing
refused_for_one : (limit : ℕ) (files : Files) (one other : Refusal) → Means limit files one → Means limit files other → one ≡ other
refused_for_one limit files (by_files test) (by_files other) is is' = ap by_files (test_once limit files test other is is')
refused_for_one limit files (by_files test) (by_slot number damage) is is' = absurd (is.fails (is'.0 test))
refused_for_one limit files (by_files test) (by_overlap a b) is is' = absurd (is.fails (is'.0 test))
refused_for_one limit files (by_slot number damage) (by_files test) is is' = absurd (is'.fails (is.0 test))
refused_for_one limit files (by_slot number damage) (by_slot other_number other) is is' = slot_once files number other_number damage other is.1 is'.1
refused_for_one limit files (by_slot number damage) (by_overlap a b) is is' =
    absurd (opened_undamaged files (entry_in files is.1.slot) damage (is'.1.whole is.1.slot is.1.inside) is.1.damaged)
refused_for_one limit files (by_overlap a b) (by_files test) is is' = absurd (is'.fails (is.0 test))
refused_for_one limit files (by_overlap a b) (by_slot number damage) is is' =
    absurd (opened_undamaged files (entry_in files is'.1.slot) damage (is.1.whole is'.1.slot is'.1.inside) is'.1.damaged)
refused_for_one limit files (by_overlap a b) (by_overlap c d) is is' = overlap_once files a b c d is.1 is'.1

-- files are refused for one thing at most
pub refused_once : IsRefusedOnceAtMost
refused_once limit files one other is is' of of' =
    let here = meant limit files one is of in
    let there = meant limit files other is' of' in
    here.same ∙ ap error_of (refused_for_one limit files here.refusal there.refusal here.means there.means) ∙ sym there.same
