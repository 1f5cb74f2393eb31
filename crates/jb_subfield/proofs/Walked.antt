-- Bytes that are subfields as far as they were gone through.
use Rattle.std.proofs.Common.{◌≡◌, ℕ, ◌+◌, ◌-◌, ◌<◌, List, [], ◌∷◌, ◌++◌, All, length, take, drop, refl, ap, sym, ◌∙◌, append_assoc, length-append, arith}
use Rattle.std.proofs.lemmas.List.{append-nil, drop_at, take_at}
use Rattle.std.proofs.lemmas.List.Elements.{All-nil, All-push}
use Rattle.jb_bytes.proofs.Spelled.{subfield_bytes-push}
use Rattle.jb_bytes.specs.Subfields.{AreSubfields, IsCutAt, IsSubfield, one_subfield, subfield_bytes}
use Rattle.jb_bytes.specs.Whole.{BeginsWithField, HasNoWhole}
use Rattle.jb_bytes.specs.declared.subfield.Subfield.{Subfield}

-- subfields stand before the rest of bytes
pub record Walked (bytes rest : List ℕ) : Type 0 where
  pub fields : List Subfield
  pub each : All IsSubfield fields
  pub spelled : subfield_bytes fields ++ rest ≡ bytes

-- none, at the beginning
pub begun : (bytes : List ℕ) → Walked bytes bytes
begun bytes = record { fields = []; each = All-nil IsSubfield; spelled = refl }

-- one more, where the rest begins with one
pub further : (bytes rest : List ℕ) (field : Subfield) (behind : List ℕ) → Walked bytes rest → BeginsWithField rest field behind → Walked bytes behind
further bytes rest field behind walked begins = record {
  fields = walked.fields ++ field ∷ [];
  each = All-push IsSubfield walked.fields field walked.each begins.fits;
  spelled =
      ap (λ (l : List ℕ). l ++ behind) (subfield_bytes-push walked.fields field)
      ∙ append_assoc (subfield_bytes walked.fields) (one_subfield field) behind
      ∙ ap (λ (l : List ℕ). subfield_bytes walked.fields ++ l) (sym begins.spelled)
      ∙ walked.spelled;
}

-- where the rest begins with none, the bytes are cut there
pub cut_there : (bytes rest : List ℕ) → Walked bytes rest → 0 < length rest → HasNoWhole rest → IsCutAt bytes (length bytes - length rest)
cut_there bytes rest walked some none =
    let before = subfield_bytes walked.fields in
    let at = length bytes - length rest in
    let both : length before + length rest ≡ length bytes = sym (length-append before rest) ∙ ap length walked.spelled in
    let size : length before ≡ at = omega arith in
    let dropped : drop at bytes ≡ rest = ap (drop at) (sym walked.spelled) ∙ drop_at before rest at size in
    record {
      fields = walked.fields;
      before = record { each = walked.each; spelled = sym (take_at before rest at size) ∙ ap (take at) walked.spelled };
      remain = omega arith;
      cut = λ field more fits same. none field more fits (sym dropped ∙ same);
    }

-- where nothing is left, the bytes are subfields
pub all_there : (bytes rest : List ℕ) → Walked bytes rest → rest ≡ [] → AreSubfields bytes
all_there bytes rest walked none = record {
  fields = walked.fields;
  are = record {
    each = walked.each;
    spelled = sym (append-nil (subfield_bytes walked.fields)) ∙ ap (λ (l : List ℕ). subfield_bytes walked.fields ++ l) (sym none) ∙ walked.spelled;
  };
}
