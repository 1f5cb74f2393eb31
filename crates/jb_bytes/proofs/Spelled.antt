-- The bytes of subfields, and the subfields that are read back from them.
use Rattle.std.proofs.Common.{◌≡◌, ℕ, zero, suc, ◌+◌, ◌<◌, ◌≤◌, List, [], ◌∷◌, ◌++◌, All, length, take, drop, get_or, ap, sym, ◌∙◌, refl, append_assoc, length-append, arith, subst}
use Rattle.std.proofs.lemmas.List.{append-nil, drop_at, take_at, take_more}
use Rattle.std.proofs.lemmas.Bool.{ne_eqb}
use Rattle.std.proofs.lemmas.List.Elements.{All-head, All-push, All-tail}
use Rattle.jb_bytes.specs.Number.{number_at, number_bytes}
use Rattle.jb_bytes.specs.Spelled.{behind_front, field_at_front, fields_in, fields_up_to}
use Rattle.jb_bytes.specs.Subfields.{IsSubfield, IsSubfieldList, first_of, one_subfield, subfield_bytes}
use Rattle.jb_bytes.specs.Whole.{BeginsWithField, HasNoWhole}
use Rattle.jb_bytes.specs.declared.subfield.Subfield.{Subfield}

-- one more subfield at the end
pub subfield_bytes-push : (fields : List Subfield) (field : Subfield) → subfield_bytes (fields ++ field ∷ []) ≡ subfield_bytes fields ++ one_subfield field
subfield_bytes-push [] field = append-nil (one_subfield field)
subfield_bytes-push (first ∷ fields) field =
    ap (λ (l : List ℕ). one_subfield first ++ l) (subfield_bytes-push fields field) ∙ sym (append_assoc (one_subfield first) (subfield_bytes fields) (one_subfield field))

-- a subfield of these parts
made : ℕ → ℕ → List ℕ → Subfield
made id hi bytes = record { id = id; hi = hi; bytes = bytes }

-- the length that a subfield's head tells
size_at_front : (field : Subfield) (rest : List ℕ) → IsSubfield field → length field.bytes ≡ number_at 4 4 (one_subfield field ++ rest)
size_at_front field rest fits = omega (arith, fits.size)

-- a subfield is read back from the front
pub at_front : (field : Subfield) (rest : List ℕ) → IsSubfield field → field_at_front (one_subfield field ++ rest) ≡ field
unfolding made
at_front field rest fits =
    let id : number_at 2 0 (one_subfield field ++ rest) ≡ field.id = omega (arith, fits.id) in
    let hi : number_at 2 2 (one_subfield field ++ rest) ≡ field.hi = omega (arith, fits.hi) in
    let size = number_at 4 4 (one_subfield field ++ rest) in
    let bytes : take size (field.bytes ++ rest) ≡ field.bytes = take_at field.bytes rest size (size_at_front field rest fits) in
    ap (λ n. made n (number_at 2 2 (one_subfield field ++ rest)) (take size (field.bytes ++ rest))) id
    ∙ ap (λ n. made field.id n (take size (field.bytes ++ rest))) hi
    ∙ ap (λ (l : List ℕ). made field.id field.hi l) bytes

-- and so is what stands behind it
pub behind_is : (field : Subfield) (rest : List ℕ) → IsSubfield field → behind_front (one_subfield field ++ rest) ≡ rest
behind_is field rest fits = drop_at field.bytes rest (number_at 4 4 (one_subfield field ++ rest)) (size_at_front field rest fits)

-- so are as many as there are
up_to : (n : ℕ) (fields : List Subfield) → All IsSubfield fields → length fields ≤ n → fields_up_to n (subfield_bytes fields) ≡ fields
up_to zero [] fits few = refl
up_to (suc n) [] fits few = refl
up_to zero (field ∷ fields) fits few = absurd (omega arith)
up_to (suc n) (field ∷ fields) fits few =
    let one = All-head IsSubfield field fields fits in
    let rest = subfield_bytes fields in
    ap (λ f. f ∷ fields_up_to n (behind_front (one_subfield field ++ rest))) (at_front field rest one)
    ∙ ap (λ (l : List ℕ). field ∷ fields_up_to n l) (behind_is field rest one)
    ∙ ap (λ (l : List Subfield). field ∷ l) (up_to n fields (All-tail IsSubfield field fields fits) (omega arith))

-- a subfield has bytes
few_fields : (fields : List Subfield) → length fields ≤ length (subfield_bytes fields)
few_fields [] = omega arith
few_fields (field ∷ fields) =
    let both : length (subfield_bytes (field ∷ fields)) ≡ length (one_subfield field) + length (subfield_bytes fields) =
    length-append (one_subfield field) (subfield_bytes fields) in
    let low : 0 < length (one_subfield field) = omega arith in
    let lower = few_fields fields in
    omega arith

-- the subfields that stand in bytes are those whose bytes they are
pub fields_in-list : (fields : List Subfield) (bytes : List ℕ) → IsSubfieldList fields bytes → fields_in bytes ≡ fields
fields_in-list fields bytes list =
    subst (λ (l : List ℕ). fields_in l ≡ fields) list.spelled (up_to (length (subfield_bytes fields)) fields list.each (few_fields fields))

-- and these are their bytes
pub list_in : (fields : List Subfield) (bytes : List ℕ) → IsSubfieldList fields bytes → IsSubfieldList (fields_in bytes) bytes
list_in fields bytes list = subst (λ (l : List Subfield). IsSubfieldList l bytes) (sym (fields_in-list fields bytes list)) list

-- one more subfield behind a list
pub list-push : (fields : List Subfield) (bytes : List ℕ) (field : Subfield) → IsSubfieldList fields bytes → IsSubfield field → IsSubfieldList (fields ++ field ∷ []) (bytes ++ one_subfield field)
list-push fields bytes field list fits = record {
  each = All-push IsSubfield fields field list.each fits;
  spelled = subfield_bytes-push fields field ∙ ap (λ (l : List ℕ). l ++ one_subfield field) list.spelled;
}

-- a head and data behind the bytes of a list are one more subfield
pub pushed : (old head content new : List ℕ) (len : ℕ) (field : Subfield) → IsSubfieldList (fields_in old) old → IsSubfield field
    → new ≡ (old ++ head) ++ content → head ≡ number_bytes 2 field.id ++ number_bytes 2 field.hi ++ number_bytes 4 len → len ≡ length field.bytes → content ≡ field.bytes
    → IsSubfieldList (fields_in old ++ field ∷ []) new
pushed old head content new len field list fits grown headed sized same =
    let heads = number_bytes 2 field.id ++ number_bytes 2 field.hi ++ number_bytes 4 (length field.bytes) in
    let spelled : new ≡ old ++ one_subfield field =
    grown
    ∙ ap (λ (l : List ℕ). (old ++ l) ++ content) (headed ∙ ap (λ n. number_bytes 2 field.id ++ number_bytes 2 field.hi ++ number_bytes 4 n) sized)
    ∙ ap (λ (l : List ℕ). (old ++ heads) ++ l) same
    ∙ append_assoc old heads field.bytes in
    subst (λ (l : List ℕ). IsSubfieldList (fields_in old ++ field ∷ []) l) (sym spelled) (list-push (fields_in old) old field list fits)

-- a list without its first subfield
pub peeled : (fields : List Subfield) (bytes : List ℕ) (field : Subfield) (behind : List ℕ) → IsSubfieldList fields bytes → BeginsWithField bytes field behind
    → (fields ≡ field ∷ fields_in behind) × IsSubfieldList (fields_in behind) behind
peeled [] bytes field behind list begins =
    let none : 0 ≡ length (one_subfield field ++ behind) = ap length (list.spelled ∙ begins.spelled) in
    absurd (omega arith)
peeled (first ∷ fields) bytes field behind list begins =
    let one = All-head IsSubfield first fields list.each in
    let same : one_subfield first ++ subfield_bytes fields ≡ one_subfield field ++ behind = list.spelled ∙ begins.spelled in
    let front : first ≡ field = sym (at_front first (subfield_bytes fields) one) ∙ ap field_at_front same ∙ at_front field behind begins.fits in
    let rest : subfield_bytes fields ≡ behind = sym (behind_is first (subfield_bytes fields) one) ∙ ap behind_front same ∙ behind_is field behind begins.fits in
    let others : IsSubfieldList fields behind = record { each = All-tail IsSubfield first fields list.each; spelled = rest } in
    (ap (λ f. f ∷ fields) front ∙ ap (λ (l : List Subfield). field ∷ l) (sym (fields_in-list fields behind others)), list_in fields behind others)

-- where bytes begin with no subfield, there is none
pub none_left : (fields : List Subfield) (bytes : List ℕ) → IsSubfieldList fields bytes → HasNoWhole bytes → fields ≡ []
none_left [] bytes list none = refl
none_left (field ∷ fields) bytes list none = absurd (none field (subfield_bytes fields) (All-head IsSubfield field fields list.each) (sym list.spelled))

-- the first of a kind is not the first of all, where that is of another kind
pub first_other : (id : ℕ) (field : Subfield) (fields : List Subfield) → (field.id ≡ id → ⊥) → first_of id (field ∷ fields) ≡ first_of id fields
first_other id field fields other = rw (ne_eqb field.id id other) refl
