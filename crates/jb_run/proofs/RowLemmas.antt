-- Rows that are dealt to the lists of nodes and collected from them.
use Rattle.std.specs.declared.alloc.Global.{Global}
use Rattle.std.proofs.Common.{Vec, ◌≡◌, ℕ, ◌+◌, ◌<◌, List, [], ◌∷◌, ◌++◌, length, take, sym, ap, ◌∙◌, arith}
use Rattle.std.specs.Prelude.{slice_index_or}
use Rattle.std.proofs.lemmas.List.{get_or-map, get_or-take, get_or_append_left, get_or_push, length-map, length_push, take_at}
use Rattle.jb_run.specs.Rows.{IsColumn, IsDealt, lists_of}
use Rattle.jb_run.proofs.EachLemmas.{one_of}

-- as many lists as vectors
pub length-lists_of : {A : Type 0} (vectors : List (Vec A Global)) → length (lists_of vectors) ≡ length vectors
length-lists_of {A} vectors = length-map vectors (λ (v : Vec A Global). v.items)

-- the list of a vector
pub list_at : {A : Type 0} (vectors : List (Vec A Global)) (n : ℕ) (vector : Vec A Global) → n < length vectors → slice_index_or (lists_of vectors) n [] ≡ (slice_index_or vectors n vector).items
list_at {A} vectors n vector within = get_or-map (λ (v : Vec A Global). v.items) vectors n vector [] within

-- a row is dealt where it is to each vector
pub dealt_by : {A : Type 0} (fewer : List (Vec A Global)) (row : List A) (more : List (Vec A Global)) → length more ≡ length fewer → length row ≡ length fewer
    → ((n : ℕ) (vector : Vec A Global) (one : A) → n < length fewer → (slice_index_or more n vector).items ≡ (slice_index_or fewer n vector).items ++ slice_index_or row n one ∷ [])
    → IsDealt (lists_of fewer) row (lists_of more)
dealt_by {A} fewer row more same as_long dealt = record {
  lists = length-lists_of more ∙ same ∙ sym (length-lists_of fewer);
  count = as_long ∙ sym (length-lists_of fewer);
  each = λ n one within.
      let low : n < length fewer = omega (arith, within, length-lists_of fewer) in
      let vector : Vec A Global = one_of fewer n low in
      list_at more n vector (omega (arith, low, same)) ∙ dealt n vector one low ∙ ap (λ (list : List A). list ++ slice_index_or row n one ∷ []) (sym (list_at fewer n vector low));
}

-- each list is longer by one
pub dealt_length : {A : Type 0} (fewer : List (List A)) (row : List A) (more : List (List A)) (n : ℕ) → n < length fewer → IsDealt fewer row more
    → length (slice_index_or more n []) ≡ length (slice_index_or fewer n []) + 1
dealt_length fewer row more n within dealt =
    let one = one_of row n (omega (arith, within, dealt.count)) in
    ap length (dealt.each n one within) ∙ length_push (slice_index_or fewer n []) (slice_index_or row n one)

-- a list without its last is a beginning of it
pub dealt_take : {A : Type 0} (fewer : List (List A)) (row : List A) (more : List (List A)) (n k : ℕ) → n < length fewer → length (slice_index_or fewer n []) ≡ k → IsDealt fewer row more
    → slice_index_or fewer n [] ≡ take k (slice_index_or more n [])
dealt_take fewer row more n k within same dealt =
    let one = one_of row n (omega (arith, within, dealt.count)) in
    sym (ap (take k) (dealt.each n one within) ∙ take_at (slice_index_or fewer n []) (slice_index_or row n one ∷ []) k same)

-- the element that was dealt is the last
pub dealt_last : {A : Type 0} (fewer : List (List A)) (row : List A) (more : List (List A)) (n k : ℕ) (one : A) → n < length fewer → length (slice_index_or fewer n []) ≡ k → IsDealt fewer row more
    → slice_index_or (slice_index_or more n []) k one ≡ slice_index_or row n one
dealt_last {A} fewer row more n k one within same dealt =
    ap (λ (list : List A). slice_index_or list k one) (dealt.each n one within) ∙ get_or_push (slice_index_or fewer n []) (slice_index_or row n one) one k same

-- those before it are as they were
pub dealt_before : {A : Type 0} (fewer : List (List A)) (row : List A) (more : List (List A)) (n k : ℕ) (one : A) → n < length fewer → k < length (slice_index_or fewer n []) → IsDealt fewer row more
    → slice_index_or (slice_index_or more n []) k one ≡ slice_index_or (slice_index_or fewer n []) k one
dealt_before {A} fewer row more n k one within low dealt =
    ap (λ (list : List A). slice_index_or list k one) (dealt.each n one within) ∙ get_or_append_left (slice_index_or fewer n []) (slice_index_or row n one ∷ []) one k low

-- a row that is collected from lists that begin others is a column of those
pub column_of_first : {A : Type 0} (all fewer : List (List A)) (row : List A) (more : List (List A)) (k : ℕ) → length all ≡ length fewer → IsDealt fewer row more
    → ((n : ℕ) → n < length fewer → length (slice_index_or fewer n []) ≡ k)
    → ((n : ℕ) → n < length fewer → slice_index_or more n [] ≡ take (k + 1) (slice_index_or all n []))
    → IsColumn all k row
column_of_first {A} all fewer row more k same dealt long first = record {
  count = dealt.count ∙ sym same;
  each = λ n one within.
      let low : n < length fewer = omega (arith, within, same) in
      sym (dealt_last fewer row more n k one low (long n low) dealt) ∙ ap (λ (list : List A). slice_index_or list k one) (first n low)
      ∙ get_or-take (k + 1) (slice_index_or all n []) k one (omega arith);
}
