-- The words of a text, from its front.
use Rattle.std.proofs.Common.{◌≡◌, ℕ, ◌+◌, ◌<◌, ◌≤◌, ◌==◌, inl, inr, false, List, [], ◌∷◌, ◌++◌, length, take, drop, filter, refl, ap, sym, ◌∙◌, arith}
use Rattle.std.specs.List.{All, slice_split}
use Rattle.std.proofs.Math.ListN.{drop_of_length-le}
use Rattle.std.proofs.lemmas.Bool.{cases_lt}
use Rattle.std.proofs.lemmas.List.{take_all}
use Rattle.std.proofs.lemmas.List.Splits.{slice_split_first, slice_split_none}
use Rattle.std.proofs.lemmas.List.Sums.{fails_before_first}
use Rattle.jb_news.specs.Words.{ends_with, has_some, is_blank, word_end, words_of}

-- the first part is a word where it has some bytes
kept_first : (part : List ℕ) (parts : List (List ℕ)) → 0 < length part → filter has_some (part ∷ parts) ≡ part ∷ filter has_some parts
kept_first [] parts some = absurd (omega arith)
kept_first (x ∷ xs) parts some = refl

dropped_first : (part : List ℕ) (parts : List (List ℕ)) → length part ≤ 0 → filter has_some (part ∷ parts) ≡ filter has_some parts
dropped_first [] parts none = refl
dropped_first (x ∷ xs) parts none = absurd (omega arith)

-- no byte before the end of the first word is a blank
none_before : (text : List ℕ) → length text ≤ word_end text → All (λ byte. is_blank byte ≡ false) text
none_before text whole = λ k d h. let before : k < word_end text = omega arith in fails_before_first is_blank text k d before

-- the parts are the first one and those of what stands behind a blank, but for an empty one
parts_of : (text : List ℕ) → filter has_some (slice_split is_blank text)
    ≡ filter has_some (take (word_end text) text ∷ slice_split is_blank (drop (word_end text + 1) text))
parts_of text = elim (cases_lt (word_end text) (length text)) [
  | inl within ↦ ap (filter has_some) (slice_split_first is_blank text 0 within)
  | inr whole ↦
      let over : length text ≤ word_end text + 1 = omega arith in
      let gone : drop (word_end text + 1) text ≡ [] = drop_of_length-le text over in
      ap (filter has_some) (slice_split_none is_blank text (none_before text whole)) ∙ alone text
      ∙ ap (λ (l : List ℕ). filter has_some (l ∷ slice_split is_blank [])) (sym (take_all (word_end text) text whole))
      ∙ ap (λ (l : List ℕ). filter has_some (take (word_end text) text ∷ slice_split is_blank l)) (sym gone)
]
  where
    alone : (part : List ℕ) → filter has_some (part ∷ []) ≡ filter has_some (part ∷ [] ∷ [])
    alone [] = refl
    alone (x ∷ xs) = refl

-- a word of some bytes is the first, and the others stand behind it
pub words_of_some : (text : List ℕ) → 0 < length (take (word_end text) text) → words_of text ≡ take (word_end text) text ∷ words_of (drop (word_end text + 1) text)
unfolding words_of
words_of_some text some = parts_of text ∙ kept_first (take (word_end text) text) (slice_split is_blank (drop (word_end text + 1) text)) some

-- a blank at the front does not matter
pub words_of_blank : (text : List ℕ) → length (take (word_end text) text) ≤ 0 → words_of text ≡ words_of (drop (word_end text + 1) text)
unfolding words_of
words_of_blank text none = parts_of text ∙ dropped_first (take (word_end text) text) (slice_split is_blank (drop (word_end text + 1) text)) none

-- nothing has no words
pub words_of_nothing : (text : List ℕ) → length text ≤ 0 → words_of text ≡ []
unfolding words_of
words_of_nothing [] none = refl
words_of_nothing (x ∷ xs) none = absurd (omega arith)

-- the last byte
pub ends_last : (byte last : ℕ) (text : List ℕ) → ends_with byte (text ++ last ∷ []) ≡ (last == byte)
ends_last byte last [] = refl
ends_last byte last (x ∷ []) = refl
ends_last byte last (x ∷ y ∷ ys) = ends_last byte last (y ∷ ys)
