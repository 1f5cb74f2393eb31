-- What is told of a list that is taken from its head or added to at its end one by one, and of a number; and a slice that was lent.
use Rattle.std.proofs.Common.{◌≡◌, ℕ, ◌+◌, List, [], ◌∷◌, ◌++◌, length, Option, Some, None, refl, sym, ◌∙◌, ap, append_assoc, append-nil, length-append, take, drop, arith}
use Rattle.std.specs.Option.{option_map}
use Rattle.std.proofs.lemmas.List.{same_lists, places}

module _ {T : Type 0} where
  -- nothing was taken
  pub took_none : (a : Option (List T)) → a ≡ option_map (λ rest. [] ++ rest) a
  took_none None = refl
  took_none (Some xs) = refl

  -- one more was taken
  pub took_more : (a b c : Option (List T)) (xs : List T) (x : T)
      → a ≡ option_map (λ rest. xs ++ rest) b → b ≡ option_map (λ rest. x ∷ rest) c → a ≡ option_map (λ rest. (xs ++ x ∷ []) ++ rest) c
  took_more a b None xs x one two = one ∙ ap (option_map (λ (rest : List T). xs ++ rest)) two
  took_more a b (Some w) xs x one two =
      one ∙ ap (option_map (λ (rest : List T). xs ++ rest)) two ∙ ap (λ (v : List T). Some v) (sym (append_assoc xs (x ∷ []) w))

  -- nothing was added
  pub added_none : (a : Option (List T)) → a ≡ option_map (λ earlier. earlier ++ []) a
  added_none None = refl
  added_none (Some xs) = ap (λ (v : List T). Some v) (sym (append-nil xs))

  -- one more was added
  pub added_more : (a b c : Option (List T)) (xs : List T) (x : T)
      → b ≡ option_map (λ earlier. earlier ++ xs) a → c ≡ option_map (λ earlier. earlier ++ x ∷ []) b → c ≡ option_map (λ earlier. earlier ++ (xs ++ x ∷ [])) a
  added_more None b c xs x one two = two ∙ ap (option_map (λ (earlier : List T). earlier ++ x ∷ [])) one
  added_more (Some w) b c xs x one two =
      two ∙ ap (option_map (λ (earlier : List T). earlier ++ x ∷ [])) one ∙ ap (λ (v : List T). Some v) (append_assoc w xs (x ∷ []))

-- none less is left
pub left_none : (a : Option ℕ) → a ≡ option_map (λ n. n + 0) a
left_none None = refl
left_none (Some n) = ap (λ (m : ℕ). Some m) (omega arith)

-- one less is left
pub left_more : {T : Type 0} (a b c : Option ℕ) (xs : List T) (x : T)
    → a ≡ option_map (λ n. n + length xs) b → b ≡ option_map (λ n. n + 1) c → a ≡ option_map (λ n. n + length (xs ++ x ∷ [])) c
left_more a b None xs x one two = one ∙ ap (option_map (λ (n : ℕ). n + length xs)) two
left_more a b (Some m) xs x one two =
    one ∙ ap (option_map (λ (n : ℕ). n + length xs)) two ∙ ap (λ (n : ℕ). Some n) (omega (arith, length-append xs (x ∷ [])))

-- a slice that was lent and written is what the vector has then
pub lent : {T : Type 0} (xs new : List T) (n : ℕ) → n ≡ length xs → length new ≡ length xs → take n (new ++ drop (length new) xs) ≡ new
lent xs new n size same = same_lists _ _ (grind (arith, places)) (λ k d h. grind (arith, places))
