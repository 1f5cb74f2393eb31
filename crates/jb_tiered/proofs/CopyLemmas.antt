-- Pieces with the elements of others.
use Rattle.std.proofs.Common.{◌≡◌, ◌<◌, ◌+◌, ℕ, suc, List, [], ◌∷◌, ◌++◌, length, get_or, take, refl, sym, ◌∙◌, ap, ap₂, subst, arith}
use Rattle.std.specs.declared.collections.VecDeque.{VecDeque}
use Rattle.std.proofs.lemmas.List.{take_more}
use Rattle.std.proofs.lemmas.List.Elements.{AllZip-get_or, AllZip-push}
use Rattle.jb_tiered.specs.Pieces.{AreCopies, AreFilled, IsCopy, items_of}

module _ {X Z : Type 0} where
  -- one piece more is copied
  pub one_more : (ps qs : List (VecDeque X Z)) (k : ℕ) (p q : VecDeque X Z) → AreCopies (take k ps) qs → k < length ps → get_or ps k p ≡ p → IsCopy p q
      → AreCopies (take (k + 1) ps) (qs ++ q ∷ [])
  one_more ps qs k p q copies within is copy =
      subst (λ ones. AreCopies ones (qs ++ q ∷ [])) (sym (take_more ps k p within ∙ ap (λ one. take k ps ++ one ∷ []) is))
      (AllZip-push IsCopy (take k ps) qs p q copies copy)

  -- there are as many
  pub as_many : (ps qs : List (VecDeque X Z)) → AreCopies ps qs → length qs ≡ length ps
  as_many [] [] copies = refl
  as_many [] (q ∷ qs) copies = absurd copies
  as_many (p ∷ ps) [] copies = absurd copies
  as_many (p ∷ ps) (q ∷ qs) copies = ap suc (as_many ps qs copies.1)

  -- the elements are the same
  pub same_items : (ps qs : List (VecDeque X Z)) → AreCopies ps qs → items_of qs ≡ items_of ps
  same_items [] [] copies = refl
  same_items [] (q ∷ qs) copies = absurd copies
  same_items (p ∷ ps) [] copies = absurd copies
  same_items (p ∷ ps) (q ∷ qs) copies = ap₂ (λ one rest. one ++ rest) copies.0.items (same_items ps qs copies.1)

  -- and as many stand in each piece
  pub filled_alike : (count : ℕ) (ps qs : List (VecDeque X Z)) → AreFilled count ps → AreCopies ps qs → AreFilled count qs
  filled_alike count ps qs filled copies =
      let many = as_many ps qs copies in
      record {
        places = λ k d below. (AllZip-get_or IsCopy ps qs k d d copies (omega (arith, many))).places;
        lens = λ k d below. (AllZip-get_or IsCopy ps qs k d d copies (omega (arith, many))).len ∙ filled.lens k d (omega (arith, many));
      }
