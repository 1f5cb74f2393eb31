-- That the next group is found one place after another, and that what is found is a group.
use Rattle.std.proofs.Common.{◌≡◌, ℕ, zero, suc, ◌+◌, ◌<◌, Bool, true, false, cond, List, [], ◌∷◌, length, get_or, drop, drop-cons, get_or-drop, length-drop, Option, Some, None, refl, ap, ◌∙◌, arith}
use Rattle.std.specs.Prelude.{IfSome, option_map, position, ◌==◌, ◌&&◌}
use Rattle.std.specs.List.{position_from, slice_get}
use Rattle.std.proofs.lemmas.Iterator.Adapters.{position_from-zero}
use Rattle.std.proofs.lemmas.List.Quantifiers.{position-Some}
use Rattle.jb_conf.specs.declared.board.Board.{Board}
use Rattle.jb_conf.specs.declared.board.BoardArea.{BoardArea}
use Rattle.jb_news.specs.Names.{group_text}
use Rattle.jb_news.specs.declared.names.GroupName.{GroupName}
use Rattle.jb_news.specs.declared.names.GroupName.TheVariants.{Number, Other}
use Rattle.jb_news_talk.specs.Newsgroups.{IsGroupAt, group_of, is_group, is_listed, is_numbered, is_wanted, next_group}

shifted : (b : Bool) (i j : ℕ) (rest more : Option ℕ) → option_map (λ n. i + n) rest ≡ more → option_map (λ n. i + n) (cond b (Some j) rest) ≡ cond b (Some (i + j)) more
shifted true i j rest more is = refl
shifted false i j rest more is = is

found_on : {X : Type 0} (p : X → Bool) (i j : ℕ) (xs : List X) → option_map (λ n. i + n) (position_from p j xs) ≡ position_from p (i + j) xs
found_on p i j [] = refl
found_on p i j (x ∷ xs) =
    let same : i + (j + 1) ≡ i + j + 1 = omega arith in
    shifted (p x) i j _ _ (found_on p i (j + 1) xs ∙ ap (λ (k : ℕ). position_from p k xs) same)

-- from a place on, in the list from there on
pub found_from : (board : Board) (wildmat : Option (List ℕ)) (from : ℕ)
    → next_group board wildmat from ≡ position_from (is_listed board wildmat) from (drop from board.areas)
found_from board wildmat from =
    let same : from + 0 ≡ from = omega arith in
    ap (option_map (λ n. from + n)) (position_from-zero (is_listed board wildmat) (drop from board.areas)) ∙ found_on (is_listed board wildmat) from 0 (drop from board.areas)
    ∙ ap (λ (k : ℕ). position_from (is_listed board wildmat) k (drop from board.areas)) same

module _ {X : Type 0} (p : X → Bool) (xs : List X) (i : ℕ) (d : X) (within : i < length xs) where
  -- at the next place
  pub found_here : p (get_or xs i d) ≡ true → position_from p i (drop i xs) ≡ Some i
  found_here is = ap (position_from p i) (drop-cons xs i d within) ∙ ap (λ (b : Bool). cond b (Some i) (position_from p (i + 1) (drop (suc i) xs))) is

  -- behind it
  pub found_behind : p (get_or xs i d) ≡ false → position_from p i (drop i xs) ≡ position_from p (i + 1) (drop (i + 1) xs)
  found_behind is =
      let next : suc i ≡ i + 1 = omega arith in
      ap (position_from p i) (drop-cons xs i d within) ∙ ap (λ (b : Bool). cond b (Some i) (position_from p (i + 1) (drop (suc i) xs))) is
      ∙ ap (λ (k : ℕ). position_from p (i + 1) (drop k xs)) next

-- what is found lies within the list, and passes
found_at : {X : Type 0} (p : X → Bool) (xs : List X) (n : ℕ) → position p xs ≡ Some n → (n < length xs) × ((d : X) → p (get_or xs n d) ≡ true)
found_at p [] n found = absurd (grind (arith, found))
found_at p (x ∷ xs) n found = ((position-Some p (x ∷ xs) n x found).0, λ d. (position-Some p (x ∷ xs) n d found).1)

-- what holds of the element at a place
there : {X : Type 0} (P : X → Type 0) (xs : List X) (n : ℕ) → ((d : X) → P (get_or xs n d)) → IfSome (slice_get xs n) P
there P [] n h = tt
there P (x ∷ xs) zero h = h x
there P (x ∷ xs) (suc n) h = there P xs n h

-- both parts of a test
pub both : (one other : Bool) → (one && other) ≡ true → (one ≡ true) × (other ≡ true)
both true true is = (refl, refl)
both true false is = absurd (grind (arith, is))
both false other is = absurd (grind (arith, is))

module _ (board : Board) where
  -- what is found by a test that only groups pass
  found_group : (p : BoardArea → Bool) → ((area : BoardArea) → p area ≡ true → is_group board area ≡ true) → (from n place : ℕ) → place ≡ from + n
      → position p (drop from board.areas) ≡ Some n → IsGroupAt board place
  found_group p group from n place is found =
      let at = found_at p (drop from board.areas) n found in
      record {
        within = omega (arith, is, at.0, length-drop from board.areas);
        group = there (λ area. is_group board area ≡ true) board.areas place (λ d. group (get_or board.areas place d) (rw (is, ← get_or-drop from board.areas n d) (at.1 d)));
      }

  numbered_on : (found : Option ℕ) → ((n : ℕ) → found ≡ Some n → IsGroupAt board n) → IfSome found (IsGroupAt board)
  numbered_on None group = tt
  numbered_on (Some n) group = group n refl

  pub group_on : (name : GroupName) → IfSome (group_of board name) (IsGroupAt board)
  group_on (Number number) = numbered_on (position (is_numbered board number) board.areas) (λ n found.
      found_group (is_numbered board number) (λ area is. (both (area.rules.ordinal == number) (is_group board area) is).1) 0 n n (omega arith) found)
  group_on Other = tt

  listed_on : (from : ℕ) (found : Option ℕ) → ((n : ℕ) → found ≡ Some n → IsGroupAt board (from + n))
      → IfSome (option_map (λ n. from + n) found) (IsGroupAt board)
  listed_on from None group = tt
  listed_on from (Some n) group = group n refl

  pub next_on : (wildmat : Option (List ℕ)) (from : ℕ) → IfSome (next_group board wildmat from) (IsGroupAt board)
  next_on wildmat from = listed_on from (position (is_listed board wildmat) (drop from board.areas)) (λ n found.
      found_group (is_listed board wildmat) (λ area is. (both (is_group board area) (is_wanted wildmat (group_text area.rules.ordinal)) is).0) from n (from + n) refl found)
