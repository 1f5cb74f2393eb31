-- The first user of a name is the only one who can log in by it, where no two users have one name.
use Rattle.std.proofs.Common.{◌≡◌, ℕ, suc, ◌+◌, ◌<◌, ◌≤◌, Bool, true, false, cond, not, ◌&&◌, List, [], ◌∷◌, ◌++◌, length, get_or, take, Option, Some, None, is_some, unwrap_or, position, refl, ap, sym, ◌∙◌, arith, bytes_eq, eqb, ltb, inl, inr, take-suc, length-take, length-append}
use Rattle.std.specs.List.{position_or_len}
use Rattle.std.specs.Option.{option_or}
use Rattle.std.proofs.lemmas.Bool.{and_left, and_right, cases_Bool, cases_order, lt-ltb, le-ltb}
use Rattle.std.proofs.lemmas.Bool.Decides.{nat_tests}
use Rattle.std.proofs.lemmas.List.Folds.{position_or_len_push}
use Rattle.std.proofs.lemmas.List.Quantifiers.{position-Some}
use Rattle.std.proofs.lemmas.List.Sums.{position_or_len_is, fails_before_first}
use Rattle.std.proofs.lemmas.Slice.Eq.{bytes_eq-Decides}
use Rattle.sha2.specs.Sha256.{sha256}
use Rattle.jb_bytes.specs.Name.{same_name}
use Rattle.jb_conf.specs.InRange.{AreUsersInRange}
use Rattle.jb_conf.specs.LogIn.{logs_in}
use Rattle.jb_conf.specs.declared.board.BoardUser.{BoardUser}

module _ {X : Type 0} (p : X → Bool) where
  first_within : (xs : List X) → position_or_len p xs ≤ length xs
  first_within [] = omega arith
  first_within (x ∷ xs) = within (p x) (position_or_len p xs) (length xs) (first_within xs)
    where
      within : (b : Bool) (l n : ℕ) → l ≤ n → cond (not b) (1 + l) 0 ≤ suc n
      within true l n h = omega arith
      within false l n h = omega (arith, h)

  position_is : (xs : List X) (i : ℕ) → position_or_len p xs ≡ i → i < length xs → position p xs ≡ Some i
  position_is xs i e within = ap (λ n. cond (ltb n (length xs)) (Some n) None) e ∙ ap (λ b. cond b (Some i) None) (lt-ltb i (length xs) within)

  position_none : (xs : List X) → position_or_len p xs ≡ length xs → position p xs ≡ None
  position_none xs e =
      ap (λ n. cond (ltb n (length xs)) (Some n) None) e
      ∙ ap (λ b. cond b (Some (length xs)) None) (le-ltb (length xs) (length xs) (omega arith))

  grown : (passes : Bool) (l n m : ℕ) → l ≤ n → m ≡ cond (eqb l n) (n + cond passes 0 1) l
      → cond (ltb m (n + 1)) (Some m) None ≡ option_or (cond (ltb l n) (Some l) None) (cond passes (Some n) None)
  grown true l n m within e = grind (arith, nat_tests)
  grown false l n m within e = grind (arith, nat_tests)

  -- the first place at which a test passes, with one element more
  position_push : (xs : List X) (y : X) → position p (xs ++ y ∷ []) ≡ option_or (position p xs) (cond (p y) (Some (length xs)) None)
  position_push xs y =
      ap (λ n. cond (ltb (position_or_len p (xs ++ y ∷ [])) n) (Some (position_or_len p (xs ++ y ∷ []))) None) (length-append xs (y ∷ []))
      ∙ grown (p y) (position_or_len p xs) (length xs) (position_or_len p (xs ++ y ∷ [])) (first_within xs) (position_or_len_push p xs y)

  -- a step of a search that goes over all elements
  pub place_step : (xs : List X) (at : ℕ) (y : X) → at < length xs → y ≡ get_or xs at y
      → position p (take (at + 1) xs) ≡ option_or (position p (take at xs)) (cond (p y) (Some at) None)
  place_step xs at y within is =
      let more : take (at + 1) xs ≡ take at xs ++ y ∷ [] = grind (arith, take-suc xs at y within) in
      let long : length (take at xs) ≡ at = grind (arith, length-take) in
      ap (position p) more ∙ position_push (take at xs) y ∙ ap (λ n. option_or (position p (take at xs)) (cond (p y) (Some n) None)) long

module _ {X : Type 0} (p q : X → Bool) where
  -- both tests
  abbrev both : X → Bool
  both x = p x && q x

  nowhere : (xs : List X) (d : X) → position p xs ≡ None → position both xs ≡ None
  nowhere xs d e =
      let all : position_or_len p xs ≡ length xs = at_end (position_or_len p xs) (length xs) (first_within p xs) e in
      position_none both xs
      (position_or_len_is both xs (length xs) d (omega arith) (λ k lt. and_left _ _ (fails_before_first p xs k d (omega (arith, lt, all)))) (λ lt. absurd (omega (arith, lt))))
    where
      at_end : (l n : ℕ) → l ≤ n → cond (ltb l n) (Some l) None ≡ None → l ≡ n
      at_end l n within e = grind (arith, nat_tests)

  -- where the first passes at one place alone, the other decides there
  there : (xs : List X) (i : ℕ) (d : X) → position p xs ≡ Some i → ((k : ℕ) → i < k → k < length xs → p (get_or xs k d) ≡ false)
      → position both xs ≡ cond (q (get_or xs i d)) (Some i) None
  there xs i d e alone =
      let found = position-Some p xs i d e in
      elim (cases_Bool (q (get_or xs i d))) [
        | inl is ↦
            position_is both xs i (position_or_len_is both xs i d (omega (arith, found.0)) (λ k lt. and_left _ _ (found.2 k lt)) (λ lt. rw (found.1, is) refl)) found.0
            ∙ rw is refl
        | inr is ↦
            position_none both xs
            (position_or_len_is both xs (length xs) d (omega arith)
            (λ k lt. elim (cases_order k i) [
              | inl same ↦ rw same (and_right _ _ is)
              | inr (inl before) ↦ and_left _ _ (found.2 k before)
              | inr (inr behind) ↦ and_left _ _ (alone k behind lt)
            ])
            (λ lt. absurd (omega (arith, lt))))
            ∙ rw is refl
      ]

-- of two users of one board one at most has the name
one_of_two : (name : List ℕ) (users : List BoardUser) (i k : ℕ) (user : BoardUser) → AreUsersInRange users → i < k → k < length users
    → same_name (get_or users i user).user.name name ≡ true → same_name (get_or users k user).user.name name ≡ false
one_of_two name users i k user fit before within first =
    elim (cases_Bool (same_name (get_or users k user).user.name name)) [
      | inl second ↦ absurd (fit.names i k user before within ((bytes_eq-Decides _ _).0 first ∙ sym ((bytes_eq-Decides _ _).0 second)))
      | inr other ↦ other
    ]

-- the place of the user of a name is where the user logs in, if the digest is the password's; else nobody does
pub login_is : (name password : List ℕ) (users : List BoardUser) (place : Option ℕ) (user : BoardUser)
    → AreUsersInRange users → position (λ one. same_name one.user.name name) users ≡ place → get_or users (unwrap_or place 0) user ≡ user
    → position (logs_in name password) users ≡ cond (is_some place && bytes_eq (sha256 (user.salt ++ password)) user.digest) place None
login_is name password users None user fit e is = nowhere (λ one. same_name one.user.name name) (λ one. bytes_eq (sha256 (one.salt ++ password)) one.digest) users user e
login_is name password users (Some i) user fit e is =
    let found = position-Some (λ one. same_name one.user.name name) users i user e in
    there (λ one. same_name one.user.name name) (λ one. bytes_eq (sha256 (one.salt ++ password)) one.digest) users i user e
    (λ k before within. one_of_two name users i k user fit before within found.1)
    ∙ ap (λ (one : BoardUser). cond (bytes_eq (sha256 (one.salt ++ password)) one.digest) (Some i) None) is
