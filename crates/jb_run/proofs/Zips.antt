-- Two lists of which something holds place by place.
use Rattle.std.proofs.Common.{◌≡◌, ℕ, zero, suc, ◌<◌, List, [], ◌∷◌, ◌++◌, get_or, length, map, refl, ap, ◌∙◌, arith}
use Rattle.std.specs.List.{AllZip}
use Rattle.std.specs.Prelude.{All}

module _ {A B : Type 0} (R : A → B → Type 0) where
  -- of one more
  pub zip_push : (xs : List A) (ys : List B) (x : A) (y : B) → AllZip R xs ys → R x y → AllZip R (xs ++ x ∷ []) (ys ++ y ∷ [])
  zip_push [] [] x y all last = (last, tt)
  zip_push [] (other ∷ ys) x y all last = absurd all
  zip_push (other ∷ xs) [] x y all last = absurd all
  zip_push (one ∷ xs) (other ∷ ys) x y all last = (all.0, zip_push xs ys x y all.1 last)

  -- of those at one place
  pub zip_at : (xs : List A) (ys : List B) (k : ℕ) (d : A) (e : B) → AllZip R xs ys → k < length xs → R (get_or xs k d) (get_or ys k e)
  zip_at [] ys k d e all within = absurd (omega (arith, within))
  zip_at (x ∷ xs) [] k d e all within = absurd all
  zip_at (x ∷ xs) (y ∷ ys) zero d e all within = all.0
  zip_at (x ∷ xs) (y ∷ ys) (suc k) d e all within = zip_at xs ys k d e all.1 (omega (arith, within))

  -- of those at all places
  pub zip_of : (xs : List A) (ys : List B) → length ys ≡ length xs → ((k : ℕ) (d : A) (e : B) → k < length xs → R (get_or xs k d) (get_or ys k e)) → AllZip R xs ys
  zip_of [] [] same each = tt
  zip_of [] (y ∷ ys) same each = absurd (omega (arith, same))
  zip_of (x ∷ xs) [] same each = absurd (omega (arith, same))
  zip_of (x ∷ xs) (y ∷ ys) same each = (each 0 x y (omega arith), zip_of xs ys (omega (arith, same)) (λ k d e within. each (suc k) d e (omega (arith, within))))

  -- there are as many
  pub zip_long : (xs : List A) (ys : List B) → AllZip R xs ys → length ys ≡ length xs
  zip_long [] [] all = refl
  zip_long [] (y ∷ ys) all = absurd all
  zip_long (x ∷ xs) [] all = absurd all
  zip_long (x ∷ xs) (y ∷ ys) all = omega (arith, zip_long xs ys all.1)

  -- what is the same of each two is the same of all
  pub zip_map : {T : Type 0} (f : A → T) (g : B → T) → ((x : A) (y : B) → R x y → g y ≡ f x) → (xs : List A) (ys : List B) → AllZip R xs ys → map g ys ≡ map f xs
  zip_map f g same [] [] all = refl
  zip_map f g same [] (y ∷ ys) all = absurd all
  zip_map f g same (x ∷ xs) [] all = absurd all
  zip_map {T} f g same (x ∷ xs) (y ∷ ys) all = ap (λ (t : T). t ∷ map g ys) (same x y all.0) ∙ ap (λ (l : List T). f x ∷ l) (zip_map f g same xs ys all.1)

  -- and what holds of each second holds of all
  pub zip_all : (P : B → Type 0) → ((x : A) (y : B) → R x y → P y) → (xs : List A) (ys : List B) → AllZip R xs ys → All P ys
  zip_all P says [] ys all k d within = by ys all within
    where
      by : (ys : List B) → AllZip R [] ys → k < length ys → P (get_or ys k d)
      by [] all within = absurd (omega (arith, within))
      by (y ∷ ys) all within = absurd all
  zip_all P says (x ∷ xs) [] all k d within = absurd all
  zip_all P says (x ∷ xs) (y ∷ ys) all zero d within = says x y all.0
  zip_all P says (x ∷ xs) (y ∷ ys) all (suc k) d within = zip_all P says xs ys all.1 k d (omega (arith, within))
