-- Lists read by two words, rows of seats, and the list that a `Vec` leaves as it is popped.
use Rattle.std.proofs.Common.{◌≡◌, ◌⊎◌, ℕ, zero, suc, ◌+◌, ◌<◌, List, [], ◌∷◌, ◌++◌, map, reverse, length, sym, refl, ap, ◌∙◌, subst, ⊎_elim, inl, inr, arith, Option, Some}
use Rattle.std.specs.Prelude.{slice_get}
use mathlib.Core.Option.{some, some-injective}
use lib.ListN.{get_elem?}
use Rattle.std.proofs.lemmas.List.{reverse-append}
use Rattle.atomic_table.proofs.Lists.{at_map}
use Rattle.atomic_table.specs.declared.shared.Seat.{Seat}
use Rattle.jb_turn.specs.declared.view.View.{View}
use Rattle.jb_turn.specs.declared.view.TicketStage.TheVariants.{Idle}
use Rattle.jb_turn.specs.Rows.{Has, row, view_of, head_row}
use Rattle.jb_turn.proofs.Histories.{has_left, has_right, has_either, none_has}

reverse_front : {A : Type 0} (xs : List A) (a : A) → reverse xs ++ a ∷ [] ≡ reverse (a ∷ xs)
reverse_front xs a = sym (reverse-append (a ∷ []) xs)

module _ {A : Type 0} where
  -- what stands in a list with one element more is old or the new one
  pub get_end : (l : List A) (a b : A) (j : ℕ) → slice_get (l ++ a ∷ []) j ≡ Some b → (slice_get l j ≡ Some b) ⊎ ((j ≡ length l) × (a ≡ b))
  get_end [] a b zero e = let same : a ≡ b = cc (e) in inr (refl, same)
  get_end [] a b (suc j) e = absurd (cc (e))
  get_end (x ∷ xs) a b zero e = inl e
  get_end (x ∷ xs) a b (suc j) e = ⊎_elim (λ h. inl h) (λ h. inr (ap suc h.0, h.1)) (get_end xs a b j e)

  -- what stands in a list stands in its reverse
  pub has_reverse : (xs : List A) (a : A) → Has xs a → Has (reverse xs) a
  has_reverse [] a h = absurd (none_has a h)
  has_reverse (x ∷ xs) a (zero, e) = subst (λ (l : List A). Has l a) (sym (reverse-append (x ∷ []) xs)) (has_right (reverse xs) (x ∷ []) a (zero, e))
  has_reverse (x ∷ xs) a (suc k, e) = subst (λ (l : List A). Has l a) (sym (reverse-append (x ∷ []) xs)) (has_left (reverse xs) (x ∷ []) a (has_reverse xs a (k, e)))

  -- what stands in the reverse stands in the list
  pub has_reversed : (xs : List A) (a : A) → Has (reverse xs) a → Has xs a
  has_reversed [] a h = h
  has_reversed (x ∷ xs) a h = ⊎_elim (λ (t : Has (reverse xs) a). let r = has_reversed xs a t in (suc r.0, r.1)) (λ (t : Has (x ∷ []) a). has_left (x ∷ []) xs a t)
      (has_either (reverse xs) (x ∷ []) a (subst (λ (l : List A). Has l a) (reverse-append (x ∷ []) xs) h))

  -- what stands in the image of a list is the image of an element
  pub has_map : {B : Type 0} (f : A → B) (xs : List A) (b : B) → Has (map f xs) b → (k : ℕ) × (a : A) × (k < length xs) × (get_elem? xs k ≡ some a) × (f a ≡ b)
  has_map f [] b h = absurd (none_has b h)
  has_map {B} f (x ∷ xs) b (zero, e) = (zero, x, omega arith, refl, some-injective (f x) b e)
  has_map f (x ∷ xs) b (suc k, e) = let r = has_map f xs b (k, e) in let l = r.2 in (suc r.0, r.1, omega arith, r.3, r.4)

  -- the image of an element stands in the image of the list
  pub map_has : {B : Type 0} (f : A → B) (xs : List A) (k : ℕ) (a : A) → get_elem? xs k ≡ some a → Has (map f xs) (f a)
  map_has f xs k a e = (k, at_map f xs k a e)

  -- what holds of each element and of one more
  pub each_end : (P : ℕ → A → Type 0) (xs : List A) (a : A) → ((k : ℕ) (s : A) → slice_get xs k ≡ Some s → P k s) → P (length xs) a → (k : ℕ) (s : A) → slice_get (xs ++ a ∷ []) k ≡ Some s → P k s
  each_end P xs a all last k s e = ⊎_elim (all k s) (λ (t : (k ≡ length xs) × (a ≡ s)). subst (λ (z : ℕ × A). P z.0 z.1) (λ i. (sym t.0 i, t.1 i)) last) (get_end xs a s k e)

  -- the rows of those taken in, one seat later
  pub rows_joined : {B : Type 0} (f : A → B) (rest : List A) (seat : A) (v u w : List B) → w ≡ v ++ u → v ≡ reverse (map f rest) → u ≡ f seat ∷ [] → w ≡ reverse (map f (seat ∷ rest))
  rows_joined f rest seat v u w joined is one = joined ∙ (ap (λ l. l ++ u) is ∙ (ap (λ l. reverse (map f rest) ++ l) one ∙ reverse_front (map f rest) (f seat)))

  none_left : (xs : List A) → length xs ≡ 0 → xs ≡ []
  none_left [] e = refl
  none_left (x ∷ xs) e = absurd (omega arith)

  -- once no seat is left, all were taken in
  pub rows_left : {B : Type 0} (f : A → B) (items xs rest : List A) (v : List B) → items ≡ xs ++ rest → length xs ≡ 0 → v ≡ reverse (map f rest) → v ≡ reverse (map f items)
  rows_left f items xs rest v all none is = is ∙ ap (λ l. reverse (map f l)) (sym (all ∙ ap (λ l. l ++ rest) (none_left xs none)))

  -- options that are equal have equal values
  pub same_some : (x y : A) → Some x ≡ Some y → x ≡ y
  same_some x y e = cc (e)

module _ {S O E Q : Type 0} where
  -- a seat that was just made, read off what its place in the table knows
  pub is_new : (first : O) (k n made : ℕ) (p : Seat (Option S) (View O E Q)) → p.me ≡ (view_of Idle (row n (Some first) [] [] [] ∷ []) made, []) → k + 1 ≡ n
      → ((head_row p.me.0.rows).node ≡ k + 1) × ((head_row p.me.0.rows).opening ≡ Some first) × ((head_row p.me.0.rows).front ≡ []) × ((head_row p.me.0.rows).mine ≡ []) × ((head_row p.me.0.rows).remarks ≡ [])
  is_new first k n made p q is = (ap (λ m. (head_row m.0.rows).node) q ∙ sym is, ap (λ m. (head_row m.0.rows).opening) q, ap (λ m. (head_row m.0.rows).front) q, ap (λ m. (head_row m.0.rows).mine) q, ap (λ m. (head_row m.0.rows).remarks) q)
