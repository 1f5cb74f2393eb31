-- Lemmas on histories, rows and views.
use Rattle.std.proofs.Common.{◌≡◌, ◌≢◌, ◌⊎◌, ℕ, zero, suc, ◌+◌, ◌<◌, ◌≤◌, false, List, [], ◌∷◌, ◌++◌, length, set, sym, refl, ap, ◌∙◌, subst, ⊎_elim, inl, inr, arith, append_assoc, Option}
use Rattle.std.proofs.lemmas.List.{append-nil}
use mathlib.Core.Option.{some, some-injective, some-ne-none}
use native.Mathlib.Decide.{ℕ_discrete}
use lib.ListN.{get_elem?}
use Rattle.atomic_table.proofs.Lists.{set_here, set_else, at_longer}
use Rattle.jb_turn.specs.declared.view.Row.{Row}
use Rattle.jb_turn.specs.declared.view.View.{View}
use Rattle.jb_turn.specs.declared.view.TicketStage.{TicketStage}
use Rattle.jb_turn.specs.declared.view.TicketStage.TheVariants.{Idle, Waits, Came}
use Rattle.jb_turn.specs.Rows.{Begins, Has, calls, is_at, when}
use Rattle.jb_turn.specs.Rule.{weight, waiting, HasTicket, IsDrawn, IsLongest, IsStateOut}

abbrev pick : {P : Type 0} → Dec P → ℕ → ℕ → ℕ
pick (yes _) a b = a
pick (no _) a b = b

-- the function with another value at one place
pub put : (ℕ → ℕ) → ℕ → ℕ → ℕ → ℕ
put f i c j = pick (ℕ_discrete j i) c (f j)

-- at that place stands the new value
pub put_here : (f : ℕ → ℕ) (i c : ℕ) → put f i c i ≡ c
unfolding put
put_here f i c = go (ℕ_discrete i i)
  where
    go : (d : Dec (i ≡ i)) → pick d c (f i) ≡ c
    go (yes _) = refl
    go (no n) = absurd (n refl)

-- at every other place stands the old value
pub put_else : (f : ℕ → ℕ) (i c j : ℕ) → j ≢ i → put f i c j ≡ f j
unfolding put
put_else f i c j other = go (ℕ_discrete j i)
  where
    go : (d : Dec (j ≡ i)) → pick d c (f j) ≡ f j
    go (yes e) = absurd (other e)
    go (no _) = refl

-- what was x's is y's
pub passed : (ℕ → ℕ) → ℕ → ℕ → ℕ → ℕ
passed f x y j = pick (ℕ_discrete (f j) x) y (f j)

-- what was x's went to y
pub passed_on : (f : ℕ → ℕ) (x y j : ℕ) → f j ≡ x → passed f x y j ≡ y
unfolding passed
passed_on f x y j is = go (ℕ_discrete (f j) x)
  where
    go : (d : Dec (f j ≡ x)) → pick d y (f j) ≡ y
    go (yes e) = refl
    go (no n) = absurd (n is)

-- what was another's stays
pub passed_not : (f : ℕ → ℕ) (x y j : ℕ) → f j ≢ x → passed f x y j ≡ f j
unfolding passed
passed_not f x y j other = go (ℕ_discrete (f j) x)
  where
    go : (d : Dec (f j ≡ x)) → pick d y (f j) ≡ f j
    go (yes e) = absurd (other e)
    go (no _) = refl

module _ {A : Type 0} where
  -- each list begins itself
  pub begins_self : (xs : List A) → Begins xs xs
  begins_self xs = ([], sym (append-nil xs))

  -- a list that grows still begins so
  pub begins_longer : (xs log more : List A) → Begins xs log → Begins xs (log ++ more)
  begins_longer xs log more b = (b.0 ++ more, ap (λ w. w ++ more) b.1 ∙ append_assoc xs b.0 more)

  -- in a list of one element stands that element
  pub only_has : (x y : A) → Has (x ∷ []) y → x ≡ y
  only_has x y (zero, e) = some-injective x y e
  only_has x y (suc k, e) = absurd (some-ne-none y (sym e))

  -- in an empty list stands nothing
  pub none_has : (y : A) → Has [] y → ⊥
  none_has y (k, e) = some-ne-none y (sym e)

  -- where something stands, the list is longer
  pub at_less : (l : List A) (j : ℕ) (a : A) → get_elem? l j ≡ some a → j < length l
  at_less [] j a e = absurd (some-ne-none a (sym e))
  at_less (x ∷ xs) zero a e = omega arith
  at_less (x ∷ xs) (suc j) a e = let h = at_less xs j a e in omega arith

  -- what stands in a list with one element more is old or the new one
  pub at_end : (l : List A) (a b : A) (j : ℕ) → get_elem? (l ++ a ∷ []) j ≡ some b → (get_elem? l j ≡ some b) ⊎ ((j ≡ length l) × (a ≡ b))
  at_end [] a b zero e = inr (refl, some-injective a b e)
  at_end [] a b (suc j) e = absurd (some-ne-none b (sym e))
  at_end (x ∷ xs) a b zero e = inl e
  at_end (x ∷ xs) a b (suc j) e = ⊎_elim (λ h. inl h) (λ h. inr (ap suc h.0, h.1)) (at_end xs a b j e)

  -- what stands in the first list stands in both together
  pub has_left : (xs ys : List A) (a : A) → Has xs a → Has (xs ++ ys) a
  has_left xs ys a h = (h.0, at_longer xs ys h.0 a h.1)

  -- what stands in the second list stands in both together
  pub has_right : (xs ys : List A) (a : A) → Has ys a → Has (xs ++ ys) a
  has_right [] ys a h = h
  has_right (x ∷ xs) ys a h = let t = has_right xs ys a h in (suc t.0, t.1)

  -- what stands in both together stands in one of them
  pub has_either : (xs ys : List A) (a : A) → Has (xs ++ ys) a → Has xs a ⊎ Has ys a
  has_either [] ys a h = inr h
  has_either (x ∷ xs) ys a (zero, e) = inl (zero, e)
  has_either (x ∷ xs) ys a (suc k, e) = ⊎_elim (λ (t : Has xs a). inl (suc t.0, t.1)) (λ t. inr t) (has_either xs ys a (k, e))

module _ {E : Type 0} (caller : E → Option ℕ) where
  -- the calls in two parts of a history are the calls of each
  pub calls_append : (n : ℕ) (xs ys : List E) → calls caller n (xs ++ ys) ≡ calls caller n xs ++ calls caller n ys
  calls_append n [] ys = refl
  calls_append n (x ∷ xs) ys = ap (λ w. when (is_at n (caller x)) x ++ w) (calls_append n xs ys) ∙ sym (append_assoc (when (is_at n (caller x)) x) (calls caller n xs) (calls caller n ys))

  -- one entry more is one call more where it is the node's
  pub calls_snoc : (n : ℕ) (xs : List E) (e : E) → calls caller n (xs ++ e ∷ []) ≡ calls caller n xs ++ when (is_at n (caller e)) e
  calls_snoc n xs e = calls_append n xs (e ∷ []) ∙ ap (λ w. calls caller n xs ++ w) (append-nil (when (is_at n (caller e)) e))

  -- an entry that is not the node's adds no call of it
  pub calls_other : (n : ℕ) (xs : List E) (e : E) → is_at n (caller e) ≡ false → calls caller n (xs ++ e ∷ []) ≡ calls caller n xs
  calls_other n xs e not = calls_snoc n xs e ∙ (ap (λ b. calls caller n xs ++ when b e) not ∙ append-nil (calls caller n xs))

  no_more : (xs ys : List E) → xs ++ ys ≡ [] → xs ≡ []
  no_more [] ys e = refl
  no_more (x ∷ xs) ys e = absurd (cc (e))

  -- where the history has no call of a node, no prefix of it has one
  pub calls_none : (n : ℕ) (xs log : List E) → Begins xs log → calls caller n log ≡ [] → calls caller n xs ≡ []
  calls_none n xs log b none = no_more (calls caller n xs) (calls caller n b.0) (sym (calls_append n xs b.0) ∙ (ap (calls caller n) (sym b.1) ∙ none))

-- a seat has at most one ticket
pub weight_most : (s : TicketStage) → weight s ≤ 1
weight_most Idle = omega arith
weight_most (Waits t) = omega arith
weight_most (Came t) = omega arith

module _ {O E Q : Type 0} where
  -- a change of one view changes the number of those that wait by its own
  pub waiting_set : (l : List (View O E Q)) (i : ℕ) (v w : View O E Q) → get_elem? l i ≡ some v → waiting (set l i w) + weight v.stage ≡ waiting l + weight w.stage
  waiting_set [] i v w e = absurd (some-ne-none v (sym e))
  waiting_set (x ∷ xs) zero v w e = let is : weight x.stage ≡ weight v.stage = ap (λ (m : View O E Q). weight m.stage) (some-injective x v e) in omega arith
  waiting_set (x ∷ xs) (suc i) v w e = let r = waiting_set xs i v w e in omega arith

  -- one view more adds its own ticket
  pub waiting_snoc : (l : List (View O E Q)) (v : View O E Q) → waiting (l ++ v ∷ []) ≡ waiting l + weight v.stage
  waiting_snoc [] v = omega arith
  waiting_snoc (x ∷ xs) v = let r = waiting_snoc xs v in omega arith

  -- no more views wait than there are
  pub waiting_most : (l : List (View O E Q)) → waiting l ≤ length l
  waiting_most [] = omega arith
  waiting_most (x ∷ xs) = let r = waiting_most xs in let w = weight_most x.stage in omega arith

  -- at the same place stands the same view
  pub same_at : (l : List (View O E Q)) (i j : ℕ) (v w : View O E Q) → get_elem? l i ≡ some v → get_elem? l j ≡ some w → j ≡ i → v ≡ w
  same_at l i j v w a b e = some-injective v w (sym a ∙ (ap (get_elem? l) (sym e) ∙ b))

  -- a view that keeps its rows keeps the longest front among the views
  pub longest_set : (log : List E) (views : List (View O E Q)) (id : ℕ) (v w : View O E Q) → get_elem? views id ≡ some v → ((r : Row O E Q) → Has v.rows r → Has w.rows r) → IsLongest log views
      → IsLongest log (set views id w)
  longest_set log views id v w at keeps (j, u, r, there, has, is) = go (ℕ_discrete j id)
    where
      go : Dec (j ≡ id) → IsLongest log (set views id w)
      go (yes e) = (id, w, r, set_here views id w (at_less views id v at), keeps r (subst (λ (z : View O E Q). Has z.rows r) (sym (same_at views id j v u at there e)) has), is)
      go (no n) = (j, u, r, set_else views id j w n ∙ there, has, is)

  -- a view that stays as it is served keeps the state out
  pub out_set : (serving : ℕ) (views : List (View O E Q)) (id : ℕ) (v w : View O E Q) → get_elem? views id ≡ some v → (v.stage ≡ Came serving → w.stage ≡ Came serving) → IsStateOut serving views → IsStateOut serving (set views id w)
  out_set serving views id v w at keeps (j, u, there, is) = go (ℕ_discrete j id)
    where
      go : Dec (j ≡ id) → IsStateOut serving (set views id w)
      go (yes e) = (id, w, set_here views id w (at_less views id v at), keeps (ap (λ (z : View O E Q). z.stage) (same_at views id j v u at there e) ∙ is))
      go (no n) = (j, u, set_else views id j w n ∙ there, is)

  -- a change of one view keeps each ticket that the view keeps
  pub drawn_set : (whose : ℕ → ℕ) (views : List (View O E Q)) (id : ℕ) (v w : View O E Q) → get_elem? views id ≡ some v → (t : ℕ) → (HasTicket t v.stage → HasTicket t w.stage) → IsDrawn whose views t → IsDrawn whose (set views id w) t
  drawn_set whose views id v w at t keeps (u, there, has) = go (ℕ_discrete (whose t) id)
    where
      go : Dec (whose t ≡ id) → IsDrawn whose (set views id w) t
      go (yes e) = (w, ap (get_elem? (set views id w)) e ∙ set_here views id w (at_less views id v at), keeps (subst (λ (z : View O E Q). HasTicket t z.stage) (sym (same_at views id (whose t) v u at there e)) has))
      go (no n) = (u, set_else views id (whose t) w n ∙ there, has)

  -- a seat more keeps each ticket
  pub drawn_longer : (whose : ℕ → ℕ) (views more : List (View O E Q)) (t : ℕ) → IsDrawn whose views t → IsDrawn whose (views ++ more) t
  drawn_longer whose views more t (u, there, has) = (u, at_longer views more (whose t) u there, has)

  -- the next ticket is with the seat that drew it, and each other with the seat that had it
  pub drawn_next : (whose : ℕ → ℕ) (views : List (View O E Q)) (id next : ℕ) (w : View O E Q) → get_elem? views id ≡ some w → HasTicket next w.stage → (t : ℕ) → (t ≢ next → IsDrawn whose views t) → IsDrawn (put whose next id) views t
  drawn_next whose views id next w at has t others = go (ℕ_discrete t next)
    where
      go : Dec (t ≡ next) → IsDrawn (put whose next id) views t
      go (yes e) = subst (IsDrawn (put whose next id) views) (sym e) (w, ap (get_elem? views) (put_here whose next id) ∙ at, has)
      go (no n) = let o = others n in (o.0, ap (get_elem? views) (put_else whose next id t n) ∙ o.1, o.2)
