-- Each step keeps the rule of the published copies.
use Rattle.std.proofs.Common.{◌≡◌, ◌≢◌, ◌⊎◌, ℕ, ◌<◌, ◌≤◌, Bool, true, false, List, [], ◌∷◌, ◌++◌, set, sym, refl, ap, ◌∙◌, subst, ⊎_elim, inl, inr, arith, Option, Some, None}
use Rattle.std.specs.Prelude.{is_some}
use Rattle.std.proofs.lemmas.Bool.{cases_order}
use mathlib.Core.Option.{some}
use lib.ListN.{get_elem?}
use Rattle.left_right.specs.Register.{Admits, TurnsAt, Turns, Forks, Merges}
use Rattle.atomic_table.proofs.Lists.{at_set, at_snoc, set_else}
use Rattle.jb_publish.specs.declared.known.PairMark.{PairMark}
use Rattle.jb_publish.specs.declared.known.Known.{Known}
use Rattle.jb_publish.specs.declared.edition.Edition.{Edition}
use Rattle.jb_publish.specs.declared.front.Front.{Front}
use Rattle.jb_publish.specs.Editions.{edition}
use Rattle.jb_publish.specs.Marks.{ValueStandsFrom, blank, book_at, informed, known, mark_with, note_of, opening_at}
use Rattle.jb_publish.specs.Shows.{Binds, Each, FitsMark, IsFree, IsOfPair, LooksInto, ShowsReaders, ShowsOnce}

le_or_lt : (a b : ℕ) → (a ≤ b) ⊎ (b < a)
le_or_lt a b = ⊎_elim (λ (e : a ≡ b). inl (omega (arith, e))) (λ (t : (a < b) ⊎ (b < a)). ⊎_elim (λ (l : a < b). inl (omega arith)) (λ (l : b < a). inr l) t) (cases_order a b)

module _ {O : Type 0} where
  set_each : (P : Known O → Type 0) (views : List (Known O)) (id : ℕ) (w : Known O) → P w → Each P views → Each P (set views id w)
  set_each P views id w mine all j v e = ⊎_elim (λ (t : (j ≡ id) × (w ≡ v)). subst P t.1 mine) (λ (t : (j ≢ id) × (get_elem? views j ≡ some v)). all j v t.1) (at_set views id j w v e)

  snoc_each : (P : Known O → Type 0) (views : List (Known O)) (w : Known O) → P w → Each P views → Each P (views ++ w ∷ [])
  snoc_each P views w mine all j v e = ⊎_elim (all j v) (λ (same : w ≡ v). subst P same mine) (at_snoc views w v j e)

  none_each : (P : Known O → Type 0) → Each P []
  none_each P j v e = absurd (cc (e))

  -- an end that knows a mark is not free
  free_bound : (o : Option (PairMark O)) → o ≡ None → is_some o ≡ true → ⊥
  free_bound None e b = absurd (cc (b))
  free_bound (Some m) e b = absurd (cc (e))

  -- it knows the one mark
  has_mark : (m : PairMark O) (o : Option (PairMark O)) → (o ≡ None) ⊎ (o ≡ Some m) → is_some o ≡ true → o ≡ Some m
  has_mark m o fits b = ⊎_elim (λ (e : o ≡ None). absurd (free_bound o e b)) (λ (e : o ≡ Some m). e) fits

module _ {T O E : Type 0} (stands : T → O → List E → Type 0) where
  admits_once : (b : Bool) (x : Edition T E) (views : List (Known O)) → ShowsOnce stands b x views → ShowsOnce stands b x (views ++ blank ∷ [])
  admits_once true x views h = (h.0, h.1, snoc_each (FitsMark h.0) views blank (inl refl) h.2)
  admits_once false x views h = snoc_each IsFree views blank refl h

  pub admits : Admits (ShowsReaders stands) blank
  admits x views h = admits_once x.begun x views h

  pub starts : (x : Edition T E) → x.begun ≡ false → ShowsReaders stands x (blank ∷ [])
  starts x fresh = subst (λ (b : Bool). ShowsOnce stands b x (blank ∷ [])) (sym fresh) (snoc_each IsFree [] blank refl (none_each IsFree))

  -- what the rule says of an end that knows a mark
  one_of : (b : Bool) (x : Edition T E) (views : List (Known O)) (id : ℕ) (v : Known O) → ShowsOnce stands b x views → get_elem? views id ≡ some v → is_some v.mark ≡ true → IsOfPair stands v.mark x
  one_of true x views id v h at bound = subst (λ (o : Option (PairMark O)). IsOfPair stands o x) (sym (has_mark h.0 v.mark (h.2 id v at) bound)) h.1
  one_of false x views id v h at bound = absurd (free_bound v.mark (h id v at) bound)

  -- an end that knows the same mark as before changes nothing
  same_once : (b : Bool) (x : Edition T E) (views : List (Known O)) (id : ℕ) (v : Known O) (looks : List ℕ) → ShowsOnce stands b x views → get_elem? views id ≡ some v → ShowsOnce stands b x (set views id (known v.mark looks))
  same_once true x views id v looks h at = (h.0, h.1, set_each (FitsMark h.0) views id (known v.mark looks) (h.2 id v at) h.2)
  same_once false x views id v looks h at = set_each IsFree views id (known v.mark looks) (h id v at) h

  pub looks : (least id : ℕ) (v : Known O) → Turns (ShowsReaders stands) id v (λ x. x) (LooksInto stands least)
  looks least id v x views h at = let of = one_of x.begun x views id v h at in
      ⊎_elim (λ (le : least ≤ x.front.count). (known v.mark (v.looks ++ x.front.count ∷ []), same_once x.begun x views id v (v.looks ++ x.front.count ∷ []) h at, (of, (λ _. refl), λ (lt : x.front.count < least). absurd (omega arith))))
      (λ (lt : x.front.count < least). (v, same_once x.begun x views id v v.looks h at, (of, (λ (le : least ≤ x.front.count). absurd (omega arith)), λ _. refl)))
      (le_or_lt least x.front.count)

  pub binds : (opening : Option O) (id : ℕ) (v : Known O) (x next : Edition T E) → ValueStandsFrom stands opening next.value next.front.seen.log → x.begun ≡ false → next.begun ≡ true → TurnsAt (ShowsReaders stands) id v x next (Binds opening)
  binds None id v x next from fresh begun views h at = absurd from
  binds (Some o) id v x next from fresh begun views h at =
      let m : PairMark O = mark_with next.front.seen.book o in
      let w : Known O = known (Some m) [] in
      let free : Each IsFree views = subst (λ (b : Bool). ShowsOnce stands b x views) fresh h in
      let now : ShowsOnce stands true next (set views id w) = (m, (refl, from), set_each (FitsMark m) views id w (inr refl) (λ j u e. inl (free j u e))) in
      (w, subst (λ (b : Bool). ShowsOnce stands b next (set views id w)) (sym begun) now, (refl, refl, refl, refl))

  publishes_once : (b : Bool) (id : ℕ) (v : Known O) (x next : Edition T E) (views : List (Known O)) → is_some v.mark ≡ true → next.begun ≡ true → IsOfPair stands v.mark next
      → ShowsOnce stands b x views → get_elem? views id ≡ some v → (w : Known O) × ShowsReaders stands next (set views id w) × (w ≡ v)
  publishes_once true id v x next views bound begun is h at =
      let same : v.mark ≡ Some h.0 = has_mark h.0 v.mark (h.2 id v at) bound in
      let now : ShowsOnce stands true next (set views id v) = (h.0, subst (λ (o : Option (PairMark O)). IsOfPair stands o next) same is, set_each (FitsMark h.0) views id v (h.2 id v at) h.2) in
      (v, subst (λ (b : Bool). ShowsOnce stands b next (set views id v)) (sym begun) now, refl)
  publishes_once false id v x next views bound begun is h at = absurd (free_bound v.mark (h id v at) bound)

  pub publishes : (id : ℕ) (v : Known O) (x next : Edition T E) → is_some v.mark ≡ true → next.begun ≡ true → IsOfPair stands v.mark next → TurnsAt (ShowsReaders stands) id v x next (λ v x y w. w ≡ v)
  publishes id v x next bound begun is views h at = publishes_once x.begun id v x next views bound begun is h at

  forks_once : (b : Bool) (x : Edition T E) (views : List (Known O)) (id : ℕ) (v : Known O) → ShowsOnce stands b x views → get_elem? views id ≡ some v → ShowsOnce stands b x (set views id v ++ note_of v ∷ [])
  forks_once true x views id v h at = let mine = h.2 id v at in (h.0, h.1, snoc_each (FitsMark h.0) (set views id v) (note_of v) mine (set_each (FitsMark h.0) views id v mine h.2))
  forks_once false x views id v h at = let mine = h id v at in snoc_each IsFree (set views id v) (note_of v) mine (set_each IsFree views id v mine h)

  pub forks : (id : ℕ) (v : Known O) → Forks (ShowsReaders stands) id v v (note_of v)
  forks id v x views h at = forks_once x.begun x views id v h at

  merges_once : (b : Bool) (x : Edition T E) (views : List (Known O)) (id : ℕ) (v : Known O) (other : ℕ) (w : Known O) → ShowsOnce stands b x views → get_elem? views other ≡ some w
      → ShowsOnce stands b x (set (set views id (informed v w)) other blank)
  merges_once true x views id v other w h there = (h.0, h.1, set_each (FitsMark h.0) (set views id (informed v w)) other blank (inl refl) (set_each (FitsMark h.0) views id (informed v w) (h.2 other w there) h.2))
  merges_once false x views id v other w h there = set_each IsFree (set views id (informed v w)) other blank refl (set_each IsFree views id (informed v w) (h other w there) h)

  pub merges : (id : ℕ) (v : Known O) (other : ℕ) (w : Known O) → Merges (ShowsReaders stands) id v other w (informed v w) blank
  merges id v other w x views h at apart there = merges_once x.begun x views id v other w h (sym (set_else views id other (informed v w) apart) ∙ there)

  -- a copy that is this one has begun and is of the pair
  pub of_edition : (mark : Option (PairMark O)) (next : Edition T E) (value : T) (f : Front E) → next ≡ edition value f true → f.seen.book ≡ book_at mark → ValueStandsFrom stands (opening_at mark) value f.seen.log
      → (next.begun ≡ true) × IsOfPair stands mark next
  of_edition mark next value f e book from = (
    ap (λ (x : Edition T E). x.begun) e,
    (ap (λ (x : Edition T E). x.front.seen.book) e ∙ book, subst (λ (x : Edition T E). ValueStandsFrom stands (opening_at mark) x.value x.front.seen.log) (sym e) from),
  )
