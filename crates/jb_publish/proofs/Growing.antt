-- The exchange that goes on to a longer list keeps the rule of the book.
use Rattle.std.proofs.Common.{◌≡◌, ℕ, ◌<◌, ◌==◌, Bool, true, false, List, [], ◌∷◌, ◌++◌, length, refl, ap, sym, subst, arith, inl, None, ◌∙◌}
use Rattle.std.proofs.lemmas.List.{append-nil}
use Rattle.std.proofs.lemmas.Bool.Decides.{nat_tests}
use mathlib.Core.List.{IsPrefix}
use prog.Atomic.{either}
use Rattle.logbook.specs.Pages.{Cell, cell, keeps, no_nib, step, Moves, Goes}
use Rattle.jb_publish.specs.Books.{TellsLength, Grows}
use Rattle.jb_publish.proofs.Fronts.{prefix_whole}

module _ {E : Type 0} where
  abbrev pub shown : List E → List E
  shown log = []

  abbrev pub moved : List E → List E → ℕ → Type 0
  moved xs ys n = Unit {0}

  pub grows_goes : (log v items : List E) (e : E) (old new : ℕ) → old ≡ length v → new ≡ length items → IsPrefix v items → IsPrefix v log
      → (b : Bool) → (length log == old) ≡ b
      → Goes TellsLength shown moved 0 (v, (no_nib, None)) (λ n. either (n == old) new n) (Grows items (step 0 old new e) (v, (no_nib, None))) ((length log, true) ∷ (0, true) ∷ []) log
  grows_goes log v items e old new len all more pre true is =
      let here : length log ≡ old = grind (arith, nat_tests) in
      let same : v ≡ log = prefix_whole v log pre (omega arith) in
      let whole : log ++ more.0 ≡ items = ap (λ (w : List E). w ++ more.0) (sym same) ∙ more.1 in
      let n : either (length log == old) new (length log) ≡ length (log ++ more.0) = rw is (all ∙ ap length (sym whole)) in (
        keeps,
        more.0,
        None,
        tt,
        ap (λ (k : ℕ). (k, true) ∷ (0, true) ∷ []) n,
        inl (refl, refl),
        rw is whole,
      )
  grows_goes log v items e old new len all more pre false is =
      let whole : log ++ [] ≡ log = append-nil log in
      let n : either (length log == old) new (length log) ≡ length (log ++ []) = rw is (ap length (sym whole)) in (
        keeps,
        [],
        None,
        tt,
        ap (λ (k : ℕ). (k, true) ∷ (0, true) ∷ []) n,
        inl (refl, refl),
        rw is tt,
      )

  -- whatever the book is, the exchange goes on to the list, or finds another length
  pub grows_moves : (v items : List E) (e : E) (old new : ℕ) → old ≡ length v → new ≡ length items → IsPrefix v items
      → Moves TellsLength shown moved 0 (v, (no_nib, None)) (λ n. either (n == old) new n) (Grows items (step 0 old new e) (v, (no_nib, None)))
  grows_moves v items e old new len all more cs log kept pre away =
      let P : List Cell → Type 0 = λ c. (0 < length c) × ((cell c 0).1 ≡ true) × Goes TellsLength shown moved 0 (v, (no_nib, None)) (λ n. either (n == old) new n) (Grows items (step 0 old new e) (v, (no_nib, None))) c log in
      subst P (sym kept) (omega arith, refl, grows_goes log v items e old new len all more pre (length log == old) refl)
