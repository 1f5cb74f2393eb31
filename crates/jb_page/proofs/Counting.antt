-- Lists with the same pages of each sender are as long.
use Rattle.std.proofs.Common.{◌≡◌, ◌≢◌, ◌⊎◌, ℕ, zero, suc, ◌+◌, List, [], ◌∷◌, length, sym, refl, ap, ◌∙◌, subst, ⊎_elim, inl, inr, arith, cond, eq-eqb, ne_eqb}
use Rattle.std.specs.Prelude.{◌==◌}
use mathlib.Core.Option.{some-injective}
use mathlib.Core.Logic.{dite}
use native.Mathlib.Decide.{ℕ_discrete}
use Rattle.jb_page.specs.declared.page.Page.{Page}
use Rattle.jb_page.specs.Rows.{Has, pages_of, FitsAll}
use Rattle.jb_page.proofs.Keeps.{none_has}

here : (x : Page) (n : ℕ) (xs : List Page) → x.from ≡ n → pages_of n (x ∷ xs) ≡ x ∷ pages_of n xs
here x n xs e = rw (eq-eqb x.from n e) refl

there : (x : Page) (n : ℕ) (xs : List Page) → x.from ≢ n → pages_of n (x ∷ xs) ≡ pages_of n xs
there x n xs e = rw (ne_eqb x.from n e) refl

-- the list without the first page of the sender
abbrev without : ℕ → List Page → List Page
without n [] = []
without n (x ∷ xs) = cond (x.from == n) xs (x ∷ without n xs)

without_here : (x : Page) (n : ℕ) (xs : List Page) → x.from ≡ n → without n (x ∷ xs) ≡ xs
without_here x n xs e = rw (eq-eqb x.from n e) refl

without_there : (x : Page) (n : ℕ) (xs : List Page) → x.from ≢ n → without n (x ∷ xs) ≡ x ∷ without n xs
without_there x n xs e = rw (ne_eqb x.from n e) refl

abbrev first_of : List Page → Page → Page
first_of [] p = p
first_of (x ∷ xs) p = x

abbrev rest_of : List Page → List Page
rest_of [] = []
rest_of (x ∷ xs) = xs

shorter : (n : ℕ) (ys : List Page) (y : Page) (t : List Page) → pages_of n ys ≡ y ∷ t → length ys ≡ length (without n ys) + 1
shorter n [] y t e = absurd (cc e)
shorter n (x ∷ xs) y t e = dite (ℕ_discrete x.from n)
    (λ is. let w = ap length (without_here x n xs is) in omega (arith, w))
    (λ ne. let w = ap length (without_there x n xs ne) in let r = shorter n xs y t (sym (there x n xs ne) ∙ e) in omega (arith, w, r))

same_others : (n m : ℕ) (ys : List Page) → m ≢ n → pages_of m (without n ys) ≡ pages_of m ys
same_others n m [] ne = refl
same_others n m (x ∷ xs) ne = dite (ℕ_discrete x.from n)
    (λ is. ap (pages_of m) (without_here x n xs is) ∙ sym (there x m xs (λ e. ne (sym e ∙ is))))
    (λ other. ap (pages_of m) (without_there x n xs other) ∙ dite (ℕ_discrete x.from m)
    (λ e. here x m (without n xs) e ∙ (ap (λ l. x ∷ l) (same_others n m xs ne) ∙ sym (here x m xs e)))
    (λ e. there x m (without n xs) e ∙ (same_others n m xs ne ∙ sym (there x m xs e))))

same_mine : (n : ℕ) (ys : List Page) → pages_of n (without n ys) ≡ rest_of (pages_of n ys)
same_mine n [] = refl
same_mine n (x ∷ xs) = dite (ℕ_discrete x.from n)
    (λ is. ap (pages_of n) (without_here x n xs is) ∙ ap rest_of (sym (here x n xs is)))
    (λ ne. ap (pages_of n) (without_there x n xs ne) ∙ (there x n (without n xs) ne ∙ (same_mine n xs ∙ ap rest_of (sym (there x n xs ne)))))

abbrev Same : List Page → List Page → Type 0
Same xs ys = (n : ℕ) → pages_of n xs ≡ pages_of n ys

pub as_long : (xs ys : List Page) → Same xs ys → length xs ≡ length ys
as_long [] [] same = refl
as_long [] (y ∷ ys) same = let e : [] ≡ y ∷ pages_of y.from ys = same y.from ∙ here y y.from ys refl in absurd (cc e)
as_long (x ∷ xs) ys same =
    let e : pages_of x.from ys ≡ x ∷ pages_of x.from xs = sym (same x.from) ∙ here x x.from xs refl in
    let less : Same xs (without x.from ys) = λ m. dite (ℕ_discrete m x.from)
    (λ is. subst (λ (k : ℕ). pages_of k xs ≡ pages_of k (without x.from ys)) (sym is) (rests x xs ys e))
    (λ ne. sym (there x m xs (λ h. ne (sym h))) ∙ (same m ∙ sym (same_others x.from m ys ne))) in
    let one = shorter x.from ys x (pages_of x.from xs) e in let rec = as_long xs (without x.from ys) less in omega (arith, one, rec)
  where
    rests : (x : Page) (xs ys : List Page) → pages_of x.from ys ≡ x ∷ pages_of x.from xs → pages_of x.from xs ≡ pages_of x.from (without x.from ys)
    rests x xs ys e = ap rest_of (sym e) ∙ sym (same_mine x.from ys)

-- whether a number is among the senders
found : (all : List (ℕ × List Page)) (n : ℕ) → ((s : ℕ × List Page) × Has all s × (s.0 ≡ n)) ⊎ ((s : ℕ × List Page) → Has all s → s.0 ≢ n)
found [] n = inr (λ s h. absurd (none_has s h))
found (a ∷ all) n = dite (ℕ_discrete a.0 n) (λ is. inl (a, (0, refl), is))
    (λ ne. ⊎_elim (λ (t : (s : ℕ × List Page) × Has all s × (s.0 ≡ n)). inl (t.0, (suc t.1.0, t.1.1), t.2)) (λ (none : (s : ℕ × List Page) → Has all s → s.0 ≢ n). inr (λ s h. others s h ne none)) (found all n))
  where
    others : (s : ℕ × List Page) → Has (a ∷ all) s → a.0 ≢ n → ((z : ℕ × List Page) → Has all z → z.0 ≢ n) → s.0 ≢ n
    others s (zero, e) ne none = subst (λ (z : ℕ × List Page). z.0 ≢ n) (some-injective a s e) ne
    others s (suc k, e) ne none = none s (k, e)

-- two lists that fit are as long
pub fit_alike : (all : List (ℕ × List Page)) (xs ys : List Page) → FitsAll all xs → FitsAll all ys → length xs ≡ length ys
fit_alike all xs ys f h = as_long xs ys (λ n. ⊎_elim (λ (t : (s : ℕ × List Page) × Has all s × (s.0 ≡ n)). subst (λ (k : ℕ). pages_of k xs ≡ pages_of k ys) t.2 (f.0 t.0 t.1 ∙ sym (h.0 t.0 t.1)))
    (λ (none : (s : ℕ × List Page) → Has all s → s.0 ≢ n). f.1 n none ∙ sym (h.1 n none)) (found all n))
