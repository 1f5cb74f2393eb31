use Rattle.std.proofs.Common.{◌≡◌, ℕ, zero, suc, [], ◌∷◌, ◌+◌, ◌<◌, List, length, arith, sym, refl, ap, ◌∙◌}
use mathlib.Core.Logic.{dite}
use mathlib.Core.Option.{some, some-injective, some-ne-none}
use native.Mathlib.Decide.{ℕ_discrete}
use lib.ListN.{get_elem?}
use Rattle.atomic_table.proofs.Lists.{at_index}
use Rattle.jb_page.specs.Pagers.{PagerView}
use Rattle.jb_page.specs.Closing.{HasNumber}
use Rattle.jb_page.proofs.closing.has_number.Goals as goal

further : (ps : List PagerView) (i number : ℕ) (s : PagerView) → get_elem? ps i ≡ some s → (s.number ≡ number → ⊥) → ((k : ℕ) (t : PagerView) → k < i → get_elem? ps k ≡ some t → t.number ≡ number → ⊥)
    → (k : ℕ) (t : PagerView) → k < i + 1 → get_elem? ps k ≡ some t → t.number ≡ number → ⊥
further ps i number s at other before k t lt at' is = dite (ℕ_discrete k i)
    (λ e. other (ap (λ (z : PagerView). z.number) (some-injective s t (sym at ∙ (ap (get_elem? ps) (sym e) ∙ at'))) ∙ is)) (λ ne. before k t (omega arith) at' is)

pub loop-pager-preserved : goal.loop-pager-preserved
loop-pager-preserved c = further c.args.pagers.now c.loop-pager.pager-index c.args.number c.pager-item.result (at_index c.args.pagers.now c.loop-pager.pager-index c.pager-item.result c.loop-pager-test.true c.pager-item.is) (λ is. c.if-pager-number.false (ap (λ (p : PagerView). p.number) c.pager.view_is ∙ is)) c.loop-pager.invariant

at_less : (l : List PagerView) (i : ℕ) (a : PagerView) → get_elem? l i ≡ some a → i < length l
at_less [] i a e = absurd (some-ne-none a (sym e))
at_less (x ∷ xs) zero a e = omega arith
at_less (x ∷ xs) (suc i) a e = let h = at_less xs i a e in omega arith

nowhere : (ps : List PagerView) (i number : ℕ) → length ps ≡ i → ((k : ℕ) (t : PagerView) → k < i → get_elem? ps k ≡ some t → t.number ≡ number → ⊥) → HasNumber ps number → ⊥
nowhere ps i number long none_ h = let low = at_less ps h.1.0 h.0 h.1.1 in none_ h.1.0 h.0 (omega arith) h.1.1 h.2

pub returns-then-pager-number : goal.returns-then-pager-number
returns-then-pager-number c = ((λ _. (c.pager-item.result, (c.loop-pager.pager-index, at_index c.args.pagers.now c.loop-pager.pager-index c.pager-item.result c.loop-pager-test.true c.pager-item.is), sym (ap (λ (p : PagerView). p.number) c.pager.view_is) ∙ c.if-pager-number.true)), λ _. refl)

pub returns : goal.returns
returns c = let a = c.loop-pager-test.false in let b = c.loop-pager.auto.pager-index-end in ((λ e. absurd (cc (e))), λ h. absurd (nowhere c.args.pagers.now c.loop-pager.pager-index c.args.number (omega arith) c.loop-pager.invariant h))
