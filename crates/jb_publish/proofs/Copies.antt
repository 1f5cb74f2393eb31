-- The two copies, of which `left_right` knows what they have in common.
use Rattle.std.proofs.Common.{◌≡◌, ℕ, Bool, true, false, List, [], ◌∷◌, take, fold, refl, sym, ap, ◌∙◌, Some, None}
use Rattle.std.specs.Prelude.{if◌then◌else◌}
use Rattle.std.proofs.Math.Logic.{∥∥₁_map, ∥∥₁_elim}
use base.Stored.{Coded, Coded-set}
use Rattle.left_right.specs.Log.{InStep}
use Rattle.jb_publish.specs.declared.edition.Edition.{Edition}
use Rattle.jb_publish.specs.declared.front.Front.{Front}
use Rattle.jb_publish.specs.Editions.{edition, in_common}

module _ {S O : Type 0} where
  -- operations that change nothing
  abbrev pub idle : S → O → S
  idle s op = s

  pub idles : (s : S) (ops : List O) → fold idle s ops ≡ s
  idles s [] = refl
  idles s (op ∷ ops) = idles s ops

  -- copies that have the same in common are in step, whatever the log is
  pub in_step : (a b a' b' : S) (log : List O) (behind ahead : ℕ) → ∥ InStep idle a b log behind ahead ∥₁ → a' ≡ b' → ∥ InStep idle a' b' log behind ahead ∥₁
  in_step a b a' b' log behind ahead h same =
      ∥∥₁_map h (λ x. (x.0, x.1, x.2, idles b' (take behind log) ∙ (sym same ∙ sym (idles a' (take ahead log)))))

-- what a copy is once it was brought up
pub brought : {T K E : Type 0} (changed : T → K → T) (copy new : Edition T E) (spare shown : T) (given queueing lacking queued : List K) (f : Front E)
    → new ≡ edition (fold changed (fold changed copy.value given) queueing) f true → given ≡ lacking → queueing ≡ queued
    → copy.value ≡ spare → fold changed spare lacking ≡ shown → new ≡ edition (fold changed shown queued) f true
brought changed copy new spare shown given queueing lacking queued f is a b same lacks =
    is ∙ ((λ i. edition (fold changed (fold changed copy.value (a i)) (b i)) f true) ∙ ap (λ v. edition (fold changed v queued) f true) (ap (λ v. fold changed v lacking) same ∙ lacks))

module _ {T E : Type 0} where
  -- copies that have begun have nothing in common that is said
  pub begun_common : (x y : Edition T E) → x.begun ≡ true → y.begun ≡ true → in_common x ≡ in_common y
  begun_common x y a b = (λ i. if a i then None else Some x.value) ∙ (λ i. if sym b i then None else Some y.value)

  common_value : (x y : Edition T E) (b : Bool) → y.begun ≡ b → x.begun ≡ false → in_common x ≡ in_common y → y.value ≡ x.value
  common_value x y true is new same =
      let h : Some x.value ≡ None = (λ i. if sym new i then None else Some x.value) ∙ (same ∙ (λ i. if is i then None else Some y.value)) in absurd (cc (h))
  common_value x y false is new same =
      let h : Some x.value ≡ Some y.value = (λ i. if sym new i then None else Some x.value) ∙ (same ∙ (λ i. if is i then None else Some y.value)) in
      let v : x.value ≡ y.value = cc (h) in sym v

  -- until then they have the same value
  pub same_value : {O : Type 0} → Coded T → (x y : Edition T E) (log : List O) (behind ahead : ℕ) → ∥ InStep idle (in_common x) (in_common y) log behind ahead ∥₁ → x.begun ≡ false → y.value ≡ x.value
  same_value code x y log behind ahead h new = ∥∥₁_elim h (Coded-set code _ _)
      (λ s. common_value x y y.begun refl new (sym (idles (in_common x) (take ahead log)) ∙ (sym s.3 ∙ idles (in_common y) (take behind log))))
