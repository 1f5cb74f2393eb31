use Rattle.std.proofs.Common.{◌≡◌, ℕ, ◌-◌, ◌≤◌, List, [], ◌∷◌, ◌++◌, length, get_or, refl, sym, ap, subst, ◌∙◌, append-nil, append_assoc, length-append, arith}
use Rattle.std.specs.Prelude.{All}
use Rattle.std.specs.List.Sorted.{IsNonDecreasing}
use Rattle.std.proofs.lemmas.List.Elements.{All-get_or, All-push, All-weaker}
use Rattle.std.proofs.lemmas.List.Sorted.{IsNonDecreasingBy-push}
use Rattle.jb_shared.specs.Looks.{Looks}
use Rattle.jb_shared.specs.Passes.{Known, turned_away}
use Rattle.jb_session.specs.Laws.{RisesOn}
use Rattle.jb_session.proofs.Passing.{HasCalled, keeps_through}
use Rattle.jb_session.proofs.laws.looks_never_fall.Goals as goal

-- where the looks are the same, and what was shown
stays : (old new : Known) → new.looks ≡ old.looks → new.shown ≡ old.shown → RisesOn old new
stays old new looks shown = record {
  front = record { rest = []; is = looks ∙ sym (append-nil old.looks) };
  rises = λ r. record {
    rising = let P : List ℕ → Type 0 = λ w. IsNonDecreasing w in subst P (sym looks) r.rising;
    within =
        let P : List ℕ → Type 0 = λ w. All (λ count. count ≤ length new.shown) w in
        subst P (sym looks) (All-weaker (λ count. count ≤ length old.shown) (λ count. count ≤ length new.shown) (λ count below. omega (arith, below, ap length shown)) old.looks r.within);
  };
}

and_then : (a b c : Known) → RisesOn a b → RisesOn b c → RisesOn a c
and_then a b c one two = record {
  front = record { rest = one.front.rest ++ two.front.rest; is = two.front.is ∙ ap (λ w. w ++ two.front.rest) one.front.is ∙ append_assoc a.looks one.front.rest two.front.rest };
  rises = λ r. two.rises (one.rises r);
}

called : (old new : Known) → HasCalled old new → RisesOn old new
called old new is = stays old new (ap (λ (w : Known). w.looks) is) (ap (λ (w : Known). w.shown) is)

barred : (old new : Known) → new ≡ turned_away old → RisesOn old new
barred old new is = stays old new (ap (λ (w : Known). w.looks) is) (ap (λ (w : Known). w.shown) is)

-- as many numbers, with one behind them that is none of a smaller list
pushed : (looks : List ℕ) (before after : ℕ) → before ≤ after → IsNonDecreasing looks → All (λ count. count ≤ before) looks → IsNonDecreasing (looks ++ after ∷ [])
pushed looks before after more rising within =
    IsNonDecreasingBy-push (λ x. x) looks after rising
    (λ d some. let last : get_or looks (length looks - 1) d ≤ before = All-get_or (λ count. count ≤ before) looks (length looks - 1) d (omega arith) within in omega (arith, last))

looked : (old new : Known) → Looks old new → RisesOn old new
looked old new l =
    let looks : new.looks ≡ old.looks ++ length new.shown ∷ [] = ap (λ (w : Known). w.looks) l.same in
    let more : length old.shown ≤ length new.shown = omega (arith, ap length l.further.1, length-append old.shown l.further.0) in
    record {
      front = record { rest = length new.shown ∷ []; is = looks };
      rises = λ r. record {
        rising =
            let P : List ℕ → Type 0 = λ w. IsNonDecreasing w in
            subst P (sym looks) (pushed old.looks (length old.shown) (length new.shown) more r.rising r.within);
        within =
            let P : List ℕ → Type 0 = λ w. All (λ count. count ≤ length new.shown) w in
            subst P (sym looks)
            (All-push (λ count. count ≤ length new.shown) old.looks (length new.shown)
            (All-weaker (λ count. count ≤ length old.shown) (λ count. count ≤ length new.shown) (λ count below. omega (arith, below, more)) old.looks r.within) (omega arith));
      };
    }

pub returns-clause-rise : goal.returns-clause-rise
returns-clause-rise c = keeps_through RisesOn (λ known. stays known known refl refl) and_then called looked barred
