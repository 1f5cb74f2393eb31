-- Walks over slots, a step at a time.
use Rattle.std.proofs.Common.{◌≡◌, ℕ, ◌+◌, Bool, true, false, cond, List, [], ◌∷◌, reverse, Option, Some, None, find, refl, sym, ◌∙◌, ap}
use Rattle.std.specs.Option.{option_or}
use Rattle.std.proofs.lemmas.Bool.{cond-true, cond-false}
use Rattle.std.proofs.lemmas.List.{reverse-append}
use Rattle.std.proofs.lemmas.List.Folds.{find-append}
use Rattle.jb_state.specs.Links.{Linkable, linkable, number_or_0}
use Rattle.jb_state.specs.declared.area.Message.{Message}
use Rattle.jb_state.specs.declared.area.Slot.{Slot}
use Rattle.jb_state.specs.declared.area.Slot.TheVariants.{Empty, Killed, Live}
use Rattle.jb_plain.specs.Walk.{last_from, linkables_from, numbered}

-- the number of what was found, or another
abbrev pub number_or : ℕ → Option Linkable → ℕ
number_or last None = last
number_or last (Some one) = one.number

-- of two finds, the second where there is none
number_or-either : (last : ℕ) (found other : Option Linkable) → number_or last (option_or found other) ≡ number_or (number_or last other) found
number_or-either last None other = refl
number_or-either last (Some one) other = refl

-- the last one of a live slot and more
last_live : (test : Linkable → Bool) (last number : ℕ) (message : Message) (slots : List Slot) (b : Bool) → test (linkable (numbered number message)) ≡ b → number_or last (find test (linkable (numbered number message) ∷ [])) ≡ cond b number last
last_live test last number message slots true passes = ap (number_or last) (cond-true (test (linkable (numbered number message))) (Some (linkable (numbered number message))) None passes)
last_live test last number message slots false fails = ap (number_or last) (cond-false (test (linkable (numbered number message))) (Some (linkable (numbered number message))) None fails)

-- the last of a walk is the first from behind
pub last_from-reverse : (test : Linkable → Bool) (last number : ℕ) (slots : List Slot) → last_from test last number slots ≡ number_or last (find test (reverse (linkables_from number slots)))
last_from-reverse test last number [] = refl
last_from-reverse test last number (Empty ∷ slots) = last_from-reverse test last (number + 1) slots
last_from-reverse test last number (Killed ∷ slots) = last_from-reverse test last (number + 1) slots
last_from-reverse test last number (Live message ∷ slots) =
    last_from-reverse test (cond (test (linkable (numbered number message))) number last) (number + 1) slots
    ∙ ap (λ n. number_or n (find test (reverse (linkables_from (number + 1) slots)))) (sym (last_live test last number message slots (test (linkable (numbered number message))) refl))
    ∙ sym (number_or-either last (find test (reverse (linkables_from (number + 1) slots))) (find test (linkable (numbered number message) ∷ [])))
    ∙ ap (number_or last) (sym (find-append test (reverse (linkables_from (number + 1) slots)) (linkable (numbered number message) ∷ [])))
    ∙ ap (λ l. number_or last (find test l)) (sym (reverse-append (linkable (numbered number message) ∷ []) (linkables_from (number + 1) slots)))

-- without another it is 0
pub number_or-0 : (found : Option Linkable) → number_or 0 found ≡ number_or_0 found
number_or-0 None = refl
number_or-0 (Some one) = refl
