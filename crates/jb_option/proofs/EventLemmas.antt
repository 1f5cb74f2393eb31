-- An event more, for whole lists of events.
use Rattle.std.proofs.Common.{◌≡◌, ℕ, List, [], ◌∷◌, ◌++◌, refl, sym, ap, subst, append_assoc, append-nil}
use Rattle.std.proofs.lemmas.List.Sums.{fold-append}
use Rattle.jb_telnet.specs.declared.event.Event.{Event}
use Rattle.jb_option.specs.Table.{Sides, first_sides, sides_after, option_answer}
use Rattle.jb_option.specs.Events.{answers_behind, HasLedTo}

answers_behind-append : (before xs ys : List Event) → answers_behind before (xs ++ ys) ≡ answers_behind before xs ++ answers_behind (before ++ xs) ys
answers_behind-append before [] ys = ap (λ w. answers_behind w ys) (sym (append-nil before))
answers_behind-append before (event ∷ xs) ys =
    rw (answers_behind-append (before ++ event ∷ []) xs ys, append_assoc before (event ∷ []) xs) refl

-- the events and an event more lead to how the options stand behind it
pub answered_on : (sides : Sides) (events : List Event) (answers : List (List ℕ)) (event : Event) → HasLedTo sides events answers
    → HasLedTo (sides_after sides event) (events ++ event ∷ []) (answers ++ option_answer sides event ∷ [])
answered_on sides events answers event answered =
    let P : Sides → Type 0 = λ w. HasLedTo (sides_after w event) (events ++ event ∷ []) (answers ++ option_answer w event ∷ []) in
    subst P (sym answered.reached) (record {
      reached = rw (fold-append sides_after first_sides events (event ∷ [])) refl;
      given = rw (answered.given, answers_behind-append [] events (event ∷ [])) refl;
    })
