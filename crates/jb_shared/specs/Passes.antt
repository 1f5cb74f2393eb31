-- What a pass knows.
use Rattle.std.specs.Prelude.{◌≡◌, ℕ, ◌+◌, ◌-◌, ◌^◌, List, [], ◌∷◌, ◌++◌, Option, Some, length, min, option_and_then}
use Rattle.std.specs.Option.{option_map}
use Rattle.logbook.specs.Pages.{Book}
use Rattle.jb_model.specs.declared.entry.Entry.{Entry}
use Rattle.jb_publish.specs.Marks.{mark_with}
use Rattle.jb_publish.specs.declared.known.PairMark.{PairMark}
use Rattle.jb_turn.specs.Rows.{row}
use Rattle.jb_turn.specs.Seats.{TurnId}
use Rattle.jb_turn.specs.declared.view.Row.{Row}
use Rattle.jb_shared.specs.declared.opening.Opening.{Opening}
use Rattle.jb_shared.specs.declared.refusal.Refusal.{Refusal}

-- what is known of a node: its number, how the area stood when it was shared, `front`, the beginning of the history that its calls
-- have seen, `mine`, its calls there, `refused`, its refusals and the steps of its packs, which leave no entry, in order, `shown`, the entries that its looks have
-- shown, `looks`, how many entries each look and count showed, in order, and how often a look or a count was not let in
pub record Known : Type 0 where
  pub node : ℕ
  pub opening : Option Opening
  pub front : List Entry
  pub mine : List Entry
  pub refused : List Refusal
  pub shown : List Entry
  pub looks : List ℕ
  pub barred : ℕ

-- which area it is: by its turn, and by the book of what its looks see
pub record AreaId : Type 0 where
  pub turn : TurnId
  pub book : Book

-- a pass: of which area it is, and what its node knows
pub record PassView : Type 0 where
  pub area : Option AreaId
  pub known : Known

-- what the pass of a new area knows
abbrev pub first_known : ℕ → Opening → Known
first_known node opening = record { node = node; opening = Some opening; front = []; mine = []; refused = []; shown = []; looks = []; barred = 0 }

-- what is known once the whole history was taken
abbrev pub seen : Known → List Entry → Known
seen known taken = record known { front = taken }

-- what is known once a call was refused so
abbrev pub refusing : Known → Refusal → Known
refusing known refusal = record known { refused = known.refused ++ refusal ∷ [] }

-- what is known once turns ended so, one behind another
abbrev pub stepping : Known → List Refusal → Known
stepping known [] = known
stepping known (step ∷ steps) = stepping (refusing known step) steps

-- what is known once a look showed these entries
abbrev pub looking : Known → List Entry → Known
looking known shown = record known { shown = shown; looks = known.looks ++ length shown ∷ [] }

-- what is known once a look was not let in; the count stops at the last value of a `u64`
abbrev pub turned_away : Known → Known
turned_away known = record known { barred = min (known.barred + 1) (2 ^ 64 - 1) }

-- the turn that it has a seat of
abbrev pub turn_in : PassView → Option TurnId
turn_in pass = option_map (λ area. area.turn) pass.area

-- its looks see what has this book
abbrev pub IsPairOf : PassView → Book → Type 0
IsPairOf pass book = option_map (λ area. area.book) pass.area ≡ Some book

-- the mark of what its looks see
abbrev pub mark_seen : PassView → Option (PairMark Opening)
mark_seen pass = option_and_then (λ area. option_map (mark_with area.book) pass.known.opening) pass.area

-- the row of its seat
abbrev pub row_in : PassView → Row (PairMark Opening) Entry Refusal
row_in pass = row pass.known.node (mark_seen pass) pass.known.front pass.known.mine pass.known.refused
