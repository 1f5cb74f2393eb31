-- What contracts see of a reader's end, and of one in the middle of a look.
use Rattle.std.specs.Prelude.{◌≡◌, ℕ, ◌+◌, ◌-◌, ◌^◌, List, [], ◌∷◌, ◌++◌, Option, length, min}
use Rattle.left_right.specs.Sides.{view}
use Rattle.jb_publish.specs.declared.known.PairMark.{PairMark}
use Rattle.jb_publish.specs.declared.ends.Shown.{Shown}
use Rattle.jb_publish.specs.declared.ends.Sight.{Sight}

-- which pair it is of, the entries that its looks have shown, those that it was told, how many each look showed, and how often it
-- was not let in
pub record Account (O E : Type 0) : Type 0 where
  pub mark : Option (PairMark O)
  pub shown : List E
  pub told : List E
  pub looks : List ℕ
  pub barred : ℕ

module _ {T O E : Type 0} where
  -- the account of a reader
  abbrev pub account_of : Shown T O E → Account O E
  account_of s = record { mark = (view s.reader.place).mark; shown = s.shown.seen.log; told = s.told.seen.log; looks = (view s.reader.place).looks; barred = s.barred }

  -- the account of a reader in the middle of a look
  abbrev pub account_in : Sight T O E → Account O E
  account_in s = record { mark = (view s.reading.place).mark; shown = s.shown.seen.log; told = s.told.seen.log; looks = (view s.reading.place).looks; barred = s.barred }

  -- the value that the look shows
  abbrev pub value_in : Sight T O E → T
  value_in s = s.reading.part.value.value

module _ {O E : Type 0} where
  -- with this list told
  abbrev pub told_with : Account O E → List E → Account O E
  told_with a list = record { mark = a.mark; shown = a.shown; told = list; looks = a.looks; barred = a.barred }

  -- with a look that showed this list
  abbrev pub looked : Account O E → List E → Account O E
  looked a list = record { mark = a.mark; shown = list; told = a.told; looks = a.looks ++ length list ∷ []; barred = a.barred }

  -- with one time more that it was not let in, up to the last value of a `u64`
  abbrev pub refused_once : Account O E → Account O E
  refused_once a = record { mark = a.mark; shown = a.shown; told = a.told; looks = a.looks; barred = min (a.barred + 1) (2 ^ 64 - 1) }

  -- a new reader of this pair, which was shown and told this list and has not looked
  abbrev pub arrived : Option (PairMark O) → List E → Account O E
  arrived mark list = record { mark = mark; shown = list; told = list; looks = []; barred = 0 }

-- a reader of this pair that was shown nothing and told nothing
abbrev pub IsFresh : {T O E : Type 0} → Option (PairMark O) → Shown T O E → Type 0
IsFresh mark s = account_of s ≡ arrived mark []
