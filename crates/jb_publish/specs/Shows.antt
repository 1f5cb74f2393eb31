-- The rule over the copies and over what each end knows, and what each step tells.
use Rattle.std.specs.Prelude.{◌≡◌, ◌⊎◌, ℕ, ◌<◌, ◌≤◌, Bool, true, false, List, [], ◌∷◌, ◌++◌, is_some, Option, Some, None}
use mathlib.Core.Option.{some}
use lib.ListN.{get_elem?}
use Rattle.jb_publish.specs.declared.known.PairMark.{PairMark}
use Rattle.jb_publish.specs.declared.known.Known.{Known}
use Rattle.jb_publish.specs.declared.edition.Edition.{Edition}
use Rattle.jb_publish.specs.Marks.{ValueStandsFrom, book_at, known, opening_at}

module _ {O : Type 0} where
  -- it holds of what each end knows
  abbrev pub Each : (Known O → Type 0) → List (Known O) → Type 0
  Each holds views = (j : ℕ) (v : Known O) → get_elem? views j ≡ some v → holds v

  -- the end knows no mark
  abbrev pub IsFree : Known O → Type 0
  IsFree v = v.mark ≡ None

  -- the end knows no mark, or this one
  abbrev pub FitsMark : PairMark O → Known O → Type 0
  FitsMark mark v = (v.mark ≡ None) ⊎ (v.mark ≡ Some mark)

module _ {T O E : Type 0} (stands : T → O → List E → Type 0) where
  -- the copy is of the pair with this mark: its front is of that book, and its value stands for the list of its front
  abbrev pub IsOfPair : Option (PairMark O) → Edition T E → Type 0
  IsOfPair mark x = (x.front.seen.book ≡ book_at mark) × ValueStandsFrom stands (opening_at mark) x.value x.front.seen.log

  -- once the pair has its mark, that is the mark of the copy and of all that know one; until then nobody knows one
  abbrev pub ShowsOnce : Bool → Edition T E → List (Known O) → Type 0
  ShowsOnce true x views = (mark : PairMark O) × IsOfPair (Some mark) x × Each (FitsMark mark) views
  ShowsOnce false x views = Each IsFree views

  -- the rule, of the copy that readers see
  abbrev pub ShowsReaders : Edition T E → List (Known O) → Type 0
  ShowsReaders x views = ShowsOnce x.begun x views

  -- a look: it counts where it shows no less than this
  abbrev pub LooksInto : ℕ → Known O → Edition T E → Edition T E → Known O → Type 0
  LooksInto least v x y w = (is_some v.mark ≡ true → IsOfPair v.mark x) × (least ≤ x.front.count → w ≡ known v.mark (v.looks ++ x.front.count ∷ [])) × (x.front.count < least → w ≡ v)

-- the writer takes the mark of the copy's book and of this opening
abbrev pub Binds : {T O E : Type 0} → Option O → Known O → Edition T E → Edition T E → Known O → Type 0
Binds opening v x y w = (is_some w.mark ≡ true) × (book_at w.mark ≡ y.front.seen.book) × (opening_at w.mark ≡ opening) × (w.looks ≡ [])
