-- What closing shows of the passes.
use Rattle.std.proofs.Common.{◌≡◌, ℕ, zero, suc, ◌+◌, ◌<◌, List, [], ◌∷◌, All, get_or, length, map, take, Option, Some, None, refl, sym, ◌∙◌, ap, subst}
use Rattle.std.specs.Prelude.{option_and_then, unwrap_or}
use Rattle.std.specs.Option.{option_map}
use Rattle.std.proofs.lemmas.List.Elements.{All-head, All-more, All-tail, All-weaker}
use mathlib.Core.Option.{some, some-injective}
use mathlib.Core.List.{IsPrefix}
use Rattle.jb_area.specs.declared.area.OpenArea.{OpenArea}
use Rattle.jb_disk.specs.Device.{Device}
use Rattle.jb_model.specs.declared.entry.Entry.{Entry}
use Rattle.jb_publish.specs.Fronts.{book_of}
use Rattle.jb_publish.specs.Marks.{book_at, mark_with}
use Rattle.jb_publish.specs.Publications.{publication_of}
use Rattle.jb_publish.specs.declared.known.PairMark.{PairMark}
use Rattle.jb_publish.proofs.Fronts.{prefix_trans}
use Rattle.jb_turn.specs.Rows.{Begins, Has}
use Rattle.jb_turn.specs.Whole as turn
use Rattle.jb_turn.proofs.Histories.{none_has}
use Rattle.logbook.specs.Pages.{Book}
use Rattle.jb_shared.specs.Areas.{IsOf}
use Rattle.jb_shared.specs.Closing.{Closes, HasEachNode, HasNode, IsLowestMissing, IsPartOf, known_by}
use Rattle.jb_shared.specs.InTurn.{SeatRow}
use Rattle.jb_shared.specs.Keeping.{IsKept}
use Rattle.jb_shared.specs.Passes.{AreaId, IsPairOf, Known, PassView, row_in}
use Rattle.jb_shared.specs.Standing.{StandsForHistory, caller_of}
use Rattle.jb_shared.specs.declared.opening.Opening.{Opening}
use Rattle.jb_shared.specs.declared.shared.SharedArea.{SharedArea}
use Rattle.jb_shared.specs.declared.shown.ShownArea.{ShownArea}
use Rattle.jb_shared.proofs.HistoryLemmas.{calls_are}
use Rattle.jb_shared.proofs.SettledLemmas.{begins_of}

-- what holds of each holds of one that stands there
pub all_has : {A : Type 0} (P : A → Type 0) (xs : List A) (x : A) → All P xs → Has xs x → P x
all_has P [] x all has = absurd (none_has x has)
all_has P (y ∷ ys) x all (zero, here) = subst P (some-injective y x here) (All-head P y ys all)
all_has P (y ∷ ys) x all (suc k, there) = all_has P ys x (All-tail P y ys all) (k, there)

-- what comes of each is there where each is
map_has : {A B : Type 0} (f : A → B) (xs : List A) (x : A) → Has xs x → Has (map f xs) (f x)
map_has f [] x has = absurd (none_has x has)
map_has {A = A} f (y ∷ ys) x (zero, here) = (zero, ap (λ (o : A). some (f o)) (some-injective y x here))
map_has f (y ∷ ys) x (suc k, there) = let later = map_has f ys x (k, there) in (suc later.0, later.1)

-- and what is there came of one
has_map : {A B : Type 0} (f : A → B) (xs : List A) (z : B) → Has (map f xs) z → (x : A) × Has xs x × (f x ≡ z)
has_map f [] z has = absurd (none_has z has)
has_map f (y ∷ ys) z (zero, here) = (y, (zero, refl), some-injective (f y) z here)
has_map f (y ∷ ys) z (suc k, there) = let later = has_map f ys z (k, there) in (later.0, (suc later.1.0, later.1.1), later.2)

-- a node that a row has, a pass knows, and the other way round
to_known : (passes : List PassView) (node : ℕ) → turn.HasRow (map row_in passes) node → HasNode (known_by passes) node
to_known passes node (r, has, is) =
    let one = has_map row_in passes r has in (one.0.known, map_has (λ (p : PassView). p.known) passes one.0 one.1, ap (λ (row : SeatRow). row.node) one.2 ∙ is)

of_known : (passes : List PassView) (node : ℕ) → HasNode (known_by passes) node → turn.HasRow (map row_in passes) node
of_known passes node (known, has, is) =
    let one = has_map (λ (p : PassView). p.known) passes known has in (row_in one.0, map_has row_in passes one.0 one.1, ap (λ (k : Known). k.node) one.2 ∙ is)

-- all nodes are there
pub all_known : (passes : List PassView) (count : ℕ) → turn.HasRows (map row_in passes) count → HasEachNode (known_by passes) count
all_known passes count all = λ node above within. to_known passes node (all node above within)

-- the lowest one that is missing
pub missing_known : (passes : List PassView) (count node : ℕ) → turn.IsLowestRowMissing (map row_in passes) count node → IsLowestMissing (known_by passes) count node
missing_known passes count node (above, within, none, lower) =
    (above, within, (λ has. let row = of_known passes node has in none row.0 row.1 row.2), λ less more below. to_known passes less (lower less more below))

-- what so many passes were shown begins a longer list, and so does what the next was shown
pub shown_more : (passes : List PassView) (i : ℕ) (pass : PassView) (longest next : List Entry) → i < length passes → pass ≡ get_or passes i pass → IsPrefix longest next → IsPrefix pass.known.shown next
    → All (λ (p : PassView). IsPrefix p.known.shown longest) (take i passes) → All (λ (p : PassView). IsPrefix p.known.shown next) (take (i + 1) passes)
shown_more passes i pass longest next within is on here all =
    All-more (λ (p : PassView). IsPrefix p.known.shown next) passes i pass within
    (All-weaker (λ (p : PassView). IsPrefix p.known.shown longest) (λ (p : PassView). IsPrefix p.known.shown next) (λ p begins. prefix_trans p.known.shown longest next begins on) (take i passes) all)
    (subst (λ (p : PassView). IsPrefix p.known.shown next) is here)

-- the mark of a pass, where it is known
mark_parts : (area : Option AreaId) (opening : Option Opening) (first : PairMark Opening) (book : Book) → option_and_then (λ (id : AreaId). option_map (mark_with id.book) opening) area ≡ Some first → option_map (λ (id : AreaId). id.book) area ≡ Some book
    → (opening ≡ Some first.opening) × (book ≡ book_at (Some first))
mark_parts None opening first book is pair = absurd (cc (is))
mark_parts (Some id) None first book is pair = absurd (cc (is))
mark_parts (Some id) (Some opening) first book is pair =
    let mark : mark_with id.book opening ≡ first = ap (λ (o : Option (PairMark Opening)). unwrap_or o first) is in (
      ap (λ (m : PairMark Opening). Some m.opening) mark,
      ap (λ (o : Option Book). unwrap_or o book) (sym pair) ∙ ap (λ (m : PairMark Opening). book_at (Some m)) mark,
    )

module _ {D : Type 0} where
  -- and its end that looks
  pub all_paired : (area : SharedArea D) (passes : List PassView) → All (IsOf area) passes → All (λ (pass : PassView). IsPairOf pass (book_of area.origin)) passes
  all_paired area passes ours = All-weaker (IsOf area) (λ (pass : PassView). IsPairOf pass (book_of area.origin)) (λ pass of_it. ap (option_map (λ (id : AreaId). id.book)) of_it.here) passes ours

  -- what a pass knows of where the history began
  known_start : (shown : D → Device) (book : Book) (passes : List PassView) (state : ShownArea D) → All (λ (pass : PassView). IsPairOf pass book) passes → (whole : turn.IsWhole (IsKept shown) caller_of (map row_in passes) state)
      → (pass : PassView) → Has passes pass → (pass.known.opening ≡ Some whole.first.opening) × (book ≡ book_at (Some whole.first))
  known_start shown book passes state paired whole pass has =
      let fits = whole.fits (row_in pass) (map_has row_in passes pass has) in
      mark_parts pass.area pass.known.opening whole.first book fits.opening (all_has (λ (p : PassView). IsPairOf p book) passes pass paired has)

  -- the pair of what is closed is that of the passes
  pub same_pair : (shown : D → Device) (book : Book) (passes : List PassView) (state : ShownArea D) → All (λ (pass : PassView). IsPairOf pass book) passes → turn.IsWhole (IsKept shown) caller_of (map row_in passes) state
      → book ≡ book_at (publication_of state.shower).mark
  same_pair shown book passes state paired whole =
      let longest = has_map row_in passes whole.longest.0 whole.longest.1 in
      (known_start shown book passes state paired whole longest.0 longest.1).1 ∙ ap (λ (m : Option (PairMark Opening)). book_at m) (sym whole.stands_for.index.pair)

  -- one history, of which each pass knows a part
  pub closes : (shown : D → Device) (book : Book) (passes : List PassView) (state : ShownArea D) (area : OpenArea D) (longest : List Entry) → All (λ (pass : PassView). IsPairOf pass book) passes
      → turn.IsWhole (IsKept shown) caller_of (map row_in passes) state → All (λ (pass : PassView). IsPrefix pass.known.shown longest) passes
      → IsPrefix longest (publication_of state.shower).list → area ≡ state.area → Closes shown passes area
  closes shown book passes state area longest paired whole begins on same =
      let last = has_map row_in passes whole.longest.0 whole.longest.1 in
      record {
        opening = whole.first.opening;
        history = whole.log;
        stands = subst (λ (a : OpenArea D). StandsForHistory shown a whole.first.opening whole.log) (sym same) whole.stands_for.area;
        each = λ known has.
            let one = has_map (λ (p : PassView). p.known) passes known has in
            let fits = whole.fits (row_in one.0) (map_has row_in passes one.0 one.1) in
            subst (IsPartOf whole.first.opening whole.log) one.2 record {
              from = (known_start shown book passes state paired whole one.0 one.1).0;
              front = fits.begins;
              mine = sym (calls_are one.0.known.node whole.log) ∙ fits.mine;
              shown =
                  subst (Begins one.0.known.shown) whole.stands_for.index.list
                  (begins_of one.0.known.shown (publication_of state.shower).list (prefix_trans one.0.known.shown longest (publication_of state.shower).list (all_has (λ (p : PassView). IsPrefix p.known.shown longest) passes one.0 begins one.1) on));
            };
        others = λ node none. sym (calls_are node whole.log) ∙ whole.others node (λ has. none (to_known passes node has));
        longest = (last.0.known, map_has (λ (p : PassView). p.known) passes last.0 last.1, ap (λ (r : SeatRow). r.front) last.2 ∙ whole.longest.2);
      }
