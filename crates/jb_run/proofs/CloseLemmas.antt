-- Areas that are closed, the last first.
use Rattle.std.proofs.Common.{◌≡◌, ℕ, zero, suc, ◌+◌, ◌<◌, ◌≤◌, Bool, true, false, ◌||◌, List, [], ◌∷◌, length, take, drop, All, refl, sym, ap, subst, ◌∙◌, arith}
use Rattle.std.specs.Prelude.{AllPairs, slice_index_or, fold}
use Rattle.std.proofs.lemmas.List.{drop_all, drop_more, get_or-drop, get_or-take, get_or_default, length-drop, length-take-le, take-take, take_all}
use Rattle.std.proofs.lemmas.List.Elements.{All-map}
use Rattle.jb_conf.specs.declared.board.BoardArea.{BoardArea}
use Rattle.jb_disk.specs.Device.{Device}
use Rattle.jb_host.specs.Desk.{Desk, TakesBack}
use Rattle.jb_shared.specs.Passes.{PassView}
use Rattle.jb_run.specs.All.{ClosesAll, EndsAt, any}
use Rattle.jb_run.specs.Desks.{PutsBack, place_of, places_of}
use Rattle.jb_run.specs.Lives.{Ends}
use Rattle.jb_run.specs.Rows.{IsDealt}
use Rattle.jb_run.proofs.DeskLemmas.{IsElsewhere, puts_back_first, puts_back_none}
use Rattle.jb_run.proofs.EachLemmas.{one_of}
use Rattle.jb_run.proofs.RowLemmas.{column_of_first, dealt_take}

-- the order of three does not matter
or_turned : (a b c : Bool) → (a || (b || c)) ≡ ((a || c) || b)
or_turned true b c = refl
or_turned false true true = refl
or_turned false true false = refl
or_turned false false true = refl
or_turned false false false = refl

-- what was seen before the others counts
any_from : (so_far : Bool) (bits : List Bool) → fold (λ (b c : Bool). b || c) so_far bits ≡ (any bits || so_far)
any_from so_far [] = refl
any_from so_far (bit ∷ bits) = any_from (so_far || bit) bits ∙ or_turned (any bits) so_far bit ∙ ap (λ (b : Bool). b || so_far) (sym (any_from bit bits))

-- one more, the first
any_first : (bit : Bool) (bits : List Bool) → any (bit ∷ bits) ≡ (any bits || bit)
any_first bit bits = any_from bit bits

-- the areas have places of their own
abbrev IsApart : BoardArea → BoardArea → Type 0
IsApart one other = IsElsewhere (place_of one) (place_of other)

-- an area is elsewhere than all behind it
elsewhere_behind : (areas : List BoardArea) (k : ℕ) (area : BoardArea) → k < length areas → AllPairs IsApart areas → All (IsApart (slice_index_or areas k area)) (drop (k + 1) areas)
elsewhere_behind areas k area within places = λ j d low.
    let far : k + 1 + j < length areas = omega (arith, length-drop (k + 1) areas) in
    subst (λ (a : BoardArea). IsApart a (slice_index_or (drop (k + 1) areas) j d)) (get_or_default areas k d area within)
    (subst (IsApart (slice_index_or areas k d)) (sym (get_or-drop (k + 1) areas j d)) (places k (k + 1 + j) d (omega arith) far))

-- the first areas have places of their own too
places_take : (areas : List BoardArea) (n : ℕ) → n ≤ length areas → AllPairs IsApart areas → AllPairs IsApart (take n areas)
places_take areas n within places = λ i j d before low.
    let in_j : j < n = omega (arith, length-take-le n areas within) in
    subst (λ (a : BoardArea). IsApart a (slice_index_or (take n areas) j d)) (sym (get_or-take n areas i d (omega arith)))
    (subst (IsApart (slice_index_or areas i d)) (sym (get_or-take n areas j d in_j)) (places i j d before (omega arith)))

-- the areas from this place on are closed, each with the passes that the nodes had of it
pub record ClosesFrom (place : ℕ) (areas : List BoardArea) (nodes : List (List PassView)) (old new : Desk) (is_doubtful : Bool) : Type 0 where
  pub afters : List Device
  pub doubts : List Bool
  pub back : PutsBack (places_of (drop place areas)) afters old new
  pub count : length doubts ≡ length (drop place areas)
  pub ends : (k : ℕ) (doubt : Bool) (after : Device) → k < length (drop place areas) → EndsAt nodes (place + k) (slice_index_or doubts k doubt) (slice_index_or afters k after)
  pub doubt : is_doubtful ≡ any doubts

-- none is closed yet
pub closes_begin : (areas : List BoardArea) (nodes : List (List PassView)) (n : ℕ) (desk : Desk) → length areas ≡ n → ClosesFrom n areas nodes desk desk false
closes_begin areas nodes n desk same =
    let none : drop n areas ≡ [] = drop_all n areas (omega (arith, same)) in
    record {
      afters = [];
      doubts = [];
      back = subst (λ (l : List BoardArea). PutsBack (places_of l) [] desk desk) (sym none) (puts_back_none desk);
      count = sym (ap length none);
      ends = λ k doubt after within. absurd (omega (arith, within, ap length none));
      doubt = refl;
    }

-- all are closed
pub closes_end : (areas : List BoardArea) (nodes : List (List PassView)) (old new : Desk) (is_doubtful : Bool) → ClosesFrom 0 areas nodes old new is_doubtful → ClosesAll areas nodes old new is_doubtful
closes_end areas nodes old new is_doubtful all = record {
  afters = all.afters;
  doubts = all.doubts;
  back = all.back;
  count = all.count;
  ends = λ k doubt after within. subst (λ (n : ℕ). EndsAt nodes n (slice_index_or all.doubts k doubt) (slice_index_or all.afters k after)) (omega arith) (all.ends k doubt after within);
  doubt = all.doubt;
}

-- the area before those is closed too
closes_first : (area : BoardArea) (rest : List BoardArea) (nodes : List (List PassView)) (k : ℕ) (areas : List BoardArea) (old mid new : Desk) (so_far doubt : Bool) (after : Device)
    → drop k areas ≡ area ∷ rest → drop (k + 1) areas ≡ rest → All (IsApart area) rest → TakesBack area.dir area.base after mid new → EndsAt nodes k doubt after
    → ClosesFrom (k + 1) areas nodes old mid so_far → ClosesFrom k areas nodes old new (so_far || doubt)
closes_first area rest nodes k areas old mid new so_far doubt after here behind apart takes ends all =
    let first : PutsBack (places_of rest) all.afters old mid = subst (λ (l : List BoardArea). PutsBack (places_of l) all.afters old mid) behind all.back in
    let later : (j : ℕ) (d : Bool) (a : Device) → j < length rest → EndsAt nodes (k + 1 + j) (slice_index_or all.doubts j d) (slice_index_or all.afters j a)
    = λ j d a within. all.ends j d a (omega (arith, within, ap length behind)) in
    record {
      afters = after ∷ all.afters;
      doubts = doubt ∷ all.doubts;
      back = subst (λ (l : List BoardArea). PutsBack (places_of l) (after ∷ all.afters) old new) (sym here)
          (puts_back_first (place_of area) after (places_of rest) all.afters old mid new (All-map (IsElsewhere (place_of area)) place_of rest apart) first takes);
      count = ap suc (all.count ∙ ap length behind) ∙ sym (ap length here);
      ends = λ j d a within. ends_each nodes k doubt after all.doubts all.afters (length rest) ends later j d a (omega (arith, within, ap length here));
      doubt = ap (λ (b : Bool). b || doubt) all.doubt ∙ sym (any_first doubt all.doubts);
    }
  where
    ends_each : (nodes : List (List PassView)) (k : ℕ) (doubt : Bool) (after : Device) (doubts : List Bool) (afters : List Device) (count : ℕ) → EndsAt nodes k doubt after
        → ((j : ℕ) (d : Bool) (a : Device) → j < count → EndsAt nodes (k + 1 + j) (slice_index_or doubts j d) (slice_index_or afters j a))
        → (j : ℕ) (d : Bool) (a : Device) → j < suc count → EndsAt nodes (k + j) (slice_index_or (doubt ∷ doubts) j d) (slice_index_or (after ∷ afters) j a)
    ends_each nodes k doubt after doubts afters count ends later zero d a within = subst (λ (n : ℕ). EndsAt nodes n doubt after) (omega arith) ends
    ends_each nodes k doubt after doubts afters count ends later (suc j) d a within =
        subst (λ (n : ℕ). EndsAt nodes n (slice_index_or doubts j d) (slice_index_or afters j a)) (omega arith) (later j d a (omega (arith, within)))

-- the area at a place is closed, as those behind it are
closes_at : (areas : List BoardArea) (nodes : List (List PassView)) (k : ℕ) (old mid new : Desk) (so_far doubt : Bool) (after : Device) → k < length areas → AllPairs IsApart areas
    → ((area : BoardArea) → TakesBack (slice_index_or areas k area).dir (slice_index_or areas k area).base after mid new) → EndsAt nodes k doubt after
    → ClosesFrom (k + 1) areas nodes old mid so_far → ClosesFrom k areas nodes old new (so_far || doubt)
closes_at areas nodes k old mid new so_far doubt after within places takes ends all =
    let area = one_of areas k within in
    closes_first (slice_index_or areas k area) (drop (k + 1) areas) nodes k areas old mid new so_far doubt after (drop_more areas k area within) refl
    (elsewhere_behind areas k area within places) (takes area) ends all

-- of the first areas the last that is open is closed
pub closes_next : (areas : List BoardArea) (nodes : List (List PassView)) (n k : ℕ) (old mid new : Desk) (so_far doubt : Bool) (after : Device) → n ≤ length areas → k < n → AllPairs IsApart areas
    → ((area : BoardArea) → TakesBack (slice_index_or areas k area).dir (slice_index_or areas k area).base after mid new) → EndsAt nodes k doubt after
    → ClosesFrom (k + 1) (take n areas) nodes old mid so_far → ClosesFrom k (take n areas) nodes old new (so_far || doubt)
closes_next areas nodes n k old mid new so_far doubt after within low places takes ends all =
    closes_at (take n areas) nodes k old mid new so_far doubt after (omega (arith, low, length-take-le n areas within)) (places_take areas n within places)
    (λ area. subst (λ (a : BoardArea). TakesBack a.dir a.base after mid new) (sym (get_or-take n areas k area low)) (takes area)) ends all

-- what is left of each node's passes is the first of them
abbrev pub AreFirst : ℕ → List (List PassView) → List (List PassView) → Type 0
AreFirst count all left = (length left ≡ length all) × ((n : ℕ) → n < length all → slice_index_or left n [] ≡ take count (slice_index_or all n []))

-- nothing was taken yet
pub all_first : (nodes : List (List PassView)) (count : ℕ) → ((n : ℕ) → n < length nodes → length (slice_index_or nodes n []) ≡ count) → AreFirst count nodes nodes
all_first nodes count long = (refl, λ n here. sym (take_all count (slice_index_or nodes n []) (omega (arith, long n here))))

-- the last of each was taken
pub fewer_first : (all more fewer : List (List PassView)) (row : List PassView) (k : ℕ) → AreFirst (k + 1) all more → IsDealt fewer row more
    → ((n : ℕ) → n < length fewer → length (slice_index_or fewer n []) ≡ k) → AreFirst k all fewer
fewer_first all more fewer row k (same, first) dealt long = (
  sym dealt.lists ∙ same,
  λ n here.
      let low : n < length fewer = omega (arith, here, dealt.lists, same) in
      dealt_take fewer row more n k low (long n low) dealt ∙ ap (take k) (first n here) ∙ take-take k (k + 1) (slice_index_or all n []) (omega arith),
)

-- they are a column of all
pub column_closed : (all more fewer : List (List PassView)) (row : List PassView) (k : ℕ) (is_doubtful : Bool) (after : Device) → AreFirst (k + 1) all more → IsDealt fewer row more
    → ((n : ℕ) → n < length fewer → length (slice_index_or fewer n []) ≡ k) → Ends row is_doubtful after → EndsAt all k is_doubtful after
column_closed all more fewer row k is_doubtful after (same, first) dealt long ends =
    (row, column_of_first all fewer row more k (sym same ∙ dealt.lists) dealt long (λ n low. first n (omega (arith, low, dealt.lists, same))), ends)
