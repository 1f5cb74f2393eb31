-- A shared area and its passes, when they are new.
use Rattle.std.proofs.Common.{◌≡◌, ℕ, zero, suc, ◌+◌, ◌<◌, List, [], ◌∷◌, ◌++◌, length, drop, get_or, slice_get, Option, Some, None, refl, sym, ◌∙◌, ap, subst, arith}
use Rattle.std.specs.Option.{option_map, ForSome}
use Rattle.std.specs.Prelude.{is_some, unwrap_or, IsSome}
use Rattle.std.proofs.lemmas.Option.{slice_get-get_or}
use mathlib.Core.List.{IsPrefix}
use Rattle.jb_area.specs.Area.{IsResting, device_of, loaded_of, rules_of}
use Rattle.jb_area.specs.Calls.{HasRest}
use Rattle.jb_area.specs.Holds.{IsAtRest}
use Rattle.jb_area.specs.declared.area.OpenArea.{OpenArea}
use Rattle.jb_disk.specs.Device.{Device}
use Rattle.jb_disk.specs.Files.{Files}
use Rattle.jb_disk.specs.Runs.{Shows}
use Rattle.jb_disk.specs.declared.file.FileId.TheVariants.{Jdt}
use Rattle.jb_index.specs.Index.{AreaIndex, index_of}
use Rattle.jb_model.specs.Standing.{Settled}
use Rattle.jb_state.specs.State.{state_of}
use Rattle.jb_model.specs.declared.entry.Entry.{Entry}
use Rattle.jb_state.specs.declared.loaded.Loaded.{Loaded}
use Rattle.jb_publish.specs.Marks.{book_at, mark_with, opening_at}
use Rattle.jb_publish.specs.Publications.{publication_of}
use Rattle.jb_publish.specs.declared.ends.Shown.{Shown}
use Rattle.jb_publish.specs.declared.known.PairMark.{PairMark}
use Rattle.jb_publish.proofs.Fronts.{prefix_get}
use Rattle.jb_publish.proofs.Places.{each_end}
use Rattle.jb_shared.specs.Keeping.{IsKept, history_mark}
use Rattle.jb_publish.specs.Accounts.{Account, account_of, arrived}
use Rattle.jb_publish.specs.Fronts.{book_of}
use Rattle.jb_turn.specs.Rows.{row}
use Rattle.jb_turn.specs.Seats.{AreNewSeats, IsNew, TurnId, id_of, row_of}
use Rattle.jb_turn.specs.declared.seat.Seat.{Seat}
use Rattle.logbook.specs.Pages.{Book}
use Rattle.jb_shared.specs.Areas.{IsShared, passes_of}
use Rattle.jb_shared.specs.Histories.{IsHistory, Tells, leads_to, settled_of}
use Rattle.jb_shared.specs.InTurn.{SeatRow}
use Rattle.jb_shared.specs.Inside.{known_by_both}
use Rattle.jb_shared.specs.Making.{AreFresh, fresh_pass}
use Rattle.jb_shared.specs.Passes.{PassView, first_known}
use Rattle.jb_shared.specs.declared.refusal.Refusal.{Refusal}
use Rattle.jb_shared.specs.declared.shared.SharedArea.{SharedArea}
use Rattle.jb_shared.specs.Shows.{IsShownAs}
use Rattle.jb_shared.specs.Standing.{IsAt, StandsForHistory, opening_of}
use Rattle.jb_shared.specs.Stops.{OpensAtLast}
use Rattle.jb_shared.proofs.StopLemmas.{comes_by_none, settled_shows}
use Rattle.jb_shared.specs.declared.opening.Opening.{Opening}
use Rattle.jb_shared.specs.declared.shown.ShownArea.{ShownArea}

-- the texts are told where the files are
same_told : (contents : Option Files) → is_some contents ≡ is_some (option_map (λ (files : Files). files Jdt) contents)
same_told None = refl
same_told (Some files) = refl

-- and then they are those of the area
told_texts : (contents : Option Files) (loaded : Loaded) (texts : List ℕ) → IsSome (option_map (λ (files : Files). files Jdt) contents) → ForSome contents (IsAtRest loaded texts)
    → texts ≡ unwrap_or (option_map (λ (files : Files). files Jdt) contents) []
told_texts None loaded texts told rests = absurd (cc (told))
told_texts (Some files) loaded texts told rests = sym (rests files refl).holds.texts_are

module _ {D : Type 0} (shown : D → Device) where
  -- an area at rest stands for the empty history from how it stands
  pub stands_new : (area : OpenArea D) → HasRest shown area → StandsForHistory shown area (opening_of shown area) []
  stands_new area rest =
      let device = device_of shown area in
      let opening = opening_of shown area in
      let legal : IsHistory opening [] = record { numbered = λ node. refl; risen = tt; allowed = λ t. tt } in
      let at : IsAt shown area (Settled (state_of rest.texts (loaded_of area))) = (rest.texts, rest.rests, refl) in
      let leads : Tells opening → Settled (state_of rest.texts (loaded_of area)) ≡ leads_to opening []
      = λ t. ap (λ (texts : List ℕ). Settled (state_of texts (loaded_of area))) (told_texts device.contents (loaded_of area) rest.texts t rest.rests.kept.settled.rests) in
      let shows : Tells opening → Shows (OpensAtLast opening []) device
      = λ t. settled_shows shown area opening [] (state_of rest.texts (loaded_of area)) at (same_told device.contents ∙ t) legal (sym (leads t)) in (
        Settled (state_of rest.texts (loaded_of area)),
        record {
          rules = refl;
          history = legal;
          faults = omega arith;
          told = same_told device.contents;
          at = at;
          kind = refl;
          leads = leads;
          text_files = λ t. (subst (IsResting shown area) (told_texts device.contents (loaded_of area) rest.texts t rest.rests.kept.settled.rests) rest.rests, refl);
          opens = shows;
          crash = λ t. comes_by_none opening device refl (shows t).left;
        },
      )

  -- its index stands for no entries yet
  pub shows_new : (area : OpenArea D) (index : AreaIndex) → HasRest shown area → ((texts : List ℕ) → index ≡ index_of (rules_of area) (state_of texts (loaded_of area))) → IsShownAs index (opening_of shown area) []
  shows_new area index rest is = record {
    history = (stands_new area rest).1.history;
    whole = refl;
    settled = λ t. refl;
    after = λ t. is (unwrap_or (opening_of shown area).texts []);
  }

  -- the mark that is known is that of the state
  marked : (state : ShownArea D) (mark : Option (PairMark Opening)) → (publication_of state.shower).mark ≡ mark → opening_at mark ≡ Some (opening_of shown state.area)
      → ((publication_of state.shower).mark ≡ Some (history_mark shown state)) × ((history_mark shown state).opening ≡ opening_of shown state.area)
  marked state None is opens = absurd (cc (opens))
  marked state (Some mark) is opens =
      let same : history_mark shown state ≡ mark = ap (λ (o : Option (PairMark Opening)). unwrap_or o (mark_with (book_at {O = Opening} None) (opening_of shown state.area))) is in (
        is ∙ ap (λ (m : PairMark Opening). Some m) (sym same),
        ap (λ (m : PairMark Opening). m.opening) same ∙ ap (λ (o : Option Opening). unwrap_or o mark.opening) opens,
      )

  -- what lies behind a new turn stands for no entries yet
  pub kept_new : (state : ShownArea D) (index : AreaIndex) → HasRest shown state.area → ((texts : List ℕ) → index ≡ index_of (rules_of state.area) (state_of texts (loaded_of state.area)))
      → (publication_of state.shower).list ≡ [] → (publication_of state.shower).queued ≡ [] → (publication_of state.shower).value ≡ index
      → opening_at (publication_of state.shower).mark ≡ Some (opening_of shown state.area)
      → IsKept shown state (history_mark shown state) [] × ((history_mark shown state).opening ≡ opening_of shown state.area) × ((publication_of state.shower).mark ≡ Some (history_mark shown state))
  kept_new state index rest is list queued value opens =
      let mark = marked state (publication_of state.shower).mark refl opens in
      let stands = stands_new state.area rest in
      let shows = shows_new state.area index rest is in
      let back : opening_of shown state.area ≡ (history_mark shown state).opening = sym mark.1 in (
        record {
          area = subst (λ (o : Opening). StandsForHistory shown state.area o []) back stands;
          index = record {
            pair = mark.0;
            list = list;
            queued = queued;
            value = λ t. value ∙ (subst (λ (o : Opening). IsShownAs index o []) back shows).after t;
            doubted = λ t before after between change. absurd (cc (between));
          };
        },
        mark.1,
        mark.0,
      )

-- what is left of a list without its first element stands one place further on
pub dropped_at : {A : Type 0} (xs ys : List A) (n : ℕ) (x : A) → x ∷ ys ≡ drop n xs → (slice_get xs n ≡ Some x) × (ys ≡ drop (suc n) xs)
dropped_at [] ys zero x is = absurd (cc (is))
dropped_at [] ys (suc n) x is = absurd (cc (is))
dropped_at (z ∷ zs) ys zero x is = let here : z ≡ x = cc (is) in let rest : ys ≡ zs = cc (is) in (ap (λ a. Some a) here, rest)
dropped_at (z ∷ zs) ys (suc n) x is = dropped_at zs ys n x is

-- a list is its first element before the others
pub taken_off : {A : Type 0} (xs : List A) (x : A) → 0 < length xs → x ≡ get_or xs 0 x → x ∷ drop 1 xs ≡ xs
taken_off [] x some is = absurd (omega (arith, some))
taken_off (y ∷ ys) x some is = ap (λ a. a ∷ ys) is

-- the last one of a list
last_at : {A : Type 0} (xs : List A) (x : A) → slice_get (xs ++ x ∷ []) (length xs) ≡ Some x
last_at [] x = refl
last_at (y ∷ ys) x = last_at ys x

-- a reader that is the last of a beginning of new ones is new
pub reader_is_fresh : (mark : PairMark Opening) (all readers rest : List (Shown AreaIndex Opening Entry)) (reader : Shown AreaIndex Opening Entry) → IsPrefix readers all → readers ≡ rest ++ reader ∷ [] → AreFresh mark all
    → account_of reader ≡ arrived (Some mark) []
reader_is_fresh mark all readers rest reader begins is fresh =
    fresh (length rest) reader (prefix_get (rest ++ reader ∷ []) all (length rest) reader (subst (λ (l : List (Shown AreaIndex Opening Entry)). IsPrefix l all) is begins) (last_at rest reader))

-- new passes, with one more
pub joined_fresh : (turn : TurnId) (mark : PairMark Opening) (passes : List PassView) (pass : PassView) → ((k : ℕ) (p : PassView) → slice_get passes k ≡ Some p → p ≡ fresh_pass turn mark k) → pass ≡ fresh_pass turn mark (length passes)
    → (k : ℕ) (p : PassView) → slice_get (passes ++ pass ∷ []) k ≡ Some p → p ≡ fresh_pass turn mark k
joined_fresh turn mark passes pass all last = each_end (λ (k : ℕ) (p : PassView). p ≡ fresh_pass turn mark k) passes pass all last

-- a row by its parts
rows : (node node' : ℕ) (opening opening' : Option (PairMark Opening)) (front front' mine mine' : List Entry) (remarks remarks' : List Refusal) → node ≡ node' → opening ≡ opening' → front ≡ front' → mine ≡ mine' → remarks ≡ remarks'
    → row node opening front mine remarks ≡ row node' opening' front' mine' remarks'
rows node node' opening opening' front front' mine mine' remarks remarks' e f g h i = cc

-- the pass of a new seat with a new end that looks
pub pass_is_fresh : (turn turn' : TurnId) (mark : PairMark Opening) (k : ℕ) (known : SeatRow) (account : Account Opening Entry) → turn' ≡ turn → known.node ≡ k + 1 → known.opening ≡ Some mark → known.front ≡ [] → known.mine ≡ [] → known.remarks ≡ []
    → account ≡ arrived (Some mark) [] → ◌≡◌ {A = PassView} (record { area = Some (record { turn = turn'; book = book_at known.opening }); known = known_by_both known account }) (fresh_pass turn mark k)
pass_is_fresh turn turn' mark k known account same node opening front mine remarks fresh =
    let is : known ≡ row (k + 1) (Some mark) [] [] [] = rows known.node (k + 1) known.opening (Some mark) known.front [] known.mine [] known.remarks [] node opening front mine remarks in
    let P : TurnId → SeatRow → Account Opening Entry → PassView = λ t r a. record { area = Some (record { turn = t; book = book_at r.opening }); known = known_by_both r a } in
    ap (λ (t : TurnId). P t known account) same ∙ ap (λ (r : SeatRow). P turn r account) is ∙ ap (P turn (row (k + 1) (Some mark) [] [] [])) fresh

module _ {S : Type 0} where
  -- the first of the seats that are left is the new one of this place
  pub first_is_new : (mark : PairMark Opening) (all left rest : List (Seat S (PairMark Opening) Entry Refusal)) (n : ℕ) (seat : Seat S (PairMark Opening) Entry Refusal) → seat ∷ rest ≡ left → left ≡ drop n all → AreNewSeats mark all → IsNew mark n seat
  first_is_new mark all left rest n seat whole are new = new n seat (dropped_at all rest n seat (whole ∙ are)).0

  -- a new reader is one of a new seat
  pub parts_fit : (mark : PairMark Opening) (n : ℕ) (seat : Seat S (PairMark Opening) Entry Refusal) (known : SeatRow) (account : Account Opening Entry) → known ≡ row_of seat → IsNew mark n seat → account ≡ arrived (Some mark) []
      → (account.mark ≡ known.opening) × (account.told ≡ settled_of known.front)
  parts_fit mark n seat known account same is fresh = (
    ap (λ (a : Account Opening Entry). a.mark) fresh ∙ sym (ap (λ (r : SeatRow). r.opening) same ∙ is.1),
    ap (λ (a : Account Opening Entry). a.told) fresh ∙ sym (ap (λ (r : SeatRow). settled_of r.front) same ∙ ap settled_of is.2),
  )

  -- and both make a new pass
  pub pass_of_new : (turn turn' : TurnId) (mark : PairMark Opening) (n : ℕ) (seat : Seat S (PairMark Opening) Entry Refusal) (known : SeatRow) (account : Account Opening Entry) → turn' ≡ turn → known ≡ row_of seat → IsNew mark n seat
      → account ≡ arrived (Some mark) []
      → ◌≡◌ {A = PassView} (record { area = Some (record { turn = turn'; book = book_at known.opening }); known = known_by_both known account }) (fresh_pass turn mark n)
  pass_of_new turn turn' mark n seat known account here same is fresh =
      pass_is_fresh turn turn' mark n known account here (ap (λ (r : SeatRow). r.node) same ∙ is.0) (ap (λ (r : SeatRow). r.opening) same ∙ is.1) (ap (λ (r : SeatRow). r.front) same ∙ is.2)
      (ap (λ (r : SeatRow). r.mine) same ∙ is.3) (ap (λ (r : SeatRow). r.remarks) same ∙ is.4) fresh

module _ {D : Type 0} (shown : D → Device) where
  -- a new area with its passes
  pub shared_made : (was : OpenArea D) (nodes : ℕ) (area : SharedArea D) (mark : PairMark Opening) (passes : List PassView) → passes_of area ≡ nodes → length passes ≡ nodes
      → ((k : ℕ) (pass : PassView) → slice_get passes k ≡ Some pass → pass ≡ fresh_pass (id_of area.turn) mark k) → book_of area.origin ≡ book_at (Some mark) → mark.opening ≡ opening_of shown was
      → IsShared shown was nodes area passes
  shared_made was nodes area mark passes seats count fresh pair opens = record {
    seats = seats;
    count = count;
    ours = λ k d within.
        record {
          here =
              ap (λ (p : PassView). p.area) (fresh k (get_or passes k d) (slice_get-get_or passes k d within))
              ∙ ap (λ (b : Book). Some (record { turn = id_of area.turn; book = b })) (sym pair);
        };
    fresh = λ k pass at. ap (λ (p : PassView). p.known) (fresh k pass at) ∙ ap (first_known (k + 1)) opens;
  }
