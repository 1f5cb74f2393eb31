-- What a crash leaves of a shared area, by how its calls end.
use Rattle.std.proofs.Common.{◌≡◌, ◌⊎◌, inl, inr, ℕ, Bool, true, false, List, [], ◌∷◌, ◌++◌, length, Option, Some, None, refl, sym, ◌∙◌, ap, subst}
use Rattle.std.specs.Option.{ForSome}
use Rattle.std.specs.Prelude.{is_some}
use Rattle.jb_area.specs.Area.{DoubtOpens, device_of, loaded_of}
use Rattle.jb_area.specs.Commits.{IsSettledAs}
use Rattle.jb_area.specs.Holds.{Opens, OpensToEither}
use Rattle.jb_area.specs.declared.area.OpenArea.{OpenArea}
use Rattle.jb_area.proofs.HoldLemmas.{rest_opens}
use Rattle.jb_decide.specs.Coming.{Coming}
use Rattle.jb_disk.specs.Device.{Device}
use Rattle.jb_disk.specs.Files.{Files}
use Rattle.jb_disk.specs.Images.{Images}
use Rattle.jb_disk.specs.Runs.{LeavesAlways, LeavesNow, LeavesOnly, Shows}
use Rattle.jb_disk.proofs.FileLemmas.{leaves_map}
use Rattle.jb_disk.proofs.RunLemmas.{runs-refl, runs-then, runs-weaken}
use Rattle.jb_model.specs.Standing.{Standing, Settled, InDoubt, Allows, StandsWithin, after_entry}
use Rattle.jb_state.specs.State.{AreaState, state_of}
use Rattle.jb_state.proofs.LinkLaws.{true_not_false}
use Rattle.jb_model.specs.declared.entry.Entry.{Entry}
use Rattle.jb_model.specs.declared.entry.Entry.TheVariants.{Reopened}
use Rattle.jb_model.proofs.HistoryLaws.{standing_after_push}
use Rattle.jb_state.specs.declared.loaded.Loaded.{Loaded}
use Rattle.jb_turn.specs.Rows.{Begins}
use Rattle.jb_shared.specs.Histories.{IsHistory, first_state, leads_to}
use Rattle.jb_shared.specs.Standing.{IsAt, doubt_between, state_to}
use Rattle.jb_shared.specs.Stops.{ComesBy, OpensBetween, OpensAtLast}
use Rattle.jb_shared.specs.declared.opening.Opening.{Opening}
use Rattle.jb_shared.proofs.HistoryLemmas.{history_push}
use Rattle.jb_shared.proofs.SettledLemmas.{begins_itself, begins_on}

-- what is said of files that are told
pub told_gives : (contents : Option Files) (P : Type 0) → is_some contents ≡ true → ForSome contents (λ files. P) → P
told_gives None P told is = absurd (true_not_false (sym told))
told_gives (Some files) P told is = is files refl

-- the newest moment is one of them
newest_in : (P : Files → Type 0) (was later now : List Images) → LeavesNow P was → LeavesAlways P later → now ≡ later ++ was → LeavesNow P now
newest_in P was [] now first only since = subst (LeavesNow P) (sym since) first
newest_in P was (next ∷ later) now first only since = subst (LeavesNow P) (sym since) only.0

-- what a crash leaves meanwhile it leaves at the end
pub leaves_newest : (P : Files → Type 0) (old new : Device) → LeavesOnly old new P → LeavesNow P new.moments
leaves_newest P old new only = newest_in P old.moments only.run.later new.moments only.first only.run.only only.run.since

-- a weaker property
pub only_weaken : (P Q : Files → Type 0) (old new : Device) → ((files : Files) → P files → Q files) → LeavesOnly old new P → LeavesOnly old new Q
only_weaken P Q old new weaker only = record { first = leaves_map P Q old.moments weaker only.first; run = runs-weaken P Q weaker old.moments new.moments only.run }

-- one stretch after another
pub only_then : (P : Files → Type 0) (a b c : Device) → LeavesOnly a b P → LeavesOnly b c P → LeavesOnly a c P
only_then P a b c first second = record { first = first.first; run = runs-then P a.moments b.moments c.moments first.run second.run }

-- nothing is done
pub only_still : (P : Files → Type 0) (device : Device) → LeavesNow P device.moments → LeavesOnly device device P
only_still P device first = record { first = first; run = runs-refl P device.moments device.moments refl }

-- what opens to the area as it was settled behind a history opens to the area after it
pub opens_settled : (opening : Opening) (history : List Entry) (state : AreaState) (loaded : Loaded) (texts : List ℕ) (files : Files) → IsHistory opening history → leads_to opening history ≡ Settled state
    → state_of texts loaded ≡ state → Opens loaded texts files → OpensAtLast opening history files
opens_settled opening history state loaded texts files legal leads is opens = (
  None,
  record { legal = legal; loaded = loaded; texts = texts; opens = opens; leads = leads ∙ ap Settled (sym is) },
)

-- what opens to the area once its doubt has ended so
opens_ended : (opening : Opening) (history : List Entry) (before : AreaState) (after : Option AreaState) (stands : Bool) (state : AreaState) (loaded : Loaded) (texts : List ℕ) (files : Files) → IsHistory opening history
    → leads_to opening history ≡ InDoubt before after → Allows opening.rules (InDoubt before after) (Reopened stands) → after_entry opening.rules (InDoubt before after) (Reopened stands) ≡ Settled state
    → state_of texts loaded ≡ state → Opens loaded texts files → OpensAtLast opening history files
opens_ended opening history before after stands state loaded texts files legal leads may ends is opens = (
  Some stands,
  record {
    legal = history_push opening history (Reopened stands) legal tt tt (λ t. subst (λ (s : Standing). Allows opening.rules s (Reopened stands)) (sym leads) may);
    loaded = loaded;
    texts = texts;
    opens = opens;
    leads = standing_after_push opening.rules (first_state opening) history (Reopened stands) ∙ ap (λ (s : Standing). after_entry opening.rules s (Reopened stands)) leads ∙ ends ∙ ap Settled (sym is);
  },
)

-- what opens to either end of a doubt
pub opens_doubt : (opening : Opening) (history : List Entry) (before : AreaState) (after : Option AreaState) (loaded : Loaded) (texts : List ℕ) (coming : Option Coming) (files : Files) → IsHistory opening history
    → leads_to opening history ≡ InDoubt before after → StandsWithin (doubt_between texts loaded coming) (InDoubt before after) → DoubtOpens loaded texts coming files → OpensAtLast opening history files
opens_doubt opening history before after loaded texts None files legal leads within opens = opens_ended opening history before after false before loaded texts files legal leads tt refl within opens
opens_doubt opening history before after loaded texts (Some coming) files legal leads within (inl opens) = opens_ended opening history before after false before loaded texts files legal leads tt refl within.0 opens
opens_doubt opening history before after loaded texts (Some coming) files legal leads within (inr opens) =
    opens_ended opening history before (Some (state_to coming)) true (state_to coming) coming.to coming.texts files legal (leads ∙ ap (InDoubt before) within.1) tt refl refl opens

module _ (opening : Opening) (history : List Entry) where
  -- what opens to the area after a history, where no more of it has come
  pub opens_same : (files : Files) → OpensAtLast opening history files → OpensBetween opening history history files
  opens_same files opens = record { part = history; from = begins_itself history; within = begins_itself history; opens = opens }

  -- and where one entry more has come, or is coming
  pub opens_first : (entry : Entry) (files : Files) → OpensAtLast opening history files → OpensBetween opening history (history ++ entry ∷ []) files
  opens_first entry files opens = record { part = history; from = begins_itself history; within = (entry ∷ [], refl); opens = opens }

  -- what opens to the area after that entry
  pub opens_last : (entry : Entry) (files : Files) → OpensAtLast opening (history ++ entry ∷ []) files → OpensBetween opening history (history ++ entry ∷ []) files
  opens_last entry files opens = record { part = history ++ entry ∷ []; from = (entry ∷ [], refl); within = begins_itself (history ++ entry ∷ []); opens = opens }

-- what opens to the area before a call that was answered, or after it
pub opens_either : (opening : Opening) (history : List Entry) (entry : Entry) (before after : AreaState) (loaded : Loaded) (texts : List ℕ) (coming : Coming) (files : Files) → IsHistory opening history
    → leads_to opening history ≡ Settled before → state_of texts loaded ≡ before → IsHistory opening (history ++ entry ∷ []) → leads_to opening (history ++ entry ∷ []) ≡ Settled after → state_to coming ≡ after
    → OpensToEither loaded texts coming files → OpensBetween opening history (history ++ entry ∷ []) files
opens_either opening history entry before after loaded texts coming files legal leads is pushed ends to (inl opens) =
    opens_first opening history entry files (opens_settled opening history before loaded texts files legal leads is opens)
opens_either opening history entry before after loaded texts coming files legal leads is pushed ends to (inr opens) =
    opens_last opening history entry files (opens_settled opening (history ++ entry ∷ []) after coming.to coming.texts files pushed ends to opens)

-- between more there is as much
pub between_more : (opening : Opening) (first last first' last' : List Entry) → Begins first' first → Begins last last' → (files : Files) → OpensBetween opening first last files → OpensBetween opening first' last' files
between_more opening first last first' last' less more files opens = record {
  part = opens.part;
  from = begins_on first' first opens.part less opens.from;
  within = begins_on opens.part last last' opens.within more;
  opens = opens.opens;
}

-- what begins a list with one more begins the list, or is all of it
begins_or_all : {A : Type 0} (part list : List A) (last : A) → Begins part (list ++ last ∷ []) → Begins part list ⊎ (part ≡ list ++ last ∷ [])
begins_or_all [] list last begins = inl (list, refl)
begins_or_all (x ∷ part) [] last (rest, is) = inr (alone x part rest last is)
  where
    alone : {A : Type 0} (x : A) (part rest : List A) (last : A) → (last ∷ []) ≡ (x ∷ (part ++ rest)) → (x ∷ part) ≡ (last ∷ [])
    alone x [] rest last is = cc
    alone x (y ∷ part) rest last is = absurd (cc)
begins_or_all (x ∷ part) (y ∷ list) last (rest, is) =
    let same : x ≡ y = cc in
    elim (begins_or_all part list last (rest, cc)) [
      | inl begins ↦ inl (begins.0, ap (λ z. z ∷ list) (sym same) ∙ ap (λ l. x ∷ l) begins.1)
      | inr all ↦ inr (ap (λ z. z ∷ part) same ∙ ap (λ l. y ∷ l) all)
    ]

module _ (opening : Opening) (old new : Device) where
  -- the disk has come by a part, and goes on
  comes_on : (part history more : List Entry) → Begins part history → Begins history more → ComesBy opening part history old → LeavesOnly old new (OpensBetween opening history more) → ComesBy opening part more new
  comes_on part history more begins grows by after = record {
    shared = by.shared;
    counted = by.counted;
    middle = by.middle;
    before = by.before;
    behind =
        only_then (OpensBetween opening part more) by.middle old new
        (only_weaken (OpensBetween opening part history) (OpensBetween opening part more) by.middle old (between_more opening part history part more (begins_itself part) grows) by.behind)
        (only_weaken (OpensBetween opening history more) (OpensBetween opening part more) old new (between_more opening history more part more begins (begins_itself more)) after);
  }

  -- it has come by all
  comes_by_all : (history more : List Entry) → Begins history more → ComesBy opening history history old → LeavesOnly old new (OpensBetween opening history more) → LeavesNow (OpensAtLast opening more) new.moments
      → ComesBy opening more more new
  comes_by_all history more grows by after now =
      let least = OpensBetween opening [] more in
      record {
        shared = by.shared;
        counted = by.counted;
        middle = new;
        before =
            only_then least by.shared old new
            (only_then least by.shared by.middle old
            (only_weaken (OpensBetween opening [] history) least by.shared by.middle (between_more opening [] history [] more ([], refl) grows) by.before)
            (only_weaken (OpensBetween opening history history) least by.middle old (between_more opening history history [] more (history, refl) grows) by.behind))
            (only_weaken (OpensBetween opening history more) least old new (between_more opening history more [] more (history, refl) (begins_itself more)) after);
        behind = only_still (OpensBetween opening more more) new (leaves_map (OpensAtLast opening more) (OpensBetween opening more more) new.moments (opens_same opening more) now);
      }

  -- so it comes by each part of a history with one entry more
  pub comes_by_more : (history : List Entry) (entry : Entry) → ((part : List Entry) → Begins part history → ComesBy opening part history old) → LeavesOnly old new (OpensBetween opening history (history ++ entry ∷ []))
      → LeavesNow (OpensAtLast opening (history ++ entry ∷ [])) new.moments → (part : List Entry) → Begins part (history ++ entry ∷ []) → ComesBy opening part (history ++ entry ∷ []) new
  comes_by_more history entry by after now part begins = elim (begins_or_all part history entry begins) [
    | inl less ↦ comes_on part history (history ++ entry ∷ []) less (entry ∷ [], refl) (by part less) after
    | inr all ↦ subst (λ (l : List Entry). ComesBy opening l (history ++ entry ∷ []) new) (sym all)
        (comes_by_all history (history ++ entry ∷ []) (entry ∷ [], refl) (by history (begins_itself history)) after now)
  ]

  -- and of the same history, once more has come that records nothing
  pub comes_by_still : (history : List Entry) → ((part : List Entry) → Begins part history → ComesBy opening part history old) → LeavesOnly old new (OpensBetween opening history history)
      → (part : List Entry) → Begins part history → ComesBy opening part history new
  comes_by_still history by after part begins = comes_on part history history begins (begins_itself history) (by part begins) after

-- what begins nothing is nothing
begins_none : {A : Type 0} (part : List A) → Begins part [] → part ≡ []
begins_none [] begins = refl
begins_none (x ∷ part) (rest, is) = absurd (cc)

-- a disk of which no more is told has come by nothing
pub comes_by_none : (opening : Opening) (device : Device) → length device.moments ≡ opening.moments → LeavesNow (OpensAtLast opening []) device.moments → (part : List Entry) → Begins part [] → ComesBy opening part [] device
comes_by_none opening device counted now part begins =
    let still = only_still (OpensBetween opening [] []) device (leaves_map (OpensAtLast opening []) (OpensBetween opening [] []) device.moments (opens_same opening []) now) in
    subst (λ (l : List Entry). ComesBy opening l [] device) (sym (begins_none part begins)) (record { shared = device; counted = counted; middle = device; before = still; behind = still })

module _ {D : Type 0} (shown : D → Device) where
  -- a settled area opens as it is, now and after a crash
  pub settled_shows : (area : OpenArea D) (opening : Opening) (history : List Entry) (state : AreaState) → IsAt shown area (Settled state) → is_some (device_of shown area).contents ≡ true → IsHistory opening history
      → leads_to opening history ≡ Settled state → Shows (OpensAtLast opening history) (device_of shown area)
  settled_shows area opening history state (texts, rests, is) told legal leads =
      let device = device_of shown area in
      let settled : IsSettledAs (loaded_of area) texts device = rests.kept.settled in
      let opens : (files : Files) → Opens (loaded_of area) texts files → OpensAtLast opening history files = λ files. opens_settled opening history state (loaded_of area) texts files legal leads is in
      record {
        read = λ files there. opens files (rest_opens (loaded_of area) texts files (settled.rests files there));
        left =
            told_gives device.contents (LeavesNow (OpensAtLast opening history) device.moments) told
            (λ files there. leaves_map (λ (left : Files). left ≡ files) (OpensAtLast opening history) device.moments
            (λ left same. opens left (subst (Opens (loaded_of area) texts) (sym same) (rest_opens (loaded_of area) texts files (settled.rests files there)))) (settled.synced files there));
      }
