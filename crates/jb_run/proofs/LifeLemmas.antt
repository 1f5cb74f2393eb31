-- One area of a board, from its disk to its disk.
use Rattle.std.proofs.Common.{◌≡◌, ℕ, ◌≤◌, Bool, true, false, List, length, Option, Some, None, inl, inr, refl, sym, ap, subst, ◌∙◌, arith}
use Rattle.std.specs.Option.{ForSome, option_map}
use Rattle.std.specs.Prelude.{IsTrue, is_some, not, slice_index_or}
use Rattle.std.proofs.lemmas.Option.{same_Some, slice_get-get_or}
use Rattle.jb_area.specs.Area.{DoubtOpens, HasDoubt, IsDoubtful, IsResting, device_of, loaded_of}
use Rattle.jb_area.specs.Holds.{IsAtRest, Opens}
use Rattle.jb_area.specs.declared.area.OpenArea.{OpenArea}
use Rattle.jb_area_open.specs.Opening.{KeepsOpening, OpensFirmly}
use Rattle.jb_base.specs.declared.area.AreaRules.{AreaRules}
use Rattle.jb_conf.specs.declared.board.BoardArea.{BoardArea}
use Rattle.jb_decide.specs.Coming.{Coming}
use Rattle.jb_disk.specs.Device.{Device}
use Rattle.jb_disk.specs.Files.{Files}
use Rattle.jb_disk.specs.declared.file.FileId.TheVariants.{Jdt}
use Rattle.jb_host.specs.Desk.{Desk, GivesDisk, TakesBack}
use Rattle.jb_model.specs.History.{last_faults}
use Rattle.jb_model.specs.Standing.{InDoubt, Settled, Standing, is_settled}
use Rattle.jb_state.specs.declared.loaded.Loaded.{Loaded}
use Rattle.jb_shared.specs.Closing.{Closes, HasEachNode, IsMissing, known_by}
use Rattle.jb_shared.specs.Histories.{Tells, stopped_last}
use Rattle.jb_shared.specs.Stops.{ComesBy}
use Rattle.jb_turn.specs.Rows.{Begins}
use Rattle.jb_model.specs.declared.entry.Entry.{Entry}
use Rattle.jb_shared.specs.Passes.{PassView}
use Rattle.jb_shared.specs.Standing.{IsAt, opening_of}
use Rattle.jb_shared.specs.declared.error.CloseError.{CloseError}
use Rattle.jb_shared.specs.declared.error.CloseError.TheVariants.{PassMissing}
use Rattle.jb_shared.specs.declared.shared.SharedArea.{SharedArea}
use Rattle.jb_run.specs.AreasErrors.{RefusesArea}
use Rattle.jb_run.specs.Lives.{Ends, HoldsAt, GoesOnFrom, OpensOver, SharesArea}
use Rattle.jb_run.specs.declared.areas_error.AreasError.TheVariants.{OutOfMemory}
use Rattle.jb_run.proofs.OpenLemmas.{OpensOne}
use Rattle.jb_run.proofs.StoppedLemmas.{stopped_rose}
use Rattle.jb_run.proofs.WholeLemmas.{nobody}

-- texts are told where the files are
same_told : (contents : Option Files) → is_some (option_map (λ (files : Files). files Jdt) contents) ≡ is_some contents
same_told None = refl
same_told (Some files) = refl

-- and they are those of the area
told_texts : (contents : Option Files) (loaded : Loaded) (texts told : List ℕ) → option_map (λ (files : Files). files Jdt) contents ≡ Some told → ForSome contents (IsAtRest loaded texts) → texts ≡ told
told_texts None loaded texts told there rests = absurd (cc (there))
told_texts (Some files) loaded texts told there rests = sym (rests files refl).holds.texts_are ∙ same_Some (files Jdt) told there

-- twice not
not_not : (b : Bool) → not (not b) ≡ b
not_not true = refl
not_not false = refl

-- a disk is taken back for the place that is named so
pub takes_back_at : (dir name dir' name' : List ℕ) (device : Device) (old new : Desk) → dir ≡ dir' → name ≡ name' → TakesBack dir name device old new → TakesBack dir' name' device old new
takes_back_at dir name dir' name' device old new same_dir same_name back =
    subst (λ (d : List ℕ). TakesBack d name' device old new) same_dir (subst (λ (n : List ℕ). TakesBack dir n device old new) same_name back)

-- no pass is missing where all are there
pub none_missing : (passes : List PassView) (count : ℕ) (error : CloseError) → HasEachNode (known_by passes) count → IsMissing passes count error → ⊥
none_missing passes count (PassMissing node) all missing = missing.2 (all node missing.0 missing.1)

module _ {D : Type 0} (shown : D → Device) where
  -- what an area goes on from is how it stands as it is shared
  opens_as : (by : AreaRules) (before : Device) (opened : OpenArea D) → OpensOver shown by before opened → GoesOnFrom by before (opening_of shown opened)
  opens_as by before opened over = let rests = over.rest.rests.kept.settled.rests in record {
    rules = over.rules;
    few = subst (λ (r : AreaRules). length (loaded_of opened).slots ≤ r.slots) over.rules over.rest.rests.kept.ruled.sound.few_slots;
    faults = over.faults;
    told = same_told (device_of shown opened).contents ∙ over.alike;
    opens = λ was there safe texts told.
        let at = over.opens was there safe in
        subst (λ (t : List ℕ). Opens (loaded_of opened) t was) (told_texts (device_of shown opened).contents (loaded_of opened) at.texts texts told at.rests.kept.settled.rests) at.opens;
    now = device_of shown opened;
    counted = refl;
    recovered = over.recovered;
    crash = over.crash;
    firm = over.firm;
    holds = λ files there texts told.
        subst (λ (t : List ℕ). IsAtRest (loaded_of opened) t files) (told_texts (device_of shown opened).contents (loaded_of opened) over.rest.texts texts told rests) (rests files there);
  }

  -- an area that is shared with so many nodes
  pub opens_one : (area : BoardArea) (nodes : ℕ) (old new : Desk) (one : SharedArea D) (row : List PassView) (live : ℕ) → SharesArea shown area nodes old new one row live
      → OpensOne area nodes old new one row live
  opens_one area nodes old new one row live shares = record {
    before = shares.before;
    opening = opening_of shown shares.opened;
    gives = shares.gives;
    opens = opens_as area.rules shares.before shares.opened shares.opens;
    fresh = λ n here.
        shares.shares.fresh n (slice_index_or row n nobody) (slice_get-get_or row n nobody (omega (arith, here, shares.shares.count)));
    count = shares.shares.count;
    ours = shares.shares.ours;
    all = shares.shares.seats;
    counts = shares.counts;
  }

  -- an area that was opened and is put back for want of memory
  pub lacks_room : (place : ℕ) (area : BoardArea) (old mid new : Desk) (before : Device) (opened : OpenArea D) (after : Device)
      → GivesDisk area.dir area.base before old mid → OpensOver shown area.rules before opened → device_of shown opened ≡ after → TakesBack area.dir area.base after mid new
      → RefusesArea place area old new OutOfMemory
  lacks_room place area old mid new before opened after gives over same back = inl (record {
    mid = mid;
    before = before;
    after = after;
    gives = gives;
    back = back;
    why = inr (record {
      is = refl;
      crash = subst (KeepsOpening before) same over.crash;
      firm = subst (OpensFirmly before) same over.firm;
      faults = ap (λ (d : Device). d.faults) (sym same) ∙ over.faults;
    });
  })

  -- whether the area says that it is in doubt
  doubt_is : (opened : OpenArea D) (is_doubtful : Bool) (standing : Standing) → IsAt shown opened standing → (HasDoubt shown opened → IsTrue is_doubtful)
      → ((texts : List ℕ) → IsResting shown opened texts → is_doubtful ≡ false) → is_doubtful ≡ not (is_settled standing)
  doubt_is opened is_doubtful (Settled state) at doubt rests = rests at.0 at.1
  doubt_is opened is_doubtful (InDoubt before after) at doubt rests = doubt (record { texts = at.0; coming = at.1; doubt = at.2 })

  -- what its disk holds then
  holds_at : (opened : OpenArea D) (standing : Standing) → IsAt shown opened standing
      → ((texts : List ℕ) (coming : Option Coming) → IsDoubtful shown opened texts coming → ForSome (device_of shown opened).contents (DoubtOpens (loaded_of opened) texts coming))
      → HoldsAt standing (device_of shown opened)
  holds_at opened (Settled state) at opens = (at.1.kept.settled.synced, λ files there. (loaded_of opened, at.0, at.1.kept.settled.rests files there, at.2))
  holds_at opened (InDoubt before after) at opens = λ files there. (loaded_of opened, at.0, at.1, opens at.0 at.1 at.2 files there, at.3)

  -- an area that was closed with its passes, and its disk
  pub ends_as : (passes : List PassView) (opened : OpenArea D) (is_doubtful : Bool) (after : Device) → Closes shown passes opened → (HasDoubt shown opened → IsTrue is_doubtful)
      → ((texts : List ℕ) → IsResting shown opened texts → is_doubtful ≡ false)
      → ((texts : List ℕ) (coming : Option Coming) → IsDoubtful shown opened texts coming → ForSome (device_of shown opened).contents (DoubtOpens (loaded_of opened) texts coming))
      → device_of shown opened ≡ after → Ends passes is_doubtful after
  ends_as passes opened is_doubtful after closes doubt rests opens same =
      let standing = closes.stands.0 in
      let at = closes.stands.1 in
      let is : is_doubtful ≡ not (is_settled standing) = doubt_is opened is_doubtful standing at.at doubt rests in
      let stopped : is_doubtful ≡ stopped_last closes.history = is ∙ ap not at.kind ∙ not_not (stopped_last closes.history) in
      let told : last_faults closes.opening.faults closes.history ≤ after.faults = omega (arith, at.faults, ap (λ (d : Device). d.faults) same) in
      record {
        opening = closes.opening;
        history = closes.history;
        leaves = record {
          history = at.history;
          faults = told;
          told = ap (λ (d : Device). is_some d.contents) (sym same) ∙ at.told;
          standing = standing;
          leads = at.leads;
          doubt = is;
          stopped = stopped;
          cause = λ yes. let rose = stopped_rose closes.opening closes.history at.history (sym stopped ∙ yes) in omega (arith, rose, told);
          holds = subst (HoldsAt standing) same (holds_at opened standing at.at opens);
          crash = let P : Device → Type 0 = λ d. Tells closes.opening → (part : List Entry) → Begins part closes.history → ComesBy closes.opening part closes.history d in
              subst P same at.crash;
        };
        each = closes.each;
        others = closes.others;
        longest = closes.longest;
      }
