-- What the turns of a backup make of its target, and of what a pass knows.
use Rattle.std.proofs.Common.{◌≡◌, ◌⊎◌, inl, inr, ℕ, ◌≤◌, ◌<◌, Bool, true, false, List, [], ◌∷◌, length, take, Option, Some, None, Result, Ok, Err, refl, sym, ◌∙◌, ap, subst, arith, length-append}
use Rattle.std.specs.Option.{ForSome}
use Rattle.std.specs.Prelude.{IfErr, IfOk, OnOk, is_some, map, not}
use Rattle.std.proofs.lemmas.Bool.{false≢true}
use Rattle.std.proofs.lemmas.List.{take-append-le}
use mathlib.Core.List.{IsPrefix}
use Rattle.jb_area.specs.Area.{HasDoubt, IsDoubtful, device_of, loaded_of, packs_of}
use Rattle.jb_area.specs.Backups.{IsBackup, OpensToState, capped_state}
use Rattle.jb_area.specs.Calls.{HasRest}
use Rattle.jb_area.specs.declared.area.OpenArea.{OpenArea}
use Rattle.jb_decide.specs.Coming.{Coming}
use Rattle.jb_area.proofs.ReadingLemmas.{readings_keep}
use Rattle.jb_area.proofs.BackupLemmas.{rest_backup, rest_few, rest_holds, rest_same}
use Rattle.jb_backup.specs.Answers.{AnswersCopy, CopiesSome, IsFault, is_target_fault}
use Rattle.jb_backup.specs.Begin.{BeginsAs, BeginsTiny, LeavesNoMore}
use Rattle.jb_backup.specs.Target.{AreEmpty, HasBegun, HasFront, IsBackupOf, IsFront, IsSame, IsTiny, IsUnsigned, backed_up}
use Rattle.jb_backup.specs.declared.error.BackupError.{BackupError}
use Rattle.jb_backup.specs.declared.error.BackupError.TheVariants.{SourceFault, TargetFault, InDoubt as LeftInDoubt, NotEmpty, OutOfMemory}
use Rattle.jb_backup.proofs.AnswerLemmas.{counts_then, ok_of}
use Rattle.jb_backup.proofs.Callers.{begins_then, begins_weaken, tiny_refused, unsigned_refused}
use Rattle.jb_disk.specs.Device.{CountsFaults, Device, TellsAlike}
use Rattle.jb_disk.specs.Files.{Files}
use Rattle.jb_disk.specs.Images.{Images, IsImage}
use Rattle.jb_disk.specs.Runs.{LeavesOnly, Shows}
use Rattle.jb_disk.specs.declared.file.FileId.TheVariants.{Jdt}
use Rattle.jb_disk.proofs.RunLemmas.{runs-refl}
use Rattle.jb_limits.specs.declared.limits.TheConstants.{MOST_SLOTS}
use Rattle.jb_model.specs.Standing.{Settled, InDoubt}
use Rattle.jb_model.specs.declared.entry.Entry.{Entry}
use Rattle.jb_publish.specs.Accounts.{Account, told_with}
use Rattle.jb_publish.specs.Marks.{opening_at}
use Rattle.jb_state.specs.Live.{live_count}
use Rattle.jb_state.specs.State.{AreaState, slot_state, state_of}
use Rattle.jb_turn.specs.Rows.{Begins, StandsFrom}
use Rattle.jb_turn.specs.Steps.{given, sighted as took_in}
use Rattle.jb_shared.specs.Backing.{CopiesOnto, CopiesPart, GoesOn, HasCopied, IsCopiedOf, IsReady, IsRenewed, MayNotBegin}
use Rattle.jb_shared.specs.Backups.{AnswersBackup, BacksState, BacksUp, EndsStopped, Finishes, FinishesAs, HasFoundEmpty, TurnsEnd, state_after, told_backed}
use Rattle.jb_shared.specs.Histories.{IsHistory, Tells, state_at, stopped_last}
use Rattle.jb_shared.specs.InTurn.{Knows, SeatRow}
use Rattle.jb_shared.specs.Inside.{known_by_both, known_in, pass_of}
use Rattle.jb_shared.specs.Keeping.{IsKept}
use Rattle.jb_shared.specs.Passes.{Known, PassView, seen}
use Rattle.jb_shared.specs.Reading.{WasRead}
use Rattle.jb_shared.specs.Standing.{StandsAt, StandsForHistory}
use Rattle.jb_shared.specs.Stepping.{HasTaken}
use Rattle.jb_shared.specs.Texts.{text_files_at}
use Rattle.jb_shared.specs.declared.backed.Backed.{Backed}
use Rattle.jb_shared.specs.declared.backing.Backing.{Backing}
use Rattle.jb_shared.specs.declared.opening.Opening.{Opening}
use Rattle.jb_shared.specs.declared.parts.Parts.{Parts}
use Rattle.jb_shared.specs.declared.shown.ShownArea.{ShownArea}
use Rattle.jb_shared.proofs.CallLemmas.{given_none, known_after}
use Rattle.jb_shared.proofs.IndexLemmas.{rests_no_doubt}
use Rattle.jb_shared.proofs.KnowingLemmas.{knows_still, mark_known}
use Rattle.jb_shared.proofs.ReadingLemmas.{kept_read}
use Rattle.jb_shared.proofs.SettledLemmas.{begins_itself, begins_on}
use Rattle.jb_shared.proofs.StopLemmas.{only_still, only_then, only_weaken, told_gives}
use Rattle.jb_shared.proofs.TextLemmas.{texts_on}

-- an answer of these types
abbrev pub err_of : (T E : Type 0) → E → Result T E
err_of T E error = Err error

-- nothing is a beginning of all texts
front_none : (source : Files) (target : Option Files) → HasFront 0 source target
front_none source target = λ files there. record { within = omega arith; same = refl }

-- what begins texts begins those that go on from them
front_on : (copied : ℕ) (before after target : List ℕ) → IsPrefix before after → IsFront copied before target → IsFront copied after target
front_on copied before after target (rest, is) front = record {
  within = let more = length-append before rest in let whole = ap length is in let low = front.within in omega (arith, more, whole, low);
  same = front.same ∙ sym (take-append-le copied before rest front.within) ∙ ap (take copied) is;
}

-- the target is begun for what is copied as a turn begins
pub begun_renewed : (backing : Backing) (packs copied : ℕ) (target : Device) → HasBegun backing.copier target → IsRenewed backing packs copied → HasBegun copied target
begun_renewed backing packs copied target begun (inl (goes, is)) = subst (λ (n : ℕ). HasBegun n target) (sym is) begun
begun_renewed backing packs copied target begun (inr (none, only)) = record { unsigned = begun.unsigned; texts = λ files there. omega (arith, none) }

-- and that begins the texts of the source, where what was copied does if it goes on
pub front_renewed : (backing : Backing) (packs copied : ℕ) (source : Files) (target : Option Files) → (GoesOn backing.packs packs → HasFront backing.copier source target) → IsRenewed backing packs copied
    → HasFront copied source target
front_renewed backing packs copied source target front (inl (goes, is)) = subst (λ (n : ℕ). HasFront n source target) (sym is) (front goes)
front_renewed backing packs copied source target front (inr (none, only)) = subst (λ (n : ℕ). HasFront n source target) (sym none) (front_none source target)

-- a part that is copied of what is told of the source
pub copies_part : (end packs copied : ℕ) (source : Option Files) (old new : Backing) (target target' : Option Files) (result : Result Bool BackupError) → IsRenewed old packs copied
    → IfOk result (λ more. ForSome source (λ files. CopiesSome end (files Jdt) copied new.copier more))
    → OnOk result (ForSome source (λ files. HasFront copied files target → HasFront new.copier files target'))
    → IfOk result (λ more. ForSome source (λ files. CopiesPart end packs files old new target target' more))
copies_part end packs copied source old new target target' (Ok more) renewed copies front = λ files there. record { from = copied; renewed = renewed; copies = copies files there; front = front files there }
copies_part end packs copied source old new target target' (Err error) renewed copies front = tt

-- the one of two, where the other would say what is not so
pub no_other : (P Q : Type 0) → P ⊎ Q → (Q → false ≡ true) → P
no_other P Q (inl is) none = is
no_other P Q (inr other) none = absurd (false≢true (none other))

-- one number
same_number : (one other : ℕ) → Some one ≡ Some other → one ≡ other
same_number one other is = cc

-- one opening
pub same_opening : (one other : Opening) → Some one ≡ Some other → one ≡ other
same_opening one other is = cc

-- what was copied in an earlier turn begins the texts that the area has behind more of its history, where it goes on
copied_goes : (known : Known) (backing : Backing) (target : Device) (opening : Opening) (front : List Entry) (packs : ℕ) (files : Files) → IsCopiedOf known backing target → known.opening ≡ Some opening → Tells opening
    → Begins known.front front → packs ≡ (text_files_at opening front).now.packs → files Jdt ≡ (text_files_at opening front).now.bytes → GoesOn backing.packs packs → HasFront backing.copier files target.contents
copied_goes known backing target opening front packs files copied is t grows counted texts goes = by (copied opening is t)
  where
    by : (backing.copier ≡ 0) ⊎ ((part : List Entry) × Begins part known.front × HasCopied opening part backing target) → HasFront backing.copier files target.contents
    by (inl none) = subst (λ (n : ℕ). HasFront n files target.contents) (sym none) (front_none files target.contents)
    by (inr (part, begins, has)) = λ to there.
        let same : (text_files_at opening part).now.packs ≡ packs = same_number _ _ (sym has.packs ∙ goes.0) in
        let low : (text_files_at opening part).now.packs < 18446744073709551615 = let under = goes.1 in omega (arith, same, under) in
        subst (λ (l : List ℕ). IsFront backing.copier l (to Jdt)) (sym texts)
        (front_on backing.copier (text_files_at opening part).now.bytes (text_files_at opening front).now.bytes (to Jdt)
        (texts_on opening part front (begins_on part known.front front begins grows) (same ∙ counted) low) (has.front to there))

-- what was copied is of the area still, behind more of its history
copied_later : (old new : Known) (backing : Backing) (target : Device) → new.opening ≡ old.opening → Begins old.front new.front → IsCopiedOf old backing target → IsCopiedOf new backing target
copied_later old new backing target same grows copied = λ opening is t. by opening (copied opening (sym same ∙ is) t)
  where
    by : (opening : Opening) → (backing.copier ≡ 0) ⊎ ((part : List Entry) × Begins part old.front × HasCopied opening part backing target)
        → (backing.copier ≡ 0) ⊎ ((part : List Entry) × Begins part new.front × HasCopied opening part backing target)
    by opening (inl none) = inl none
    by opening (inr (part, begins, has)) = inr (part, begins_on part old.front new.front begins grows, has)

-- a target of which nothing is asked stays unsigned
pub stays_unsigned : (copied : ℕ) (target : Device) → HasBegun copied target → LeavesOnly target target IsUnsigned
stays_unsigned copied target begun = only_still IsUnsigned target begun.unsigned.left

-- what is known has taken no less
taken_none : (known : Known) → HasTaken known known
taken_none known = (known.front, begins_itself known.front, refl)

-- nothing is copied yet, or no turn was taken
pub copies_none : {T : Type 0} (known : Known) (backing : Backing) (target : Device) (value : T) → IsReady known backing target → CopiesOnto known known backing target target (ok_of T BackupError value)
copies_none known backing target value ready = record {
  taken = taken_none known;
  ready = ready;
  crash = stays_unsigned backing.copier target ready.begun;
  fault = tt;
  faults = record { quiet = refl; later = omega arith; cause = tt };
  alike = refl;
}

-- in a turn that records nothing more of the history is taken
pub taken_in : (account account' account'' : Account Opening Entry) (list list' : List Entry) (old taken new : SeatRow) (front : List Entry) → taken ≡ took_in old front → new ≡ given taken None
    → account' ≡ told_with account list → account'' ≡ told_with account' list' → known_by_both new account'' ≡ seen (known_by_both old account) front
taken_in account account' account'' list list' old taken new front took is told told' =
    known_after (took_in old front) new account account' account'' list list' (is ∙ given_none taken ∙ took) told told'

-- by whether a history ends settled
settled_last : (b : Bool) → true ≡ not b → b ≡ false
settled_last true is = absurd (false≢true (sym is))
settled_last false is = refl

doubtful_last : (b : Bool) → false ≡ not b → b ≡ true
doubtful_last true is = refl
doubtful_last false is = absurd (false≢true is)

-- of a disk that shows itself so
module _ {D : Type 0} (shown : D → Device) where
  -- the area in a turn stands for the history that was taken in it
  pub turned : (account : Account Opening Entry) (old taken : SeatRow) (front : List Entry) (state : ShownArea D) → taken ≡ took_in old front → StandsFrom (IsKept shown) taken.opening state taken.front
      → (first : Opening) × ((known_by_both old account).opening ≡ Some first) × StandsForHistory shown state.area first front
  turned account old taken front state took stands =
      let mark = mark_known (IsKept shown) taken.opening state taken.front stands in
      (mark.0.opening, ap opening_at (sym (ap (λ (k : SeatRow). k.opening) took) ∙ mark.1), subst (λ (l : List Entry). StandsForHistory shown state.area mark.0.opening l) (ap (λ (k : SeatRow). k.front) took) mark.2.area)

  -- at rest or in doubt
  pub rest_or_doubt : (area : OpenArea D) (opening : Opening) (history : List Entry) → StandsForHistory shown area opening history → HasRest shown area ⊎ HasDoubt shown area
  rest_or_doubt area opening history (Settled state, stands) = inl (record { texts = stands.at.0; rests = stands.at.1 })
  rest_or_doubt area opening history (InDoubt before after, stands) = inr (record { texts = stands.at.0; coming = stands.at.1; doubt = stands.at.2 })

  -- an area at rest has no more slots than any may have
  pub slots_few : (area : OpenArea D) → HasRest shown area → length (loaded_of area).slots ≤ MOST_SLOTS
  slots_few area rest = rest_few shown area rest.texts rest.rests

  -- and has it still where it was only read
  pub read_out : (old : ShownArea D) (area : OpenArea D) (known : SeatRow) → WasRead shown old.area area → Knows (IsKept shown) old known → Knows (IsKept shown) (record { area = area; shower = old.shower; doubted = old.doubted }) known
  read_out old area known read knows =
      knows_still (IsKept shown) (IsKept shown) old (record { area = area; shower = old.shower; doubted = old.doubted }) known knows
      (λ first was. kept_read shown old area first known.front (readings_keep shown old.area area read.same read.reads) read.reads read.later was)

  -- how many bytes its texts have
  pub texts_sized : (area : OpenArea D) (opening : Opening) (history : List Entry) → StandsForHistory shown area opening history → Tells opening → (loaded_of area).texts_len ≡ length (text_files_at opening history).now.bytes
  texts_sized area opening history (Settled state, stands) t = sym (stands.text_files t).0.kept.ruled.sized
  texts_sized area opening history (InDoubt before after, stands) t = let held = stands.text_files t in by held.0 held.1
    where
      by : (coming : Option Coming) → IsDoubtful shown area (text_files_at opening history).now.bytes coming → (loaded_of area).texts_len ≡ length (text_files_at opening history).now.bytes
      by None (inl unchanged) = sym unchanged.kept.ruled.sized
      by None (inr copying) = sym copying.ruled.sized
      by (Some coming) between = sym between.ruled.sized

  -- behind a history that ends settled the area is at rest, with the texts and the packs that it makes
  module _ (area : OpenArea D) (opening : Opening) (history : List Entry) (state : AreaState) (stands : StandsAt shown area opening history (Settled state)) where
    settled_rest : HasRest shown area
    settled_rest = record { texts = stands.at.0; rests = stands.at.1 }

    settled_packs : Tells opening → packs_of area ≡ (text_files_at opening history).now.packs
    settled_packs t = (stands.text_files t).1

    settled_texts : Tells opening → (files : Files) → (device_of shown area).contents ≡ Some files → files Jdt ≡ (text_files_at opening history).now.bytes
    settled_texts t files there = (rest_holds shown area (text_files_at opening history).now.bytes (stands.text_files t).0 files there).texts_are

  -- what is copied in a turn is of the area behind the history that was taken in it
  ready_read : (old : Known) (front : List Entry) (area : OpenArea D) (first : Opening) (end : ℕ) (backing backing' : Backing) (target target' : Device) (result : Result Bool BackupError)
      → StandsForHistory shown area first front → old.opening ≡ Some first → Begins old.front front → IsReady old backing target
      → OnOk result (HasBegun backing'.copier target') → (HasRest shown area → OnOk result (backing'.packs ≡ Some (packs_of area)))
      → (HasRest shown area → IfOk result (λ more. ForSome (device_of shown area).contents (λ files. CopiesPart end (packs_of area) files backing backing' target.contents target'.contents more)))
      → (HasDoubt shown area → (backing' ≡ backing) × (target' ≡ target)) → OnOk result (IsReady (seen old front) backing' target')
  ready_read old front area first end backing backing' target target' (Err error) stands known grows ready begun packs copies passed = tt
  ready_read old front area first end backing backing' target target' (Ok more) (InDoubt before after, stands) known grows ready begun packs copies passed =
      let at = stands.at in
      let still = passed (record { texts = at.0; coming = at.1; doubt = at.2 }) in
      record {
        begun = begun;
        copied =
            subst (λ (b : Backing). IsCopiedOf (seen old front) b target') (sym still.0)
            (subst (λ (d : Device). IsCopiedOf (seen old front) backing d) (sym still.1) (copied_later old (seen old front) backing target refl grows ready.copied));
      }
  ready_read old front area first end backing backing' target target' (Ok more) (Settled state, stands) known grows ready begun packs copies passed = record {
    begun = begun;
    copied = λ opening is t. by opening (same_opening first opening (sym known ∙ is)) t;
  }
    where
      rest : HasRest shown area
      rest = settled_rest area first front state stands

      has : Tells first → HasCopied first front backing' target'
      has t = record {
        packs = packs rest ∙ ap (λ (n : ℕ). Some n) (settled_packs area first front state stands t);
        front = λ to there.
            told_gives (device_of shown area).contents (IsFront backing'.copier (text_files_at first front).now.bytes (to Jdt)) (stands.told ∙ t) (λ files is.
            let part = copies rest files is in
            subst (λ (l : List ℕ). IsFront backing'.copier l (to Jdt)) (settled_texts area first front state stands t files is)
            (part.front (front_renewed backing (packs_of area) part.from files target.contents
            (copied_goes old backing target first front (packs_of area) files ready.copied known t grows (settled_packs area first front state stands t) (settled_texts area first front state stands t files is))
            part.renewed) to there));
      }

      by : (opening : Opening) → first ≡ opening → Tells opening → (backing'.copier ≡ 0) ⊎ ((part : List Entry) × Begins part front × HasCopied opening part backing' target')
      by opening same t = subst (λ (o : Opening). (backing'.copier ≡ 0) ⊎ ((part : List Entry) × Begins part front × HasCopied o part backing' target')) same
          (inr (front, begins_itself front, has (subst (λ (o : Opening). Tells o) (sym same) t)))

  -- a turn in which a part is copied
  pub copies_in : (old : Known) (front : List Entry) (area : OpenArea D) (first : Opening) (end : ℕ) (backing backing' : Backing) (source source' target target' : Device) (result : Result Bool BackupError)
      → StandsForHistory shown area first front → old.opening ≡ Some first → Begins old.front front → IsReady old backing target
      → OnOk result (HasBegun backing'.copier target') → (HasRest shown area → OnOk result (backing'.packs ≡ Some (packs_of area)))
      → (HasRest shown area → IfOk result (λ more. ForSome (device_of shown area).contents (λ files. CopiesPart end (packs_of area) files backing backing' target.contents target'.contents more)))
      → (HasDoubt shown area → (backing' ≡ backing) × (target' ≡ target)) → LeavesOnly target target' IsUnsigned → AnswersCopy source source' target target' result
      → CopiesOnto old (seen old front) backing' target target' result
  copies_in old front area first end backing backing' source source' target target' result stands known grows ready begun packs copies passed crash answer = record {
    taken = (front, grows, refl);
    ready = ready_read old front area first end backing backing' target target' result stands known grows ready begun packs copies passed;
    crash = crash;
    fault = answer.fault;
    faults = answer.target_faults;
    alike = answer.alike;
  }

  -- and what was copied before the last turn begins the texts that the area has in that, where it goes on
  pub ready_front : (old : Known) (front : List Entry) (area : OpenArea D) (first : Opening) (backing : Backing) (target : Device) → StandsForHistory shown area first front → old.opening ≡ Some first → Begins old.front front
      → IsReady old backing target → HasRest shown area
      → ForSome (device_of shown area).contents (λ files. GoesOn backing.packs (packs_of area) → HasFront backing.copier files target.contents)
  ready_front old front area first backing target (InDoubt before after, stands) known grows ready rest =
      let at = stands.at in absurd (rests_no_doubt shown area at.0 at.1 rest.rests.stage at.2)
  ready_front old front area first backing target (Settled state, stands) known grows ready rest = λ files there.
      let t : Tells first = sym stands.told ∙ ap is_some there in
      copied_goes old backing target first front (packs_of area) files ready.copied known t grows (settled_packs area first front state stands t) (settled_texts area first front state stands t files there)

-- the counts of its disk are those of the calls in it
counts_backed : (entries : ℕ) (old new : Device) (result : Result ℕ BackupError) → CountsFaults is_target_fault old new result → CountsFaults is_target_fault old new (told_backed entries result)
counts_backed entries old new (Ok live) counts = record { quiet = counts.quiet; later = counts.later; cause = tt }
counts_backed entries old new (Err error) counts = record { quiet = tt; later = counts.later; cause = counts.cause }

-- a fault in it
fault_ends : (known : Known) (target : Device) (error : BackupError) → IsFault error → EndsStopped known false → FinishesAs known target (Err error)
fault_ends known target SourceFault is ends = (is, ends)
fault_ends known target TargetFault is ends = (is, ends)
fault_ends known target LeftInDoubt is ends = absurd is
fault_ends known target (NotEmpty file) is ends = absurd is
fault_ends known target OutOfMemory is ends = absurd is

module _ {D : Type 0} (shown : D → Device) where
  -- the last turn
  pub finishes : (old : Known) (front : List Entry) (area : OpenArea D) (first : Opening) (entries : ℕ) (backing : Backing) (target target' : Device) (result : Result ℕ BackupError)
      → StandsForHistory shown area first front → old.opening ≡ Some first → Begins old.front front → entries ≡ length front → HasBegun backing.copier target
      → (HasRest shown area → IfOk result (λ live. (texts : List ℕ) → live ≡ live_count (map (slot_state texts) (loaded_of area).slots)))
      → (HasRest shown area → OnOk result (ForSome (device_of shown area).contents (λ files. Shows (IsSame (backed_up files)) target')))
      → (HasRest shown area → ForSome (device_of shown area).contents (λ files. LeavesOnly target target' (IsBackupOf (backed_up files)))) → (HasRest shown area → IfErr result IsFault)
      → (HasDoubt shown area → (result ≡ Err LeftInDoubt) × (target' ≡ target)) → CountsFaults is_target_fault target target' result → TellsAlike target target'
      → Finishes FinishesAs old (seen old front) target target' (told_backed entries result)
  finishes old front area first entries backing target target' result (InDoubt before after, stands) known grows counted begun live whole crash fault doubt faults alike = record {
    taken = (front, grows, refl);
    ends = subst (λ (r : Result ℕ BackupError). FinishesAs (seen old front) target' (told_backed entries r)) (sym (none.0)) (doubtful_last (stopped_last front) stands.kind);
    crash = λ opening is t.
        subst (λ (d : Device). LeavesOnly target d (IsBackup (state_after opening front))) (sym none.1)
        (only_weaken IsUnsigned (IsBackup (state_after opening front)) target target (λ files unsigned. inl (unsigned_refused files unsigned)) (stays_unsigned backing.copier target begun));
    faults = counts_backed entries target target' result faults;
    alike = alike;
  }
    where
      none : (result ≡ Err LeftInDoubt) × (target' ≡ target)
      none = doubt (record { texts = stands.at.0; coming = stands.at.1; doubt = stands.at.2 })
  finishes old front area first entries backing target target' result (Settled state, stands) known grows counted begun live whole crash fault doubt faults alike = record {
    taken = (front, grows, refl);
    ends = by result (live rest) (whole rest) (fault rest);
    crash = λ opening is t.
        subst (λ (o : Opening). LeavesOnly target target' (IsBackup (state_after o front))) (here opening is) (left (subst (λ (o : Opening). Tells o) (sym (here opening is)) t));
    faults = counts_backed entries target target' result faults;
    alike = alike;
  }
    where
      rest : HasRest shown area
      rest = settled_rest shown area first front state stands

      last : EndsStopped (seen old front) false
      last = settled_last (stopped_last front) stands.kind

      here : (opening : Opening) → old.opening ≡ Some opening → first ≡ opening
      here opening is = same_opening first opening (sym known ∙ is)

      -- the state that the area stands for is the one after the history
      state_is : Tells first → state_of stands.at.0 (loaded_of area) ≡ state_after first front
      state_is t = stands.at.2 ∙ ap state_at (stands.leads t)

      left : Tells first → LeavesOnly target target' (IsBackup (state_after first front))
      left t =
          subst (λ (s : AreaState). LeavesOnly target target' (IsBackup s)) (state_is t)
          (told_gives (device_of shown area).contents _ (stands.told ∙ t) (rest_backup shown area stands.at.0 stands.at.1 target target' (crash rest)))

      by : (result : Result ℕ BackupError) → IfOk result (λ live. (texts : List ℕ) → live ≡ live_count (map (slot_state texts) (loaded_of area).slots))
          → OnOk result (ForSome (device_of shown area).contents (λ files. Shows (IsSame (backed_up files)) target')) → IfErr result IsFault → FinishesAs (seen old front) target' (told_backed entries result)
      by (Err error) live whole fault = fault_ends (seen old front) target' error fault last
      by (Ok count) live whole fault = record {
        ends = last;
        entries_are = counted;
        history = λ opening is. subst (λ (o : Opening). IsHistory o front) (here opening is) stands.history;
        state = λ opening is t.
            subst (λ (o : Opening). BacksState o front count target') (here opening is) (backs (subst (λ (o : Opening). Tells o) (sym (here opening is)) t));
      }
        where
          backs : Tells first → BacksState first front count target'
          backs t = record {
            state = state;
            leads = sym (stands.leads t);
            live_are = live stands.at.0 ∙ ap (λ (s : AreaState). live_count s.slots) stands.at.2;
            opens =
                subst (λ (s : AreaState). Shows (OpensToState (capped_state s)) target') stands.at.2
                (told_gives (device_of shown area).contents _ (stands.told ∙ t) (rest_same shown area stands.at.0 stands.at.1 target' whole));
          }

-- more of the history was taken in turns one behind another
pub taken_then : (old mid new : Known) → HasTaken old mid → HasTaken mid new → HasTaken old new
taken_then old mid new (front, grows, is) (more, further, are) =
    (more, begins_on old.front front more grows (subst (λ (k : Known). Begins k.front more) is further), are ∙ ap (λ (k : Known). seen k more) is)

-- and it is the same area
pub taken_opening : (old new : Known) → HasTaken old new → new.opening ≡ old.opening
taken_opening old new (front, grows, is) = ap (λ (k : Known). k.opening) is

-- turns that copied, and then another one
pub copies_then : {A T : Type 0} (old mid new : Known) (b1 b2 : Backing) (t0 t1 t2 : Device) (value : A) (result : Result T BackupError) → CopiesOnto old mid b1 t0 t1 (ok_of A BackupError value)
    → CopiesOnto mid new b2 t1 t2 result → CopiesOnto old new b2 t0 t2 result
copies_then {A} {T} old mid new b1 b2 t0 t1 t2 value result first second = record {
  taken = taken_then old mid new first.taken second.taken;
  ready = second.ready;
  crash = only_then IsUnsigned t0 t1 t2 first.crash second.crash;
  fault = second.fault;
  faults = counts_then is_target_fault t0 t1 t2 value result first.faults second.faults;
  alike = second.alike ∙ first.alike;
}

-- the same turns, by another value
pub copies_as : {A T : Type 0} (old new : Known) (backing : Backing) (target target' : Device) (value : A) (other : T) → CopiesOnto old new backing target target' (ok_of A BackupError value)
    → CopiesOnto old new backing target target' (ok_of T BackupError other)
copies_as old new backing target target' value other copies = record {
  taken = copies.taken;
  ready = copies.ready;
  crash = copies.crash;
  fault = tt;
  faults = record { quiet = copies.faults.quiet; later = copies.faults.later; cause = tt };
  alike = copies.alike;
}

-- by a fault
pub copies_failed : {A T : Type 0} (old new : Known) (backing : Backing) (target target' : Device) (error : BackupError) → CopiesOnto old new backing target target' (err_of A BackupError error)
    → CopiesOnto old new backing target target' (err_of T BackupError error)
copies_failed old new backing target target' error copies = record {
  taken = copies.taken;
  ready = tt;
  crash = copies.crash;
  fault = copies.fault;
  faults = record { quiet = tt; later = copies.faults.later; cause = copies.faults.cause };
  alike = copies.alike;
}

-- what is known by a pass of these parts
pub pass_known : (view : PassView) (held : Option Parts) (parts : Parts) → pass_of held ≡ view → held ≡ Some parts → view.known ≡ known_in parts
pass_known view held parts is same = ap (λ (p : PassView). p.known) (sym is) ∙ ap (λ (o : Option Parts). (pass_of o).known) same

-- what was copied is of the area still, once more of the history was taken
pub ready_later : (old new : Known) (backing : Backing) (target : Device) → HasTaken old new → IsReady old backing target → IsReady new backing target
ready_later old new backing target (front, grows, is) ready = record {
  begun = ready.begun;
  copied = copied_later old new backing target (ap (λ (k : Known). k.opening) is) (subst (λ (k : Known). Begins old.front k.front) (sym is) grows) ready.copied;
}

-- a target that is begun has nothing copied
pub begins_ready : (known : Known) (backing : Backing) (target : Device) → backing.copier ≡ 0 → HasBegun 0 target → IsReady known backing target
begins_ready known backing target none begun = record { begun = subst (λ (n : ℕ). HasBegun n target) (sym none) begun; copied = λ opening is t. inl none }

-- what is unsigned is a backup of each state
unsigned_backup : (state : AreaState) (old new : Device) → LeavesOnly old new IsUnsigned → LeavesOnly old new (IsBackup state)
unsigned_backup state old new only = only_weaken IsUnsigned (IsBackup state) old new (λ files unsigned. inl (unsigned_refused files unsigned)) only

-- turns that a fault ended
pub ends_copying : {T : Type 0} (old new : Known) (backing : Backing) (target target' : Device) (error : BackupError) → CopiesOnto old new backing target target' (err_of T BackupError error)
    → Finishes TurnsEnd old new target target' (Err error)
ends_copying old new backing target target' error copies = record {
  taken = copies.taken;
  ends = by error copies.fault;
  crash = λ opening is t. unsigned_backup (state_after opening new.front) target target' copies.crash;
  faults = record { quiet = tt; later = copies.faults.later; cause = copies.faults.cause };
  alike = copies.alike;
}
  where
    by : (error : BackupError) → IsFault error → TurnsEnd new target' (Err error)
    by SourceFault is = is
    by TargetFault is = is
    by LeftInDoubt is = absurd is
    by (NotEmpty file) is = absurd is
    by OutOfMemory is = absurd is

-- and the last turn
pub ends_behind : {A : Type 0} (old mid new : Known) (backing : Backing) (t0 t1 t2 : Device) (value : A) (result : Result Backed BackupError) → CopiesOnto old mid backing t0 t1 (ok_of A BackupError value)
    → Finishes FinishesAs mid new t1 t2 result → Finishes TurnsEnd old new t0 t2 result
ends_behind {A} old mid new backing t0 t1 t2 value result copies last = record {
  taken = taken_then old mid new copies.taken last.taken;
  ends = by result last.ends;
  crash = λ opening is t.
      only_then (IsBackup (state_after opening new.front)) t0 t1 t2 (unsigned_backup (state_after opening new.front) t0 t1 copies.crash)
      (last.crash opening (taken_opening old mid copies.taken ∙ is) t);
  faults = counts_then is_target_fault t0 t1 t2 value result copies.faults last.faults;
  alike = last.alike ∙ copies.alike;
}
  where
    by : (result : Result Backed BackupError) → FinishesAs new t2 result → TurnsEnd new t2 result
    by (Ok backed) ends = ends
    by (Err SourceFault) ends = ends.0
    by (Err TargetFault) ends = ends.0
    by (Err LeftInDoubt) ends = ends
    by (Err (NotEmpty file)) ends = ends.0
    by (Err OutOfMemory) ends = ends.0

-- turns from more of the history
pub ends_before : (old mid new : Known) (t0 t1 : Device) (result : Result Backed BackupError) → HasTaken old mid → Finishes TurnsEnd mid new t0 t1 result → Finishes TurnsEnd old new t0 t1 result
ends_before old mid new t0 t1 result taken turns = record {
  taken = taken_then old mid new taken turns.taken;
  ends = turns.ends;
  crash = λ opening is t. turns.crash opening (taken_opening old mid taken ∙ is) t;
  faults = turns.faults;
  alike = turns.alike;
}

-- a target that is tiny is a backup of each state
tiny_backup : (state : AreaState) (old new : Device) → BeginsTiny old new → BeginsAs (IsBackup state) old new
tiny_backup state old new begins = begins_weaken IsTiny (IsBackup state) (λ files tiny. inl (tiny_refused files tiny)) old new begins

-- a backup whose target is not begun
pub backs_not : (known : Known) (old new : Device) (error : BackupError) → MayNotBegin old new error → BeginsTiny old new → CountsFaults is_target_fault old new (err_of Backing BackupError error) → TellsAlike old new
    → BacksUp known known old new (Err error)
backs_not known old new error refused begins faults alike = record {
  taken = taken_none known;
  answers = by error refused;
  empty = none error refused;
  crash = λ opening is t. tiny_backup (state_after opening known.front) old new begins;
  faults = record { quiet = tt; later = faults.later; cause = faults.cause };
  alike = alike;
}
  where
    by : (error : BackupError) → MayNotBegin old new error → AnswersBackup known old new (Err error)
    by SourceFault is = tt
    by TargetFault is = tt
    by LeftInDoubt is = absurd is
    by (NotEmpty file) is = is
    by OutOfMemory is = is

    none : (error : BackupError) → MayNotBegin old new error → HasFoundEmpty old (Err error)
    none SourceFault is = absurd is
    none TargetFault is = tt
    none LeftInDoubt is = absurd is
    none (NotEmpty file) is = tt
    none OutOfMemory is = tt

-- a backup in turns, once its target is begun
pub backs_up : {A : Type 0} (old new : Known) (t0 t1 t2 : Device) (value : A) (result : Result Backed BackupError) → ForSome t0.contents AreEmpty → BeginsTiny t0 t1 → CountsFaults is_target_fault t0 t1 (ok_of A BackupError value)
    → TellsAlike t0 t1 → Finishes TurnsEnd old new t1 t2 result → BacksUp old new t0 t2 result
backs_up {A} old new t0 t1 t2 value result empty begins faults alike turns = record {
  taken = turns.taken;
  answers = by result turns.ends;
  empty = found result;
  crash = λ opening is t. begins_then (IsBackup (state_after opening new.front)) t0 t1 t2 empty (tiny_backup (state_after opening new.front) t0 t1 begins) (turns.crash opening is t);
  faults = counts_then is_target_fault t0 t1 t2 value result faults turns.faults;
  alike = turns.alike ∙ alike;
}
  where
    by : (result : Result Backed BackupError) → TurnsEnd new t2 result → AnswersBackup new t0 t2 result
    by (Ok backed) ends = ends
    by (Err SourceFault) ends = tt
    by (Err TargetFault) ends = tt
    by (Err LeftInDoubt) ends = ends
    by (Err (NotEmpty file)) ends = absurd ends
    by (Err OutOfMemory) ends = absurd ends

    found : (result : Result Backed BackupError) → HasFoundEmpty t0 result
    found (Ok backed) = empty
    found (Err SourceFault) = empty
    found (Err TargetFault) = tt
    found (Err LeftInDoubt) = empty
    found (Err (NotEmpty file)) = tt
    found (Err OutOfMemory) = tt

-- without memory nothing is begun
begins_none : (moments : List Images) → LeavesNoMore moments moments
begins_none [] = refl
begins_none (now ∷ earlier) = runs-refl (IsImage now) (now ∷ earlier) (now ∷ earlier) refl

pub begins_not_at_all : (target : Device) → BeginsTiny target target
begins_not_at_all target = record { found = target.moments; before = begins_none target.moments; since = inl refl; full = λ files there filled. refl }
