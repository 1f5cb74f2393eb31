-- What each answer of an area makes of the history for which it stands.
use Rattle.std.proofs.Common.{◌≡◌, ℕ, ◌+◌, ◌≤◌, Bool, true, false, cond, List, [], ◌∷◌, ◌++◌, length, Ok, Err, Option, Some, None, inl, refl, sym, ◌∙◌, ap, subst, arith}
use Rattle.std.specs.Prelude.{is_some, not, if◌then◌else◌, IfSome}
use Rattle.std.specs.Option.{ForSome}
use Rattle.jb_area.specs.Area.{device_of, loaded_of, packs_of, packs_to, rules_of, DoubtOpens, HasDoubt, IsDoubtful, IsResting, SettlesAt}
use Rattle.jb_area.specs.Calls.{HasRest, IsChangeOf, MeetsCall}
use Rattle.jb_area.specs.Commits.{packs_with}
use Rattle.jb_area.specs.Holds.{Opens, OpensToEither}
use Rattle.jb_area.specs.declared.area.OpenArea.{OpenArea}
use Rattle.jb_bytes.specs.Fault.{Rose}
use Rattle.jb_base.specs.declared.area.AreaRules.{AreaRules}
use Rattle.jb_base.specs.declared.user.User.{User}
use Rattle.jb_decide.specs.Coming.{Coming, coming_of}
use Rattle.jb_decide.specs.StepOf.{written_text}
use Rattle.jb_decide.specs.Telling.{IsToldBy}
use Rattle.jb_decide.specs.declared.error.AreaError.TheVariants as area
use Rattle.jb_disk.specs.Device.{Device, TellsAlike}
use Rattle.jb_disk.specs.Files.{Files}
use Rattle.jb_disk.specs.Runs.{LeavesOnly, Shows}
use Rattle.jb_disk.proofs.FileLemmas.{leaves_map}
use Rattle.jb_model.specs.Answered.{Answered}
use Rattle.jb_model.specs.History.{IsNextCall, calls_of, faults_of, last_faults}
use Rattle.jb_model.specs.Standing.{Standing, Settled, InDoubt, Allows, StandsWithin, after_entry, change_of, is_refusal, is_settled}
use Rattle.jb_state.specs.State.{AreaState, state_of}
use Rattle.jb_state.specs.declared.change.Change.{Change}
use Rattle.jb_model.specs.Step.{step}
use Rattle.jb_model.specs.declared.command.Command.{Command}
use Rattle.jb_model.specs.declared.entry.Entry.{Entry}
use Rattle.jb_model.specs.declared.entry.Entry.TheVariants.{Called, Reopened}
use Rattle.jb_model.specs.declared.entry.Outcome.TheVariants.{Replied, InDoubt as LeftInDoubt, NotBegun}
use Rattle.jb_state.specs.declared.loaded.Loaded.{Loaded}
use Rattle.jb_model.specs.declared.reply.Reply.{Reply}
use Rattle.jb_model.proofs.HistoryLaws.{standing_after_push}
use Rattle.jb_shared.specs.Histories.{IsHistory, Tells, first_state, leads_to}
use Rattle.jb_shared.specs.Keeping.{LeavesAsIs}
use Rattle.jb_shared.specs.Standing.{IsAt, LeavesBetween, StandsAt, StandsForHistory, StandsInDoubt, StandsSettled, doubt_between, state_to}
use Rattle.jb_shared.specs.Stops.{OpensBetween, OpensAtLast}
use Rattle.jb_shared.specs.Texts.{HasTextFiles, IsTextFileOf, TextFile, TextFiles, file_answered, files_after_entry, text_file_after, text_files_at}
use Rattle.jb_shared.specs.declared.opening.Opening.{Opening}
use Rattle.jb_shared.proofs.HistoryLemmas.{history_push, last_new, last_same, rose_from, stopped_push}
use Rattle.jb_shared.proofs.StopLemmas.{comes_by_more, comes_by_still, leaves_newest, only_weaken, opens_doubt, opens_either, opens_first, opens_last, opens_same, opens_settled, settled_shows, told_gives}
use Rattle.jb_shared.proofs.TextLemmas.{comes_to, one_text, text_files_push}

-- the reply of an area is that of the state for which it stands
stepped : (opening : Opening) (state its : AreaState) (user : User) (moment : ℕ) (command : Command) (reply : Reply) (after : AreaState) (rules : AreaRules) → rules ≡ opening.rules → its ≡ state
    → step rules its user moment command ≡ record { reply = reply; state = after } → step opening.rules state user moment command ≡ record { reply = reply; state = after }
stepped opening state its user moment command reply after rules same is answered =
    ap (λ r. step r state user moment command) (sym same) ∙ ap (λ s. step rules s user moment command) (sym is) ∙ answered

-- what changes, where it is no refusal
changed : (answered : Answered) (reply : Reply) (state : AreaState) (b : Bool) → is_refusal reply ≡ b → (b ≡ true → ⊥) → answered ≡ record { reply = reply; state = state } → change_of answered ≡ Some state
changed answered reply state true is other same = absurd (other refl)
changed answered reply state false is other same = ap change_of same ∙ ap (λ (b : Bool). cond b None (Some state)) is

-- of a disk that shows itself so
module _ {D : Type 0} (shown : D → Device) where
  -- where the disk tells, a crash meanwhile leaves what opens to either end of the doubt in which the area was
  abbrev pub LeavesDoubt : OpenArea D → OpenArea D → Type 0
  LeavesDoubt old new = (texts : List ℕ) (coming : Option Coming) → IsDoubtful shown old texts coming
      → ForSome (device_of shown old).contents (λ files. LeavesOnly (device_of shown old) (device_of shown new) (DoubtOpens (loaded_of old) texts coming))

  -- and so does what is read then
  abbrev pub ReadsDoubt : OpenArea D → OpenArea D → Type 0
  ReadsDoubt old new = (texts : List ℕ) (coming : Option Coming) → IsDoubtful shown old texts coming → ForSome (device_of shown new).contents (DoubtOpens (loaded_of old) texts coming)

  -- a crash meanwhile leaves what opens to the area after a history between these two, and at the end to it after the second one
  abbrev Stops : OpenArea D → OpenArea D → Opening → List Entry → List Entry → Type 0
  Stops old new opening first last = LeavesOnly (device_of shown old) (device_of shown new) (OpensBetween opening first last) × Shows (OpensAtLast opening last) (device_of shown new)

  -- the area stands for one entry more
  stands_push : (old new : OpenArea D) (opening : Opening) (history : List Entry) (entry : Entry) (standing standing' : Standing) → StandsAt shown old opening history standing
      → rules_of new ≡ rules_of old → TellsAlike (device_of shown old) (device_of shown new) → IsNextCall history entry → last_faults opening.faults (history ++ entry ∷ []) ≤ (device_of shown new).faults
      → IfSome (faults_of entry) (λ told. Rose (last_faults opening.faults history) told) → (Tells opening → Allows opening.rules standing entry)
      → is_settled standing' ≡ not (is_some (faults_of entry))
      → IsAt shown new standing' → (Tells opening → standing' ≡ after_entry opening.rules standing entry)
      → (Tells opening → HasTextFiles shown new standing' (files_after_entry opening.rules standing entry (text_files_at opening history)))
      → (Tells opening → IsHistory opening (history ++ entry ∷ []) → leads_to opening (history ++ entry ∷ []) ≡ standing' → Stops old new opening history (history ++ entry ∷ []))
      → StandsAt shown new opening (history ++ entry ∷ []) standing' × LeavesBetween shown old new opening history (history ++ entry ∷ [])
  stands_push old new opening history entry standing standing' stands rules alike next last risen allow kind at leads holds stops =
      let legal : IsHistory opening (history ++ entry ∷ []) = history_push opening history entry stands.history next risen (λ t. subst (λ (s : Standing). Allows opening.rules s entry) (stands.leads t) (allow t)) in
      let goes : Tells opening → standing' ≡ leads_to opening (history ++ entry ∷ [])
      = λ t. leads t ∙ ap (λ (s : Standing). after_entry opening.rules s entry) (stands.leads t) ∙ sym (standing_after_push opening.rules (first_state opening) history entry) in
      let stopped : Tells opening → Stops old new opening history (history ++ entry ∷ []) = λ t. stops t legal (sym (goes t)) in (
        record {
          rules = rules ∙ stands.rules;
          history = legal;
          faults = last;
          told = alike ∙ stands.told;
          at = at;
          kind = kind ∙ ap not (sym (stopped_push false history entry));
          leads = goes;
          text_files = λ t. subst (HasTextFiles shown new standing') (sym (text_files_push opening history entry standing (stands.leads t))) (holds t);
          opens = λ t. (stopped t).1;
          crash = λ t. comes_by_more opening (device_of shown old) (device_of shown new) history entry (stands.crash t) (stopped t).0 (stopped t).1.left;
        },
        λ t. (stopped t).0,
      )

  -- the texts and the packs that an answered change comes to are those of its answer
  answered_file : (old : OpenArea D) (opening : Opening) (state : AreaState) (texts : List ℕ) (user : User) (moment : ℕ) (command : Command) (reply : Reply) (change : Change) (coming : Coming) (file : TextFile)
      → IsResting shown old texts → texts ≡ file.bytes → coming ≡ coming_of change (loaded_of old) (written_text command) texts → IsToldBy reply change
      → step opening.rules state user moment command ≡ record { reply = reply; state = state_to coming }
      → (coming.texts ≡ (file_answered command (step opening.rules state user moment command) file).bytes)
      × ((packs : ℕ) → packs ≡ packs_with change (packs_of old) → packs_of old ≡ file.packs → packs ≡ (file_answered command (step opening.rules state user moment command) file).packs)
  answered_file old opening state texts user moment command reply change coming file rests texts_are becomes told is =
      let ruled = rests.kept.ruled in
      let comes : coming ≡ coming_of change (loaded_of old) (written_text command) file.bytes = becomes ∙ ap (coming_of change (loaded_of old) (written_text command)) texts_are in
      let to : TextFile = text_file_after command reply (state_to (coming_of change (loaded_of old) (written_text command) file.bytes)) file in
      let answered : file_answered command (step opening.rules state user moment command) file ≡ to
      = ap (λ (a : Answered). file_answered command a file) is ∙ ap (λ (c : Coming). text_file_after command reply (state_to c) file) comes in
      let by = comes_to change (rules_of old).slots (loaded_of old) command reply file ruled.sound (ap length (sym texts_are) ∙ ruled.sized) told in (
        ap (λ (c : Coming). c.texts) comes ∙ by.0 ∙ sym (ap (λ (f : TextFile). f.bytes) answered),
        λ packs counted before. counted ∙ ap (packs_with change) before ∙ by.1 ∙ sym (ap (λ (f : TextFile). f.packs) answered),
      )

  -- a call that was answered: the area is settled
  pub stands_replied : (old new : OpenArea D) (opening : Opening) (history : List Entry) (node call : ℕ) (user : User) (moment : ℕ) (command : Command) (reply : Reply)
      → StandsSettled shown old opening history → MeetsCall shown old new user moment command (Ok reply) → call ≡ length (calls_of node history) + 1
      → StandsSettled shown new opening (history ++ Called node call user moment command (Replied reply) ∷ []) × LeavesBetween shown old new opening history (history ++ Called node call user moment command (Replied reply) ∷ [])
  stands_replied old new opening history node call user moment command reply (state, stands) meets next =
      let at = stands.at in
      let done = meets.answered at.0 at.1 in
      let is : Tells opening → step opening.rules state user moment command ≡ record { reply = reply; state = state_to done.coming }
      = λ t. stepped opening state (state_of at.0 (loaded_of old)) user moment command reply (state_to done.coming) (rules_of old) stands.rules at.2 (done.step (λ letter text. stands.told ∙ t)) in
      let entry : Entry = Called node call user moment command (Replied reply) in
      let same : last_faults opening.faults (history ++ entry ∷ []) ≡ last_faults opening.faults history = last_same opening.faults history entry refl in
      let after : IsAt shown new (Settled (state_to done.coming)) = (done.coming.texts, done.rests.rests, ap (state_of done.coming.texts) done.rests.is) in
      let pushed =
      stands_push old new opening history entry (Settled state) (Settled (state_to done.coming)) stands meets.rules meets.alike next (omega (arith, same, stands.faults, meets.faults.quiet)) tt
      (λ t. ap (λ (a : Answered). a.reply) (is t)) refl after (λ t. ap (λ (a : Answered). Settled a.state) (sym (is t)))
      (λ t.
      let files = text_files_at opening history in
      let held = stands.text_files t in
      let file =
      answered_file old opening state at.0 user moment command reply done.change done.coming files.now at.1 (one_text shown old at.0 files.now.bytes (stands.told ∙ t) at.1 held.0) done.becomes done.told (is t) in
      (subst (IsResting shown new) file.0 done.rests.rests, file.1 (packs_of new) done.packs_counted held.1))
      (λ t legal ends. (
        only_weaken (OpensToEither (loaded_of old) at.0 done.coming) (OpensBetween opening history (history ++ entry ∷ [])) (device_of shown old) (device_of shown new)
            (λ files opens. opens_either opening history entry state (state_to done.coming) (loaded_of old) at.0 done.coming files stands.history (sym (stands.leads t)) at.2 legal ends refl opens)
            (told_gives (device_of shown old).contents _ (stands.told ∙ t) done.crash),
        settled_shows shown new opening (history ++ entry ∷ []) (state_to done.coming) after (meets.alike ∙ stands.told ∙ t) legal ends,
      )) in
      ((state_to done.coming, pushed.0), pushed.1)

  -- where the area is in doubt at the end, whichever way it will end
  in_doubt : (old new : OpenArea D) (opening : Opening) (history : List Entry) (entry : Entry) (before : AreaState) (after : Option AreaState) (loaded : Loaded) (texts : List ℕ) (coming : Option Coming)
      → StandsWithin (doubt_between texts loaded coming) (InDoubt before after) → IsHistory opening (history ++ entry ∷ []) → leads_to opening (history ++ entry ∷ []) ≡ InDoubt before after
      → LeavesOnly (device_of shown old) (device_of shown new) (DoubtOpens loaded texts coming) → ForSome (device_of shown new).contents (DoubtOpens loaded texts coming) → Stops old new opening history (history ++ entry ∷ [])
  in_doubt old new opening history entry before after loaded texts coming within legal ends crash opens =
      let device = device_of shown new in
      let more = history ++ entry ∷ [] in
      let to : (files : Files) → DoubtOpens loaded texts coming files → OpensAtLast opening more files = λ files is. opens_doubt opening more before after loaded texts coming files legal ends within is in (
        only_weaken (DoubtOpens loaded texts coming) (OpensBetween opening history more) (device_of shown old) device (λ files is. opens_last opening history entry files (to files is)) crash,
        record {
          read = λ files there. to files (opens files there);
          left = leaves_map (DoubtOpens loaded texts coming) (OpensAtLast opening more) device.moments to (leaves_newest (DoubtOpens loaded texts coming) (device_of shown old) device crash);
        },
      )

  -- the doubt of a call that was stopped
  doubt_at : (old new : OpenArea D) (opening : Opening) (state : AreaState) (texts : List ℕ) (user : User) (moment : ℕ) (command : Command) (coming : Option Coming)
      → rules_of old ≡ opening.rules → state_of texts (loaded_of old) ≡ state → (Tells opening → is_some (device_of shown old).contents ≡ true)
      → IsChangeOf shown old new texts user moment command coming → IsDoubtful shown new texts coming → loaded_of new ≡ loaded_of old
      → (after : Option AreaState) × IsAt shown new (InDoubt state after) × (Tells opening → after ≡ change_of (step opening.rules state user moment command))
      × StandsWithin (doubt_between texts (loaded_of old) coming) (InDoubt state after)
  doubt_at old new opening state texts user moment command None rules is told change doubt loaded =
      (change_of (step opening.rules state user moment command), (texts, None, doubt, ap (state_of texts) loaded ∙ is), λ t. refl, is)
  doubt_at old new opening state texts user moment command (Some coming) rules is told (reply, change, other, fits, becomes, somewhere, answered, says, counted) doubt loaded = (
    Some (state_to coming),
    (texts, Some coming, doubt, (ap (state_of texts) loaded ∙ is, refl)),
    λ t. sym (changed (step opening.rules state user moment command) reply (state_to coming) (is_refusal reply) refl (λ refuses. other (inl refuses))
        (stepped opening state (state_of texts (loaded_of old)) user moment command reply (state_to coming) (rules_of old) rules is (answered (λ letter text. told t)))),
    (is, refl),
  )

  -- and the texts and the packs to which it comes
  doubt_file : (old new : OpenArea D) (opening : Opening) (state : AreaState) (texts : List ℕ) (user : User) (moment : ℕ) (command : Command) (coming : Option Coming) (file : TextFile)
      → rules_of old ≡ opening.rules → state_of texts (loaded_of old) ≡ state → is_some (device_of shown old).contents ≡ true → IsResting shown old texts → texts ≡ file.bytes → packs_of old ≡ file.packs
      → IsChangeOf shown old new texts user moment command coming → IsTextFileOf new coming (file_answered command (step opening.rules state user moment command) file)
  doubt_file old new opening state texts user moment command None file rules is told rests texts_are packs change = tt
  doubt_file old new opening state texts user moment command (Some coming) file rules is told rests texts_are packs (reply, change, other, fits, becomes, somewhere, answered, says, counted) =
      let by =
      answered_file old opening state texts user moment command reply change coming file rests texts_are becomes says
      (stepped opening state (state_of texts (loaded_of old)) user moment command reply (state_to coming) (rules_of old) rules is (answered (λ letter text. told))) in
      (by.0, by.1 (packs_to new) counted packs)

  -- a call that the device stopped
  pub stands_stopped : (old new : OpenArea D) (opening : Opening) (history : List Entry) (node call : ℕ) (user : User) (moment : ℕ) (command : Command)
      → StandsSettled shown old opening history → MeetsCall shown old new user moment command (Err area.StoreFault) → call ≡ length (calls_of node history) + 1
      → StandsForHistory shown new opening (history ++ Called node call user moment command (LeftInDoubt (device_of shown new).faults) ∷ [])
      × LeavesBetween shown old new opening history (history ++ Called node call user moment command (LeftInDoubt (device_of shown new).faults) ∷ [])
  stands_stopped old new opening history node call user moment command (state, stands) meets next =
      let at = stands.at in
      let stopped = meets.failed at.0 at.1 in
      let doubt = doubt_at old new opening state at.0 user moment command stopped.coming stands.rules at.2 (λ t. stands.told ∙ t) stopped.change stopped.doubt stopped.loaded in
      let entry : Entry = Called node call user moment command (LeftInDoubt (device_of shown new).faults) in
      let last : last_faults opening.faults (history ++ entry ∷ []) ≡ (device_of shown new).faults = last_new opening.faults history entry (device_of shown new).faults refl in
      let rose = rose_from (last_faults opening.faults history) (device_of shown old).faults (device_of shown new).faults stands.faults meets.faults.cause in
      let within : StandsWithin (doubt_between at.0 (loaded_of old) stopped.coming) (InDoubt state doubt.0) = doubt.3 in
      let pushed =
      stands_push old new opening history entry (Settled state) (InDoubt state doubt.0) stands meets.rules meets.alike next (omega (arith, last)) rose (λ t. tt)
      refl doubt.1 (λ t. ap (InDoubt state) (doubt.2 t))
      (λ t.
      let files = text_files_at opening history in
      let held = stands.text_files t in
      let texts_are : at.0 ≡ files.now.bytes = one_text shown old at.0 files.now.bytes (stands.told ∙ t) at.1 held.0 in (
        stopped.coming,
        subst (λ (l : List ℕ). IsDoubtful shown new l stopped.coming) texts_are stopped.doubt,
        stopped.packs ∙ held.1,
        doubt_file old new opening state at.0 user moment command stopped.coming files.now stands.rules at.2 (stands.told ∙ t) at.1 texts_are held.1 stopped.change,
      ))
      (λ t legal ends. in_doubt old new opening history entry state doubt.0 (loaded_of old) at.0 stopped.coming within legal ends
      (told_gives (device_of shown old).contents _ (stands.told ∙ t) stopped.crash) stopped.opens) in
      ((InDoubt state doubt.0, pushed.0), pushed.1)

  -- a call that wanted memory
  pub stands_still : (old new : OpenArea D) (opening : Opening) (history : List Entry) (user : User) (moment : ℕ) (command : Command)
      → StandsSettled shown old opening history → MeetsCall shown old new user moment command (Err area.OutOfMemory) → LeavesAsIs shown old new
      → StandsForHistory shown new opening history × LeavesBetween shown old new opening history history
  stands_still old new opening history user moment command (state, stands) meets still =
      let at = stands.at in
      let failed = meets.failed at.0 at.1 in
      let now : IsAt shown new (Settled state) = (at.0, failed.0.rests, ap (state_of at.0) failed.0.is ∙ at.2) in
      let leaves : LeavesBetween shown old new opening history history
      = λ t. only_weaken (Opens (loaded_of old) at.0) (OpensBetween opening history history) (device_of shown old) (device_of shown new)
      (λ files opens. opens_same opening history files (opens_settled opening history state (loaded_of old) at.0 files stands.history (sym (stands.leads t)) at.2 opens))
      (told_gives (device_of shown old).contents _ (stands.told ∙ t) (still at.0 at.1)) in (
        (
          Settled state,
          record {
            rules = meets.rules ∙ stands.rules;
            history = stands.history;
            faults = omega (arith, stands.faults, meets.faults.cause);
            told = meets.alike ∙ stands.told;
            at = now;
            kind = stands.kind;
            leads = stands.leads;
            text_files = λ t.
                let held = stands.text_files t in
                (subst (IsResting shown new) (one_text shown old at.0 (text_files_at opening history).now.bytes (stands.told ∙ t) at.1 held.0) failed.0.rests, meets.unpacked refl ∙ held.1);
            opens = λ t. settled_shows shown new opening history state now (meets.alike ∙ stands.told ∙ t) stands.history (sym (stands.leads t));
            crash = λ t. comes_by_still opening (device_of shown old) (device_of shown new) history (stands.crash t) (leaves t);
          },
        ),
        leaves,
      )

  -- the state in which a doubt ends
  ends_at : (old new : OpenArea D) (opening : Opening) (before : AreaState) (after : Option AreaState) (stands : Bool) (texts : List ℕ) (coming : Option Coming)
      → StandsWithin (doubt_between texts (loaded_of old) coming) (InDoubt before after) → SettlesAt shown stands (loaded_of old) texts coming new
      → (state : AreaState) × IsAt shown new (Settled state) × (Settled state ≡ after_entry opening.rules (InDoubt before after) (Reopened stands))
      × Allows opening.rules (InDoubt before after) (Reopened stands)
  ends_at old new opening before after false texts None within settles = (before, (texts, settles.rests, ap (state_of texts) settles.is ∙ within), refl, tt)
  ends_at old new opening before after false texts (Some coming) within settles = (before, (texts, settles.rests, ap (state_of texts) settles.is ∙ within.0), refl, tt)
  ends_at old new opening before after true texts None within settles = absurd settles
  ends_at old new opening before after true texts (Some coming) within settles = (
    state_to coming,
    (coming.texts, settles.rests, ap (state_of coming.texts) settles.is),
    ap (λ (a : Option AreaState). after_entry opening.rules (InDoubt before a) (Reopened true)) (sym within.1),
    subst (λ (a : Option AreaState). Allows opening.rules (InDoubt before a) (Reopened true)) (sym within.1) tt,
  )

  -- and the texts and the packs that it has there
  ends_with : (old new : OpenArea D) (opening : Opening) (before : AreaState) (after : Option AreaState) (stands : Bool) (texts : List ℕ) (coming : Option Coming) (files : TextFiles) (state : AreaState)
      → StandsWithin (doubt_between texts (loaded_of old) coming) (InDoubt before after) → SettlesAt shown stands (loaded_of old) texts coming new
      → ((texts : List ℕ) (coming : Option Coming) → IsDoubtful shown old texts coming → SettlesAt shown stands (loaded_of old) texts coming new)
      → packs_of new ≡ (if stands then packs_to old else packs_of old) → HasTextFiles shown old (InDoubt before after) files
      → HasTextFiles shown new (Settled state) (files_after_entry opening.rules (InDoubt before after) (Reopened stands) files)
  ends_with old new opening before after false texts coming files state within settles settled counted (change, doubt, packs, to) = ((settled files.now.bytes change doubt).rests, counted ∙ packs)
  ends_with old new opening before after true texts None files state within settles settled counted held = absurd settles
  ends_with old new opening before after true texts (Some coming) files state within settles settled counted (change, doubt, packs, to) =
      subst (λ (a : Option AreaState). HasTextFiles shown new (Settled state) (files_after_entry opening.rules (InDoubt before a) (Reopened true) files)) (sym within.1) (came change (settled files.now.bytes change doubt) to)
    where
      came : (change : Option Coming) → SettlesAt shown true (loaded_of old) files.now.bytes change new → IsTextFileOf old change files.coming → IsResting shown new files.coming.bytes × (packs_of new ≡ files.coming.packs)
      came None settles to = absurd settles
      came (Some change) settles to = (subst (IsResting shown new) to.0 settles.rests, counted ∙ to.1)

  -- a doubt that is ended
  pub stands_reopened : (old new : OpenArea D) (opening : Opening) (history : List Entry) (stands : Bool) → StandsInDoubt shown old opening history
      → ((texts : List ℕ) (coming : Option Coming) → IsDoubtful shown old texts coming → SettlesAt shown stands (loaded_of old) texts coming new)
      → LeavesDoubt old new → rules_of new ≡ rules_of old → TellsAlike (device_of shown old) (device_of shown new) → (device_of shown new).faults ≡ (device_of shown old).faults
      → packs_of new ≡ (if stands then packs_to old else packs_of old)
      → StandsSettled shown new opening (history ++ Reopened stands ∷ []) × LeavesBetween shown old new opening history (history ++ Reopened stands ∷ [])
  stands_reopened old new opening history stands (before, after, was) settled crash rules alike quiet counted =
      let at = was.at in
      let end = ends_at old new opening before after stands at.0 at.1 at.3 (settled at.0 at.1 at.2) in
      let same : last_faults opening.faults (history ++ Reopened stands ∷ []) ≡ last_faults opening.faults history = last_same opening.faults history (Reopened stands) refl in
      let pushed =
      stands_push old new opening history (Reopened stands) (InDoubt before after) (Settled end.0) was rules alike tt (omega (arith, same, was.faults, quiet)) tt (λ t. end.3) refl end.1 (λ t. end.2)
      (λ t. ends_with old new opening before after stands at.0 at.1 (text_files_at opening history) end.0 at.3 (settled at.0 at.1 at.2) settled counted (was.text_files t))
      (λ t legal ends. (
        only_weaken (DoubtOpens (loaded_of old) at.0 at.1) (OpensBetween opening history (history ++ Reopened stands ∷ [])) (device_of shown old) (device_of shown new)
            (λ files opens. opens_first opening history (Reopened stands) files (opens_doubt opening history before after (loaded_of old) at.0 at.1 files was.history (sym (was.leads t)) at.3 opens))
            (told_gives (device_of shown old).contents _ (was.told ∙ t) (crash at.0 at.1 at.2)),
        settled_shows shown new opening (history ++ Reopened stands ∷ []) end.0 end.1 (alike ∙ was.told ∙ t) legal ends,
      )) in
      ((end.0, pushed.0), pushed.1)

  -- what a doubt comes to stays
  pub comes_still : (old new : OpenArea D) (coming : Option Coming) (file : TextFile) → packs_to new ≡ packs_to old → IsTextFileOf old coming file → IsTextFileOf new coming file
  comes_still old new None file same to = tt
  comes_still old new (Some coming) file same to = (to.0, same ∙ to.1)

  -- a doubt that could not be ended
  pub stands_not_begun : (old new : OpenArea D) (opening : Opening) (history : List Entry) (node call : ℕ) (user : User) (moment : ℕ) (command : Command) → StandsInDoubt shown old opening history
      → ((texts : List ℕ) (coming : Option Coming) → IsDoubtful shown old texts coming → IsDoubtful shown new texts coming) → loaded_of new ≡ loaded_of old → LeavesDoubt old new → ReadsDoubt old new
      → rules_of new ≡ rules_of old → TellsAlike (device_of shown old) (device_of shown new) → Rose (device_of shown old).faults (device_of shown new).faults → (packs_of new ≡ packs_of old) × (packs_to new ≡ packs_to old)
      → call ≡ length (calls_of node history) + 1
      → StandsForHistory shown new opening (history ++ Called node call user moment command (NotBegun (device_of shown new).faults) ∷ [])
      × LeavesBetween shown old new opening history (history ++ Called node call user moment command (NotBegun (device_of shown new).faults) ∷ [])
  stands_not_begun old new opening history node call user moment command (before, after, was) still loaded crash reads rules alike rose counts next =
      let at = was.at in
      let entry : Entry = Called node call user moment command (NotBegun (device_of shown new).faults) in
      let last : last_faults opening.faults (history ++ entry ∷ []) ≡ (device_of shown new).faults = last_new opening.faults history entry (device_of shown new).faults refl in
      let risen = rose_from (last_faults opening.faults history) (device_of shown old).faults (device_of shown new).faults was.faults rose in
      let pushed =
      stands_push old new opening history entry (InDoubt before after) (InDoubt before after) was rules alike next (omega (arith, last)) risen (λ t. tt)
      refl
      (at.0, at.1, still at.0 at.1 at.2, subst (λ (l : Loaded). StandsWithin (doubt_between at.0 l at.1) (InDoubt before after)) (sym loaded) at.3) (λ t. refl)
      (λ t.
      let files = text_files_at opening history in
      let held = was.text_files t in
      (held.0, still files.now.bytes held.0 held.1, counts.0 ∙ held.2, comes_still old new held.0 files.coming counts.1 held.3))
      (λ t legal ends. in_doubt old new opening history entry before after (loaded_of old) at.0 at.1 at.3 legal ends
      (told_gives (device_of shown old).contents _ (was.told ∙ t) (crash at.0 at.1 at.2)) (reads at.0 at.1 at.2)) in
      ((InDoubt before after, pushed.0), pushed.1)

  -- an area that is not in doubt is settled
  pub stands_settled : (area : OpenArea D) (opening : Opening) (history : List Entry) → StandsForHistory shown area opening history → (HasDoubt shown area → ⊥) → StandsSettled shown area opening history
  stands_settled area opening history (Settled state, stands) none = (state, stands)
  stands_settled area opening history (InDoubt before after, stands) none = let at = stands.at in absurd (none (record { texts = at.0; coming = at.1; doubt = at.2 }))

  -- an area that does not rest is in doubt
  pub stands_in_doubt : (area : OpenArea D) (opening : Opening) (history : List Entry) → StandsForHistory shown area opening history → ((texts : List ℕ) → IsResting shown area texts → ⊥) → StandsInDoubt shown area opening history
  stands_in_doubt area opening history (InDoubt before after, stands) none = (before, after, stands)
  stands_in_doubt area opening history (Settled state, stands) none = let at = stands.at in absurd (none at.0 at.1)

  -- an area that is settled has no call begun
  pub settled_rests : (area : OpenArea D) (opening : Opening) (history : List Entry) → StandsSettled shown area opening history → HasRest shown area
  settled_rests area opening history (state, stands) = record { texts = stands.at.0; rests = stands.at.1 }

  -- an area that is in doubt has one
  pub doubtful_doubts : (area : OpenArea D) (opening : Opening) (history : List Entry) → StandsInDoubt shown area opening history → HasDoubt shown area
  doubtful_doubts area opening history (before, after, stands) = record { texts = stands.at.0; coming = stands.at.1; doubt = stands.at.2 }
