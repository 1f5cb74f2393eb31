-- Disks that were handed out, used and put back.
use Rattle.std.proofs.Common.{◌≡◌, ◌≢◌, ℕ, ◌≤◌, Bool, true, false, ◌&&◌, List, inl, inr, ap, ◌∙◌, sym, subst, refl, arith}
use Rattle.std.specs.Prelude.{bytes_eq, if◌then◌else◌, Some, Result, Ok, Err}
use Rattle.std.specs.Option.{option_map}
use Rattle.std.proofs.lemmas.Slice.Eq.{bytes_eq-Decides}
use Rattle.jb_area_open.specs.Opening.{KeepsOpening}
use Rattle.jb_bytes.specs.Fault.{Rose}
use Rattle.jb_disk.specs.Device.{Device}
use Rattle.jb_host.specs.Desk.{CountsFailed, Desk, Disks, GivesDisk, HostCall, KeepsRest, DiskPlace, RefusesCall, TakesBack, and_call, asked_disk, handed_out, has_disk, with_place}
use Rattle.jb_host.specs.declared.host.HostError.{HostError}
use Rattle.jb_host.specs.declared.host.HostError.TheVariants.{Failed, OutOfMemory}
use Rattle.jb_tool.specs.Answers.{AnswersTool, KeepsUnderTool}
use Rattle.jb_tool.specs.Backing.{AnswersBackup}
use Rattle.jb_tool.specs.declared.error.ToolError.{ToolError}
use Rattle.jb_tool.specs.declared.tool.Tool.{Tool}
use Rattle.jb_board.specs.Run.{RunAnswer, AnswersOver, AsksLast, BacksUpOver, RefusesDisk, UsesBackup, UsesDisk, UsesTool, fault_of_host, run_answer}

-- the place that was changed
here : (dir name : List ℕ) (place : DiskPlace) (disks : Disks) → with_place dir name place disks dir name ≡ place
here dir name place disks =
    let same : (bytes_eq dir dir && bytes_eq name name) ≡ true =
    ap (λ (b : Bool). b && bytes_eq name name) ((bytes_eq-Decides dir dir).1 refl) ∙ (bytes_eq-Decides name name).1 refl in
    ap (λ (b : Bool). if b then place else disks dir name) same

-- a choice made twice by one test
once : {A : Type 0} (b : Bool) (x y z : A) → (if b then x else (if b then y else z)) ≡ (if b then x else z)
once true x y z = refl
once false x y z = refl

-- a place that is changed twice
twice_changed : (dir name : List ℕ) (first second : DiskPlace) (disks : Disks) → with_place dir name second (with_place dir name first disks) ≡ with_place dir name second disks
twice_changed dir name first second disks =
    λ i. λ other_dir other_name. once (bytes_eq other_dir dir && bytes_eq other_name name) second first (disks other_dir other_name) i

-- a disk that was handed out and is put back
put_back_here : (dir name : List ℕ) (before after : Device) (old mid last new : Desk) → GivesDisk dir name before old mid → last.disks ≡ mid.disks → TakesBack dir name after last new
    → (disks : Disks) → old.disks ≡ Some disks → new.disks ≡ Some (with_place dir name (has_disk after) disks)
put_back_here dir name before after old mid last new given same back disks told =
    let out : last.disks ≡ Some (with_place dir name handed_out disks) = same ∙ given.out ∙ ap (option_map (with_place dir name handed_out)) told in
    let returned = back.back (with_place dir name handed_out disks) out (here dir name handed_out disks) in
    returned ∙ ap (option_map (with_place dir name (has_disk after))) out ∙ ap (λ (d : Disks). Some d) (twice_changed dir name handed_out (has_disk after) disks)

-- a disk that is put back after it was used
used_disk : (tool : Tool) (moment : ℕ) (dir name : List ℕ) (before after : Device) (old mid new : Desk) (answer : RunAnswer) → GivesDisk dir name before old mid → TakesBack dir name after mid new
    → AnswersOver tool moment before after answer → KeepsUnderTool tool moment before after → before.faults ≤ after.faults
    → UsesDisk tool moment dir name old new answer
used_disk tool moment dir name before after old mid new answer given back answers crash later = record {
  before = before;
  then = after;
  was = given.was;
  back = put_back_here dir name before after old mid mid new given refl back;
  failed = subst (λ (n : ℕ). CountsFailed after.faults n new.failed) given.rest.failed back.failed;
  answers = answers;
  crash = crash;
  later = later;
}

-- the answer of a tool, as that of the run
answers_as : (tool : Tool) (moment : ℕ) (before after : Device) (answer : Result (List ℕ) ToolError) → AnswersTool tool moment before after answer → AnswersOver tool moment before after (run_answer answer)
answers_as tool moment before after (Ok text) is = is
answers_as tool moment before after (Err error) is = is

-- nothing else has changed where a disk was handed out and taken back
keeps_but : (old mid new : Desk) → KeepsRest old mid → KeepsRest mid (record new { failed = mid.failed })
    → KeepsRest old (record new { faults = old.faults; failed = old.failed })
keeps_but old mid new one more = record {
  settings = more.settings ∙ one.settings;
  console = more.console ∙ one.console;
  readings = more.readings ∙ one.readings;
  faults = refl;
  failed = refl;
  waiting = more.waiting ∙ one.waiting;
  doors = more.doors ∙ one.doors;
  bell = more.bell ∙ one.bell;
}

-- the run of a tool whose disk was handed out, used and put back
pub used_tool : (tool : Tool) (moment : ℕ) (dir name : List ℕ) (before after : Device) (old mid new : Desk) (answer : Result (List ℕ) ToolError) → GivesDisk dir name before old mid
    → TakesBack dir name after mid new → AnswersTool tool moment before after answer → KeepsUnderTool tool moment before after → before.faults ≤ after.faults
    → UsesTool tool moment dir name old new (run_answer answer)
used_tool tool moment dir name before after old mid new answer given back answers crash later = record {
  calls = inl (back.calls ∙ given.calls);
  disk = inr (used_disk tool moment dir name before after old mid new (run_answer answer) given back (answers_as tool moment before after answer answers) crash later);
  rest = keeps_but old mid new given.rest back.rest;
  later = omega (arith, given.rest.faults, back.rest.faults);
}

-- why a disk was not handed out
refused_disk : (call : HostCall) (error : HostError) (old new : Desk) → RefusesCall call error old new → RefusesDisk old.faults new.faults (Err (fault_of_host error))
refused_disk call Failed old new refused = inl (refl, refused.cause)
refused_disk call OutOfMemory old new refused = inr (refl, refused.cause)

-- and what the host tells of its calls
refused_last : (call : HostCall) (error : HostError) (old new : Desk) → RefusesCall call error old new → AsksLast call (Err (fault_of_host error)) old.calls new.calls
refused_last call Failed old new refused = inl refused.calls
refused_last call OutOfMemory old new refused = inr (refl, refused.calls)

-- the run of a backup whose target was not handed out
pub untargeted_backup : (dir name onto : List ℕ) (before : Device) (old mid last new : Desk) (error : HostError) → GivesDisk dir name before old mid
    → RefusesCall (asked_disk onto name) error mid last → TakesBack dir name before last new → UsesBackup dir name onto old new (Err (fault_of_host error))
untargeted_backup dir name onto before old mid last new error given refused back = record {
  disks = inr (inl (record {
    before = before;
    was = given.was;
    back = put_back_here dir name before before old mid last new given refused.disks back;
    calls = asked_behind error given.calls back.calls (refused_last (asked_disk onto name) error mid last refused);
    failed = subst (λ (n : ℕ). CountsFailed before.faults n new.failed) (refused.rest.failed ∙ given.rest.failed) back.failed;
    refused = refused_behind error given.rest.faults back.rest.faults (refused_disk (asked_disk onto name) error mid last refused);
  }));
  rest = record {
    settings = back.rest.settings ∙ refused.rest.settings ∙ given.rest.settings;
    console = back.rest.console ∙ refused.rest.console ∙ given.rest.console;
    readings = back.rest.readings ∙ refused.rest.readings ∙ given.rest.readings;
    faults = refl;
    failed = refl;
    waiting = back.rest.waiting ∙ refused.rest.waiting ∙ given.rest.waiting;
    doors = back.rest.doors ∙ refused.rest.doors ∙ given.rest.doors;
    bell = back.rest.bell ∙ refused.rest.bell ∙ given.rest.bell;
  };
  later = omega (arith, given.rest.faults, refused.later, back.rest.faults);
}
  where
    asked_behind : (e : HostError) → mid.calls ≡ and_call (asked_disk dir name) old.calls → new.calls ≡ last.calls
        → AsksLast (asked_disk onto name) (Err (fault_of_host e)) mid.calls last.calls
        → AsksLast (asked_disk onto name) (Err (fault_of_host e)) (and_call (asked_disk dir name) old.calls) new.calls
    asked_behind e first later (inl all) = inl (later ∙ all ∙ ap (and_call (asked_disk onto name)) first)
    asked_behind e first later (inr none) = inr (none.0, later ∙ none.1 ∙ first)

    refused_behind : (e : HostError) → mid.faults ≡ old.faults → new.faults ≡ last.faults → RefusesDisk mid.faults last.faults (Err (fault_of_host e))
        → RefusesDisk old.faults new.faults (Err (fault_of_host e))
    refused_behind e first later (inl host) = inl (host.0, subst (λ (n : ℕ). Rose n new.faults) first (subst (λ (n : ℕ). Rose mid.faults n) (sym later) host.1))
    refused_behind e first later (inr none) = inr (none.0, later ∙ none.1 ∙ first)

-- two words that are not the same
other_folder : (onto dir : List ℕ) → onto ≢ dir → bytes_eq onto dir ≡ false
other_folder onto dir apart = by_test (bytes_eq onto dir) refl
  where
    by_test : (b : Bool) → bytes_eq onto dir ≡ b → bytes_eq onto dir ≡ false
    by_test true is = absurd (apart ((bytes_eq-Decides onto dir).0 is))
    by_test false is = is

-- a place in another folder stays
elsewhere : (dir name onto other : List ℕ) → onto ≢ dir → (place : DiskPlace) (disks : Disks) → with_place dir name place disks onto other ≡ disks onto other
elsewhere dir name onto other apart place disks = ap (λ (b : Bool). if b && bytes_eq other name then place else disks onto other) (other_folder onto dir apart)

-- two choices made twice by two tests
both_once : {A : Type 0} (b c : Bool) (x y out z : A) → (if b then x else (if c then y else (if b then out else (if c then out else z)))) ≡ (if b then x else (if c then y else z))
both_once true c x y out z = refl
both_once false true x y out z = refl
both_once false false x y out z = refl

-- two places that are changed twice
both_changed : (dir name onto : List ℕ) (first second : DiskPlace) (disks : Disks)
    → with_place onto name second (with_place dir name first (with_place onto name handed_out (with_place dir name handed_out disks)))
    ≡ with_place onto name second (with_place dir name first disks)
both_changed dir name onto first second disks =
    λ i. λ other_dir other_name. both_once (bytes_eq other_dir onto && bytes_eq other_name name) (bytes_eq other_dir dir && bytes_eq other_name name) second first handed_out (disks other_dir other_name) i

-- the answer of a backup, as that of the run
backs_up_as : (before after target target_now : Device) (answer : Result (List ℕ) ToolError) → AnswersBackup before after target target_now answer
    → BacksUpOver before after target target_now (run_answer answer)
backs_up_as before after target target_now (Ok text) is = is
backs_up_as before after target target_now (Err error) is = is

module _ (dir name onto : List ℕ) (apart : onto ≢ dir) (before after target target_after : Device) (old first both last new : Desk)
    (given : GivesDisk dir name before old first) (given_target : GivesDisk onto name target first both) (back : TakesBack dir name after both last)
    (back_target : TakesBack onto name target_after last new) where
  -- both were there
  were_there : (disks : Disks) → old.disks ≡ Some disks → (disks dir name ≡ has_disk before) × (disks onto name ≡ has_disk target)
  were_there disks told =
      let out : first.disks ≡ Some (with_place dir name handed_out disks) = given.out ∙ ap (option_map (with_place dir name handed_out)) told in
      (given.was disks told, sym (elsewhere dir name onto name apart handed_out disks) ∙ given_target.was (with_place dir name handed_out disks) out)

  -- and are there again
  are_back : (disks : Disks) → old.disks ≡ Some disks → new.disks ≡ Some (with_place onto name (has_disk target_after) (with_place dir name (has_disk after) disks))
  are_back disks told =
      let one : Disks = with_place dir name handed_out disks in
      let two : Disks = with_place onto name handed_out one in
      let three : Disks = with_place dir name (has_disk after) two in
      let out : first.disks ≡ Some one = given.out ∙ ap (option_map (with_place dir name handed_out)) told in
      let outs : both.disks ≡ Some two = given_target.out ∙ ap (option_map (with_place onto name handed_out)) out in
      let is_out : two dir name ≡ handed_out = elsewhere onto name dir name (λ same. apart (sym same)) handed_out one ∙ here dir name handed_out disks in
      let mid : last.disks ≡ Some three = back.back two outs is_out ∙ ap (option_map (with_place dir name (has_disk after))) outs in
      let is_still : three onto name ≡ handed_out = elsewhere dir name onto name apart (has_disk after) two ∙ here onto name handed_out one in
      back_target.back three mid is_still ∙ ap (option_map (with_place onto name (has_disk target_after))) mid
      ∙ ap (λ (d : Disks). Some d) (both_changed dir name onto (has_disk after) (has_disk target_after) disks)

  -- the run of a backup whose disks were handed out, used and put back
  pub used_backup : (answer : Result (List ℕ) ToolError) → AnswersBackup before after target target_after answer → KeepsOpening before after
      → UsesBackup dir name onto old new (run_answer answer)
  used_backup answer answers crash = record {
    disks = inr (inr (record {
      before = before;
      then = after;
      target = target;
      target_then = target_after;
      was = were_there;
      back = are_back;
      calls = back_target.calls ∙ back.calls ∙ given_target.calls ∙ ap (and_call (asked_disk onto name)) given.calls;
      faults = back_target.rest.faults ∙ back.rest.faults ∙ given_target.rest.faults ∙ given.rest.faults;
      failed = (last.failed, subst (λ (n : ℕ). CountsFailed after.faults n last.failed) (given_target.rest.failed ∙ given.rest.failed) back.failed, back_target.failed);
      answers = backs_up_as before after target target_after answer answers;
      crash = crash;
    }));
    rest = record {
      settings = back_target.rest.settings ∙ back.rest.settings ∙ given_target.rest.settings ∙ given.rest.settings;
      console = back_target.rest.console ∙ back.rest.console ∙ given_target.rest.console ∙ given.rest.console;
      readings = back_target.rest.readings ∙ back.rest.readings ∙ given_target.rest.readings ∙ given.rest.readings;
      faults = refl;
      failed = refl;
      waiting = back_target.rest.waiting ∙ back.rest.waiting ∙ given_target.rest.waiting ∙ given.rest.waiting;
      doors = back_target.rest.doors ∙ back.rest.doors ∙ given_target.rest.doors ∙ given.rest.doors;
      bell = back_target.rest.bell ∙ back.rest.bell ∙ given_target.rest.bell ∙ given.rest.bell;
    };
    later = omega (arith, back_target.rest.faults, back.rest.faults, given_target.rest.faults, given.rest.faults);
  }
