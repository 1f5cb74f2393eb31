-- A run in which nothing has failed: its status is not that of a fault, and what is there and opens is served.
use Rattle.std.proofs.Common.{◌≡◌, ℕ, ◌<◌, Bool, true, false, List, inl, inr, ap, sym, subst, ◌∙◌, refl, arith}
use Rattle.std.specs.Prelude.{◌≢◌, ◌⊎◌, unwrap_or, Option, Some, None, Result, Ok, Err}
use Rattle.jb_area_open.specs.Laws.{OpensWithin}
use Rattle.jb_area_open.specs.declared.error.OpeningError.{OpeningError}
use Rattle.jb_area_open.specs.declared.error.OpeningError.TheVariants as opening
use Rattle.jb_backup.specs.Target.{AreEmpty}
use Rattle.jb_bytes.specs.Fault.{Rose}
use Rattle.jb_conf.specs.declared.board.Board.{Board}
use Rattle.jb_conf.specs.declared.error.ConfError.{ConfError}
use Rattle.jb_conf.specs.declared.error.ConfError.TheVariants as conf
use Rattle.jb_disk.specs.Device.{Device, RoseIf}
use Rattle.jb_disk.specs.Files.{Files}
use Rattle.jb_host.specs.Desk.{CountsFailed, Desk, Disks, DiskPlace, handed_out, has_disk, no_disk}
use Rattle.jb_host.specs.Gate.{Gate}
use Rattle.jb_host.specs.Rings.{Rings}
use Rattle.jb_host.specs.Wire.{Wire}
use Rattle.jb_image.specs.declared.error.OpenError.{OpenError}
use Rattle.jb_image.specs.declared.error.OpenError.TheVariants as refused
use Rattle.jb_limits.specs.declared.limits.TheConstants.{MOST_SLOTS}
use Rattle.jb_run.specs.Begins.{BeginsNone, RefusesLines}
use Rattle.jb_run.specs.Laws.{HasFiles, HasNotFailed, HasOpenBoard, RefusesNoOpenBoard}
use Rattle.jb_run.specs.Local.{RunsLocal, ServesOne}
use Rattle.jb_run.specs.LocalEnding.{session_status, status_with}
use Rattle.jb_run.specs.Nodes.{RunsNodes, ServesAll}
use Rattle.jb_run.specs.NodesEnding.{nodes_status_with}
use Rattle.jb_run.specs.declared.error.RunError.{RunError}
use Rattle.jb_run.specs.declared.error.RunError.TheVariants as run
use Rattle.jb_run.specs.declared.local_end.LocalEnd.{LocalEnd}
use Rattle.jb_run.specs.declared.nodes_end.NodesEnd.{NodesEnd}
use Rattle.jb_session.specs.Exchanges.{NodeState}
use Rattle.jb_session.specs.Served.{Served}
use Rattle.jb_session.specs.declared.end.SessionEnd.{SessionEnd}
use Rattle.jb_session.specs.declared.end.SessionEnd.TheVariants as session
use Rattle.jb_tool.specs.Answers.{AnswersTool}
use Rattle.jb_tool.specs.Backing.{AnswersBackup, RoseInOneIf}
use Rattle.jb_tool.specs.Laws.{BacksUpWhatOpens, HoldNoBase, IsCompleteAnswer, IsCompleteBackup, IsDoneOrNoMemory, MakesWhereNoneIs, ServesWhatOpens}
use Rattle.jb_tool.specs.Recovered.{is_tool_fault}
use Rattle.jb_tool.specs.declared.error.ToolError.{ToolError}
use Rattle.jb_tool.specs.declared.error.ToolError.TheVariants as tool
use Rattle.jb_tool.specs.declared.tool.Tool.{Tool}
use Rattle.jb_tool.specs.declared.tool.Tool.TheVariants.{List as Listing, Check, Make, Pack, Relink}
use Rattle.jb_board.specs.Faults.{area_status, base_status, fault_of, settings_status, status_of, tool_status}
use Rattle.jb_board.specs.Laws.{FailsByFaultsAlone, IsDone, IsForTool, NothingFailed, IsServedWith, IsThere, IsToolServed, ServesWhatIsThere}
use Rattle.jb_board.specs.Run.{AnswersWords, HasRun, IsPrinted, RefusesDisk, RunAnswer, SaysText, SendsAll, StopsConsole, UsesDisk, UsesDisks, answer_behind, answer_behind_nodes, run_answer}
use Rattle.jb_board.specs.Words.{Words, use_tool, back_up, run_load, serve_one, serve_all, show_help, command_line_of}
use Rattle.jb_board.specs.declared.fault.Fault.{Fault}
use Rattle.jb_board.specs.declared.fault.Fault.TheVariants as fault
use Rattle.jb_board.specs.declared.top.Outcome.TheVariants.{Text, Session, Nodes}

-- a status that is not that of a fault
abbrev IsClear : ℕ → Type 0
IsClear status = (status ≢ 4) × (status ≢ 5)

-- the statuses that are none
zero_clear : IsClear 0
zero_clear = (λ h. absurd (omega (arith, h)), λ h. absurd (omega (arith, h)))

one_clear : IsClear 1
one_clear = (λ h. absurd (omega (arith, h)), λ h. absurd (omega (arith, h)))

two_clear : IsClear 2
two_clear = (λ h. absurd (omega (arith, h)), λ h. absurd (omega (arith, h)))

three_clear : IsClear 3
three_clear = (λ h. absurd (omega (arith, h)), λ h. absurd (omega (arith, h)))

six_clear : IsClear 6
six_clear = (λ h. absurd (omega (arith, h)), λ h. absurd (omega (arith, h)))

seven_clear : IsClear 7
seven_clear = (λ h. absurd (omega (arith, h)), λ h. absurd (omega (arith, h)))

as_clear : (status other : ℕ) → status ≡ other → IsClear other → IsClear status
as_clear status other same is = (λ h. is.0 (sym same ∙ h), λ h. is.1 (sym same ∙ h))

done_clear : (status : ℕ) → IsDone status → IsClear status
done_clear status (inl zero) = as_clear status 0 zero zero_clear
done_clear status (inr six) = as_clear status 6 six six_clear

-- a base that is refused, but for a fault of its disk
base_clear : (error : OpenError) → error ≢ refused.StoreFault → IsClear (base_status error)
base_clear refused.ShortHeader other = three_clear
base_clear refused.BadSignature other = three_clear
base_clear refused.BaseZero other = three_clear
base_clear refused.IndexLength other = three_clear
base_clear refused.LastreadLength other = three_clear
base_clear refused.TooManySlots other = three_clear
base_clear refused.NumberRange other = three_clear
base_clear (refused.HeaderPlace n) other = three_clear
base_clear (refused.HeaderSignature n) other = three_clear
base_clear (refused.HeaderRevision n) other = three_clear
base_clear (refused.Subfields n at) other = three_clear
base_clear (refused.TextPlace n) other = three_clear
base_clear (refused.HeadersOverlap a b) other = three_clear
base_clear refused.StoreFault other = absurd (other refl)
base_clear refused.OutOfMemory other = six_clear

-- and a tool that is refused so
tool_clear : (error : ToolError) → error ≢ tool.Open refused.StoreFault → IsClear (tool_status error)
tool_clear (tool.BadJournal at) other = three_clear
tool_clear (tool.Open error) other = base_clear error (λ is. other (ap tool.Open is))
tool_clear tool.AlreadyThere other = three_clear
tool_clear (tool.TextFull n) other = three_clear
tool_clear (tool.NotEmpty file) other = three_clear

-- a fault would have raised a count that did not rise
no_store_fault : (error : ToolError) (before after : ℕ) → RoseIf (is_tool_fault error) before after → (Rose before after → ⊥) → error ≢ tool.Open refused.StoreFault
no_store_fault error before after cause quiet = λ is. quiet (subst (λ (e : ToolError). RoseIf (is_tool_fault e) before after) is cause)

-- or one of two
no_fault_of_two : (error : ToolError) (one one_now other other_now : ℕ) → RoseInOneIf (is_tool_fault error) one one_now other other_now
    → (Rose one one_now → ⊥) → (Rose other other_now → ⊥) → error ≢ tool.Open refused.StoreFault
no_fault_of_two error one one_now other other_now cause quiet other_quiet = λ is.
    elim (subst (λ (e : ToolError). RoseInOneIf (is_tool_fault e) one one_now other other_now) is cause) [
      | inl rose ↦ quiet rose
      | inr rose ↦ other_quiet rose
    ]

settings_clear : (error : ConfError) → IsClear (settings_status error)
settings_clear conf.NotToml = two_clear
settings_clear (conf.Missing f) = two_clear
settings_clear (conf.WrongKind f) = two_clear
settings_clear (conf.OutOfRange f) = two_clear
settings_clear (conf.Repeated f) = two_clear
settings_clear (conf.BadDigest u) = two_clear
settings_clear conf.OutOfMemory = six_clear

area_clear : (error : OpeningError) → error ≢ opening.Base refused.StoreFault → IsClear (area_status error)
area_clear (opening.BadJournal at) other = three_clear
area_clear (opening.Base error) other = base_clear error (λ is. other (ap opening.Base is))

-- a refusal of a run, but for a fault of the host or of a store
run_clear : (error : RunError) → error ≢ run.HostFault → ((place : ℕ) → error ≢ run.Area place (opening.Base refused.StoreFault)) → IsClear (status_of (fault_of error))
run_clear (run.Settings error) host store = settings_clear error
run_clear (run.Area place error) host store = area_clear error (λ is. store place (ap (run.Area place) is))
run_clear run.HostFault host store = absurd (host refl)
run_clear run.OutOfMemory host store = six_clear

-- a session that ended otherwise than by its link is done, or the board has ended it
session_served : (end : SessionEnd) → end ≢ session.LinkFault → IsDone (session_status end) ⊎ (session_status end ≡ 7)
session_served session.Quit sound = inl (inl refl)
session_served session.Hangup sound = inl (inl refl)
session_served session.LinkFault sound = absurd (sound refl)
session_served session.OutOfMemory sound = inl (inr refl)
session_served session.LoginRefused sound = inr refl
session_served session.Spent sound = inr refl

local_served : (is_doubtful : Bool) (end : SessionEnd) → is_doubtful ≢ true → end ≢ session.LinkFault → IsDone (status_with is_doubtful end) ⊎ (status_with is_doubtful end ≡ 7)
local_served true end settled sound = absurd (settled refl)
local_served false end settled sound = session_served end sound

nodes_served : (is_doubtful door_failed : Bool) → is_doubtful ≢ true → door_failed ≢ true → nodes_status_with is_doubtful door_failed ≡ 0
nodes_served true door_failed settled sound = absurd (settled refl)
nodes_served false true settled sound = absurd (sound refl)
nodes_served false false settled sound = refl

-- a session that its link ended has raised a count of it
link_rose : (board : Board) (old new : Wire) (from to : NodeState) (end : SessionEnd) → Served board old from end new to → end ≡ session.LinkFault → Rose old.faults new.faults
link_rose board old new from to session.LinkFault served is = served.ends.1
link_rose board old new from to session.Quit served is = absurd (cc (is))
link_rose board old new from to session.Hangup served is = absurd (cc (is))
link_rose board old new from to session.LoginRefused served is = absurd (cc (is))
link_rose board old new from to session.Spent served is = absurd (cc (is))
link_rose board old new from to session.OutOfMemory served is = absurd (cc (is))

-- a count of a disk that rose is not 0
some_faults : (before after : ℕ) → Rose before after → 0 < after
some_faults before after rose = omega (arith, rose)

one_wire : (a b : Wire) → Some a ≡ Some b → a ≡ b
one_wire a b same = ap (λ (o : Option Wire). unwrap_or o a) same

one_disks : (a b : Disks) → Some a ≡ Some b → a ≡ b
one_disks a b same = ap (λ (o : Option Disks). unwrap_or o a) same

one_files : (a b : Files) → Some a ≡ Some b → a ≡ b
one_files a b same = ap (λ (o : Option Files). unwrap_or o a) same

abbrev device_in : Device → DiskPlace → Device
device_in other no_disk = other
device_in other handed_out = other
device_in other (has_disk device) = device

-- what was answered is printed on the console, and nothing has failed
record IsSaid (old mid : Desk) (answer : RunAnswer) (status : ℕ) : Type 0 where
  console : Wire
  after : Wire
  is : mid.console ≡ Some console
  printed : IsPrinted answer status console after
  host : HasNotFailed old mid
  quiet : (was : Wire) → old.console ≡ Some was → Rose was.faults after.faults → ⊥

said_as : (old mid : Desk) (one other : RunAnswer) (status : ℕ) → one ≡ other → IsSaid old mid one status → IsSaid old mid other status
said_as old mid one other status same said = let P : RunAnswer → Type 0 = λ a. IsSaid old mid a status in subst P same said

-- a text was printed whole
text_done : (status : ℕ) (text : List ℕ) (was after : Wire) → (Rose was.faults after.faults → ⊥)
    → (((status ≡ 0) × SendsAll was after text) ⊎ ((status ≡ 5) × StopsConsole was after text)) → status ≡ 0
text_done status text was after quiet (inl done) = done.0
text_done status text was after quiet (inr stopped) = absurd (quiet stopped.1.faults)

says_text : (old mid : Desk) (text : List ℕ) (status : ℕ) → mid.console ≡ old.console → IsSaid old mid (Ok (Text text)) status → status ≡ 0
says_text old mid text status same said = text_done status text said.console said.after (said.quiet said.console (sym same ∙ said.is)) said.printed.1

-- a refusal
says_fault : (old mid : Desk) (why : Fault) (status : ℕ) → IsSaid old mid (Err why) status → status ≡ status_of why
says_fault old mid why status said = said.printed.1

-- the text of a run without a base, or want of memory
says_done : (old mid : Desk) (text : List ℕ) (answer : RunAnswer) (status : ℕ) → SaysText text answer → mid ≡ old → IsSaid old mid answer status → IsDone status
says_done old mid text answer status (inl told) same said =
    inl (says_text old mid text status (ap (λ (d : Desk). d.console) same) (said_as old mid answer (Ok (Text text)) status told said))
says_done old mid text answer status (inr none) same said = inr (says_fault old mid fault.OutOfMemory status (said_as old mid answer (Err fault.OutOfMemory) status none said))

-- no disk was handed out: memory was wanting
refused_done : (old mid : Desk) (answer : RunAnswer) (status : ℕ) → RefusesDisk old.faults mid.faults answer → IsSaid old mid answer status → status ≡ 6
refused_done old mid answer status refused said = elim refused [
  | inl host ↦ absurd (said.host.host host.1)
  | inr memory ↦ says_fault old mid fault.OutOfMemory status (said_as old mid answer (Err fault.OutOfMemory) status memory.0 said)
]

-- the disk was used, and did not fail
disk_quiet : (old mid : Desk) (before then : Device) → HasNotFailed old mid → CountsFailed then.faults old.failed mid.failed → Rose before.faults then.faults → ⊥
disk_quiet old mid before then quiet counts rose = quiet.back (counts.rose (some_faults before.faults then.faults rose))

tool_over_clear : (of : Tool) (moment : ℕ) (dir name : List ℕ) (old mid : Desk) (answer : RunAnswer) (status : ℕ) → mid.console ≡ old.console
    → UsesDisk of moment dir name old mid answer → IsSaid old mid answer status → IsClear status
tool_over_clear of moment dir name old mid (Ok (Text text)) status same uses said = as_clear status 0 (says_text old mid text status same said) zero_clear
tool_over_clear of moment dir name old mid (Ok (Session end)) status same uses said = absurd uses.answers
tool_over_clear of moment dir name old mid (Ok (Nodes end)) status same uses said = absurd uses.answers
tool_over_clear of moment dir name old mid (Err (fault.Tool error)) status same uses said =
    as_clear status (tool_status error) (says_fault old mid (fault.Tool error) status said)
    (tool_clear error (no_store_fault error uses.before.faults uses.then.faults uses.answers.faults.cause (disk_quiet old mid uses.before uses.then said.host uses.failed)))
tool_over_clear of moment dir name old mid (Err fault.Words) status same uses said = absurd uses.answers
tool_over_clear of moment dir name old mid (Err (fault.Settings error)) status same uses said = absurd uses.answers
tool_over_clear of moment dir name old mid (Err (fault.Area place error)) status same uses said = absurd uses.answers
tool_over_clear of moment dir name old mid (Err fault.HostFault) status same uses said = absurd uses.answers
tool_over_clear of moment dir name old mid (Err fault.OutOfMemory) status same uses said = absurd uses.answers

-- both disks of a backup were used, and did not fail
base_quiet : (dir name onto : List ℕ) (old mid : Desk) (answer : RunAnswer) → HasNotFailed old mid → (uses : UsesDisks dir name onto old mid answer)
    → Rose uses.before.faults uses.then.faults → ⊥
base_quiet dir name onto old mid answer quiet uses rose =
    let first = uses.failed.1.rose (some_faults uses.before.faults uses.then.faults rose) in
    quiet.back (omega (arith, first, uses.failed.2.later))

target_quiet : (dir name onto : List ℕ) (old mid : Desk) (answer : RunAnswer) → HasNotFailed old mid → (uses : UsesDisks dir name onto old mid answer)
    → Rose uses.target.faults uses.target_then.faults → ⊥
target_quiet dir name onto old mid answer quiet uses rose =
    let second = uses.failed.2.rose (some_faults uses.target.faults uses.target_then.faults rose) in
    quiet.back (omega (arith, second, uses.failed.1.later))

backup_over_clear : (dir name onto : List ℕ) (old mid : Desk) (answer : RunAnswer) (status : ℕ) → mid.console ≡ old.console
    → UsesDisks dir name onto old mid answer → IsSaid old mid answer status → IsClear status
backup_over_clear dir name onto old mid (Ok (Text text)) status same uses said = as_clear status 0 (says_text old mid text status same said) zero_clear
backup_over_clear dir name onto old mid (Ok (Session end)) status same uses said = absurd uses.answers
backup_over_clear dir name onto old mid (Ok (Nodes end)) status same uses said = absurd uses.answers
backup_over_clear dir name onto old mid (Err (fault.Tool error)) status same uses said =
    as_clear status (tool_status error) (says_fault old mid (fault.Tool error) status said)
    (tool_clear error (no_fault_of_two error uses.before.faults uses.then.faults uses.target.faults uses.target_then.faults uses.answers.faults.cause
    (base_quiet dir name onto old mid (Err (fault.Tool error)) said.host uses) (target_quiet dir name onto old mid (Err (fault.Tool error)) said.host uses)))
backup_over_clear dir name onto old mid (Err fault.Words) status same uses said = absurd uses.answers
backup_over_clear dir name onto old mid (Err (fault.Settings error)) status same uses said = absurd uses.answers
backup_over_clear dir name onto old mid (Err (fault.Area place error)) status same uses said = absurd uses.answers
backup_over_clear dir name onto old mid (Err fault.HostFault) status same uses said = absurd uses.answers
backup_over_clear dir name onto old mid (Err fault.OutOfMemory) status same uses said = absurd uses.answers

-- a session, and a run with many nodes, over an open board
local_end_served : (path : List ℕ) (old mid : Desk) (end : LocalEnd) (status : ℕ) → ServesOne path old mid end → IsSaid old mid (Ok (Session end)) status → IsDone status ⊎ (status ≡ 7)
local_end_served path old mid end status serves said =
    let here : serves.console_after ≡ said.after = one_wire serves.console_after said.console (sym serves.console_back ∙ said.is) ∙ sym said.printed.1 in
    let sound : end.session ≢ session.LinkFault = λ is.
    let P : Wire → Type 0 = λ w. Rose serves.console.faults w.faults in
    said.quiet serves.console serves.console_was (subst P here (link_rose serves.board serves.console serves.console_after _ _ end.session serves.served is)) in
    let Q : ℕ → Type 0 = λ n. IsDone n ⊎ (n ≡ 7) in
    subst Q (sym said.printed.0) (local_served end.is_doubtful end.session (λ is. said.host.back (serves.over.failing is)) sound)

nodes_end_served : (door_for : Option ℕ → Gate → Type 0) (bell_over : ℕ → ℕ → Option ℕ → Rings → Type 0) (path : List ℕ) (most : Option ℕ) (backup : Option (List ℕ)) (old mid : Desk) (end : NodesEnd)
    (status : ℕ) → ServesAll door_for bell_over path most backup old mid end → IsSaid old mid (Ok (Nodes end)) status → status ≡ 0
nodes_end_served door_for bell_over path most backup old mid end status serves said =
    said.printed.0 ∙ nodes_served end.is_doubtful end.door_failed (λ is. said.host.back (serves.over.failing is)) (λ is. said.host.back (serves.door is))

-- nobody was served
refusal_clear : (Lines : Type 0) (path : List ℕ) (old mid : Desk) (error : RunError) (status : ℕ) → BeginsNone Lines path old mid error
    → IsSaid old mid (Err (fault_of error)) status → IsClear status
refusal_clear Lines path old mid error status none said = as_clear status (status_of (fault_of error)) (says_fault old mid (fault_of error) status said)
    (run_clear error (λ is. said.host.host (none.cause is)) (λ place is. said.host.back (none.store place is)))

refusal_memory : (error : RunError) (old mid : Desk) (status : ℕ) → error ≡ run.OutOfMemory → IsSaid old mid (Err (fault_of error)) status → status ≡ 6
refusal_memory error old mid status memory said = says_fault old mid (fault_of error) status said ∙ ap (λ (e : RunError). status_of (fault_of e)) memory

either_clear : (status : ℕ) → IsDone status ⊎ (status ≡ 7) → IsClear status
either_clear status (inl done) = done_clear status done
either_clear status (inr seven) = as_clear status 7 seven seven_clear

local_clear : (path : List ℕ) (old mid : Desk) (came : Result LocalEnd RunError) (status : ℕ) → RunsLocal path old mid came → IsSaid old mid (answer_behind came) status → IsClear status
local_clear path old mid (Ok end) status runs said = either_clear status (local_end_served path old mid end status runs said)
local_clear path old mid (Err error) status runs said = refusal_clear ⊥ path old mid error status runs said

module _ (door_for : Option ℕ → Gate → Type 0) (bell_over : ℕ → ℕ → Option ℕ → Rings → Type 0) where
  nodes_clear : (path : List ℕ) (most : Option ℕ) (backup : Option (List ℕ)) (old mid : Desk) (came : Result NodesEnd RunError) (status : ℕ)
      → RunsNodes door_for bell_over path most backup old mid came
      → IsSaid old mid (answer_behind_nodes came) status → IsClear status
  nodes_clear path most backup old mid (Ok end) status runs said = as_clear status 0 (nodes_end_served door_for bell_over path most backup old mid end status runs said) zero_clear
  nodes_clear path most backup old mid (Err error) status runs said = refusal_clear (RefusesLines path most backup old mid error) path old mid error status runs said

  words_clear : (line : Option Words) (moment : ℕ) (old mid : Desk) (answer : RunAnswer) (status : ℕ) → AnswersWords door_for bell_over line moment old mid answer
      → IsSaid old mid answer status → IsClear status
  words_clear None moment old mid answer status answers said =
      as_clear status 1 (says_fault old mid fault.Words status (said_as old mid answer (Err fault.Words) status answers.0 said)) one_clear
  words_clear (Some (use_tool of dir name)) moment old mid answer status answers said = elim answers.disk [
    | inl none ↦ as_clear status 6 (refused_done old mid answer status none.2 said) six_clear
    | inr uses ↦ tool_over_clear of moment dir name old mid answer status answers.rest.console uses said
  ]
  words_clear (Some (back_up dir name onto)) moment old mid answer status answers said = elim answers.disks [
    | inl none ↦ as_clear status 6 (refused_done old mid answer status none.0.2 said) six_clear
    | inr later ↦ elim later [
      | inl untargeted ↦ as_clear status 6 (refused_done old mid answer status untargeted.refused said) six_clear
      | inr uses ↦ backup_over_clear dir name onto old mid answer status answers.rest.console uses said
    ]
  ]
  words_clear (Some (run_load seed count)) moment old mid answer status answers said = done_clear status (says_done old mid _ answer status answers.0 answers.1 said)
  words_clear (Some (serve_one path)) moment old mid answer status answers said =
      local_clear path old mid answers.came status answers.runs (said_as old mid answer (answer_behind answers.came) status answers.is said)
  words_clear (Some (serve_all path calls backup)) moment old mid answer status answers said =
      nodes_clear path calls backup old mid answers.came status answers.runs (said_as old mid answer (answer_behind_nodes answers.came) status answers.is said)
  words_clear (Some show_help) moment old mid answer status answers said = done_clear status (says_done old mid _ answer status answers.0 answers.1 said)

  -- what a whole run has said
  run_said : (words : List (List ℕ)) (old new : Desk) (status : ℕ) (ran : HasRun door_for bell_over words old new status) → NothingFailed old new → IsSaid old ran.mid ran.answer status
  run_said words old new status ran quiet =
      let P : Desk → Type 0 = λ d. NothingFailed old d in
      let so : NothingFailed old (record ran.mid { console = Some ran.console_after }) = subst P ran.left quiet in
      record {
        console = ran.console;
        after = ran.console_after;
        is = ran.console_is;
        printed = ran.printed;
        host = record { host = so.host.host; back = so.host.back };
        quiet = λ was is. so.console was ran.console_after is refl;
      }

  pub fails_by_faults : FailsByFaultsAlone door_for bell_over
  fails_by_faults words old new status ran quiet =
      words_clear (command_line_of words) ran.moment old ran.mid ran.answer status ran.answers (run_said words old new status ran quiet)

-- a complete answer of a tool, as its status
complete_served : (of : Tool) (old mid : Desk) (answer : Result (List ℕ) ToolError) (status : ℕ) → mid.console ≡ old.console → IsCompleteAnswer of answer
    → IsSaid old mid (run_answer answer) status → IsToolServed of status
complete_served Listing old mid (Ok text) status same is said = inl (says_text old mid text status same said)
complete_served Listing old mid (Err (tool.Open error)) status same is said = inr (says_fault old mid (fault.Tool (tool.Open error)) status said ∙ ap base_status is)
complete_served Listing old mid (Err (tool.BadJournal at)) status same is said = absurd is
complete_served Listing old mid (Err tool.AlreadyThere) status same is said = absurd (cc (is))
complete_served Listing old mid (Err (tool.TextFull n)) status same is said = absurd (cc (is))
complete_served Listing old mid (Err (tool.NotEmpty file)) status same is said = absurd is
complete_served Check old mid (Ok text) status same is said = inl (says_text old mid text status same said)
complete_served Check old mid (Err (tool.Open error)) status same is said = inr (says_fault old mid (fault.Tool (tool.Open error)) status said ∙ ap base_status is)
complete_served Check old mid (Err (tool.BadJournal at)) status same is said = absurd is
complete_served Check old mid (Err tool.AlreadyThere) status same is said = absurd (cc (is))
complete_served Check old mid (Err (tool.TextFull n)) status same is said = absurd (cc (is))
complete_served Check old mid (Err (tool.NotEmpty file)) status same is said = absurd is
complete_served Relink old mid (Ok text) status same is said = inl (says_text old mid text status same said)
complete_served Relink old mid (Err (tool.Open error)) status same is said = inr (says_fault old mid (fault.Tool (tool.Open error)) status said ∙ ap base_status is)
complete_served Relink old mid (Err (tool.BadJournal at)) status same is said = absurd is
complete_served Relink old mid (Err tool.AlreadyThere) status same is said = absurd (cc (is))
complete_served Relink old mid (Err (tool.TextFull n)) status same is said = absurd (cc (is))
complete_served Relink old mid (Err (tool.NotEmpty file)) status same is said = absurd is
complete_served Make old mid (Ok text) status same is said = absurd (is refl)
complete_served Make old mid (Err (tool.Open error)) status same is said = inl (inr (says_fault old mid (fault.Tool (tool.Open error)) status said ∙ ap base_status is))
complete_served Make old mid (Err (tool.BadJournal at)) status same is said = absurd is
complete_served Make old mid (Err tool.AlreadyThere) status same is said = inr (says_fault old mid (fault.Tool tool.AlreadyThere) status said)
complete_served Make old mid (Err (tool.TextFull n)) status same is said = absurd (cc (is))
complete_served Make old mid (Err (tool.NotEmpty file)) status same is said = absurd is
complete_served Pack old mid (Ok text) status same is said = inl (inl (says_text old mid text status same said))
complete_served Pack old mid (Err (tool.Open error)) status same is said = inl (inr (says_fault old mid (fault.Tool (tool.Open error)) status said ∙ ap base_status is))
complete_served Pack old mid (Err (tool.BadJournal at)) status same is said = absurd is
complete_served Pack old mid (Err tool.AlreadyThere) status same is said = absurd (cc (is))
complete_served Pack old mid (Err (tool.TextFull n)) status same is said = inr (says_fault old mid (fault.Tool (tool.TextFull n)) status said)
complete_served Pack old mid (Err (tool.NotEmpty file)) status same is said = absurd is

-- a base that was made, or memory was wanting
made_served : (old mid : Desk) (answer : Result (List ℕ) ToolError) (status : ℕ) → mid.console ≡ old.console → IsDoneOrNoMemory answer
    → IsSaid old mid (run_answer answer) status → IsDone status
made_served old mid (Ok text) status same is said = inl (says_text old mid text status same said)
made_served old mid (Err error) status same is said = inr (says_fault old mid (fault.Tool error) status said ∙ ap tool_status is)

-- the disk that a tool was used on is the one that is there
used_on : (property : Files → Type 0) (of : Tool) (moment : ℕ) (dir name : List ℕ) (old mid : Desk) (answer : RunAnswer) (disks : Disks) → old.disks ≡ Some disks
    → (there : HasFiles property disks dir name) (uses : UsesDisk of moment dir name old mid answer) → uses.before.contents ≡ Some there.files
used_on property of moment dir name old mid answer disks told there uses =
    let same : there.device ≡ uses.before = ap (device_in there.device) (sym there.stands ∙ uses.was disks told) in
    ap (λ (d : Device). d.contents) (sym same) ∙ there.told

module _ (serves : ServesWhatOpens) (makes : MakesWhereNoneIs) where
  open_answer : (of : Tool) (moment : ℕ) (dir name : List ℕ) (old mid : Desk) (answer : Result (List ℕ) ToolError) (status : ℕ) (disks : Disks) → old.disks ≡ Some disks
      → HasFiles (OpensWithin MOST_SLOTS) disks dir name → mid.console ≡ old.console → (uses : UsesDisk of moment dir name old mid (run_answer answer))
      → AnswersTool of moment uses.before uses.then answer → IsSaid old mid (run_answer answer) status → IsToolServed of status
  open_answer of moment dir name old mid answer status disks told there same uses answers said =
      complete_served of old mid answer status same
      (serves there.files of moment uses.before uses.then answer there.has (record {
        told = used_on (OpensWithin MOST_SLOTS) of moment dir name old mid (run_answer answer) disks told there uses;
        answers = answers;
        quiet = disk_quiet old mid uses.before uses.then said.host uses.failed;
      })) said

  made_answer : (moment : ℕ) (dir name : List ℕ) (old mid : Desk) (answer : Result (List ℕ) ToolError) (status : ℕ) (disks : Disks) → old.disks ≡ Some disks
      → HasFiles HoldNoBase disks dir name → mid.console ≡ old.console → (uses : UsesDisk Make moment dir name old mid (run_answer answer))
      → AnswersTool Make moment uses.before uses.then answer → IsSaid old mid (run_answer answer) status → IsDone status
  made_answer moment dir name old mid answer status disks told there same uses answers said =
      made_served old mid answer status same
      (makes there.files moment uses.before uses.then answer there.has (record {
        told = used_on HoldNoBase Make moment dir name old mid (run_answer answer) disks told there uses;
        answers = answers;
        quiet = disk_quiet old mid uses.before uses.then said.host uses.failed;
      })) said

  -- by what is there
  tool_answer : (of : Tool) (moment : ℕ) (dir name : List ℕ) (old mid : Desk) (answer : Result (List ℕ) ToolError) (status : ℕ) (disks : Disks) → old.disks ≡ Some disks
      → IsForTool of disks dir name → mid.console ≡ old.console → (uses : UsesDisk of moment dir name old mid (run_answer answer))
      → AnswersTool of moment uses.before uses.then answer → IsSaid old mid (run_answer answer) status → IsToolServed of status
  tool_answer Listing moment dir name old mid answer status disks told there same uses answers said = open_answer Listing moment dir name old mid answer status disks told there same uses answers said
  tool_answer Check moment dir name old mid answer status disks told there same uses answers said = open_answer Check moment dir name old mid answer status disks told there same uses answers said
  tool_answer Pack moment dir name old mid answer status disks told there same uses answers said = open_answer Pack moment dir name old mid answer status disks told there same uses answers said
  tool_answer Relink moment dir name old mid answer status disks told there same uses answers said = open_answer Relink moment dir name old mid answer status disks told there same uses answers said
  tool_answer Make moment dir name old mid answer status disks told (inl there) same uses answers said = open_answer Make moment dir name old mid answer status disks told there same uses answers said
  tool_answer Make moment dir name old mid answer status disks told (inr none) same uses answers said =
      inl (made_answer moment dir name old mid answer status disks told none same uses answers said)

  tool_over : (of : Tool) (moment : ℕ) (dir name : List ℕ) (old mid : Desk) (answer : RunAnswer) (status : ℕ) (disks : Disks) → old.disks ≡ Some disks → IsForTool of disks dir name
      → mid.console ≡ old.console → UsesDisk of moment dir name old mid answer → IsSaid old mid answer status → IsToolServed of status
  tool_over of moment dir name old mid (Ok (Text text)) status disks told there same uses said =
      tool_answer of moment dir name old mid (Ok text) status disks told there same uses uses.answers said
  tool_over of moment dir name old mid (Ok (Session end)) status disks told there same uses said = absurd uses.answers
  tool_over of moment dir name old mid (Ok (Nodes end)) status disks told there same uses said = absurd uses.answers
  tool_over of moment dir name old mid (Err (fault.Tool error)) status disks told there same uses said =
      tool_answer of moment dir name old mid (Err error) status disks told there same uses uses.answers said
  tool_over of moment dir name old mid (Err fault.Words) status disks told there same uses said = absurd uses.answers
  tool_over of moment dir name old mid (Err (fault.Settings error)) status disks told there same uses said = absurd uses.answers
  tool_over of moment dir name old mid (Err (fault.Area place error)) status disks told there same uses said = absurd uses.answers
  tool_over of moment dir name old mid (Err fault.HostFault) status disks told there same uses said = absurd uses.answers
  tool_over of moment dir name old mid (Err fault.OutOfMemory) status disks told there same uses said = absurd uses.answers

  tool_six : (of : Tool) (status : ℕ) → status ≡ 6 → IsToolServed of status
  tool_six Listing status six = inr six
  tool_six Check status six = inr six
  tool_six Make status six = inl (inr six)
  tool_six Pack status six = inl (inr six)
  tool_six Relink status six = inr six

-- the disks of a backup are those that are there
place_files : (property : Files → Type 0) (dir name : List ℕ) (device : Device) (disks : Disks) (there : HasFiles property disks dir name) → disks dir name ≡ has_disk device
    → device.contents ≡ Some there.files
place_files property dir name device disks there was =
    let same : there.device ≡ device = ap (device_in there.device) (sym there.stands ∙ was) in
    ap (λ (d : Device). d.contents) (sym same) ∙ there.told

-- a complete answer of a backup onto empty files, as its status
backup_served : (old mid : Desk) (answer : Result (List ℕ) ToolError) (status : ℕ) (target : Device) (files : Files) → mid.console ≡ old.console → target.contents ≡ Some files
    → AreEmpty files → IsCompleteBackup target answer → IsSaid old mid (run_answer answer) status → IsDone status
backup_served old mid (Ok text) status target files same told empty is said = inl (says_text old mid text status same said)
backup_served old mid (Err (tool.Open error)) status target files same told empty is said = inr (says_fault old mid (fault.Tool (tool.Open error)) status said ∙ ap base_status is)
backup_served old mid (Err (tool.NotEmpty file)) status target files same told empty is said = absurd ((is files told).full (empty file))
backup_served old mid (Err (tool.BadJournal at)) status target files same told empty is said = absurd is
backup_served old mid (Err tool.AlreadyThere) status target files same told empty is said = absurd is
backup_served old mid (Err (tool.TextFull n)) status target files same told empty is said = absurd is

module _ (backs : BacksUpWhatOpens) (dir name onto : List ℕ) (old mid : Desk) (status : ℕ) (disks : Disks) (told : old.disks ≡ Some disks)
    (base : HasFiles (OpensWithin MOST_SLOTS) disks dir name) (empty : HasFiles AreEmpty disks onto name) (same : mid.console ≡ old.console) where
  backup_answer : (answer : Result (List ℕ) ToolError) (uses : UsesDisks dir name onto old mid (run_answer answer))
      → AnswersBackup uses.before uses.then uses.target uses.target_then answer → IsSaid old mid (run_answer answer) status → IsDone status
  backup_answer answer uses answers said =
      let were = uses.was disks told in
      backup_served old mid answer status uses.target empty.files same (place_files AreEmpty onto name uses.target disks empty were.1) empty.has
      (backs base.files uses.before uses.then uses.target uses.target_then answer base.has (record {
        told = place_files (OpensWithin MOST_SLOTS) dir name uses.before disks base were.0;
        answers = answers;
        quiet = base_quiet dir name onto old mid (run_answer answer) said.host uses;
        target_quiet = target_quiet dir name onto old mid (run_answer answer) said.host uses;
      })) said

  backup_over : (answer : RunAnswer) → UsesDisks dir name onto old mid answer → IsSaid old mid answer status → IsDone status
  backup_over (Ok (Text text)) uses said = backup_answer (Ok text) uses uses.answers said
  backup_over (Ok (Session end)) uses said = absurd uses.answers
  backup_over (Ok (Nodes end)) uses said = absurd uses.answers
  backup_over (Err (fault.Tool error)) uses said = backup_answer (Err error) uses uses.answers said
  backup_over (Err fault.Words) uses said = absurd uses.answers
  backup_over (Err (fault.Settings error)) uses said = absurd uses.answers
  backup_over (Err (fault.Area place error)) uses said = absurd uses.answers
  backup_over (Err fault.HostFault) uses said = absurd uses.answers
  backup_over (Err fault.OutOfMemory) uses said = absurd uses.answers

module _ (opens : RefusesNoOpenBoard) where
  local_served_there : (path : List ℕ) (old mid : Desk) (came : Result LocalEnd RunError) (status : ℕ) → RunsLocal path old mid came → HasOpenBoard old path None
      → IsSaid old mid (answer_behind came) status → IsDone status ⊎ (status ≡ 7)
  local_served_there path old mid (Ok end) status runs there said = local_end_served path old mid end status runs said
  local_served_there path old mid (Err error) status runs there said =
      inl (inr (refusal_memory error old mid status (opens path None None old mid error (inl runs) said.host there) said))

  nodes_served_there : (door_for : Option ℕ → Gate → Type 0) (bell_over : ℕ → ℕ → Option ℕ → Rings → Type 0) (path : List ℕ) (most : Option ℕ) (backup : Option (List ℕ))
      (old mid : Desk) (came : Result NodesEnd RunError) (status : ℕ) → RunsNodes door_for bell_over path most backup old mid came → HasOpenBoard old path backup
      → IsSaid old mid (answer_behind_nodes came) status → IsDone status
  nodes_served_there door_for bell_over path most backup old mid (Ok end) status runs there said = inl (nodes_end_served door_for bell_over path most backup old mid end status runs said)
  nodes_served_there door_for bell_over path most backup old mid (Err error) status runs there said =
      inr (refusal_memory error old mid status (opens path most backup old mid error (inr runs) said.host there) said)

module _ (opens : RefusesNoOpenBoard) (serves : ServesWhatOpens) (makes : MakesWhereNoneIs) (backs : BacksUpWhatOpens) (door_for : Option ℕ → Gate → Type 0) (bell_over : ℕ → ℕ → Option ℕ → Rings → Type 0) where
  words_served : (line : Option Words) (moment : ℕ) (old mid : Desk) (answer : RunAnswer) (status : ℕ) → AnswersWords door_for bell_over line moment old mid answer
      → IsThere line old → IsSaid old mid answer status → IsServedWith line status
  words_served None moment old mid answer status answers there said =
      says_fault old mid fault.Words status (said_as old mid answer (Err fault.Words) status answers.0 said)
  words_served (Some (use_tool of dir name)) moment old mid answer status answers there said = elim answers.disk [
    | inl none ↦ tool_six serves makes of status (refused_done old mid answer status none.2 said)
    | inr uses ↦ tool_over serves makes of moment dir name old mid answer status there.0 there.1 there.2 answers.rest.console uses said
  ]
  words_served (Some (back_up dir name onto)) moment old mid answer status answers there said = elim answers.disks [
    | inl none ↦ inr (refused_done old mid answer status none.0.2 said)
    | inr later ↦ elim later [
      | inl untargeted ↦ inr (refused_done old mid answer status untargeted.refused said)
      | inr uses ↦ backup_over backs dir name onto old mid status there.0 there.1 there.2 there.3 answers.rest.console answer uses said
    ]
  ]
  words_served (Some (run_load seed count)) moment old mid answer status answers there said = says_done old mid _ answer status answers.0 answers.1 said
  words_served (Some (serve_one path)) moment old mid answer status answers there said =
      local_served_there opens path old mid answers.came status answers.runs there (said_as old mid answer (answer_behind answers.came) status answers.is said)
  words_served (Some (serve_all path calls backup)) moment old mid answer status answers there said =
      nodes_served_there opens door_for bell_over path calls backup old mid answers.came status answers.runs there
      (said_as old mid answer (answer_behind_nodes answers.came) status answers.is said)
  words_served (Some show_help) moment old mid answer status answers there said = says_done old mid _ answer status answers.0 answers.1 said

  pub serves_what_is_there : ServesWhatIsThere door_for bell_over
  serves_what_is_there words old new status ran quiet there =
      words_served (command_line_of words) ran.moment old ran.mid ran.answer status ran.answers there (run_said door_for bell_over words old new status ran quiet)
