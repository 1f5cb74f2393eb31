-- A whole run of the program: what is asked of the host, what is printed, and the status.
use Rattle.std.specs.Prelude.{◌≡◌, ◌⊎◌, ℕ, ◌≤◌, List, Option, Some, None, Result, Ok, Err}
use Rattle.std.specs.Option.{ForSome}
use Rattle.jb_area_open.specs.Opening.{KeepsOpening}
use Rattle.jb_bytes.specs.Fault.{Rose}
use Rattle.jb_disk.specs.Device.{Device}
use Rattle.jb_host.specs.Desk.{CountsFailed, Desk, HostCall, KeepsRest, has_disk, with_place, asked_disk, and_call}
use Rattle.jb_host.specs.declared.host.HostError.{HostError}
use Rattle.jb_host.specs.declared.host.HostError.TheVariants.{Failed, OutOfMemory as no_memory}
use Rattle.jb_host.specs.Gate.{Gate}
use Rattle.jb_host.specs.Readings.{reading_of}
use Rattle.jb_host.specs.Rings.{Rings}
use Rattle.jb_host.specs.Wire.{Wire, IsFrontOf, Sends}
use Rattle.jb_tool.specs.LoadSummary.{run_summary}
use Rattle.jb_tool.specs.Workload.{load_run}
use Rattle.jb_run.specs.LocalEnding.{local_status as status_behind}
use Rattle.jb_run.specs.Local.{RunsLocal}
use Rattle.jb_run.specs.declared.local_end.LocalEnd.{LocalEnd}
use Rattle.jb_run.specs.declared.error.RunError.{RunError}
use Rattle.jb_run.specs.NodesEnding.{nodes_status as status_behind_nodes}
use Rattle.jb_run.specs.Nodes.{RunsNodes}
use Rattle.jb_run.specs.declared.nodes_end.NodesEnd.{NodesEnd}
use Rattle.jb_tool.specs.Answers.{AnswersTool, KeepsUnderTool}
use Rattle.jb_tool.specs.Backing.{AnswersBackup}
use Rattle.jb_tool.specs.declared.error.ToolError.{ToolError}
use Rattle.jb_tool.specs.declared.tool.Tool.{Tool as ToolName}
use Rattle.jb_board.specs.declared.fault.Fault.{Fault}
use Rattle.jb_board.specs.declared.fault.Fault.TheVariants.{Words as NoWords, Tool, HostFault, OutOfMemory}
use Rattle.jb_board.specs.declared.top.Outcome.{Outcome}
use Rattle.jb_board.specs.declared.top.Outcome.TheVariants.{Text, Session, Nodes}
use Rattle.jb_board.specs.Faults.{fault_of, fault_line, status_of}
use Rattle.jb_board.specs.Words.{Words, use_tool, back_up, run_load, serve_one, serve_all, show_help, command_line_of, help_text}

-- what a run answers: the text to print, a session or a run with many nodes that has ended, or why it is refused
abbrev pub RunAnswer : Type 0
RunAnswer = Result Outcome Fault

-- what a tool answered, as what the run answers
abbrev pub run_answer : Result (List ℕ) ToolError → RunAnswer
run_answer (Ok text) = Ok (Text text)
run_answer (Err error) = Err (Tool error)

-- the tool answers so over the disk of the base
abbrev pub AnswersOver : ToolName → ℕ → Device → Device → RunAnswer → Type 0
AnswersOver tool moment before after (Ok (Text text)) = AnswersTool tool moment before after (Ok text)
AnswersOver tool moment before after (Err (Tool error)) = AnswersTool tool moment before after (Err error)
AnswersOver tool moment before after _ = ⊥

-- the disk was handed out, the tool used on it, and the disk put back; which disk that is, where the host tells its disks
pub record UsesDisk (tool : ToolName) (moment : ℕ) (dir name : List ℕ) (old new : Desk) (answer : RunAnswer) : Type 0 where
  pub before : Device
  pub then : Device
  pub was : ForSome old.disks (λ disks. disks dir name ≡ has_disk before)
  pub back : ForSome old.disks (λ disks. new.disks ≡ Some (with_place dir name (has_disk then) disks))
  pub failed : CountsFailed then.faults old.failed new.failed
  pub answers : AnswersOver tool moment before then answer
  pub crash : KeepsUnderTool tool moment before then
  pub later : before.faults ≤ then.faults

-- a refusal of the host, as the fault of a run
abbrev pub fault_of_host : HostError → Fault
fault_of_host Failed = HostFault
fault_of_host no_memory = OutOfMemory

-- why a disk was not handed out, by the host's count of faults before and after
abbrev pub RefusesDisk : ℕ → ℕ → RunAnswer → Type 0
RefusesDisk before now answer = ((answer ≡ Err HostFault) × Rose before now) ⊎ ((answer ≡ Err OutOfMemory) × (now ≡ before))

-- this was the last call of the host, or its refusal for want of memory, which it does not tell
abbrev pub AsksLast : HostCall → RunAnswer → Option (List HostCall) → Option (List HostCall) → Type 0
AsksLast call answer before now = (now ≡ and_call call before) ⊎ ((answer ≡ Err OutOfMemory) × (now ≡ before))

-- no disk was handed out, and why
abbrev pub GetsNoDisk : Desk → Desk → RunAnswer → Type 0
GetsNoDisk old new answer = (new.disks ≡ old.disks) × (new.failed ≡ old.failed) × RefusesDisk old.faults new.faults answer

-- the run of a tool: one call of the host, for that disk alone; want of memory hides no fault of the host
pub record UsesTool (tool : ToolName) (moment : ℕ) (dir name : List ℕ) (old new : Desk) (answer : RunAnswer) : Type 0 where
  pub calls : AsksLast (asked_disk dir name) answer old.calls new.calls
  pub disk : GetsNoDisk old new answer ⊎ UsesDisk tool moment dir name old new answer
  pub rest : KeepsRest old (record new { faults = old.faults; failed = old.failed })
  pub later : old.faults ≤ new.faults

-- a backup answers so over the disks of the base and of the backup
abbrev pub BacksUpOver : Device → Device → Device → Device → RunAnswer → Type 0
BacksUpOver before after target target_now (Ok (Text text)) = AnswersBackup before after target target_now (Ok text)
BacksUpOver before after target target_now (Err (Tool error)) = AnswersBackup before after target target_now (Err error)
BacksUpOver before after target target_now _ = ⊥

-- the disk of the base was handed out and put back as it was, since that of the backup was not, and why
pub record GetsNoTarget (dir name onto : List ℕ) (old new : Desk) (answer : RunAnswer) : Type 0 where
  pub before : Device
  pub was : ForSome old.disks (λ disks. disks dir name ≡ has_disk before)
  pub back : ForSome old.disks (λ disks. new.disks ≡ Some (with_place dir name (has_disk before) disks))
  pub calls : AsksLast (asked_disk onto name) answer (and_call (asked_disk dir name) old.calls) new.calls
  pub failed : CountsFailed before.faults old.failed new.failed
  pub refused : RefusesDisk old.faults new.faults answer

-- both disks were handed out, one right after the other, the base backed up, and both put back; which disks these are, where the host tells its disks
pub record UsesDisks (dir name onto : List ℕ) (old new : Desk) (answer : RunAnswer) : Type 0 where
  pub before : Device
  pub then : Device
  pub target : Device
  pub target_then : Device
  pub was : ForSome old.disks (λ disks. (disks dir name ≡ has_disk before) × (disks onto name ≡ has_disk target))
  pub back : ForSome old.disks (λ disks. new.disks ≡ Some (with_place onto name (has_disk target_then) (with_place dir name (has_disk then) disks)))
  pub calls : new.calls ≡ and_call (asked_disk onto name) (and_call (asked_disk dir name) old.calls)
  pub faults : new.faults ≡ old.faults
  pub failed : (mid : ℕ) × CountsFailed then.faults old.failed mid × CountsFailed target_then.faults mid new.failed
  pub answers : BacksUpOver before then target target_then answer
  pub crash : KeepsOpening before then

-- the run of a backup: two calls of the host, for these disks alone; or one of them was not handed out
pub record UsesBackup (dir name onto : List ℕ) (old new : Desk) (answer : RunAnswer) : Type 0 where
  pub disks : (GetsNoDisk old new answer × AsksLast (asked_disk dir name) answer old.calls new.calls)
      ⊎ (GetsNoTarget dir name onto old new answer ⊎ UsesDisks dir name onto old new answer)
  pub rest : KeepsRest old (record new { faults = old.faults; failed = old.failed })
  pub later : old.faults ≤ new.faults

-- this text is answered, or that there was no memory
abbrev pub SaysText : List ℕ → RunAnswer → Type 0
SaysText text answer = (answer ≡ Ok (Text text)) ⊎ (answer ≡ Err OutOfMemory)

-- what a session came to, as what the run answers
abbrev pub answer_behind : Result LocalEnd RunError → RunAnswer
answer_behind (Ok end) = Ok (Session end)
answer_behind (Err error) = Err (fault_of error)

-- a session is served, or why none is
pub record ServesLocal (path : List ℕ) (old new : Desk) (answer : RunAnswer) : Type 0 where
  pub came : Result LocalEnd RunError
  pub runs : RunsLocal path old new came
  pub is : answer ≡ answer_behind came

-- what a run with many nodes came to, as what the run answers
abbrev pub answer_behind_nodes : Result NodesEnd RunError → RunAnswer
answer_behind_nodes (Ok end) = Ok (Nodes end)
answer_behind_nodes (Err error) = Err (fault_of error)

-- of doors and bells that are as their host says of the calls, areas and minutes that they were asked for
module _ (door_for : Option ℕ → Gate → Type 0) (bell_over : ℕ → ℕ → Option ℕ → Rings → Type 0) where
  -- all nodes serve, or why none does
  pub record ServesNodes (path : List ℕ) (calls : Option ℕ) (backup : Option (List ℕ)) (old new : Desk) (answer : RunAnswer) : Type 0 where
    pub came : Result NodesEnd RunError
    pub runs : RunsNodes door_for bell_over path calls backup old new came
    pub is : answer ≡ answer_behind_nodes came

  -- the run of these words, if they are a command line; where no tool is used and nobody is served, the host is asked for nothing
  abbrev pub AnswersWords : Option Words → ℕ → Desk → Desk → RunAnswer → Type 0
  AnswersWords None moment old new answer = (answer ≡ Err NoWords) × (new ≡ old)
  AnswersWords (Some (use_tool tool dir name)) moment old new answer = UsesTool tool moment dir name old new answer
  AnswersWords (Some (back_up dir name onto)) moment old new answer = UsesBackup dir name onto old new answer
  AnswersWords (Some (run_load seed count)) moment old new answer = SaysText (run_summary (load_run seed count)) answer × (new ≡ old)
  AnswersWords (Some (serve_one path)) moment old new answer = ServesLocal path old new answer
  AnswersWords (Some (serve_all path calls backup)) moment old new answer = ServesNodes path calls backup old new answer
  AnswersWords (Some show_help) moment old new answer = SaysText help_text answer × (new ≡ old)

-- a write of the console failed, and only a beginning of these bytes was sent
pub record StopsConsole (old new : Wire) (bytes : List ℕ) : Type 0 where
  pub front : List ℕ
  pub begins : IsFrontOf front bytes
  pub sent : Sends old.sent front new.sent
  pub unsent : Rose old.unsent new.unsent
  pub faults : Rose old.faults new.faults

-- nothing was taken of what comes on the console
pub record KeepsInput (old new : Wire) : Type 0 where
  pub to_come : new.to_come ≡ old.to_come
  pub ends : new.ends ≡ old.ends

-- all of these bytes were sent, and no write failed
pub record SendsAll (old new : Wire) (bytes : List ℕ) : Type 0 where
  pub sent : Sends old.sent bytes new.sent
  pub unsent : new.unsent ≡ old.unsent
  pub faults : new.faults ≡ old.faults

-- these bytes were sent, or a beginning of them where the console failed
abbrev pub IsSent : Wire → Wire → List ℕ → Type 0
IsSent old new bytes = SendsAll old new bytes ⊎ StopsConsole old new bytes

-- the answer is printed, and this is the status; behind a session and a run with many nodes nothing is
abbrev pub IsPrinted : RunAnswer → ℕ → Wire → Wire → Type 0
IsPrinted (Ok (Text text)) status old new = KeepsInput old new × (((status ≡ 0) × SendsAll old new text) ⊎ ((status ≡ 5) × StopsConsole old new text))
IsPrinted (Ok (Session end)) status old new = (status ≡ status_behind end) × (new ≡ old)
IsPrinted (Ok (Nodes end)) status old new = (status ≡ status_behind_nodes end) × (new ≡ old)
IsPrinted (Err fault) status old new = KeepsInput old new × (status ≡ status_of fault) × IsSent old new (fault_line fault)

-- a whole run, at one moment: the first that a clock of the host gives, where it tells that
pub record HasRun (door_for : Option ℕ → Gate → Type 0) (bell_over : ℕ → ℕ → Option ℕ → Rings → Type 0) (words : List (List ℕ)) (old new : Desk) (status : ℕ) : Type 0 where
  -- in seconds since 1970
  pub moment : ℕ
  pub shown : ForSome old.readings (λ readings. moment ≡ reading_of readings)
  -- what the words are answered, and the host then
  pub answer : RunAnswer
  pub mid : Desk
  pub answers : AnswersWords door_for bell_over (command_line_of words) moment old mid answer
  -- the answer is printed on the console, and nothing else of the host changes any more
  pub console : Wire
  pub console_is : mid.console ≡ Some console
  pub console_after : Wire
  pub printed : IsPrinted answer status console console_after
  pub left : new ≡ record mid { console = Some console_after }
