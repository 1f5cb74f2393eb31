-- The exit statuses and the lines of refused runs.
use Rattle.std.specs.Prelude.{ℕ, List, [], ◌∷◌, ◌++◌, codes, decimal}
use Rattle.jb_area_open.specs.declared.error.OpeningError.{OpeningError}
use Rattle.jb_area_open.specs.declared.error.OpeningError.TheVariants.{BadJournal as JournalRefused, Base}
use Rattle.jb_conf.specs.Names.{setting_name}
use Rattle.jb_conf.specs.declared.error.ConfError.{ConfError}
use Rattle.jb_conf.specs.declared.error.ConfError.TheVariants as conf
use Rattle.jb_run.specs.declared.error.RunError.{RunError}
use Rattle.jb_run.specs.declared.error.RunError.TheVariants as no_session
use Rattle.jb_disk.specs.Files.{file_number}
use Rattle.jb_image.specs.declared.error.OpenError.{OpenError}
use Rattle.jb_image.specs.declared.error.OpenError.TheVariants as refused
use Rattle.jb_tool.specs.declared.error.ToolError.{ToolError}
use Rattle.jb_tool.specs.declared.error.ToolError.TheVariants.{BadJournal, Open, AlreadyThere, TextFull, NotEmpty}
use Rattle.jb_board.specs.declared.fault.Fault.{Fault}
use Rattle.jb_board.specs.declared.fault.Fault.TheVariants.{Words, Settings, Area, Tool, HostFault, OutOfMemory}

-- the exit status of a base that is not opened: 4 a store fault, 6 want of memory, 3 all that its files are refused for
abbrev pub base_status : OpenError → ℕ
base_status refused.StoreFault = 4
base_status refused.OutOfMemory = 6
base_status _ = 3

-- the exit status of a tool that is refused
abbrev pub tool_status : ToolError → ℕ
tool_status (BadJournal at) = 3
tool_status (Open error) = base_status error
tool_status AlreadyThere = 3
tool_status (TextFull length) = 3
tool_status (NotEmpty file) = 3

-- the exit status of an area of a board that is not opened
abbrev pub area_status : OpeningError → ℕ
area_status (JournalRefused at) = 3
area_status (Base error) = base_status error

-- the exit status of settings that are refused
abbrev pub settings_status : ConfError → ℕ
settings_status conf.OutOfMemory = 6
settings_status _ = 2

-- why there is no session, as the fault of a run
abbrev pub fault_of : RunError → Fault
fault_of (no_session.Settings error) = Settings error
fault_of (no_session.Area place error) = Area place error
fault_of no_session.HostFault = HostFault
fault_of no_session.OutOfMemory = OutOfMemory

-- the exit status: 1 words, 2 settings, 3 the journal, the base or the place of a backup is refused, 4 a store fault, 5 a host fault, 6 want of memory
abbrev pub status_of : Fault → ℕ
status_of Words = 1
status_of (Settings error) = settings_status error
status_of (Area place error) = area_status error
status_of (Tool error) = tool_status error
status_of HostFault = 5
status_of OutOfMemory = 6

-- a value behind a name: a space, and the number in digits
abbrev pub value_text : ℕ → List ℕ
value_text n = 32 ∷ decimal n

-- the line of a base that is not opened, without its end: the number and the name of the refusal, then its values
abbrev pub base_line : OpenError → List ℕ
base_line refused.ShortHeader = codes "fault 3.1 ShortHeader"
base_line refused.BadSignature = codes "fault 3.2 BadSignature"
base_line refused.BaseZero = codes "fault 3.3 BaseZero"
base_line refused.IndexLength = codes "fault 3.4 IndexLength"
base_line refused.LastreadLength = codes "fault 3.5 LastreadLength"
base_line refused.TooManySlots = codes "fault 3.6 TooManySlots"
base_line refused.NumberRange = codes "fault 3.7 NumberRange"
base_line (refused.HeaderPlace number) = codes "fault 3.8 HeaderPlace" ++ value_text number
base_line (refused.HeaderSignature number) = codes "fault 3.9 HeaderSignature" ++ value_text number
base_line (refused.HeaderRevision number) = codes "fault 3.10 HeaderRevision" ++ value_text number
base_line (refused.Subfields number at) = codes "fault 3.11 Subfields" ++ value_text number ++ value_text at
base_line (refused.TextPlace number) = codes "fault 3.12 TextPlace" ++ value_text number
base_line (refused.HeadersOverlap a b) = codes "fault 3.13 HeadersOverlap" ++ value_text a ++ value_text b
base_line refused.StoreFault = codes "fault 4 StoreFault"
base_line refused.OutOfMemory = codes "fault 6 OutOfMemory"

-- the line of a tool that is refused, without its end
abbrev pub tool_fault_line : ToolError → List ℕ
tool_fault_line (BadJournal at) = codes "fault 3.14 BadJournal" ++ value_text at
tool_fault_line (Open error) = base_line error
tool_fault_line AlreadyThere = codes "fault 3.17 AlreadyThere"
tool_fault_line (TextFull length) = codes "fault 3.18 TextFull" ++ value_text length
tool_fault_line (NotEmpty file) = codes "fault 3.19 NotEmpty" ++ value_text (file_number file)

-- the line of an area that is not opened, without its end
abbrev pub opening_line : OpeningError → List ℕ
opening_line (JournalRefused at) = codes "fault 3.14 BadJournal" ++ value_text at
opening_line (Base error) = base_line error

-- the line of settings that are refused, without its end: the number and the name of the refusal, then its field or its user
abbrev pub settings_line : ConfError → List ℕ
settings_line conf.NotToml = codes "fault 2.1 NotToml"
settings_line (conf.Missing field) = codes "fault 2.2 Missing" ++ 32 ∷ setting_name field
settings_line (conf.WrongKind field) = codes "fault 2.3 WrongKind" ++ 32 ∷ setting_name field
settings_line (conf.OutOfRange field) = codes "fault 2.4 OutOfRange" ++ 32 ∷ setting_name field
settings_line (conf.Repeated field) = codes "fault 2.5 Repeated" ++ 32 ∷ setting_name field
settings_line (conf.BadDigest user) = codes "fault 2.6 BadDigest" ++ value_text user
settings_line conf.OutOfMemory = codes "fault 6 OutOfMemory"

-- the line on the console
abbrev pub fault_line : Fault → List ℕ
fault_line Words = codes "fault 1 Words" ++ 10 ∷ []
fault_line (Settings error) = settings_line error ++ 10 ∷ []
fault_line (Area place error) = opening_line error ++ 10 ∷ []
fault_line (Tool error) = tool_fault_line error ++ 10 ∷ []
fault_line HostFault = codes "fault 5 HostFault" ++ 10 ∷ []
fault_line OutOfMemory = codes "fault 6 OutOfMemory" ++ 10 ∷ []
