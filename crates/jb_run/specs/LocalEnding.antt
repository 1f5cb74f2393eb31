-- The exit status of a run with one session, and the refusals before it.
use Rattle.std.specs.Prelude.{ℕ, Bool, true, false}
use Rattle.jb_run.specs.declared.areas_error.AreasError.{AreasError}
use Rattle.jb_run.specs.declared.areas_error.AreasError.TheVariants as areas
use Rattle.jb_conf.specs.declared.error.ConfError.{ConfError}
use Rattle.jb_conf.specs.declared.error.ConfError.TheVariants as conf
use Rattle.jb_host.specs.declared.host.HostError.{HostError}
use Rattle.jb_host.specs.declared.host.HostError.TheVariants as host
use Rattle.jb_session.specs.declared.end.SessionEnd.{SessionEnd}
use Rattle.jb_session.specs.declared.end.SessionEnd.TheVariants as session
use Rattle.jb_run.specs.declared.local_end.LocalEnd.{LocalEnd}
use Rattle.jb_run.specs.declared.error.RunError.{RunError}
use Rattle.jb_run.specs.declared.error.RunError.TheVariants.{Settings, Area, HostFault, OutOfMemory}

-- the status of a session without an area in doubt: 0 where its caller ended it, 5 the link failed, 6 want of memory, 7 where the board ended it
abbrev pub session_status : SessionEnd → ℕ
session_status session.Quit = 0
session_status session.Hangup = 0
session_status session.LinkFault = 5
session_status session.OutOfMemory = 6
session_status session.LoginRefused = 7
session_status session.Spent = 7

-- an area in doubt goes first
abbrev pub status_with : Bool → SessionEnd → ℕ
status_with true session = 4
status_with false session = session_status session

-- the exit status
abbrev pub local_status : LocalEnd → ℕ
local_status end = status_with end.is_doubtful end.session

-- a refusal of the host
abbrev pub of_host : HostError → RunError
of_host host.Failed = HostFault
of_host host.OutOfMemory = OutOfMemory

-- a refusal of the areas
abbrev pub of_areas : AreasError → RunError
of_areas (areas.Area place error) = Area place error
of_areas areas.HostFault = HostFault
of_areas areas.OutOfMemory = OutOfMemory

-- a refusal of the settings
abbrev pub of_settings : ConfError → RunError
of_settings conf.OutOfMemory = OutOfMemory
of_settings error = Settings error
