-- The words of a command line.
use Rattle.std.specs.Prelude.{◌≢◌, ℕ, ◌≤◌, Bool, false, bytes_eq, ◌&&◌, ◌||◌, ◌==◌, List, [], ◌∷◌, ◌++◌, length, Option, Some, None, codes, if◌then◌else◌}
use Rattle.jb_run.specs.Nodes.{lent_path}
use Rattle.jb_text.specs.Digits.{number_up_to}
use Rattle.jb_tool.specs.declared.tool.Tool.{Tool}
use Rattle.jb_tool.specs.declared.tool.Tool.TheVariants.{List as Listing, Check, Make, Pack, Relink}
use Rattle.jb_board.specs.declared.command.TheConstants.{MOST_CALLS, MOST_SEED, MOST_STEPS}
use Rattle.jb_board.specs.declared.command.CommandLine.{CommandLine}
use Rattle.jb_board.specs.declared.command.CommandLine.TheVariants.{Use, Backup, Load, Local, Serve, Help}

-- a command line: a tool with the folder and the name of a base, a backup with these and the folder that it is made in, the workload with a
-- seed and a count of steps, a session with the path of the settings, a run with many nodes with that path, how many calls each node takes and
-- the folder for backups, or a call for help
pub data Words : Type 0 where
  use_tool : Tool → List ℕ → List ℕ → Words
  back_up : List ℕ → List ℕ → List ℕ → Words
  run_load : ℕ → ℕ → Words
  serve_one : List ℕ → Words
  serve_all : List ℕ → Option ℕ → Option (List ℕ) → Words
  show_help : Words

-- a workload has at most the steps that it may have, and a backup is made in another folder
abbrev pub IsAllowed : Words → Type 0
IsAllowed (use_tool tool dir name) = Unit {0}
IsAllowed (back_up dir name onto) = onto ≢ dir
IsAllowed (run_load seed count) = count ≤ MOST_STEPS
IsAllowed (serve_one path) = Unit {0}
IsAllowed (serve_all path calls backup) = Unit {0}
IsAllowed show_help = Unit {0}

-- the command line that the program made of its words
abbrev pub words_of : CommandLine → Words
words_of (Use tool dir name) = use_tool tool dir.now name.now
words_of (Backup dir name onto) = back_up dir.now name.now onto.now
words_of (Load seed count) = run_load seed count
words_of (Local path) = serve_one path.now
words_of (Serve path calls backup) = serve_all path.now calls (lent_path backup)
words_of Help = show_help

-- the tool that a word names
abbrev pub tool_named : List ℕ → Option Tool
tool_named verb =
    if bytes_eq verb (codes "list") then Some Listing
    else if bytes_eq verb (codes "check") then Some Check
    else if bytes_eq verb (codes "make") then Some Make
    else if bytes_eq verb (codes "pack") then Some Pack
    else if bytes_eq verb (codes "relink") then Some Relink
    else None

-- a tool, and two words that are not empty
abbrev pub tool_line : Option Tool → List ℕ → List ℕ → Option Words
tool_line None dir name = None
tool_line (Some tool) dir name = if (length dir == 0) || (length name == 0) then None else Some (use_tool tool dir name)

-- a seed and a count of steps
abbrev pub load_line : Option ℕ → Option ℕ → Option Words
load_line (Some seed) (Some count) = Some (run_load seed count)
load_line _ _ = None

-- a path that is not empty
abbrev pub local_line : List ℕ → Option Words
local_line path = if length path == 0 then None else Some (serve_one path)

-- a word that is there and has no bytes
abbrev pub is_blank : Option (List ℕ) → Bool
is_blank None = false
is_blank (Some word) = length word == 0

-- the same for a run with many nodes; a folder for backups is not empty either
abbrev pub serve_line : List ℕ → Option ℕ → Option (List ℕ) → Option Words
serve_line path calls backup = if (length path == 0) || is_blank backup then None else Some (serve_all path calls backup)

-- and where each node takes a number of calls, which is not 0
abbrev pub counted_line : List ℕ → Option ℕ → Option (List ℕ) → Option Words
counted_line path None backup = None
counted_line path (Some calls) backup = if calls == 0 then None else serve_line path (Some calls) backup

-- a run with many nodes with one option: the number of calls, or the folder for backups
abbrev pub option_line : List ℕ → List ℕ → List ℕ → Option Words
option_line path option value =
    if bytes_eq option (codes "--calls") then counted_line path (number_up_to MOST_CALLS value) None
    else if bytes_eq option (codes "--backup") then serve_line path None (Some value)
    else None

-- a backup, with three words that are not empty; it is made in another folder
abbrev pub backup_line : List ℕ → List ℕ → List ℕ → Option Words
backup_line dir name onto =
    if (length dir == 0) || ((length name == 0) || ((length onto == 0) || bytes_eq onto dir)) then None else Some (back_up dir name onto)

-- three words of which the first is `load` or names a tool, two of which the first is `local` or `serve`, four of which the first is `backup`,
-- or `serve` and the third an option, six of which the first is `serve`, the third `--calls` and the fifth `--backup`, or `help` alone
abbrev pub command_line_of : List (List ℕ) → Option Words
command_line_of (verb ∷ []) = if bytes_eq verb (codes "help") then Some show_help else None
command_line_of (verb ∷ path ∷ []) =
    if bytes_eq verb (codes "local") then local_line path else if bytes_eq verb (codes "serve") then serve_line path None None else None
command_line_of (verb ∷ first ∷ second ∷ []) =
    if bytes_eq verb (codes "load") then load_line (number_up_to MOST_SEED first) (number_up_to MOST_STEPS second) else tool_line (tool_named verb) first second
command_line_of (verb ∷ path ∷ option ∷ value ∷ []) =
    if bytes_eq verb (codes "backup") then backup_line path option value else if bytes_eq verb (codes "serve") then option_line path option value else None
command_line_of (verb ∷ path ∷ first ∷ calls ∷ second ∷ onto ∷ []) =
    if bytes_eq verb (codes "serve") && (bytes_eq first (codes "--calls") && bytes_eq second (codes "--backup"))
    then counted_line path (number_up_to MOST_CALLS calls) (Some onto) else None
command_line_of _ = None

-- what `help` prints: the forms of words, each with the program's name before it
abbrev pub help_text : List ℕ
help_text =
    codes "board list DIR NAME" ++ 10 ∷ codes "board check DIR NAME" ++ 10 ∷ codes "board make DIR NAME" ++ 10 ∷ codes "board pack DIR NAME" ++ 10
    ∷ codes "board relink DIR NAME" ++ 10 ∷ codes "board load SEED COUNT" ++ 10 ∷ codes "board local CONF" ++ 10 ∷ codes "board serve CONF" ++ 10
    ∷ codes "board serve CONF --calls N" ++ 10 ∷ codes "board backup DIR NAME DIR2" ++ 10
    ∷ codes "board serve CONF --calls N --backup DIR2" ++ 10 ∷ codes "board help" ++ 10 ∷ []
