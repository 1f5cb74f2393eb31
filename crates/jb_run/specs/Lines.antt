-- The doors of a run and its bell, as they are handed out and taken back.
use Rattle.std.specs.Prelude.{◌≡◌, ℕ, ◌+◌, All, List, [], ◌∷◌, ◌++◌, length, map, Option, Some, None}
use Rattle.std.specs.List.{range_with_len, sum_by}
use Rattle.std.specs.Option.{ForSome, option_map}
use Rattle.jb_conf.specs.declared.board.Board.{Board}
use Rattle.jb_host.specs.Desk.{CountsFailed, Desk, Doors, HostCall, KeepsRest, RefusesCall, asked_bell, asked_door, door_out, has_door, with_door}
use Rattle.jb_host.specs.Gate.{Gate}
use Rattle.jb_host.specs.declared.host.HostError.{HostError}
use Rattle.jb_server.specs.declared.service.Service.{Service}
use Rattle.jb_server.specs.declared.service.Service.TheVariants.{Menus, News}

-- the nodes from 1 on, so many
abbrev pub first_nodes : ℕ → List ℕ
first_nodes count = range_with_len 1 count

-- a line: how its callers are served, on which passes, counted from 1, and its door, at a port and for so many calls
pub record Line : Type 0 where
  pub service : Service
  pub node : ℕ
  pub port : ℕ
  pub calls : Option ℕ

-- whose passes lines are on
abbrev pub nodes_of : List Line → List ℕ
nodes_of lines = map (λ line. line.node) lines

-- the line of a node of a board
abbrev pub line_for : Board → Option ℕ → ℕ → Line
line_for board most node = record { service = Menus; node = node; port = board.port; calls = most }

-- those of its first nodes
abbrev pub first_lines : Board → Option ℕ → ℕ → List Line
first_lines board most count = map (line_for board most) (first_nodes count)

-- the line of news, where there is a port for it, on passes behind those of so many nodes and of the packer
abbrev pub news_lines : ℕ → Option ℕ → Option ℕ → List Line
news_lines nodes None most = []
news_lines nodes (Some port) most = record { service = News; node = nodes + 2; port = port; calls = most } ∷ []

-- all lines of a board: those of its nodes, and then that of news
abbrev pub lines_for : Board → Option ℕ → List Line
lines_for board most = first_lines board most board.nodes ++ news_lines board.nodes board.news_port most

-- the call for the door of a line
abbrev pub asked_line : Line → HostCall
asked_line line = asked_door line.node line.port line.calls

-- the calls for the doors of lines, in order
abbrev pub asked_doors : List Line → List HostCall
asked_doors lines = map asked_line lines

-- the doors of these nodes are out
abbrev pub DoorsAreOut : List ℕ → Doors → Type 0
DoorsAreOut nodes doors = All (λ node. doors node ≡ door_out) nodes

-- the same doors, with those of these nodes out
abbrev pub with_doors_out : List ℕ → Doors → Doors
with_doors_out [] doors = doors
with_doors_out (node ∷ nodes) doors = with_doors_out nodes (with_door node door_out doors)

-- the same doors, with these of these nodes
abbrev pub with_doors : List ℕ → List Gate → Doors → Doors
with_doors [] gates doors = doors
with_doors (node ∷ nodes) [] doors = doors
with_doors (node ∷ nodes) (gate ∷ gates) doors = with_door node (has_door gate) (with_doors nodes gates doors)

-- the doors of these lines were asked for in order and handed out: the first that waited; nothing else of the host has changed
pub record HandsDoors (lines : List Line) (gates : List Gate) (old new : Desk) : Type 0 where
  pub count : length gates ≡ length lines
  pub first : old.waiting ≡ option_map (λ rest. gates ++ rest) new.waiting
  pub out : new.doors ≡ option_map (with_doors_out (nodes_of lines)) old.doors
  pub disks : new.disks ≡ old.disks
  pub calls : new.calls ≡ option_map (λ earlier. earlier ++ asked_doors lines) old.calls
  pub rest : KeepsRest old (record new { waiting = old.waiting; doors = old.doors })

-- how often these doors have failed, taken together
abbrev pub door_faults : List Gate → ℕ
door_faults gates = sum_by (λ gate. gate.faults) gates

-- the doors of these nodes were put back, and counted where one has failed; nothing else of the host has changed
pub record PutsDoors (nodes : List ℕ) (gates : List Gate) (old new : Desk) : Type 0 where
  pub count : length gates ≡ length nodes
  pub back : ForSome old.doors (λ doors. DoorsAreOut nodes doors → new.doors ≡ option_map (with_doors nodes gates) old.doors)
  pub disks : new.disks ≡ old.disks
  pub calls : new.calls ≡ old.calls
  pub failed : CountsFailed (door_faults gates) old.failed new.failed
  pub rest : KeepsRest old (record new { doors = old.doors; failed = old.failed })

-- the door of the next line was refused, or the bell where all have theirs
abbrev pub RefusesLine : Board → Option ℕ → List Line → HostError → Desk → Desk → Type 0
RefusesLine board most [] error old new = RefusesCall (asked_bell (length board.areas) board.pack_minutes most) error old new
RefusesLine board most (line ∷ lines) error old new = RefusesCall (asked_line line) error old new

-- these doors were handed out, and the next door or the bell was refused
pub record StopsLines (board : Board) (most : Option ℕ) (gates : List Gate) (error : HostError) (old new : Desk) : Type 0 where
  pub done : List Line
  pub left : List Line
  pub parts : lines_for board most ≡ done ++ left
  pub lined : Desk
  pub doors : HandsDoors done gates old lined
  pub refuses : RefusesLine board most left error lined new
