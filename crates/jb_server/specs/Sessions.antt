-- The sessions of callers, one after another, on the links of a door.
use Rattle.std.specs.Prelude.{◌≡◌, ℕ, ◌+◌, Bool, true, false, List, [], ◌∷◌, ◌++◌, length, map, Some}
use Rattle.std.specs.Option.{option_map}
use Rattle.jb_bytes.specs.Fault.{Rose}
use Rattle.jb_conf.specs.declared.board.Board.{Board}
use Rattle.jb_host.specs.Gate.{Gate}
use Rattle.jb_host.specs.Wire.{Wire}
use Rattle.jb_session.specs.Exchanges.{NodeState}
use Rattle.jb_session.specs.Served.{Served, ServedNews}
use Rattle.jb_session.specs.declared.end.SessionEnd.{SessionEnd}
use Rattle.jb_server.specs.Tallies.{and_failed, counted_all}
use Rattle.jb_server.specs.declared.service.Service.{Service}
use Rattle.jb_server.specs.declared.service.Service.TheVariants.{Menus, News}
use Rattle.jb_server.specs.declared.tally.Tally.{Tally}

-- a session on a link: the link as the door gave it, the end, and the link as it was hung up
pub record Session : Type 0 where
  pub given : Wire
  pub end : SessionEnd
  pub back : Wire

-- the links of sessions, as they were given
abbrev pub given_of : List Session → List Wire
given_of sessions = map (λ session. session.given) sessions

-- and as they were hung up
abbrev pub back_of : List Session → List Wire
back_of sessions = map (λ session. session.back) sessions

-- their ends
abbrev pub ends_of : List Session → List SessionEnd
ends_of sessions = map (λ session. session.end) sessions

-- why callers are served no more: the door has failed, or is shut since no call was left
abbrev pub EndsServing : Bool → Gate → Gate → Type 0
EndsServing true old new = Rose old.faults new.faults × (new.is_shut ≡ old.is_shut)
EndsServing false old new = (new.is_shut ≡ true) × (new.left ≡ Some 0) × (new.faults ≡ old.faults)

-- to how many nodes a caller who is served so sends pages, from the first on
abbrev pub reach_of : Service → Board → ℕ
reach_of Menus board = board.nodes
reach_of News board = 0

-- a session of a caller who is served so
abbrev pub ServedAs : Service → Board → Wire → NodeState → SessionEnd → Wire → NodeState → Type 0
ServedAs Menus = Served
ServedAs News = ServedNews

-- of callers who are served so
module _ (served : Wire → NodeState → SessionEnd → Wire → NodeState → Type 0) where
  -- the sessions came one after another, on these passes
  abbrev pub SessionsRun : NodeState → List Session → NodeState → Type 0
  SessionsRun from [] to = to ≡ from
  SessionsRun from (session ∷ sessions) to =
      (mid : NodeState) × served session.given from session.end session.back mid × SessionsRun mid sessions to

  -- and their links are those that the door gave next, each hung up behind its session
  pub record Serves (sessions : List Session) (old : Gate) (from : NodeState) (new : Gate) (to : NodeState) : Type 0 where
    pub run : SessionsRun from sessions to
    pub gave : old.to_come ≡ option_map (λ rest. given_of sessions ++ rest) new.to_come
    pub hung : new.hung ≡ option_map (λ earlier. earlier ++ back_of sessions) old.hung
    pub left : old.left ≡ option_map (λ n. n + length sessions) new.left

  -- what one with a door has done once it serves no more: its sessions, each counted under its end
  pub record Works (old : Gate) (from : NodeState) (before : Tally) (new : Gate) (to : NodeState) (after : Tally) : Type 0 where
    pub sessions : List Session
    pub serves : Serves sessions old from new to
    pub has_failed : Bool
    pub stops : EndsServing has_failed old new
    pub tally : after ≡ and_failed has_failed (counted_all before (ends_of sessions))
