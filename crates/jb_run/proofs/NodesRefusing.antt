-- What is left of the host where nobody is served of open areas, or memory was wanting to open them.
use Rattle.std.proofs.Common.{◌≡◌, inl, inr, ℕ, ◌+◌, ◌<◌, All, List, [], ◌∷◌, ◌++◌, length, refl, sym, ap, subst, ◌∙◌, arith}
use Rattle.std.specs.Prelude.{Option, Some, slice_index_or}
use Rattle.std.specs.Option.{option_map}
use Rattle.std.proofs.lemmas.List.{append-nil, get_or_append_left, length-append}
use Rattle.jb_run.proofs.DeskLemmas.{IsElsewhere, hands_out_both}
use Rattle.jb_run.proofs.Doors.{hands_none}
use Rattle.jb_run.proofs.RefuseLemmas.{refuses_none}
use Rattle.jb_run.proofs.TargetPlaces.{put_both, targets_elsewhere}
use Rattle.jb_run.specs.All.{OpenAs}
use Rattle.jb_run.specs.Desks.{BasePlace, HandsOut, Stand, places_of, with_each, with_places_out}
use Rattle.jb_run.specs.declared.areas_error.AreasError.TheVariants as areas
use Rattle.jb_area_open.specs.declared.error.OpeningError.TheVariants.{Base}
use Rattle.jb_conf.specs.declared.board.Board.{Board}
use Rattle.jb_conf.specs.declared.board.BoardArea.{BoardArea}
use Rattle.jb_conf.specs.declared.error.ConfError.TheVariants.{Repeated}
use Rattle.jb_conf.specs.declared.field.AreaKey.TheVariants.{Base as OfBase}
use Rattle.jb_conf.specs.declared.field.Field.TheVariants.{Area as OfArea}
use Rattle.jb_disk.specs.Device.{Device}
use Rattle.jb_host.specs.Desk.{Desk, Disks, HasHostCause, KeepsRest}
use Rattle.jb_host.specs.Gate.{Gate}
use Rattle.jb_host.specs.declared.host.HostError.{HostError}
use Rattle.jb_image.specs.declared.error.OpenError.TheVariants.{StoreFault}
use Rattle.jb_run.proofs.LocalRefusing.{all_back, all_same, by_setting, is_as_it_was, no_areas, no_setting_store}
use Rattle.jb_run.specs.LocalEnding.{of_host}
use Rattle.jb_run.specs.Begins.{BeginsNone, HasBoard, LacksTarget, RefusesCalls, RefusesLines}
use Rattle.jb_run.specs.declared.error.RunError.{RunError}
use Rattle.jb_run.specs.declared.error.RunError.TheVariants.{Area, HostFault, OutOfMemory, Settings}
use Rattle.jb_shared.specs.declared.opening.Opening.{Opening}
use Rattle.jb_run.specs.Lines.{Line, RefusesLine, StopsLines, lines_for}
use Rattle.jb_run.specs.Targets.{HaveAllTargets, RefusesNext, StopsAsking, StopsTargets, targets_for}
use Rattle.jb_run.specs.Workers.{Rows}
use Rattle.jb_run.specs.Working.{GivesUp}

-- memory was wanting before the areas were opened
pub no_room : (Lines : Type 0) (path : List ℕ) (board : Board) (old new : Desk) → HasBoard path board old new → BeginsNone Lines path old new OutOfMemory
no_room Lines path board old new has = no_areas Lines path old new OutOfMemory (record {
  board = board;
  mid = new;
  has = has;
  why = areas.OutOfMemory;
  is = refl;
  refuses = refuses_none board.areas new areas.OutOfMemory refl;
})

-- what the refusal of a door or the bell leaves
record Leaves (why : HostError) (old new : Desk) : Type 0 where
  disks : new.disks ≡ old.disks
  rest : KeepsRest old (record new { faults = old.faults; waiting = old.waiting; doors = old.doors })
  cause : HasHostCause why old.faults new.faults

line_refused : (board : Board) (most : Option ℕ) (left : List Line) (why : HostError) (old new : Desk) → RefusesLine board most left why old new
    → (new.disks ≡ old.disks) × KeepsRest old (record new { faults = old.faults }) × HasHostCause why old.faults new.faults
line_refused board most [] why old new bell = (bell.disks, bell.rest, bell.cause)
line_refused board most (line ∷ left) why old new door = (door.disks, door.rest, door.cause)

next_refused : (board : Board) (most : Option ℕ) (places : List BasePlace) (done left : List Line) (why : HostError) (old new : Desk) → RefusesNext board most places done left why old new
    → (new.disks ≡ old.disks) × KeepsRest old (record new { faults = old.faults }) × HasHostCause why old.faults new.faults
next_refused board most [] done left why old new line = line_refused board most left why old new line
next_refused board most (place ∷ places) done left why old new target = (target.1.disks, target.1.rest, target.1.cause)

same_cause : (why : HostError) (old mid new : ℕ) → mid ≡ old → HasHostCause why mid new → HasHostCause why old new
same_cause why old mid new is cause = subst (λ (n : ℕ). HasHostCause why n new) is cause

later_cause : (why : HostError) (old mid new : ℕ) → new ≡ mid → HasHostCause why old mid → HasHostCause why old new
later_cause why old mid new is cause = subst (λ (n : ℕ). HasHostCause why old n) (sym is) cause

calls_stopped : (board : Board) (most : Option ℕ) (backup : Option (List ℕ)) (targets : List Device) (gates : List Gate) (why : HostError) (old new : Desk)
    → (stops : StopsAsking board most backup targets gates why old new) → Leaves why stops.targeted new
calls_stopped board most backup targets gates why old new stops =
    let last = next_refused board most stops.unplaced stops.done stops.left why stops.lined new stops.refuses in
    let doors = stops.doors in
    record {
      disks = last.0 ∙ doors.disks;
      rest = record {
        settings = last.1.settings ∙ doors.rest.settings;
        console = last.1.console ∙ doors.rest.console;
        readings = last.1.readings ∙ doors.rest.readings;
        faults = refl;
        failed = last.1.failed ∙ doors.rest.failed;
        waiting = refl;
        doors = refl;
        bell = last.1.bell ∙ doors.rest.bell;
      };
      cause = same_cause why stops.targeted.faults stops.lined.faults new.faults doors.rest.faults last.2;
    }

-- the targets that were handed out are elsewhere than all areas
placed_elsewhere : (backup : Option (List ℕ)) (areas : List BoardArea) (placed unplaced : List BasePlace) → targets_for backup areas ≡ placed ++ unplaced → HaveAllTargets backup areas
    → (k : ℕ) (place : BasePlace) → k < length placed → All (IsElsewhere (slice_index_or placed k place)) (places_of areas)
placed_elsewhere backup areas placed unplaced parts have k place within =
    let all : List BasePlace = targets_for backup areas in
    let low : k < length all = omega (arith, within, ap length parts, length-append placed unplaced) in
    subst (λ (p : BasePlace). All (IsElsewhere p) (places_of areas))
    (ap (λ (l : List BasePlace). slice_index_or l k place) parts ∙ get_or_append_left placed unplaced place k within) (targets_elsewhere backup areas have k place low)

-- a target, a door or the bell was refused
pub no_lines : (path : List ℕ) (most : Option ℕ) (backup : Option (List ℕ)) (old new : Desk) (error : RunError) → RefusesCalls path most backup old new error
    → BeginsNone (RefusesLines path most backup old new error) path old new error
no_lines path most backup old new error r =
    let gives = r.has.gives in
    let stops = r.stops in
    let stopped = calls_stopped r.board most backup r.targets r.gates r.why r.opened r.asked stops in
    let back = r.abandons.back in
    let puts = r.targets_back in
    let doors = r.doors_back in
    let before : stops.targeted.faults ≡ old.faults = stops.out.rest.faults ∙ r.out.rest.faults ∙ gives.rest.faults in
    let behind : new.faults ≡ r.asked.faults = puts.rest.faults ∙ back.rest.faults ∙ doors.rest.faults in
    let cause : HasHostCause r.why old.faults new.faults
    = later_cause r.why old.faults r.asked.faults new.faults behind (same_cause r.why old.faults stops.targeted.faults r.asked.faults before stopped.cause) in
    let causes = by_setting r.why old new error r.is cause in
    record {
      why = inr (inr (inr (inr r)));
      disks = λ was told.
          let places : List BasePlace = places_of r.board.areas in
          let out : Disks = with_places_out (places ++ stops.placed) was in
          let first : r.opened.disks ≡ Some (with_places_out places was) = r.out.disks ∙ ap (option_map (with_places_out places)) (gives.disks ∙ told) in
          let gone : r.shut.disks ≡ Some (with_places_out stops.placed (with_places_out places was))
          = doors.disks ∙ stopped.disks ∙ stops.out.disks ∙ ap (option_map (with_places_out stops.placed)) first in
          let stand : Stand (places ++ stops.placed) (r.befores ++ r.targets) was
          = (hands_out_both places stops.placed r.befores r.targets r.read r.opened stops.targeted r.out stops.out).were was (gives.disks ∙ told) in (
            with_each (places ++ stops.placed) (r.abandons.afters ++ r.targets) out,
            put_both places stops.placed r.abandons.afters r.targets r.shut.disks r.closed.disks new.disks was gone back.disks puts.disks back.count
                (placed_elsewhere backup r.board.areas stops.placed stops.unplaced stops.places r.targeted),
            all_back (places ++ stops.placed) (r.befores ++ r.targets) (r.abandons.afters ++ r.targets) was out stand (λ dir name. is_as_it_was (out dir name))
                (length-append r.abandons.afters r.targets ∙ ap (λ (n : ℕ). n + length r.targets) back.count
                ∙ ap (λ (n : ℕ). length places + n) puts.count ∙ sym (length-append places stops.placed)),
          );
      rest = record {
        settings = puts.rest.settings ∙ back.rest.settings ∙ doors.rest.settings ∙ stopped.rest.settings ∙ stops.out.rest.settings ∙ r.out.rest.settings ∙ gives.rest.settings;
        console = puts.rest.console ∙ back.rest.console ∙ doors.rest.console ∙ stopped.rest.console ∙ stops.out.rest.console ∙ r.out.rest.console ∙ gives.rest.console;
        readings = puts.rest.readings ∙ back.rest.readings ∙ doors.rest.readings ∙ stopped.rest.readings ∙ stops.out.rest.readings ∙ r.out.rest.readings ∙ gives.rest.readings;
        faults = refl;
        failed = refl;
        waiting = refl;
        doors = refl;
        bell = puts.rest.bell ∙ back.rest.bell ∙ doors.rest.bell ∙ stopped.rest.bell ∙ stops.out.rest.bell ∙ r.out.rest.bell ∙ gives.rest.bell;
      };
      doors = λ other. absurd (other (inr r));
      cause = causes.0;
      steady = causes.1;
      no_fewer = omega (arith, puts.failed.later, back.failed.later, doors.failed.later, stopped.rest.failed, stops.out.rest.failed, r.out.rest.failed, gives.rest.failed);
      store = λ place is. absurd (no_setting_store r.why place (sym r.is ∙ is));
    }

-- the same, behind the opening of the areas
pub gives_up : (path : List ℕ) (most : Option ℕ) (backup : Option (List ℕ)) (board : Board) (old read opened new : Desk) (befores : List Device) (openings : List Opening) (from : Rows) (why : HostError)
    → HasBoard path board old read → HaveAllTargets backup board.areas → HandsOut (places_of board.areas) befores read opened → OpenAs board.areas befores openings from
    → GivesUp board most backup from opened new why → BeginsNone (RefusesLines path most backup old new (of_host why)) path old new (of_host why)
gives_up path most backup board old read opened new befores openings from why has have out opens up =
    no_lines path most backup old new (of_host why) (record {
      board = board;
      read = read;
      has = has;
      targeted = have;
      befores = befores;
      opened = opened;
      out = out;
      targets = up.targets;
      gates = up.gates;
      why = why;
      is = refl;
      asked = up.asked;
      stops = up.stops;
      shut = up.shut;
      doors_back = up.doors;
      closed = up.closed;
      abandons = up.abandons befores openings opens;
      targets_back = up.back;
    })

-- an area has no target
pub no_target : (path : List ℕ) (most : Option ℕ) (backup : Option (List ℕ)) (old new : Desk) (error : RunError) → LacksTarget path backup old new error
    → BeginsNone (RefusesLines path most backup old new error) path old new error
no_target path most backup old new error lacks =
    let gives = lacks.has.gives in
    record {
      why = inr (inr (inr (inl lacks)));
      disks = all_same old.disks new.disks gives.disks;
      rest = record {
        settings = gives.rest.settings;
        console = gives.rest.console;
        readings = gives.rest.readings;
        faults = refl;
        failed = refl;
        waiting = refl;
        doors = refl;
        bell = gives.rest.bell;
      };
      doors = λ _. (gives.rest.waiting, gives.rest.doors);
      cause = λ is. absurd (no_host_fault (sym lacks.is ∙ is));
      steady = λ _. gives.rest.faults;
      no_fewer = omega (arith, gives.rest.failed);
      store = λ place is. absurd (no_store_fault place (sym lacks.is ∙ is));
    }
  where
    no_host_fault : Settings (Repeated (OfArea (lacks.place + 1) OfBase)) ≡ HostFault → ⊥
    no_host_fault is = cc

    no_store_fault : (place : ℕ) → Settings (Repeated (OfArea (lacks.place + 1) OfBase)) ≡ Area place (Base StoreFault) → ⊥
    no_store_fault place is = cc

-- the targets are out, and a door or the bell was refused
abbrev pub stops_lines : (board : Board) (most : Option ℕ) (backup : Option (List ℕ)) (targets : List Device) (gates : List Gate) (why : HostError) (old targeted new : Desk)
    → HandsOut (targets_for backup board.areas) targets old targeted → StopsLines board most gates why targeted new → StopsAsking board most backup targets gates why old new
stops_lines board most backup targets gates why old targeted new out stops = record {
  placed = targets_for backup board.areas;
  unplaced = [];
  places = sym (append-nil (targets_for backup board.areas));
  targeted = targeted;
  out = out;
  done = stops.done;
  left = stops.left;
  parts = stops.parts;
  lined = stops.lined;
  doors = stops.doors;
  refuses = stops.refuses;
}

-- a target was refused
abbrev pub stops_targets : (board : Board) (most : Option ℕ) (backup : Option (List ℕ)) (targets : List Device) (why : HostError) (old new : Desk)
    → StopsTargets (targets_for backup board.areas) targets why old new → StopsAsking board most backup targets [] why old new
stops_targets board most backup targets why old new stops = record {
  placed = stops.done;
  unplaced = stops.next ∷ stops.left;
  places = stops.parts;
  targeted = stops.mid;
  out = stops.out;
  done = [];
  left = lines_for board most;
  parts = refl;
  lined = stops.mid;
  doors = hands_none stops.mid;
  refuses = (refl, stops.refuses);
}
