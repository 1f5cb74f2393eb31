-- Workers as they are made ready, and as they have worked.
use Rattle.std.proofs.Common.{◌≡◌, ◌≢◌, ℕ, ◌+◌, ◌-◌, ◌<◌, ◌≤◌, ◌==◌, Bool, true, false, ◌||◌, List, [], ◌∷◌, ◌++◌, get_or, length, map, refl, sym, ap, subst, ◌∙◌, arith}
use Rattle.std.specs.Prelude.{All, IfErr, IsSome, Option, Some, None, Result, Ok, Err}
use Rattle.std.specs.List.{AllZip}
use Rattle.std.specs.Option.{option_map}
use Rattle.jb_base.specs.declared.user.User.{User}
use Rattle.jb_limits.specs.declared.limits.TheConstants.{MOST_NAME_BYTES}
use Rattle.std.proofs.lemmas.Bool.Decides.{nat_tests}
use Rattle.std.proofs.lemmas.List.{append-nil, get_or-map, get_or_append_left, get_or_push, length-map, length_push, map_push, same_from_push}
use Rattle.std.proofs.lemmas.List.Elements.{All-push}
use Rattle.std.proofs.lemmas.Option.{none-some}
use Rattle.jb_conf.specs.declared.board.Board.{Board}
use Rattle.jb_disk.specs.Device.{Device}
use Rattle.jb_run.specs.All.{any}
use Rattle.jb_host.specs.Desk.{Desk, GivesDoor, RefusesCall, TakesBell, asked_bell}
use Rattle.jb_host.specs.declared.host.HostError.{HostError}
use Rattle.jb_host.specs.Gate.{Gate}
use Rattle.jb_host.specs.Rings.{Rings}
use Rattle.jb_page.specs.Pagers.{HasPager, IsPagerOf, PagerView, PagesView}
use Rattle.jb_server.specs.Backups.{HasTargets}
use Rattle.jb_server.specs.Packers.{Backup, PackerState}
use Rattle.jb_server.specs.Rounds.{PackerWorks}
use Rattle.jb_server.specs.Sessions.{ServedAs, Works}
use Rattle.jb_server.specs.Tallies.{no_tally}
use Rattle.jb_server.specs.Workers.{HasServed, HasWorked, IsAtWork, PackerHasWorked}
use Rattle.jb_server.specs.declared.service.Service.{Service}
use Rattle.jb_server.specs.declared.service.Service.TheVariants as service
use Rattle.jb_server.specs.declared.tally.Tally.{Tally}
use Rattle.jb_server.specs.declared.worker.NodeSlot.{NodeSlot}
use Rattle.jb_server.specs.declared.worker.PackSlot.{PackSlot}
use Rattle.jb_server.specs.declared.worker.Worker.{Worker}
use Rattle.jb_server.specs.declared.worker.Worker.TheVariants.{News, Node, Packer}
use Rattle.jb_host.specs.Wire.{Wire}
use Rattle.jb_session.specs.Exchanges.{AreOf, NodeState, node_with}
use Rattle.jb_session.specs.declared.end.SessionEnd.{SessionEnd}
use Rattle.jb_shared.specs.Passes.{PassView}
use Rattle.jb_shared.specs.declared.shared.SharedArea.{SharedArea}
use Rattle.jb_run.specs.Lines.{HandsDoors, Line, PutsDoors, asked_line, lines_for}
use Rattle.jb_run.specs.Workers.{HasLine, HasWorkers, HaveOwn, IsFresh, IsFreshSlot, PackerIsReady, PartsLast, Rows, StopsAt, gate_of, gates_of, number_of, numbers_of, packer, worker_pager, worker_passes, pager_number, pagers_of, tallies_of, tally_of, with_passes}
use Rattle.jb_run.specs.NodePages.{ArePagersOf, HasPaged, pager_of}
use Rattle.jb_run.specs.Backed.{Targets, all_there, none_of, packer_at}
use Rattle.jb_run.specs.Working.{AreAllOf, WorkAll, WorkToTheEnd, row_of}
use Rattle.jb_run.proofs.EachLemmas.{all_end, all_most}
use Rattle.jb_run.proofs.Doors.{hands_more, hands_none, puts_more, puts_none}
use Rattle.jb_run.proofs.Lists.{any_push, last_of, one_of}
use Rattle.jb_run.proofs.Numbers.{line_with}
use Rattle.jb_run.proofs.Own.{crew_own, length-with_passes, numbers_are, of_line, own_last, row_is}
use Rattle.jb_run.proofs.PagerLemmas.{are_pagers, each_pager, number_kept, pager_is}
use Rattle.jb_run.proofs.TargetLemmas.{as_many, devices_of, none_shown, shows_all}
use Rattle.jb_run.proofs.Zips.{zip_at, zip_long, zip_of, zip_push}

module _ {R B C E : Type 0} (gate : R → Gate) (readings : C → Option (List ℕ)) (door_for : Option ℕ → Gate → Type 0) (most : Option ℕ) where
  -- no line is open
  pub has_none : (host : Desk) → HasWorkers {B = B} {E = E} gate readings door_for most [] [] host host
  has_none host = record {
    each = tt;
    doors = hands_none host;
    made = λ k absent within. absurd (omega (arith, within));
    ready = λ k absent within. absurd (omega (arith, within));
  }

  -- a line more is open
  pub has_more : (lines : List Line) (line : Line) (workers : List (Worker R B C E)) (one : Worker R B C E) (old mid new : Desk) → HasWorkers gate readings door_for most lines workers old mid
      → HasLine line one → GivesDoor line.node line.port line.calls (gate_of gate one) mid new → door_for most (gate_of gate one) → IsFresh readings mid.readings one
      → HasWorkers gate readings door_for most (lines ++ line ∷ []) (workers ++ one ∷ []) old new
  has_more lines line workers one old mid new has is gives made ready =
      let gates : gates_of gate (workers ++ one ∷ []) ≡ gates_of gate workers ++ gate_of gate one ∷ [] = map_push (gate_of gate) workers one in
      record {
        each = zip_push HasLine lines workers line one has.each is;
        doors = subst (λ (all : List Gate). HandsDoors (lines ++ line ∷ []) all old new) (sym gates)
            (hands_more lines line (gates_of gate workers) (gate_of gate one) old mid new has.doors gives);
        made = subst (All (door_for most)) (sym gates) (All-push (door_for most) (gates_of gate workers) (gate_of gate one) has.made made);
        ready = All-push (IsFresh readings old.readings) workers one has.ready (subst (λ (told : Option (List ℕ)). IsFresh readings told one) has.doors.rest.readings ready);
      }

  -- the door of the next line was refused
  pub stops_at : (board : Board) (done left : List Line) (line : Line) (workers : List (Worker R B C E)) (error : HostError) (old mid new : Desk)
      → lines_for board most ≡ done ++ line ∷ left → HasWorkers gate readings door_for most done workers old mid → RefusesCall (asked_line line) error mid new
      → StopsAt gate board most workers error old new
  stops_at board done left line workers error old mid new parts has refuses = record {
    stops = record { done = done; left = line ∷ left; parts = parts; lined = mid; doors = has.doors; refuses = refuses };
    each = has.each;
  }

  -- or the bell, where all lines are open
  pub stops_all : {T : Type 0} (board : Board) (areas : ℕ) (result : Result T HostError) (workers : List (Worker R B C E)) (old mid new : Desk) → areas ≡ length board.areas
      → HasWorkers gate readings door_for most (lines_for board most) workers old mid → IfErr result (λ error. RefusesCall (asked_bell areas board.pack_minutes most) error mid new)
      → IfErr result (λ error. StopsAt gate board most workers error old new)
  stops_all board areas (Ok bell) workers old mid new same has refuses = tt
  stops_all board areas (Err error) workers old mid new same has refuses = record {
    stops = record {
      done = lines_for board most;
      left = [];
      parts = sym (append-nil (lines_for board most));
      lined = mid;
      doors = has.doors;
      refuses = subst (λ (n : ℕ). RefusesCall (asked_bell n board.pack_minutes most) error mid new) same refuses;
    };
    each = has.each;
  }

-- of disks that show themselves so, the targets of a packer before it worked and then
abbrev pub targets_of : {B C E : Type 0} → (E → Device) → PackSlot B C E → PackSlot B C E → Targets
targets_of device old new =
    record { first = devices_of device old.targets.items; left = devices_of device new.targets.items; backups = new.backups.items }

-- of doors, bells, clocks and disks that show themselves so
module _ {R B C E : Type 0} (gate : R → Gate) (rings : B → Rings) (readings : C → Option (List ℕ)) (device : E → Device) (told : Option (List ℕ)) (board : Board) where
  -- each has worked
  abbrev pub AllHaveWorked : List (Worker R B C E) → List (Worker R B C E) → Type 0
  AllHaveWorked before after = (k : ℕ) (absent : Worker R B C E) → k < length before → HasWorked gate rings readings device board (get_or before k absent) (get_or after k absent)

  -- who was ready for a line has served it
  pub record LineIsDone (line : Line) (old new : Worker R B C E) : Type 0 where
    pub is : HasLine line new
    pub left : Option (List ℕ)
    pub works : Works (ServedAs line.service board) (gate_of gate old) (node_with told (worker_passes old) (worker_pager old)) no_tally
        (gate_of gate new) (node_with left (worker_passes new) (worker_pager new)) (tally_of new)

  slot_done : (service : Service) (old new : NodeSlot R C) → IsFreshSlot readings told old → HasServed gate readings board service old new
      → Works (ServedAs service board) (gate old.door) (node_with told old.passes.items old.pager) no_tally (gate new.door) (node_with (readings new.clock) new.passes.items new.pager) new.tally
  slot_done service old new ready worked =
      let to = node_with (readings new.clock) new.passes.items new.pager in
      let P : Option (List ℕ) → Type 0 = λ r. Works (ServedAs service board) (gate old.door) (node_with r old.passes.items old.pager) no_tally (gate new.door) to new.tally in
      let Q : Tally → Type 0 = λ t. Works (ServedAs service board) (gate old.door) (node_with (readings old.clock) old.passes.items old.pager) t (gate new.door) to new.tally in
      subst P ready.clock (subst Q ready.none worked.works)

  line_done : (line : Line) (old new : Worker R B C E) → HasLine line old → IsFresh readings told old → HasWorked gate rings readings device board old new → LineIsDone line old new
  line_done line (Node old) (Node new) is ready worked =
      let P : Service → Type 0 = λ s. Works (ServedAs s board) (gate old.door) (node_with told old.passes.items old.pager) no_tally
      (gate new.door) (node_with (readings new.clock) new.passes.items new.pager) new.tally in
      record { is = (is.0, worked.node ∙ is.1, number_kept old.pager new.pager worked.pager ∙ is.2); left = readings new.clock; works = subst P (sym is.0) (slot_done service.Menus old new ready worked) }
  line_done line (Node old) (Packer new) is ready worked = absurd worked
  line_done line (Node old) (News new) is ready worked = absurd worked
  line_done line (Packer old) new is ready worked = absurd is
  line_done line (News old) (Node new) is ready worked = absurd worked
  line_done line (News old) (Packer new) is ready worked = absurd worked
  line_done line (News old) (News new) is ready worked =
      let P : Service → Type 0 = λ s. Works (ServedAs s board) (gate old.door) (node_with told old.passes.items old.pager) no_tally
      (gate new.door) (node_with (readings new.clock) new.passes.items new.pager) new.tally in
      record { is = (is.0, worked.node ∙ is.1, number_kept old.pager new.pager worked.pager ∙ is.2); left = readings new.clock; works = subst P (sym is.0) (slot_done service.News old new ready worked) }

  packer_done : (old : PackSlot B C E) (new : Worker R B C E) → HasWorked gate rings readings device board (Packer old) new
      → (slot : PackSlot B C E) × (new ≡ Packer slot) × PackerHasWorked rings readings device old slot
  packer_done old (Node new) worked = absurd worked
  packer_done old (Packer new) worked = (new, refl, worked)
  packer_done old (News new) worked = absurd worked

  -- the workers that are done are those of the lines and behind them the packer
  pub record AreDone (lines : List Line) (workers : List (Worker R B C E)) (slot : PackSlot B C E) (after : List (Worker R B C E)) : Type 0 where
    pub front : List (Worker R B C E)
    pub last : PackSlot B C E
    pub is : after ≡ front ++ Packer last ∷ []
    pub count : length front ≡ length workers
    pub lines_done : (k : ℕ) (line : Line) (absent : Worker R B C E) → k < length workers → LineIsDone (get_or lines k line) (get_or workers k absent) (get_or front k absent)
    pub packer_done : PackerHasWorked rings readings device slot last

  pub are_done : (lines : List Line) (workers : List (Worker R B C E)) (slot : PackSlot B C E) (slice after : List (Worker R B C E)) → slice ≡ workers ++ Packer slot ∷ [] → length after ≡ length slice
      → AllZip HasLine lines workers → All (IsFresh readings told) workers → AllHaveWorked slice after → AreDone lines workers slot after
  are_done lines workers slot slice after is many each ready worked =
      let parts = last_of after (length workers) (many ∙ ap length is ∙ length_push workers (Packer slot)) in
      let front = parts.0 in
      let W : Worker R B C E → Worker R B C E → Type 0 = HasWorked gate rings readings device board in
      let all : AllHaveWorked (workers ++ Packer slot ∷ []) (front ++ parts.1 ∷ [])
      = subst (λ (l : List (Worker R B C E)). AllHaveWorked (workers ++ Packer slot ∷ []) l) parts.2 (subst (λ (l : List (Worker R B C E)). AllHaveWorked l after) is worked) in
      let at_end : W (get_or (workers ++ Packer slot ∷ []) (length workers) parts.1) (get_or (front ++ parts.1 ∷ []) (length workers) parts.1)
      = all (length workers) parts.1 (omega (arith, length_push workers (Packer slot))) in
      let ended : W (Packer slot) parts.1
      = subst (λ (w : Worker R B C E). W w parts.1) (get_or_push workers (Packer slot) parts.1 (length workers) refl)
      (subst (λ (w : Worker R B C E). W (get_or (workers ++ Packer slot ∷ []) (length workers) parts.1) w) (get_or_push front parts.1 parts.1 (length workers) parts.3) at_end) in
      let last = packer_done slot parts.1 ended in
      record {
        front = front;
        last = last.0;
        is = parts.2 ∙ ap (λ (w : Worker R B C E). front ++ w ∷ []) last.1;
        count = parts.3;
        lines_done = λ k line absent within.
            line_done (get_or lines k line) (get_or workers k absent) (get_or front k absent)
            (zip_at HasLine lines workers k line absent each (omega (arith, within, zip_long HasLine lines workers each))) (ready k absent within)
            (subst (λ (w : Worker R B C E). W w (get_or front k absent)) (get_or_append_left workers (Packer slot ∷ []) absent k within)
            (subst (λ (w : Worker R B C E). W (get_or (workers ++ Packer slot ∷ []) k absent) w) (get_or_append_left front (parts.1 ∷ []) absent k (omega (arith, within, parts.3)))
            (all k absent (omega (arith, within, length_push workers (Packer slot))))));
        packer_done = last.2;
      }

  -- they serve the same lines
  pub still_lines : (lines : List Line) (workers : List (Worker R B C E)) (slot : PackSlot B C E) (after : List (Worker R B C E)) (done : AreDone lines workers slot after) → AllZip HasLine lines workers
      → AllZip HasLine lines done.front
  still_lines lines workers slot after done each =
      let long : length workers ≡ length lines = zip_long HasLine lines workers each in
      zip_of HasLine lines done.front (done.count ∙ long)
      (λ k line absent within. (done.lines_done k line absent (omega (arith, within, long))).is)

  -- all are done, and each has passes of its own
  pub record AreOver (most : Option ℕ) (workers : List (Worker R B C E)) (slot : PackSlot B C E) (after : List (Worker R B C E)) (count : ℕ) : Type 0 where
    pub done : AreDone (lines_for board most) workers slot after
    pub still : AllZip HasLine (lines_for board most) done.front
    pub own : HaveOwn count after

  pub are_over : (most : Option ℕ) (workers : List (Worker R B C E)) (slot : PackSlot B C E) (slice after : List (Worker R B C E)) (count : ℕ) → slice ≡ workers ++ Packer slot ∷ []
      → length after ≡ length slice → AllZip HasLine (lines_for board most) workers → All (IsFresh readings told) workers → PackerIsReady readings told board slot
      → AllHaveWorked slice after → count ≡ length (lines_for board most) + 1 → AreOver most workers slot after count
  are_over most workers slot slice after count is many each ready packer worked room =
      let done = are_done (lines_for board most) workers slot slice after is many each ready worked in
      let still = still_lines (lines_for board most) workers slot after done each in
      record {
        done = done;
        still = still;
        own = subst (λ (l : List (Worker R B C E)). HaveOwn count l) (sym done.is)
            (crew_own board most done.front done.last count still room (done.packer_done.node ∙ packer.number));
      }

  -- what they have done together
  pub all_worked : (most : Option ℕ) (workers : List (Worker R B C E)) (slot : PackSlot B C E) (after : List (Worker R B C E)) (rows : Rows) (done : AreDone (lines_for board most) workers slot after)
      → AllZip HasLine (lines_for board most) workers → PackerIsReady readings told board slot → length rows ≡ length (lines_for board most) + 1
      → HaveOwn (length rows) (workers ++ Packer slot ∷ []) → HaveOwn (length rows) (done.front ++ Packer done.last ∷ []) → All IsSome done.last.targets.items
      → WorkAll told board (lines_for board most) (gates_of gate workers) (gates_of gate done.front) (rings slot.bell) (rings done.last.bell)
      (with_passes (workers ++ Packer slot ∷ []) rows) (with_passes (done.front ++ Packer done.last ∷ []) rows) (pagers_of workers) (pagers_of done.front) (targets_of device slot done.last) (tallies_of done.front)
  all_worked most workers slot after rows done each ready many own own_after there =
      let lines : List Line = lines_for board most in
      let front = done.front in
      let last = done.last in
      let from : Rows = with_passes (workers ++ Packer slot ∷ []) rows in
      let to : Rows = with_passes (front ++ Packer last ∷ []) rows in
      let long : length workers ≡ length lines = zip_long HasLine lines workers each in
      let still = still_lines lines workers slot after done each in
      let packs = done.packer_done in
      record {
        doors = length-map workers (gate_of gate) ∙ long;
        doors_after = length-map front (gate_of gate) ∙ done.count ∙ long;
        counts = length-map front tally_of ∙ done.count ∙ long;
        started = length-with_passes (workers ++ Packer slot ∷ []) rows ∙ many;
        ended = length-with_passes (front ++ Packer last ∷ []) rows ∙ many;
        served = λ k line one other tally within.
            let low : k < length workers = omega (arith, within, long) in
            let low_after : k < length front = omega (arith, low, done.count) in
            let absent = one_of workers k low in
            let is = done.lines_done k line absent low in
            let its : Line = get_or lines k line in
            same_work its (get_or (gates_of gate workers) k one) (gate_of gate (get_or workers k absent)) (row_of from its) (worker_passes (get_or workers k absent))
            (pager_of (pagers_of workers) its) (worker_pager (get_or workers k absent)) (get_or (gates_of gate front) k other) (gate_of gate (get_or front k absent)) (row_of to its) (worker_passes (get_or front k absent))
            (pager_of (pagers_of front) its) (worker_pager (get_or front k absent)) (get_or (tallies_of front) k tally) (tally_of (get_or front k absent))
            (get_or-map (gate_of gate) workers k absent one low) (row_in workers (Packer slot) lines each k line absent own low) (pager_is board most workers each k line absent low)
            (get_or-map (gate_of gate) front k absent other low_after) (row_in front (Packer last) lines still k line absent own_after low_after) (pager_is board most front still k line absent low_after)
            (get_or-map tally_of front k absent tally low_after) is.left is.works;
        packs = last.packs;
        left = readings last.clock;
        packed = packs_so slot last (get_or from board.nodes []) (get_or to board.nodes [])
            (last_row workers (Packer slot) board.nodes own ready.number)
            (last_row front (Packer last) board.nodes own_after (packs.node ∙ ready.number)) ready there packs;
        kept = as_many device last.targets.items (devices_of device last.targets.items) (shows_all device last.targets.items there) ∙ packs.count
            ∙ sym (as_many device slot.targets.items (devices_of device slot.targets.items) (shows_all device slot.targets.items ready.targets.there));
      }
    where
      -- the row of a line is that of its worker
      row_in : (workers : List (Worker R B C E)) (one : Worker R B C E) (lines : List Line) → AllZip HasLine lines workers → (k : ℕ) (line : Line) (absent : Worker R B C E)
          → HaveOwn (length rows) (workers ++ one ∷ []) → k < length workers
          → row_of (with_passes (workers ++ one ∷ []) rows) (get_or lines k line) ≡ worker_passes (get_or workers k absent)
      row_in workers one lines each k line absent own low =
          let all : List (Worker R B C E) = workers ++ one ∷ [] in
          let at : get_or all k absent ≡ get_or workers k absent = get_or_append_left workers (one ∷ []) absent k low in
          let number : number_of (get_or workers k absent) ≡ (get_or lines k line).node
          = of_line (get_or lines k line) (get_or workers k absent)
          (zip_at HasLine lines workers k line absent each (omega (arith, low, zip_long HasLine lines workers each))) in
          sym (ap (λ (n : ℕ). get_or (with_passes all rows) (n - 1) []) (ap number_of at ∙ number))
          ∙ row_is all rows k absent own (omega (arith, low, length_push workers one)) ∙ ap worker_passes at

      -- that of the last is its own
      last_row : (workers : List (Worker R B C E)) (one : Worker R B C E) (n : ℕ) → HaveOwn (length rows) (workers ++ one ∷ []) → number_of one ≡ n + 1
          → get_or (with_passes (workers ++ one ∷ []) rows) n [] ≡ worker_passes one
      last_row workers one n own number =
          let all : List (Worker R B C E) = workers ++ one ∷ [] in
          let at : get_or all (length workers) one ≡ one = get_or_push workers one one (length workers) refl in
          let place : number_of (get_or all (length workers) one) - 1 ≡ n = ap (λ (w : Worker R B C E). number_of w - 1) at ∙ omega (arith, number) in
          sym (ap (λ (k : ℕ). get_or (with_passes all rows) k []) place)
          ∙ row_is all rows (length workers) one own (omega (arith, length_push workers one)) ∙ ap worker_passes at

      same_work : (line : Line) (a a' : Gate) (b b' : List PassView) (m m' : Option PagerView) (c c' : Gate) (d d' : List PassView) (n n' : Option PagerView) (e e' : Tally)
          → a ≡ a' → b ≡ b' → m ≡ m' → c ≡ c' → d ≡ d' → n ≡ n' → e ≡ e'
          → (left : Option (List ℕ)) → Works (ServedAs line.service board) a' (node_with told b' m') no_tally c' (node_with left d' n') e'
          → (left : Option (List ℕ)) × Works (ServedAs line.service board) a (node_with told b m) no_tally c (node_with left d n) e
      same_work line a a' b b' m m' c c' d d' n n' e e' p q u r s v t left works =
          let V : Wire → NodeState → SessionEnd → Wire → NodeState → Type 0 = ServedAs line.service board in (
            left,
            subst (λ (x : Gate). Works V x (node_with told b m) no_tally c (node_with left d n) e) (sym p)
                (subst (λ (x : List PassView). Works V a' (node_with told x m) no_tally c (node_with left d n) e) (sym q)
                (subst (λ (x : Option PagerView). Works V a' (node_with told b' x) no_tally c (node_with left d n) e) (sym u)
                (subst (λ (x : Gate). Works V a' (node_with told b' m') no_tally x (node_with left d n) e) (sym r)
                (subst (λ (x : List PassView). Works V a' (node_with told b' m') no_tally c' (node_with left x n) e) (sym s)
                (subst (λ (x : Option PagerView). Works V a' (node_with told b' m') no_tally c' (node_with left d' x) e) (sym v)
                (subst (λ (x : Tally). Works V a' (node_with told b' m') no_tally c' (node_with left d' n') x) (sym t) works)))))),
          )

      packs_so : (one other : PackSlot B C E) (b d : List PassView) → b ≡ one.passes.items → d ≡ other.passes.items → PackerIsReady readings told board one
          → All IsSome other.targets.items → PackerHasWorked rings readings device one other
          → PackerWorks packer (rings one.bell) (packer_at told b (devices_of device one.targets.items) (none_of (devices_of device one.targets.items))) 0
          (rings other.bell) (packer_at (readings other.clock) d (devices_of device other.targets.items) other.backups.items) other.packs
      packs_so one other b d q s fresh there worked =
          let first = devices_of device one.targets.items in
          let left = devices_of device other.targets.items in
          let was = shows_all device one.targets.items fresh.targets.there in
          let is = shows_all device other.targets.items there in
          let none : one.backups.items ≡ none_of first = fresh.untried ∙ none_shown device one.targets.items first was in
          let at : Option (List ℕ) → List PassView → List (Option Device) → List Backup → PackerState = λ r x l n. record { node = node_with r x None; targets = l; backups = n } in
          let W : User → PackerState → ℕ → PackerState → Type 0 = λ u from n to. PackerWorks u (rings one.bell) from n (rings other.bell) to other.packs in
          let end = at (readings other.clock) other.passes.items (map (option_map device) other.targets.items) other.backups.items in
          let from = at told one.passes.items in
          subst (λ (x : List PassView). W packer (at told x (all_there first) (none_of first)) 0 (at (readings other.clock) d (all_there left) other.backups.items)) (sym q)
          (subst (λ (x : List PassView). W packer (from (all_there first) (none_of first)) 0 (at (readings other.clock) x (all_there left) other.backups.items)) (sym s)
          (subst (λ (l : List (Option Device)). W packer (from (all_there first) (none_of first)) 0 (at (readings other.clock) other.passes.items l other.backups.items)) is
          (subst (λ (l : List (Option Device)). W packer (from l (none_of first)) 0 end) was
          (subst (λ (l : List Backup). W packer (from (map (option_map device) one.targets.items) l) 0 end) none
          (subst (λ (n : ℕ). W packer (from (map (option_map device) one.targets.items) one.backups.items) n end) fresh.none
          (subst (λ (u : User). W u (from (map (option_map device) one.targets.items) one.backups.items) one.packs end) fresh.user
          (subst (λ (r : Option (List ℕ)). W one.user (at r one.passes.items (map (option_map device) one.targets.items) one.backups.items) one.packs end) fresh.clock
          worked.works)))))))

-- workers with these passes and pagers are at work on areas of which they have all, and on these pages
module _ {D R B C E : Type 0} (areas : List (SharedArea D)) (pages : PagesView) (board : Board) where
  -- they have passes of all areas
  passes_all : (one : Worker R B C E) → IsAtWork areas pages board one → AreOf areas (worker_passes one)
  passes_all (Node slot) at = at.0
  passes_all (Packer slot) at = at.0
  passes_all (News slot) at = at.0

  -- and pagers of these pages
  pub pager_at_work : (one : Worker R B C E) → IsAtWork areas pages board one → (pager : PagerView) → worker_pager one ≡ Some pager → IsPagerOf pages pager
  pager_at_work (Node slot) at pager is = (subst (HasPager pages board.nodes) is at.1).0
  pager_at_work (Packer slot) at pager is = absurd (none-some pager is)
  pager_at_work (News slot) at pager is = (subst (HasPager pages 0) is at.1).0

  -- a packer that is at work behind others has its targets
  pub packer_at_work : (workers : List (Worker R B C E)) (slot : PackSlot B C E) → All (IsAtWork areas pages board) (workers ++ Packer slot ∷ []) → All IsSome slot.targets.items
  packer_at_work workers slot work =
      let last : IsAtWork {R = R} areas pages board (Packer slot) = all_end (IsAtWork areas pages board) workers (Packer slot) work in
      last.2.there

  -- who serves a line with passes of all, and with a pager of these pages where one is needed, is at work
  at_work : pages.nodes ≡ board.nodes → (line : Line) (one : Worker R B C E) → HasLine line one → AreOf areas (worker_passes one)
      → ((pager : PagerView) → worker_pager one ≡ Some pager → IsPagerOf pages pager) → IsAtWork areas pages board one
  at_work between line (Node slot) is ours of = (ours, by slot.pager refl)
    where
      by : (pager : Option PagerView) → slot.pager ≡ pager → HasPager pages board.nodes pager
      by None none = absurd (none-some line.node (sym (ap pager_number none) ∙ is.2))
      by (Some pager) has = (of pager has, omega (arith, between))
  at_work between line (Packer slot) is ours of = absurd is
  at_work between line (News slot) is ours of = (ours, by slot.pager refl)
    where
      by : (pager : Option PagerView) → slot.pager ≡ pager → HasPager pages 0 pager
      by None none = refl
      by (Some pager) has = (of pager has, omega arith)

  -- workers and the packer, with passes of all, are at work
  pub all_at_work : (most : Option ℕ) (workers : List (Worker R B C E)) (slot : PackSlot B C E) (rows : Rows) → AllZip HasLine (lines_for board most) workers
      → HaveOwn (length rows) (workers ++ Packer slot ∷ []) → AreAllOf areas (with_passes (workers ++ Packer slot ∷ []) rows) → length slot.user.name ≤ MOST_NAME_BYTES
      → HasTargets slot.targets.items slot.backups.items
      → pages.nodes ≡ board.nodes → All (IsPagerOf pages) (pagers_of workers) → All (IsAtWork areas pages board) (workers ++ Packer slot ∷ [])
  all_at_work most workers slot rows each own ours name targets between of =
      let all : List (Worker R B C E) = workers ++ Packer slot ∷ [] in
      let theirs : (k : ℕ) (absent : Worker R B C E) → k < length all → AreOf areas (worker_passes (get_or all k absent))
      = λ k absent low.
      let in_range = own.within k absent low in
      subst (AreOf areas) (row_is all rows k absent own low)
      (ours (number_of (get_or all k absent) - 1) (omega (arith, in_range.0, in_range.1, length-with_passes all rows))) in
      All-push (IsAtWork areas pages board) workers (Packer slot)
      (λ k absent low.
      let within : k < length (lines_for board most) = omega (arith, low, zip_long HasLine (lines_for board most) workers each) in
      let none : Line = one_of (lines_for board most) k within in
      at_work between (get_or (lines_for board most) k none) (get_or workers k absent) (zip_at HasLine (lines_for board most) workers k none absent each within)
      (subst (λ (w : Worker R B C E). AreOf areas (worker_passes w)) (get_or_append_left workers (Packer slot ∷ []) absent k low)
      (theirs k absent (omega (arith, low, length_push workers (Packer slot)))))
      (λ pager is. each_pager board most workers each (IsPagerOf pages) of k absent pager low is)) (
        subst (λ (w : Worker R B C E). AreOf areas (worker_passes w)) (get_or_push workers (Packer slot) (Packer slot) (length workers) refl)
            (theirs (length workers) (Packer slot) (omega (arith, length_push workers (Packer slot)))),
        name,
        targets,
      )

  -- and have them still when they are done
  pub all_of_still : (most : Option ℕ) (workers : List (Worker R B C E)) (packer : Worker R B C E) (rows : Rows) → AllZip HasLine (lines_for board most) workers
      → number_of packer ≡ board.nodes + 1 → length rows ≡ length (lines_for board most) + 1 → HaveOwn (length rows) (workers ++ packer ∷ [])
      → All (IsAtWork areas pages board) (workers ++ packer ∷ []) → AreAllOf areas (with_passes (workers ++ packer ∷ []) rows)
  all_of_still most workers packer rows each number many own work n within = by (n == board.nodes) refl
    where
      all : List (Worker R B C E)
      all = workers ++ packer ∷ []

      at : (k : ℕ) (absent : Worker R B C E) → k < length all → number_of (get_or all k absent) ≡ n + 1 → AreOf areas (get_or (with_passes all rows) n [])
      at k absent low is =
          let place : number_of (get_or all k absent) - 1 ≡ n = omega (arith, is) in
          subst (λ (j : ℕ). AreOf areas (get_or (with_passes all rows) j [])) place
          (subst (AreOf areas) (sym (row_is all rows k absent own low)) (passes_all (get_or all k absent) (work k absent low)))

      by : (b : Bool) → (n == board.nodes) ≡ b → AreOf areas (get_or (with_passes all rows) n [])
      by true is =
          let here : n ≡ board.nodes = grind (arith, nat_tests) in
          at (length workers) packer (omega (arith, length_push workers packer))
          (ap number_of (get_or_push workers packer packer (length workers) refl) ∙ number ∙ omega (arith, here))
      by false is =
          let other : n ≢ board.nodes = grind (arith, nat_tests) in
          let line = line_with board most n (omega (arith, within, length-with_passes all rows, many)) other in
          let low : line.0 < length workers = omega (arith, line.1, zip_long HasLine (lines_for board most) workers each) in
          let none : Line = one_of (lines_for board most) line.0 line.1 in
          let absent : Worker R B C E = one_of workers line.0 low in
          at line.0 absent (omega (arith, low, length_push workers packer))
          (ap number_of (get_or_append_left workers (packer ∷ []) absent line.0 low)
          ∙ of_line (get_or (lines_for board most) line.0 none) (get_or workers line.0 absent)
          (zip_at HasLine (lines_for board most) workers line.0 none absent each line.1) ∙ line.2 none)

module _ {R B C E : Type 0} where
  module _ (gate : R → Gate) where
    -- the door of the last is back, and those of the others are put back behind it
    pub gates_put : (count : ℕ) (more fewer : List (Worker R B C E)) (old mid new : Desk) (has_failed : Bool) → HaveOwn count more → PartsLast gate more fewer old mid has_failed
        → PutsDoors (numbers_of fewer) (gates_of gate fewer) mid new → PutsDoors (numbers_of more) (gates_of gate more) old new
    gates_put count more fewer old mid new has_failed own parts puts =
        let one = parts.worker in
        let gates : gates_of gate more ≡ gates_of gate fewer ++ gate_of gate one ∷ [] = ap (gates_of gate) parts.is ∙ map_push (gate_of gate) fewer one in
        let numbers : numbers_of more ≡ numbers_of fewer ++ number_of one ∷ []
        = ap (λ (l : List (Worker R B C E)). numbers_of l) parts.is ∙ map_push number_of fewer one in
        subst (λ (all : List Gate). PutsDoors (numbers_of more) all old new) (sym gates)
        (subst (λ (all : List ℕ). PutsDoors all (gates_of gate fewer ++ gate_of gate one ∷ []) old new) (sym numbers)
        (puts_more (numbers_of fewer) (number_of one) (gates_of gate fewer) (gate_of gate one) old mid new
        (own_last count fewer one (subst (λ (l : List (Worker R B C E)). HaveOwn count l) parts.is own)) parts.back puts))

    -- where none is left nothing is put back
    pub gates_put_none : (workers : List (Worker R B C E)) (old new : Desk) → workers ≡ [] → new ≡ old → PutsDoors (numbers_of workers) (gates_of gate workers) old new
    gates_put_none workers old new none same =
        subst (λ (all : List (Worker R B C E)). PutsDoors (numbers_of all) (gates_of gate all) old new) (sym none) (subst (PutsDoors [] [] old) (sym same) (puts_none old))

    -- what the tally of the last says is told
    pub failed_more : (more fewer : List (Worker R B C E)) (old mid : Desk) (so_far has_failed : Bool) → PartsLast gate more fewer old mid has_failed
        → (any (map (λ tally. tally.door_failed) (tallies_of fewer)) || (so_far || has_failed)) ≡ (any (map (λ tally. tally.door_failed) (tallies_of more)) || so_far)
    failed_more more fewer old mid so_far has_failed parts =
        let one = parts.worker in
        let tallies : tallies_of more ≡ tallies_of fewer ++ tally_of one ∷ [] = ap tallies_of parts.is ∙ map_push tally_of fewer one in
        let all : any (map (λ (t : Tally). t.door_failed) (tallies_of more)) ≡ (any (map (λ (t : Tally). t.door_failed) (tallies_of fewer)) || has_failed)
        = ap (λ (l : List Tally). any (map (λ (t : Tally). t.door_failed) l)) tallies ∙ any_push (λ (t : Tally). t.door_failed) (tallies_of fewer) (tally_of one)
        ∙ ap (λ (b : Bool). any (map (λ (t : Tally). t.door_failed) (tallies_of fewer)) || b) (sym parts.failed) in
        swapped (any (map (λ (t : Tally). t.door_failed) (tallies_of fewer))) so_far has_failed ∙ ap (λ (b : Bool). b || so_far) (sym all)
      where
        swapped : (a b d : Bool) → (a || (b || d)) ≡ ((a || d) || b)
        swapped true b d = refl
        swapped false true true = refl
        swapped false true false = refl
        swapped false false d = or_false d
          where
            or_false : (x : Bool) → x ≡ (x || false)
            or_false true = refl
            or_false false = refl

-- the packer's name is short enough for an area
pub short_name : (user : User) → user ≡ packer → length user.name ≤ MOST_NAME_BYTES
short_name user is = subst (λ (u : User). length u.name ≤ MOST_NAME_BYTES) (sym is) (omega arith)

-- of doors, bells, clocks and disks that show themselves so
module _ {R B C E : Type 0} (gate : R → Gate) (rings : B → Rings) (readings : C → Option (List ℕ)) (device : E → Device) (told : Option (List ℕ)) (board : Board) where
  same_slot : (one other : PackSlot B C E) (p q : Worker R B C E) → p ≡ Packer one → q ≡ Packer other → p ≡ q → one ≡ other
  same_slot one other p q one_is other_is is = cc

  -- those that are left, once the packer is taken apart
  pub left_front : (lines : List Line) (workers : List (Worker R B C E)) (slot : PackSlot B C E) (after fewer : List (Worker R B C E)) (one : PackSlot B C E)
      (done : AreDone gate rings readings device told board lines workers slot after) → after ≡ fewer ++ Packer one ∷ [] → (fewer ≡ done.front) × (one ≡ done.last)
  left_front lines workers slot after fewer one done parts =
      let same = same_from_push fewer done.front (Packer one) (Packer done.last) (sym parts ∙ done.is) in
      (same.0, same_slot one done.last (Packer one) (Packer done.last) refl refl same.1)

  -- and their pagers: one of these pages for each node
  pub left_pagers : {D : Type 0} (areas : List (SharedArea D)) (pages : PagesView) (most : Option ℕ) (workers : List (Worker R B C E)) (slot : PackSlot B C E) (after fewer : List (Worker R B C E)) (one : PackSlot B C E)
      (done : AreDone gate rings readings device told board (lines_for board most) workers slot after) → AllZip HasLine (lines_for board most) done.front → after ≡ fewer ++ Packer one ∷ []
      → pages.nodes ≡ board.nodes → All (IsAtWork areas pages board) after → ArePagersOf pages (pagers_of fewer)
  left_pagers areas pages most workers slot after fewer one done still parts between work =
      let same = left_front (lines_for board most) workers slot after fewer one done parts in
      let theirs = all_most (IsAtWork areas pages board) fewer (Packer one) (subst (λ (l : List (Worker R B C E)). All (IsAtWork areas pages board) l) parts work) in
      are_pagers board most fewer (subst (λ (l : List (Worker R B C E)). AllZip HasLine (lines_for board most) l) (sym same.0) still) pages between
      (λ k absent pager low is. pager_at_work areas pages board (get_or fewer k absent) (theirs k absent low) pager is)

  -- the workers are done and taken apart
  pub ends_work : (most : Option ℕ) (workers : List (Worker R B C E)) (slot : PackSlot B C E) (after fewer : List (Worker R B C E)) (one : PackSlot B C E) (rows to : Rows) (old mid new : Desk) (has_failed : Bool)
      → (done : AreDone gate rings readings device told board (lines_for board most) workers slot after) → AllZip HasLine (lines_for board most) workers → PackerIsReady readings told board slot
      → after ≡ fewer ++ Packer one ∷ []
      → TakesBell (rings one.bell) old mid → PutsDoors (numbers_of fewer) (gates_of gate fewer) mid new → has_failed ≡ any (map (λ tally. tally.door_failed) (tallies_of fewer))
      → to ≡ with_passes after rows → length rows ≡ length (lines_for board most) + 1
      → HaveOwn (length rows) (workers ++ Packer slot ∷ []) → HaveOwn (length rows) after → ((last : PackSlot B C E) → last ≡ one → All IsSome last.targets.items) → HasPaged board.nodes (pagers_of workers) (pagers_of fewer)
      → WorkToTheEnd told board (lines_for board most) (gates_of gate workers) (rings slot.bell) (with_passes (workers ++ Packer slot ∷ []) rows) to (targets_of device slot done.last) old new has_failed
  ends_work most workers slot after fewer one rows to old mid new has_failed done each ready parts bell doors failed all count own own_after there paged =
      let lines : List Line = lines_for board most in
      let same = left_front lines workers slot after fewer one done parts in
      let still = still_lines gate rings readings device told board lines workers slot after done each in
      let end : List (Worker R B C E) = done.front ++ Packer done.last ∷ [] in
      record {
        gates_after = gates_of gate done.front;
        rings_after = rings done.last.bell;
        tallies = tallies_of done.front;
        pagers = pagers_of workers;
        pagers_after = pagers_of done.front;
        paged = subst (λ (l : List (Worker R B C E)). HasPaged board.nodes (pagers_of workers) (pagers_of l)) same.0 paged;
        works = subst (λ (l : Rows). WorkAll told board lines (gates_of gate workers) (gates_of gate done.front) (rings slot.bell) (rings done.last.bell)
            (with_passes (workers ++ Packer slot ∷ []) rows) l (pagers_of workers) (pagers_of done.front) (targets_of device slot done.last) (tallies_of done.front)) (sym (all ∙ ap (λ (l : List (Worker R B C E)). with_passes l rows) done.is))
            (all_worked gate rings readings device told board most workers slot after rows done each ready count own
            (subst (λ (l : List (Worker R B C E)). HaveOwn (length rows) l) done.is own_after) (there done.last (sym same.1)));
        mid = mid;
        bell = subst (λ (p : PackSlot B C E). TakesBell (rings p.bell) old mid) same.1 bell;
        doors = subst (λ (l : List ℕ). PutsDoors l (gates_of gate done.front) mid new) (numbers_are lines done.front still)
            (subst (λ (l : List (Worker R B C E)). PutsDoors (numbers_of l) (gates_of gate l) mid new) same.0 doors);
        failed = failed ∙ ap (λ (l : List (Worker R B C E)). any (map (λ (t : Tally). t.door_failed) (tallies_of l))) same.0;
      }
