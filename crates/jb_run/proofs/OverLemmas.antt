-- What a run over the areas of a board comes to: each goes on from its opening to one history of all of its nodes.
use Rattle.std.proofs.Common.{◌≡◌, ℕ, zero, suc, ◌<◌, ◌≤◌, Bool, true, false, ◌||◌, List, [], ◌∷◌, ◌++◌, All, length, Option, Some, None, refl, sym, ap, subst, ◌∙◌, append_assoc, arith}
use Rattle.std.specs.Prelude.{slice_index_or}
use Rattle.std.specs.List.{fold}
use Rattle.std.specs.Option.{ForSome, option_map}
use Rattle.std.proofs.lemmas.List.{length-map}
use Rattle.jb_bytes.specs.Fault.{Rose}
use Rattle.jb_conf.specs.declared.board.Board.{Board}
use Rattle.jb_conf.specs.declared.board.BoardArea.{BoardArea}
use Rattle.jb_disk.specs.Device.{Device}
use Rattle.jb_disk.specs.Silent.{silent_device}
use Rattle.jb_host.specs.Desk.{Desk, Disks, HostCall, and_call, asked_settings}
use Rattle.jb_shared.specs.Closing.{known_by}
use Rattle.jb_shared.specs.Passes.{Known, PassView}
use Rattle.jb_shared.specs.declared.opening.Opening.{Opening}
use Rattle.jb_turn.specs.Rows.{Has}
use Rattle.jb_run.specs.All.{ClosesAll, EndsAt, OpenAs, any}
use Rattle.jb_run.specs.Begins.{HasBoard}
use Rattle.jb_run.specs.Desks.{BasePlace, HandsOut, PutsBack, Stand, asked_for, disk_faults, place_of, places_of, with_places_out}
use Rattle.jb_run.specs.Over.{EndAll, EndsFrom, OneFailed, OverAreas}
use Rattle.jb_run.specs.Workers.{Rows}
use Rattle.jb_run.proofs.Counting.{one_disk_failed}
use Rattle.jb_run.proofs.Lists.{one_of}
use Rattle.jb_run.proofs.DeskLemmas.{IsElsewhere}
use Rattle.jb_run.proofs.TargetPlaces.{put_behind}
use Rattle.jb_run.proofs.Starts.{KeepStarts}
use Rattle.jb_run.proofs.WholeLemmas.{nobody}

-- all still are of their nodes and go on from their openings
abbrev pub AllKeepStarts : Rows → Rows → Type 0
AllKeepStarts from to = (n : ℕ) → n < length from → KeepStarts (slice_index_or from n []) (slice_index_or to n [])

-- the calls of the host, one part behind the other
calls_together : (first : HostCall) (areas more : List HostCall) (calls : Option (List HostCall))
    → option_map (λ earlier. earlier ++ more) (option_map (λ earlier. earlier ++ areas) (and_call first calls)) ≡ option_map (λ earlier. earlier ++ first ∷ areas ++ more) calls
calls_together first areas more None = refl
calls_together first areas more (Some earlier) = ap (λ (all : List HostCall). Some (all ++ more)) (append_assoc earlier (first ∷ []) areas)

-- one bit that is set
set_after : (bits : List Bool) → fold (λ so_far bit. so_far || bit) true bits ≡ true
set_after [] = refl
set_after (bit ∷ bits) = set_after bits

pub one_is_set : (bits : List Bool) → any bits ≡ true → (k : ℕ) × (k < length bits) × ((default : Bool) → slice_index_or bits k default ≡ true)
one_is_set [] is = absurd (let no : ⊥ = cc in no)
one_is_set (true ∷ bits) is = (zero, omega arith, λ _. refl)
one_is_set (false ∷ bits) is =
    let later = one_is_set bits is in
    (suc later.0, omega (arith, later.1), later.2)

-- the first of the passes
some_known : (passes : List PassView) → 0 < length passes → (known : Known) × Has (known_by passes) known × (known ≡ (slice_index_or passes 0 nobody).known)
some_known [] some = absurd (omega (arith, some))
some_known (pass ∷ passes) some = (pass.known, (zero, refl), refl)

same_opening : (one other : Opening) → Some one ≡ Some other → one ≡ other
same_opening one other is = cc

module _ (areas : List BoardArea) (befores : List Device) (openings : List Opening) (from to : Rows) (opens : OpenAs areas befores openings from) where
  -- an area goes on from its opening
  ends_from : (k : ℕ) (opening : Opening) (doubt : Bool) (after : Device) → 0 < length from → length to ≡ length from → AllKeepStarts from to → k < length areas → EndsAt to k doubt after
      → EndsFrom to k (slice_index_or openings k opening) doubt after
  ends_from k opening doubt after some many keep within ends =
      let passes = ends.0 in
      let column = ends.1 in
      let one = some_known passes (omega (arith, some, many, column.count)) in
      let starts = keep 0 some k nobody in
      let known : one.0.opening ≡ Some (slice_index_or openings k opening)
      = ap (λ (w : Known). w.opening) (one.2 ∙ ap (λ (p : PassView). p.known) (column.each 0 nobody (omega (arith, some, many)))) ∙ starts.opening
      ∙ ap (λ (w : Known). w.opening) (opens.fresh 0 k nobody opening some within) in
      record {
        passes = passes;
        column = column;
        ends = ends.2;
        from = same_opening ends.2.opening (slice_index_or openings k opening) (sym (ends.2.each one.0 one.1).from ∙ known);
      }

  -- one of the areas is in doubt, and so its disk failed
  one_has_failed : (afters : List Device) (doubts : List Bool) → length doubts ≡ length areas → EndAll openings to doubts afters → any doubts ≡ true → OneFailed areas befores afters
  one_has_failed afters doubts count ends doubtful =
      let one = one_is_set doubts doubtful in
      let within : one.0 < length areas = omega (arith, one.1, count) in
      let low : one.0 < length openings = omega (arith, within, opens.count) in
      let area = one_of areas one.0 within in
      let opening = one_of openings one.0 low in (
        one.0,
        within,
        λ before after.
            let ended = ends one.0 opening true after low in
            let same : ended.ends.opening.faults ≡ (slice_index_or befores one.0 before).faults
            = ap (λ (o : Opening). o.faults) ended.from ∙ (opens.opens one.0 area before opening within).faults in
            subst (λ (n : ℕ). Rose n (slice_index_or afters one.0 after).faults) same (ended.ends.leaves.cause (one.2 true)),
      )

-- which is among those that came back
a_disk_failed : (areas : List BoardArea) (befores afters : List Device) → length afters ≡ length areas → OneFailed areas befores afters → 0 < disk_faults afters
a_disk_failed areas befores afters many (k, within, rose) =
    let absent : Device = silent_device 0 in
    one_disk_failed afters k (slice_index_or befores k absent).faults absent (omega (arith, within, many)) (rose absent absent)

-- from the settings to the end, where what comes between the opening and the closing of the areas leaves the disks out, and other disks were
-- handed out behind those of the areas, and are put back behind them
pub over_areas : (path : List ℕ) (board : Board) (asked : List HostCall) (old read opened targeted used closed new : Desk) (befores : List Device) (openings : List Opening) (from to : Rows)
    (others : List BasePlace) (firsts left : List Device) (is_doubtful : Bool)
    → HasBoard path board old read → HandsOut (places_of board.areas) befores read opened → OpenAs board.areas befores openings from → 0 < length from → length to ≡ length from → AllKeepStarts from to
    → HandsOut others firsts opened targeted → ((k : ℕ) (place : BasePlace) → k < length others → All (IsElsewhere (slice_index_or others k place)) (places_of board.areas))
    → used.disks ≡ targeted.disks → used.calls ≡ option_map (λ earlier. earlier ++ asked) opened.calls → opened.failed ≤ used.failed
    → (closes : ClosesAll board.areas to used closed is_doubtful) → PutsBack others left closed new → OverAreas path board asked from to closes.afters others left is_doubtful old new
over_areas path board asked old read opened targeted used closed new befores openings from to others firsts left is_doubtful has out opens some many keep handed apart same_disks calls later closes puts =
    let gives = has.gives in
    let back = closes.back in
    let places : List BasePlace = places_of board.areas in
    let many_places : length places ≡ length board.areas = length-map board.areas place_of in
    let ends : EndAll openings to closes.doubts closes.afters = λ k opening doubt after within.
    let low : k < length board.areas = omega (arith, within, opens.count) in
    ends_from board.areas befores openings from to opens k opening (slice_index_or closes.doubts k doubt) (slice_index_or closes.afters k after) some many keep low (closes.ends k doubt after low) in
    let cause : is_doubtful ≡ true → OneFailed board.areas befores closes.afters
    = λ doubtful. one_has_failed board.areas befores openings from to opens closes.afters closes.doubts closes.count ends (sym closes.doubt ∙ doubtful) in
    record {
      bytes = has.bytes;
      was = gives.was;
      reads = has.reads;
      calls =
          puts.calls ∙ back.calls ∙ calls ∙ ap (option_map (λ (earlier : List HostCall). earlier ++ asked))
          (out.calls ∙ ap (option_map (λ (earlier : List HostCall). earlier ++ asked_for places)) gives.calls)
          ∙ calls_together (asked_settings path) (asked_for places) asked old.calls;
      befores = befores;
      were = subst (λ (d : Option Disks). ForSome d (Stand places befores)) gives.disks out.were;
      openings = openings;
      opens = opens;
      disks = λ disks told.
          let first : Disks = with_places_out places disks in
          let gone : used.disks ≡ Some (with_places_out others first)
          = same_disks ∙ handed.disks ∙ ap (option_map (with_places_out others)) (out.disks ∙ ap (option_map (with_places_out places)) (gives.disks ∙ told)) in
          put_behind places others closes.afters left used.disks closed.disks new.disks disks gone back.disks puts.disks back.count puts.count apart;
      doubts = closes.doubts;
      ends = ends;
      count = record { were = out.count ∙ many_places; are = back.count ∙ many_places; told = closes.count };
      doubt = closes.doubt;
      cause = cause;
      failing = λ doubtful.
          omega (arith, back.failed.rose (a_disk_failed board.areas befores closes.afters (back.count ∙ many_places) (cause doubtful)), puts.failed.later, later, out.rest.failed, gives.rest.failed);
      no_fewer = omega (arith, puts.failed.later, back.failed.later, later, out.rest.failed, gives.rest.failed);
    }
