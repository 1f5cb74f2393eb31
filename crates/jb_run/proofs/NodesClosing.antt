-- What is left of the areas and of the doors when all have worked.
use Rattle.std.specs.declared.alloc.Global.{Global}
use Rattle.std.proofs.Common.{Vec, ◌≡◌, ℕ, ◌<◌, ◌≤◌, Bool, true, false, List, [], ◌∷◌, length, refl, sym, ap, subst, ◌∙◌, arith}
use Rattle.std.specs.Prelude.{Option, None, map, slice_index_or}
use Rattle.std.proofs.lemmas.List.{get_or-map, length-map}
use Rattle.std.proofs.lemmas.List.Sums.{get_or-le-sum_by}
use Rattle.jb_run.proofs.Callers.{still_whole}
use Rattle.jb_run.proofs.RowLemmas.{length-lists_of}
use Rattle.jb_run.specs.All.{AreOpenable, AreShared, any}
use Rattle.jb_run.specs.Rows.{lists_of}
use Rattle.jb_run.specs.declared.opening.SharedAreas.{SharedAreas}
use Rattle.jb_bytes.specs.Fault.{Rose}
use Rattle.jb_limits.specs.declared.limits.TheConstants.{MOST_ADDRESS_BYTES}
use Rattle.jb_conf.specs.declared.board.Board.{Board}
use Rattle.jb_run.proofs.OverLemmas.{AllKeepStarts, one_is_set}
use Rattle.jb_host.specs.Gate.{Gate}
use Rattle.jb_host.specs.Real.{silent_gate}
use Rattle.jb_host.specs.Rings.{Rings}
use Rattle.jb_run.proofs.Lists.{one_of}
use Rattle.jb_run.specs.Lines.{Line, door_faults}
use Rattle.jb_page.specs.Pagers.{PagerView}
use Rattle.jb_server.specs.Sessions.{EndsServing, ends_of}
use Rattle.jb_server.specs.Tallies.{and_failed, counted_all, no_tally, tallied}
use Rattle.jb_server.specs.declared.tally.Tally.{Tally}
use Rattle.jb_session.specs.declared.end.SessionEnd.{SessionEnd}
use Rattle.jb_session.specs.declared.end.SessionEnd.TheVariants.{Quit, Hangup, LoginRefused, LinkFault, Spent, OutOfMemory}
use Rattle.jb_state.proofs.LinkLaws.{true_not_false}
use Rattle.jb_shared.specs.Passes.{PassView}
use Rattle.jb_run.specs.Backed.{Targets}
use Rattle.jb_run.specs.Workers.{Rows}
use Rattle.jb_run.specs.Working.{AreAllOf, WorkAll}

-- the areas are whole when all have worked
pub whole_after : {D : Type 0} (shared : SharedAreas D) (now : Vec (Vec PassView Global) Global) (nodes count : ℕ) → AreShared shared nodes count
    → length (lists_of now.items) ≡ nodes → AreAllOf shared.areas.items (lists_of now.items) → AllKeepStarts (lists_of shared.nodes.items) (lists_of now.items)
    → AreShared (record shared { nodes = now }) nodes count
whole_after shared now nodes count whole many ours keep =
    still_whole shared now nodes count whole (sym (length-lists_of now.items) ∙ many)
    (λ n here. sym (ours n (omega (arith, here, many))).count ∙ whole.areas)
    (λ n k area pass here within. (ours n (omega (arith, here, many))).each k area pass (omega (arith, within, whole.areas)))
    (λ n k pass here within. (keep n (omega (arith, here, whole.lists, length-lists_of shared.nodes.items)) k pass).node)

-- each node has its passes of areas that are whole
pub all_of_whole : {D : Type 0} (shared : SharedAreas D) (nodes count : ℕ) → AreShared shared nodes count → AreAllOf shared.areas.items (lists_of shared.nodes.items)
all_of_whole shared nodes count whole = λ n within.
    let here : n < nodes = omega (arith, within, length-lists_of shared.nodes.items, whole.lists) in
    record {
      count = whole.areas ∙ sym (whole.passes n here);
      each = λ k area pass low. whole.each n k area pass here (omega (arith, low, whole.areas));
    }

-- areas are whole where all have their passes back
pub whole_same : {D : Type 0} (shared : SharedAreas D) (now : Vec (Vec PassView Global) Global) (nodes count : ℕ) → AreShared shared nodes count
    → lists_of now.items ≡ lists_of shared.nodes.items → AreShared (record shared { nodes = now }) nodes count
whole_same shared now nodes count whole same =
    whole_after shared now nodes count whole (ap length same ∙ length-lists_of shared.nodes.items ∙ whole.lists)
    (subst (AreAllOf shared.areas.items) (sym same) (all_of_whole shared nodes count whole))
    (subst (AllKeepStarts (lists_of shared.nodes.items)) (sym same) (λ n within k pass. record { node = refl; opening = refl }))

-- the areas of a board can be opened
pub are_openable : (board : Board) → AreOpenable board.areas
are_openable board = let areas = board.in_range.area_values in record {
  few = board.in_range.area_count.1;
  slots = λ k area within. (areas.each k area within).slots;
  address = λ k area within.
      subst (λ (a : List ℕ). length a ≤ MOST_ADDRESS_BYTES) (sym (areas.each k area within).under) (omega (arith, board.in_range.address_count.1));
  places = areas.places;
}

-- a session that is tallied says nothing of the door
door_tallied : (tally : Tally) (end : SessionEnd) → (tallied tally end).door_failed ≡ tally.door_failed
door_tallied tally Quit = refl
door_tallied tally Hangup = refl
door_tallied tally LoginRefused = refl
door_tallied tally LinkFault = refl
door_tallied tally Spent = refl
door_tallied tally OutOfMemory = refl

doors_tallied : (tally : Tally) (ends : List SessionEnd) → (counted_all tally ends).door_failed ≡ tally.door_failed
doors_tallied tally [] = refl
doors_tallied tally (end ∷ ends) = doors_tallied (tallied tally end) ends ∙ door_tallied tally end

-- who tallies a door has seen it fail
door_rose : (has_failed : Bool) (old new : Gate) (tally after : Tally) → tally.door_failed ≡ false → after ≡ and_failed has_failed tally → after.door_failed ≡ true
    → EndsServing has_failed old new → Rose old.faults new.faults
door_rose true old new tally after none says is ends = ends.0
door_rose false old new tally after none says is ends = absurd (true_not_false (sym is ∙ ap (λ (t : Tally). t.door_failed) says ∙ none))

-- one of the doors has failed, where one with a door says so
pub a_door_failed : (readings : Option (List ℕ)) (board : Board) (lines : List Line) (gates gates_after : List Gate) (rings rings_after : Rings) (from to : Rows) (pagers pagers_after : List PagerView) (targets : Targets) (tallies : List Tally)
    → WorkAll readings board lines gates gates_after rings rings_after from to pagers pagers_after targets tallies → any (map (λ tally. tally.door_failed) tallies) ≡ true → 0 < door_faults gates_after
a_door_failed readings board lines gates gates_after rings rings_after from to pagers pagers_after targets tallies works failed =
    let absent : Gate = silent_gate 0 false None in
    let bit : Tally → Bool = λ tally. tally.door_failed in
    let one = one_is_set (map bit tallies) failed in
    let low : one.0 < length tallies = omega (arith, one.1, length-map tallies bit) in
    let within : one.0 < length lines = omega (arith, low, works.counts) in
    let served = (works.served one.0 (one_of lines one.0 within) absent absent no_tally within).1 in
    let is : (slice_index_or tallies one.0 no_tally).door_failed ≡ true = sym (get_or-map bit tallies one.0 no_tally true low) ∙ one.2 true in
    let rose : Rose (slice_index_or gates one.0 absent).faults (slice_index_or gates_after one.0 absent).faults
    = door_rose served.has_failed (slice_index_or gates one.0 absent) (slice_index_or gates_after one.0 absent) (counted_all no_tally (ends_of served.sessions))
    (slice_index_or tallies one.0 no_tally) (doors_tallied no_tally (ends_of served.sessions)) served.tally is served.stops in
    omega (arith, rose, get_or-le-sum_by (λ (g : Gate). g.faults) gates_after one.0 absent (omega (arith, within, works.doors_after)))
