-- What one session comes to: the host, the passes and the disks from the settings to the end.
use Rattle.std.specs.declared.alloc.Global.{Global}
use Rattle.std.proofs.Common.{Vec, ◌≡◌, ℕ, zero, suc, ◌<◌, Bool, List, [], ◌∷◌, length, set, Option, Some, refl, sym, ap, subst, ◌∙◌, arith}
use Rattle.std.specs.Prelude.{slice_index_or}
use Rattle.std.specs.Vec.{with_items}
use Rattle.std.proofs.lemmas.List.{length-set, with_items_is}
use Rattle.jb_run.specs.All.{AreShared, ClosesAll, OpenAs, OpensAll, passes_at}
use Rattle.jb_run.specs.Begins.{HasBoard}
use Rattle.jb_run.specs.Desks.{disk_faults}
use Rattle.jb_run.specs.declared.opening.SharedAreas.{SharedAreas}
use Rattle.jb_run.specs.Rows.{lists_of}
use Rattle.jb_run.proofs.Callers.{only_list, still_whole}
use Rattle.jb_run.proofs.RowLemmas.{length-lists_of, list_at}
use Rattle.jb_conf.specs.declared.board.Board.{Board}
use Rattle.jb_host.proofs.Callers.{keeps_more}
use Rattle.jb_host.specs.Desk.{CountsFailed, Desk}
use Rattle.jb_host.specs.Wire.{Wire}
use Rattle.jb_page.specs.Pagers.{PagerView}
use Rattle.jb_session.specs.Exchanges.{AreOf, node_with}
use Rattle.jb_session.specs.Served.{Served}
use Rattle.jb_session.specs.declared.end.SessionEnd.{SessionEnd}
use Rattle.jb_shared.specs.Areas.{IsOf}
use Rattle.jb_shared.specs.Passes.{PassView}
use Rattle.jb_shared.specs.declared.shared.SharedArea.{SharedArea}
use Rattle.jb_run.specs.Local.{ServesOne}
use Rattle.jb_run.specs.NodePages.{HasPaged}
use Rattle.jb_run.proofs.DeskLemmas.{hands_out_none, puts_back_none}
use Rattle.jb_run.proofs.Doors.{no_call}
use Rattle.jb_run.proofs.Keeping.{keeps_around}
use Rattle.jb_run.proofs.OverLemmas.{AllKeepStarts, over_areas}
use Rattle.jb_run.proofs.Passing.{KeepsStart, keeps_starts}
use Rattle.jb_run.proofs.Starts.{KeepStarts}

-- the passes of one node, through a session
keep_one : (from to : List PassView) → KeepStarts from to → AllKeepStarts (from ∷ []) (to ∷ [])
keep_one from to keep zero within = keep
keep_one from to keep (suc n) within = absurd (omega (arith, within))

-- the passes of the one node of areas that are whole
pub are_of : {D : Type 0} (shared : SharedAreas D) (count : ℕ) → AreShared shared 1 count → AreOf shared.areas.items (passes_at shared 0)
are_of shared count whole = record {
  count = whole.areas ∙ sym (whole.passes 0 (omega arith));
  each = λ k area pass within. whole.each 0 k area pass (omega arith) (omega (arith, within, whole.areas));
}

-- the list of the first node is that of its vector
pub first_of : {D : Type 0} (shared : SharedAreas D) (count : ℕ) (node : Vec PassView Global) → AreShared shared 1 count → node ≡ slice_index_or shared.nodes.items 0 node
    → passes_at shared 0 ≡ node.items
first_of shared count node whole found = list_at shared.nodes.items 0 node (omega (arith, whole.lists)) ∙ ap (λ (v : Vec PassView Global). v.items) (sym found)

-- a vector that is put in place of the first
first_set : (vectors : List (Vec PassView Global)) (node : Vec PassView Global) → 0 < length vectors → slice_index_or (lists_of (set vectors 0 node)) 0 [] ≡ node.items
first_set [] node some = absurd (omega arith)
first_set (vector ∷ vectors) node some = refl

-- the passes of the first node after they were used
pub first_after : {D : Type 0} (shared : SharedAreas D) (count : ℕ) (node : Vec PassView Global) (to : List PassView) (now : List (Vec PassView Global))
    → AreShared shared 1 count → node ≡ slice_index_or shared.nodes.items 0 node → length to ≡ count → now ≡ set shared.nodes.items 0 (with_items node to)
    → slice_index_or (lists_of now) 0 [] ≡ to
first_after shared count node to now whole found long is =
    let as_long : length to ≡ length node.items = long ∙ sym (whole.passes 0 (omega arith)) ∙ ap length (first_of shared count node whole found) in
    ap (λ (list : List (Vec PassView Global)). slice_index_or (lists_of list) 0 []) is ∙ first_set shared.nodes.items (with_items node to) (omega (arith, whole.lists))
    ∙ with_items_is node to (omega (arith, as_long, node.ok.0))

-- after a session the areas are still whole
pub whole_after : {D : Type 0} (shared : SharedAreas D) (count : ℕ) (node : Vec PassView Global) (areas : List (SharedArea D)) (from to : List PassView) (now : Vec (Vec PassView Global) Global)
    → AreShared shared 1 count → node ≡ slice_index_or shared.nodes.items 0 node → areas ≡ shared.areas.items → from ≡ node.items
    → now.items ≡ set shared.nodes.items 0 (with_items node to)
    → AreOf areas to → ((k : ℕ) (pass : PassView) → KeepsStart (slice_index_or from k pass).known (slice_index_or to k pass).known)
    → AreShared (record shared { nodes = now }) 1 count
whole_after {D} shared count node areas from to now whole found same_areas same_passes is ours keeps =
    let of_them : AreOf shared.areas.items to = subst (λ (list : List (SharedArea D)). AreOf list to) same_areas ours in
    let long : length to ≡ count = sym of_them.count ∙ whole.areas in
    let after : slice_index_or (lists_of now.items) 0 [] ≡ to = first_after shared count node to now.items whole found long is in
    let before : passes_at shared 0 ≡ from = first_of shared count node whole found ∙ sym same_passes in
    still_whole shared now 1 count whole
    (ap length is ∙ length-set shared.nodes.items 0 (with_items node to) ∙ whole.lists)
    (λ n here. subst (λ (m : ℕ). length (slice_index_or (lists_of now.items) m []) ≡ count) (omega (arith, here)) (ap length after ∙ long))
    (λ n k area pass here within.
    subst (λ (m : ℕ). IsOf (slice_index_or shared.areas.items k area) (slice_index_or (slice_index_or (lists_of now.items) m []) k pass)) (omega (arith, here))
    (subst (λ (list : List PassView). IsOf (slice_index_or shared.areas.items k area) (slice_index_or list k pass)) (sym after)
    (of_them.each k area pass (omega (arith, within, whole.areas)))))
    (λ n k pass here within.
    subst (λ (m : ℕ). (slice_index_or (slice_index_or (lists_of now.items) m []) k pass).known.node ≡ (slice_index_or (passes_at shared m) k pass).known.node) (omega (arith, here))
    (ap (λ (list : List PassView). (slice_index_or list k pass).known.node) after ∙ (keeps k pass).node
    ∙ ap (λ (list : List PassView). (slice_index_or list k pass).known.node) (sym before)))

-- a session between the opening and the closing of the areas
pub serves_one : {D : Type 0} (path : List ℕ) (board : Board) (old read opened served new : Desk) (session : SessionEnd) (is_doubtful : Bool)
    (shared : SharedAreas D) (to : List PassView) (pager pager_after : PagerView) (others : List PagerView) (left : Option (List ℕ)) (console console_after : Wire)
    → HasBoard path board old read → OpensAll board.areas 1 read opened shared
    → opened.console ≡ Some console → served ≡ record opened { console = Some console_after }
    → Served board console (node_with opened.readings (passes_at shared 0) (Some pager)) session console_after (node_with left to (Some pager_after)) → length to ≡ length board.areas
    → HasPaged board.nodes (pager ∷ others) (pager_after ∷ others) → ClosesAll board.areas (to ∷ []) served new is_doubtful → ServesOne path old new (record { session = session; is_doubtful = is_doubtful })
serves_one path board old read opened served new session is_doubtful shared to pager pager_after others left console console_after has opens out back serves count paged closes =
    let gives = has.gives in
    let first = opens.out in
    let last = closes.back in
    let from : List PassView = passes_at shared 0 in
    let only : lists_of shared.nodes.items ≡ from ∷ [] = only_list (lists_of shared.nodes.items) (length-lists_of shared.nodes.items ∙ opens.whole.lists) in
    let start : OpenAs board.areas opens.befores opens.openings (from ∷ []) = subst (OpenAs board.areas opens.befores opens.openings) only opens.start in
    let before : served.failed ≡ old.failed = ap (λ (d : Desk). d.failed) back ∙ first.rest.failed ∙ gives.rest.failed in
    record {
      board = board;
      from = from;
      to = to;
      afters = closes.afters;
      over = over_areas path board [] old read opened opened served new new opens.befores opens.openings (from ∷ []) (to ∷ []) [] [] [] is_doubtful has first start (omega arith) refl
          (keep_one from to (keeps_starts board console console_after (node_with opened.readings from (Some pager)) (node_with left to (Some pager_after)) session serves))
          (hands_out_none opened) (λ k place within. absurd (omega (arith, within))) (ap (λ (d : Desk). d.disks) back)
          (ap (λ (d : Desk). d.calls) back ∙ no_call opened.calls) (omega (arith, ap (λ (d : Desk). d.failed) back)) closes (puts_back_none new);
      started = opens.whole.passes 0 (omega arith);
      ended = count;
      pager = pager;
      pager_after = pager_after;
      others = others;
      paged = paged;
      console = console;
      console_was = sym gives.rest.console ∙ sym first.rest.console ∙ out;
      console_after = console_after;
      console_back = last.rest.console ∙ ap (λ (d : Desk). d.console) back;
      left = left;
      served = subst (λ (r : Option (List ℕ)). Served board console (node_with r from (Some pager)) session console_after (node_with left to (Some pager_after))) (first.rest.readings ∙ gives.rest.readings) serves;
      counted = subst (λ (n : ℕ). CountsFailed (disk_faults closes.afters) n new.failed) before last.failed;
      rest = keeps_around old opened served new (Some console_after) (keeps_more old read opened gives.rest first.rest) back last.rest;
    }
