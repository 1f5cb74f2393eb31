-- Shared areas with one more behind them, and without the last.
use Rattle.std.specs.declared.alloc.Global.{Global}
use Rattle.std.proofs.Common.{Vec, ◌≡◌, ℕ, ◌+◌, ◌<◌, ◌≤◌, List, [], ◌∷◌, ◌++◌, None, length, All, refl, sym, ap, subst, ◌∙◌, arith, vec_capacity}
use Rattle.std.specs.Prelude.{slice_index_or}
use Rattle.std.proofs.lemmas.List.{get_or_default, length_push}
use Rattle.std.proofs.lemmas.List.Elements.{All-push}
use Rattle.jb_shared.specs.Areas.{IsOf, passes_of}
use Rattle.jb_shared.specs.Passes.{PassView}
use Rattle.jb_shared.specs.declared.shared.SharedArea.{SharedArea}
use Rattle.jb_run.specs.All.{AreShared, passes_at}
use Rattle.jb_run.specs.Rows.{AreRoomy, HaveRoom, IsDealt, lists_of}
use Rattle.jb_run.specs.declared.opening.SharedAreas.{SharedAreas}
use Rattle.jb_run.proofs.EachLemmas.{EachPair, all_end, all_most, each_pair_end, each_pair_last, each_pair_most, one_of}
use Rattle.jb_run.proofs.RowLemmas.{dealt_length, length-lists_of, list_at}

-- a pass of no area
abbrev pub nobody : PassView
nobody = record { area = None; known = record { node = 0; opening = None; front = []; mine = []; refused = []; shown = []; looks = []; barred = 0 } }

-- the pass is of this node, counted from 0
abbrev pub IsAt : ℕ → PassView → Type 0
IsAt n pass = pass.known.node ≡ n + 1

-- room for so many passes
abbrev IsRoom : ℕ → Vec PassView Global → Type 0
IsRoom nodes room = (room.items ≡ []) × (nodes ≤ vec_capacity room)

module _ {D : Type 0} where
  -- an area with its passes and its room stands behind those of the others
  pub record IsBehind (more fewer : SharedAreas D) (area : SharedArea D) (row : List PassView) (room : Vec PassView Global) : Type 0 where
    pub areas : more.areas.items ≡ fewer.areas.items ++ area ∷ []
    pub passes : IsDealt (lists_of fewer.nodes.items) row (lists_of more.nodes.items)
    pub rooms : more.rooms.items ≡ fewer.rooms.items ++ room ∷ []

  -- the area is shared with so many nodes, whose passes these are
  pub record IsSharedBy (nodes : ℕ) (area : SharedArea D) (row : List PassView) : Type 0 where
    pub count : length row ≡ nodes
    pub ours : All (IsOf area) row
    pub numbers : (n : ℕ) → n < nodes → IsAt n (slice_index_or row n nobody)
    pub all : passes_of area ≡ nodes

  -- each shared area has its pass of this node
  ours_of : (shared : SharedAreas D) (nodes count n : ℕ) → n < nodes → AreShared shared nodes count → EachPair IsOf shared.areas.items (passes_at shared n)
  ours_of shared nodes count n here whole = λ k area pass within. whole.each n k area pass here (omega (arith, within, whole.areas))

  -- which has its number
  numbers_of : (shared : SharedAreas D) (nodes count n : ℕ) → n < nodes → AreShared shared nodes count → All (IsAt n) (passes_at shared n)
  numbers_of shared nodes count n here whole = λ k pass within. whole.numbers n k pass here (omega (arith, within, whole.passes n here))

  -- each is shared with all nodes
  all_of : (shared : SharedAreas D) (nodes count : ℕ) → AreShared shared nodes count → All (λ (area : SharedArea D). passes_of area ≡ nodes) shared.areas.items
  all_of shared nodes count whole = λ k area within. whole.all k area (omega (arith, within, whole.areas))

  -- and there is room to close it
  rooms_of : (shared : SharedAreas D) (nodes count : ℕ) → AreShared shared nodes count → All (IsRoom nodes) shared.rooms.items
  rooms_of shared nodes count whole = λ k room within. (whole.empty k room (omega (arith, within, whole.rooms)), whole.fits k room (omega (arith, within, whole.rooms)))

  -- areas are whole by these
  whole_by : (shared : SharedAreas D) (nodes count : ℕ) → length shared.areas.items ≡ count → length shared.nodes.items ≡ nodes → length shared.rooms.items ≡ count
      → ((n : ℕ) → n < nodes → length (passes_at shared n) ≡ count) → ((n : ℕ) → n < nodes → EachPair IsOf shared.areas.items (passes_at shared n))
      → ((n : ℕ) → n < nodes → All (IsAt n) (passes_at shared n)) → All (λ (area : SharedArea D). passes_of area ≡ nodes) shared.areas.items → All (IsRoom nodes) shared.rooms.items
      → AreShared shared nodes count
  whole_by shared nodes count areas lists rooms passes ours numbers all room = record {
    areas = areas;
    lists = lists;
    rooms = rooms;
    passes = passes;
    each = λ n k area pass here within. ours n here k area pass (omega (arith, within, areas));
    numbers = λ n k pass here within. numbers n here k pass (omega (arith, within, passes n here));
    all = λ k area within. all k area (omega (arith, within, areas));
    empty = λ k one within. (room k one (omega (arith, within, rooms))).0;
    fits = λ k one within. (room k one (omega (arith, within, rooms))).1;
  }

  -- the pass of a node stands behind its others
  pub behind_at : (more fewer : SharedAreas D) (area : SharedArea D) (row : List PassView) (room : Vec PassView Global) (n : ℕ) → n < length fewer.nodes.items → IsBehind more fewer area row room
      → passes_at more n ≡ passes_at fewer n ++ slice_index_or row n nobody ∷ []
  behind_at more fewer area row room n here behind = behind.passes.each n nobody (omega (arith, here, length-lists_of fewer.nodes.items))

  -- there are as many nodes
  pub nodes_same : (more fewer : SharedAreas D) (area : SharedArea D) (row : List PassView) (room : Vec PassView Global) → IsBehind more fewer area row room
      → length more.nodes.items ≡ length fewer.nodes.items
  nodes_same more fewer area row room behind = sym (length-lists_of more.nodes.items) ∙ behind.passes.lists ∙ length-lists_of fewer.nodes.items

  -- one area more
  pub whole_more : (more fewer : SharedAreas D) (area : SharedArea D) (row : List PassView) (room : Vec PassView Global) (nodes count : ℕ)
      → IsBehind more fewer area row room → IsSharedBy nodes area row → room.items ≡ [] → nodes ≤ vec_capacity room → AreShared fewer nodes count → AreShared more nodes (count + 1)
  whole_more more fewer area row room nodes count behind by empty fits whole =
      let next : (n : ℕ) → n < nodes → passes_at more n ≡ passes_at fewer n ++ slice_index_or row n nobody ∷ []
      = λ n here. behind_at more fewer area row room n (omega (arith, here, whole.lists)) behind in
      whole_by more nodes (count + 1)
      (ap length behind.areas ∙ length_push fewer.areas.items area ∙ ap (λ (n : ℕ). n + 1) whole.areas)
      (nodes_same more fewer area row room behind ∙ whole.lists)
      (ap length behind.rooms ∙ length_push fewer.rooms.items room ∙ ap (λ (n : ℕ). n + 1) whole.rooms)
      (λ n here. ap length (next n here) ∙ length_push (passes_at fewer n) (slice_index_or row n nobody) ∙ ap (λ (m : ℕ). m + 1) (whole.passes n here))
      (λ n here.
      subst (λ (l : List (SharedArea D)). EachPair IsOf l (passes_at more n)) (sym behind.areas)
      (subst (λ (l : List PassView). EachPair IsOf (fewer.areas.items ++ area ∷ []) l) (sym (next n here))
      (each_pair_last IsOf fewer.areas.items area (passes_at fewer n) (slice_index_or row n nobody) (whole.passes n here ∙ sym whole.areas) (ours_of fewer nodes count n here whole)
      (by.ours n nobody (omega (arith, here, by.count))))))
      (λ n here. subst (All (IsAt n)) (sym (next n here)) (All-push (IsAt n) (passes_at fewer n) (slice_index_or row n nobody) (numbers_of fewer nodes count n here whole) (by.numbers n here)))
      (subst (All (λ (one : SharedArea D). passes_of one ≡ nodes)) (sym behind.areas)
      (All-push (λ (one : SharedArea D). passes_of one ≡ nodes) fewer.areas.items area (all_of fewer nodes count whole) by.all))
      (subst (All (IsRoom nodes)) (sym behind.rooms) (All-push (IsRoom nodes) fewer.rooms.items room (rooms_of fewer nodes count whole) (empty, fits)))

  -- a node has as many passes as there are areas
  pub passes_same : (more fewer : SharedAreas D) (area : SharedArea D) (row : List PassView) (room : Vec PassView Global) (nodes count n : ℕ) → n < nodes
      → IsBehind more fewer area row room → AreShared more nodes count → length (passes_at fewer n) ≡ length fewer.areas.items
  passes_same more fewer area row room nodes count n here behind whole =
      let in_fewer : n < length (lists_of fewer.nodes.items) = omega (arith, here, whole.lists, nodes_same more fewer area row room behind, length-lists_of fewer.nodes.items) in
      omega (arith, whole.areas, whole.passes n here, ap length behind.areas, length_push fewer.areas.items area, dealt_length (lists_of fewer.nodes.items) row (lists_of more.nodes.items) n in_fewer behind.passes)

  -- and as much room
  rooms_same : (more fewer : SharedAreas D) (area : SharedArea D) (row : List PassView) (room : Vec PassView Global) (nodes count : ℕ)
      → IsBehind more fewer area row room → AreShared more nodes count → length fewer.rooms.items ≡ length fewer.areas.items
  rooms_same more fewer area row room nodes count behind whole =
      omega (arith, whole.areas, whole.rooms, ap length behind.areas, ap length behind.rooms, length_push fewer.areas.items area, length_push fewer.rooms.items room)

  -- each of them has its pass of this node
  both_ours : (more fewer : SharedAreas D) (area : SharedArea D) (row : List PassView) (room : Vec PassView Global) (nodes count n : ℕ) → n < nodes
      → IsBehind more fewer area row room → AreShared more nodes count → EachPair IsOf (fewer.areas.items ++ area ∷ []) (passes_at fewer n ++ slice_index_or row n nobody ∷ [])
  both_ours more fewer area row room nodes count n here behind whole =
      subst (λ (l : List PassView). EachPair IsOf (fewer.areas.items ++ area ∷ []) l)
      (behind_at more fewer area row room n (omega (arith, here, whole.lists, nodes_same more fewer area row room behind)) behind)
      (subst (λ (l : List (SharedArea D)). EachPair IsOf l (passes_at more n)) behind.areas (ours_of more nodes count n here whole))

  -- which has its number
  both_numbers : (more fewer : SharedAreas D) (area : SharedArea D) (row : List PassView) (room : Vec PassView Global) (nodes count n : ℕ) → n < nodes
      → IsBehind more fewer area row room → AreShared more nodes count → All (IsAt n) (passes_at fewer n ++ slice_index_or row n nobody ∷ [])
  both_numbers more fewer area row room nodes count n here behind whole =
      subst (All (IsAt n)) (behind_at more fewer area row room n (omega (arith, here, whole.lists, nodes_same more fewer area row room behind)) behind)
      (numbers_of more nodes count n here whole)

  -- the last of them
  pub whole_last : (more fewer : SharedAreas D) (area : SharedArea D) (row : List PassView) (room : Vec PassView Global) (nodes count : ℕ)
      → IsBehind more fewer area row room → AreShared more nodes count → IsSharedBy nodes area row
  whole_last more fewer area row room nodes count behind whole =
      let same : length row ≡ nodes = behind.passes.count ∙ length-lists_of fewer.nodes.items ∙ sym (nodes_same more fewer area row room behind) ∙ whole.lists in
      record {
        count = same;
        ours = λ n one within.
            let here : n < nodes = omega (arith, within, same) in
            subst (IsOf area) (get_or_default row n nobody one within)
            (each_pair_end IsOf fewer.areas.items area (passes_at fewer n) (slice_index_or row n nobody) (passes_same more fewer area row room nodes count n here behind whole)
            (both_ours more fewer area row room nodes count n here behind whole));
        numbers = λ n here. all_end (IsAt n) (passes_at fewer n) (slice_index_or row n nobody) (both_numbers more fewer area row room nodes count n here behind whole);
        all = all_end (λ (one : SharedArea D). passes_of one ≡ nodes) fewer.areas.items area (subst (All (λ (one : SharedArea D). passes_of one ≡ nodes)) behind.areas (all_of more nodes count whole));
      }

  -- there is room for the passes of the last
  pub room_last : (more fewer : SharedAreas D) (room : Vec PassView Global) (nodes count : ℕ) → more.rooms.items ≡ fewer.rooms.items ++ room ∷ [] → AreShared more nodes count
      → (room.items ≡ []) × (nodes ≤ vec_capacity room)
  room_last more fewer room nodes count behind whole = all_end (IsRoom nodes) fewer.rooms.items room (subst (All (IsRoom nodes)) behind (rooms_of more nodes count whole))

  -- and those before it
  pub whole_less : (more fewer : SharedAreas D) (area : SharedArea D) (row : List PassView) (room : Vec PassView Global) (nodes count : ℕ)
      → IsBehind more fewer area row room → AreShared more nodes count → AreShared fewer nodes (length fewer.areas.items)
  whole_less more fewer area row room nodes count behind whole =
      let same : (n : ℕ) → n < nodes → length (passes_at fewer n) ≡ length fewer.areas.items
      = λ n here. passes_same more fewer area row room nodes count n here behind whole in
      whole_by fewer nodes (length fewer.areas.items) refl (sym (nodes_same more fewer area row room behind) ∙ whole.lists) (rooms_same more fewer area row room nodes count behind whole) same
      (λ n here.
      each_pair_most IsOf fewer.areas.items area (passes_at fewer n) (slice_index_or row n nobody) (same n here) (both_ours more fewer area row room nodes count n here behind whole))
      (λ n here. all_most (IsAt n) (passes_at fewer n) (slice_index_or row n nobody) (both_numbers more fewer area row room nodes count n here behind whole))
      (all_most (λ (one : SharedArea D). passes_of one ≡ nodes) fewer.areas.items area (subst (All (λ (one : SharedArea D). passes_of one ≡ nodes)) behind.areas (all_of more nodes count whole)))
      (all_most (IsRoom nodes) fewer.rooms.items room (subst (All (IsRoom nodes)) behind.rooms (rooms_of more nodes count whole)))

  -- as many areas as there are
  pub whole_as : (shared : SharedAreas D) (nodes count : ℕ) → AreShared shared nodes count → AreShared shared nodes (length shared.areas.items)
  whole_as shared nodes count whole = subst (AreShared shared nodes) (sym whole.areas) whole

  -- and as many nodes
  pub whole_own : (shared : SharedAreas D) (nodes count : ℕ) → AreShared shared nodes count → AreShared shared (length shared.nodes.items) (length shared.areas.items)
  whole_own shared nodes count whole = subst (λ (m : ℕ). AreShared shared m (length shared.areas.items)) (sym whole.lists) (whole_as shared nodes count whole)

  -- the list of a node, as its vector has it
  pub node_at : (shared : SharedAreas D) (nodes count n : ℕ) (node : Vec PassView Global) → n < nodes → AreShared shared nodes count
      → length (slice_index_or shared.nodes.items n node).items ≡ count
  node_at shared nodes count n node here whole = ap length (sym (list_at shared.nodes.items n node (omega (arith, here, whole.lists)))) ∙ whole.passes n here

  -- each node has a last pass where there is an area
  pub last_of_each : (shared : SharedAreas D) (nodes count : ℕ) → 0 < count → AreShared shared nodes count → All (λ (node : Vec PassView Global). 0 < length node.items) shared.nodes.items
  last_of_each shared nodes count some whole = λ n node within. omega (arith, some, node_at shared nodes count n node (omega (arith, within, whole.lists)) whole)

  -- each node has room for one more where there is room for more areas
  pub room_of_each : (shared : SharedAreas D) (nodes count limit : ℕ) → count < limit → AreShared shared nodes count → HaveRoom limit shared.nodes.items
      → All (λ (node : Vec PassView Global). length node.items < vec_capacity node) shared.nodes.items
  room_of_each shared nodes count limit low whole room = λ n node within. omega (arith, low, room n node within, node_at shared nodes count n node (omega (arith, within, whole.lists)) whole)

  -- no area is there yet
  pub whole_none : (shared : SharedAreas D) (nodes limit : ℕ) → length shared.areas.items ≡ 0 → length shared.rooms.items ≡ 0 → AreRoomy shared.nodes.items nodes limit → AreShared shared nodes 0
  whole_none shared nodes limit areas rooms roomy = record {
    areas = areas;
    lists = roomy.as_many;
    rooms = rooms;
    passes = λ n here.
        let within : n < length shared.nodes.items = omega (arith, here, roomy.as_many) in
        let node = one_of shared.nodes.items n within in
        ap length (list_at shared.nodes.items n node within ∙ roomy.empty n node within);
    each = λ n k area pass here within. absurd (omega arith);
    numbers = λ n k pass here within. absurd (omega arith);
    all = λ k area within. absurd (omega arith);
    empty = λ k room within. absurd (omega arith);
    fits = λ k room within. absurd (omega arith);
  }
