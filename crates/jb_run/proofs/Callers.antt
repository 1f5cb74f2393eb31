-- What the layer above needs of areas that it has used.
use Rattle.std.specs.declared.alloc.Global.{Global}
use Rattle.std.proofs.Common.{Vec, ◌≡◌, ℕ, ◌<◌, List, [], ◌∷◌, length, refl, ◌∙◌, arith}
use Rattle.std.specs.Prelude.{slice_index_or}
use Rattle.jb_shared.specs.Areas.{IsOf}
use Rattle.jb_shared.specs.Passes.{PassView}
use Rattle.jb_shared.specs.declared.shared.SharedArea.{SharedArea}
use Rattle.jb_run.specs.All.{AreShared, passes_at}
use Rattle.jb_run.specs.declared.opening.SharedAreas.{SharedAreas}

-- the only list of all is the first
pub only_list : {A : Type 0} (lists : List (List A)) → length lists ≡ 1 → lists ≡ slice_index_or lists 0 [] ∷ []
only_list [] one = absurd (omega (arith, one))
only_list (list ∷ []) one = refl
only_list (list ∷ other ∷ lists) one = absurd (omega (arith, one))

-- areas are still whole where each node has passes of them, as many as before and with its own number
pub still_whole : {D : Type 0} (shared : SharedAreas D) (now : Vec (Vec PassView Global) Global) (nodes count : ℕ) → AreShared shared nodes count → length now.items ≡ nodes
    → ((n : ℕ) → n < nodes → length (passes_at (record shared { nodes = now }) n) ≡ count)
    → ((n k : ℕ) (area : SharedArea D) (pass : PassView) → n < nodes → k < count
    → IsOf (slice_index_or shared.areas.items k area) (slice_index_or (passes_at (record shared { nodes = now }) n) k pass))
    → ((n k : ℕ) (pass : PassView) → n < nodes → k < count
    → (slice_index_or (passes_at (record shared { nodes = now }) n) k pass).known.node ≡ (slice_index_or (passes_at shared n) k pass).known.node)
    → AreShared (record shared { nodes = now }) nodes count
still_whole shared now nodes count whole as_many long ours same = record {
  areas = whole.areas;
  lists = as_many;
  rooms = whole.rooms;
  passes = long;
  each = ours;
  numbers = λ n k pass here within. same n k pass here within ∙ whole.numbers n k pass here within;
  all = whole.all;
  empty = whole.empty;
  fits = whole.fits;
}
