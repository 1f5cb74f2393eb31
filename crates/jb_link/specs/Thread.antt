-- The thread of a message, and the roots of messages by their places.
use Rattle.std.specs.Prelude.{◌≡◌, ℕ, ◌+◌, ◌<◌, ◌==◌, List, filter, length, map, slice_index}
use Rattle.jb_state.specs.Links.{Linkable, thread_root}

-- the live numbers whose thread begins with this message, in rising order
abbrev pub thread_from : List Linkable → ℕ → List ℕ
thread_from live root = map (λ one. one.number) (filter (λ one. thread_root live one.number == root) live)

-- the live numbers whose thread begins where that of this one does, in rising order
abbrev pub thread_of : List Linkable → ℕ → List ℕ
thread_of live number = thread_from live (thread_root live number)

-- at each of so many places, of which the first has the number `base`, where the thread of that number begins
pub record AreRoots (live : List Linkable) (base count : ℕ) (roots : List ℕ) : Type 0 where
  pub len : length roots ≡ count
  pub each : (place : ℕ) → place < count → slice_index roots place ≡ thread_root live (base + place)
