-- One entry of the doors that were handed out is changed: what is known by node then.
use Rattle.std.proofs.Common.{◌≡◌, ℕ, Bor, zero, suc, ◌<◌, Bool, List, [], ◌∷◌, length, set, ap, sym, ◌∙◌, refl, arith}
use Rattle.std.specs.Prelude.{◌==◌, ◌≢◌, slice_index_or, if◌then◌else◌, IfSome, Option, None, Some}
use Rattle.std.specs.Option.{option_copied}
use Rattle.std.proofs.lemmas.Bool.{eq-eqb, eqb-true, ne_eqb}
use Rattle.jb_host.specs.declared.handed_out.HandedOut.{HandedOut}
use Rattle.jb_host.specs.declared.memory_door.MemDoor.{MemDoor}
use Rattle.jb_host.specs.Desk.{Entrance, has_door, no_door, with_door}
use Rattle.jb_host.specs.Entrances.{by_node, came_back}
use Rattle.jb_host.specs.Memory.{memory_gate}
use Rattle.jb_host.proofs.Shelving.{swapped, twice}

-- the first entry is the one
first_entry : (node : ℕ) (entry now : HandedOut) (rest : List HandedOut) (other : ℕ) → node ≡ entry.node → now.node ≡ entry.node
    → by_node (now ∷ rest) other ≡ with_door node (came_back now.door) (by_node (entry ∷ rest)) other
first_entry node entry now rest other is same =
    ap (λ (n : ℕ). if other == n then came_back now.door else by_node rest other) (same ∙ sym is)
    ∙ twice (other == node) (other == entry.node) (came_back now.door) (came_back entry.door) (by_node rest other) (ap (λ (n : ℕ). other == n) (sym is))

-- an entry is changed: the door of its node is what it says now, every other the same
entry_at : (node : ℕ) (entries : List HandedOut) (k : ℕ) (now d : HandedOut) (other : ℕ) → k < length entries
    → node ≡ (slice_index_or entries k d).node → ((j : ℕ) → j < k → node ≢ (slice_index_or entries j d).node) → now.node ≡ (slice_index_or entries k d).node
    → by_node (set entries k now) other ≡ with_door node (came_back now.door) (by_node entries) other
entry_at node [] k now d other within is before same = absurd (omega arith)
entry_at node (entry ∷ rest) zero now d other within is before same = first_entry node entry now rest other is same
entry_at node (entry ∷ rest) (suc k) now d other within is before same =
    let inner = entry_at node rest k now d other (omega arith) is (λ j low. before (suc j) (omega arith)) same in
    ap (λ (e : Entrance). if other == entry.node then came_back entry.door else e) inner
    ∙ swapped (other == node) (other == entry.node) (came_back now.door) (came_back entry.door) (by_node rest other)
    (λ asked. ne_eqb other entry.node (λ taken. before 0 (omega arith) (sym (eqb-true other node asked) ∙ taken)))

-- the same, of all nodes at once
pub by_node-set : (node : ℕ) (entries : List HandedOut) (k : ℕ) (now d : HandedOut) → k < length entries
    → node ≡ (slice_index_or entries k d).node → ((j : ℕ) → j < k → node ≢ (slice_index_or entries j d).node) → now.node ≡ (slice_index_or entries k d).node
    → by_node (set entries k now) ≡ with_door node (came_back now.door) (by_node entries)
by_node-set node entries k now d within is before same = λ i. λ other. entry_at node entries k now d other within is before same i

-- the first entry of a node tells
pub by_node-first : (node : ℕ) (entries : List HandedOut) (k : ℕ) (d : HandedOut) → k < length entries
    → node ≡ (slice_index_or entries k d).node → ((j : ℕ) → j < k → node ≢ (slice_index_or entries j d).node)
    → by_node entries node ≡ came_back (slice_index_or entries k d).door
by_node-first node [] k d within is before = absurd (omega arith)
by_node-first node (entry ∷ rest) zero d within is before = ap (λ (b : Bool). if b then came_back entry.door else by_node rest node) (eq-eqb node entry.node is)
by_node-first node (entry ∷ rest) (suc k) d within is before =
    ap (λ (b : Bool). if b then came_back entry.door else by_node rest node) (ne_eqb node entry.node (before 0 (omega arith)))
    ∙ by_node-first node rest k d (omega arith) is (λ j low. before (suc j) (omega arith))

-- a node has no entry
pub by_node-none : (node : ℕ) (entries : List HandedOut) (d : HandedOut) → ((k : ℕ) → k < length entries → node ≢ (slice_index_or entries k d).node) → by_node entries node ≡ no_door
by_node-none node [] d none = refl
by_node-none node (entry ∷ rest) d none =
    ap (λ (b : Bool). if b then came_back entry.door else by_node rest node) (ne_eqb node entry.node (none 0 (omega arith))) ∙ by_node-none node rest d (λ k low. none (suc k) (omega arith))

-- the door that is lent is the one that came back
pub lent_back : (entrance : Entrance) (door : Option MemDoor) (lent : Option (Bor MemDoor)) → option_copied lent ≡ door → entrance ≡ came_back door
    → IfSome lent (λ back. entrance ≡ has_door (memory_gate back.now))
lent_back entrance door None same is = tt
lent_back entrance door (Some back) same is = is ∙ ap came_back (sym same)
