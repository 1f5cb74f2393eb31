-- Keys of messages with ids: the upper bits of a hash, and below them the place of the message.
use Rattle.std.specs.Prelude.{◌≡◌, ℕ, ◌+◌, ◌/◌, ◌%◌, List, All, map}
use Rattle.jb_state.specs.declared.loaded.Loaded.{Loaded}
use Rattle.jb_link.specs.IdLists.{AreIdsBelow, hash_at, id_place}

-- the number of the message with a key
abbrev pub key_number : ℕ → ℕ → ℕ → ℕ
key_number base wide key = base + key % wide

-- the numbers of those with these keys
abbrev pub numbers_of : ℕ → ℕ → List ℕ → List ℕ
numbers_of base wide keys = map (key_number base wide) keys

-- by what a key stands among the others: its upper bits, and then the id and the number of its message
abbrev pub key_place : ℕ → Loaded → ℕ → ℕ → ℕ → ℕ × (List ℕ × ℕ)
key_place kind loaded base wide key = (key / wide, id_place kind loaded (key_number base wide key))

-- the keys of the messages with an id of this kind that are below one number; the upper bits of each are those of the hash
pub record AreKeysBelow (kind : ℕ) (loaded : Loaded) (wide end : ℕ) (keys : List ℕ) : Type 0 where
  pub below : AreIdsBelow kind loaded end (numbers_of loaded.base wide keys)
  pub tops : All (λ key. key / wide ≡ hash_at kind loaded (key_number loaded.base wide key) / 2 / wide) keys
