-- What holds of each board.
use Rattle.std.specs.Prelude.{◌≡◌, ℕ, ℤ, pos, negsuc, ◌+◌, ◌<◌, ◌≤◌, ◌≤ℤ◌, IsTrue, List, length, Option, slice_index_or, All, AllPairs}
use Rattle.std.specs.List.{list_all}
use Rattle.std.specs.Option.{ForSome}
use Rattle.jb_bytes.specs.Name.{SameName}
use Rattle.jb_limits.specs.declared.limits.TheConstants.{MOST_AREAS, MOST_NODES, MOST_SLOTS, MOST_SLOTS_TOGETHER, MOST_USERS}
use Rattle.jb_conf.specs.Areas.{slots_of}
use Rattle.jb_conf.specs.Ranges.{is_address_byte, is_printed}
use Rattle.jb_conf.specs.declared.board.BoardArea.{BoardArea}
use Rattle.jb_conf.specs.declared.board.BoardUser.{BoardUser}

-- a list has so many elements, from the least to the most
abbrev pub HasCount : {X : Type 0} → ℕ → ℕ → List X → Type 0
HasCount least most items = (least ≤ length items) × (length items ≤ most)

-- an area of a board with this address
pub record IsAreaInRange (address : List ℕ) (area : BoardArea) : Type 0 where
  pub name : HasCount 1 24 area.name
  pub printed : IsTrue (list_all is_printed area.name)
  pub dir : HasCount 1 1024 area.dir
  pub base : HasCount 1 200 area.base
  pub under : area.rules.address ≡ address
  pub slots_some : 1 ≤ area.rules.slots
  pub slots : area.rules.slots ≤ MOST_SLOTS

-- a user of a board
pub record IsUserInRange (user : BoardUser) : Type 0 where
  pub name : HasCount 1 36 user.user.name
  pub printed : IsTrue (list_all is_printed user.user.name)
  pub id_some : 1 ≤ user.user.id
  pub id : user.user.id ≤ 65535
  pub salt : length user.salt ≤ 64

-- the areas have other names and other places each, are counted from 1, and have not too many slots together
pub record AreAreasInRange (address : List ℕ) (areas : List BoardArea) : Type 0 where
  pub each : All (IsAreaInRange address) areas
  pub names : AllPairs (λ one other. SameName one.name other.name → ⊥) areas
  pub places : AllPairs (λ one other. (one.dir ≡ other.dir) × (one.base ≡ other.base) → ⊥) areas
  pub numbered : (i : ℕ) (absent : BoardArea) → i < length areas → (slice_index_or areas i absent).rules.ordinal ≡ i + 1
  pub together : slots_of areas ≤ MOST_SLOTS_TOGETHER

-- the users have other names and other numbers each
pub record AreUsersInRange (users : List BoardUser) : Type 0 where
  pub each : All IsUserInRange users
  pub names : AllPairs (λ one other. SameName one.user.name other.user.name → ⊥) users
  pub ids : AllPairs (λ one other. one.user.id ≡ other.user.id → ⊥) users

-- all values of a board are in their ranges
pub record IsInRange (name address : List ℕ) (nodes : ℕ) (offset : ℤ) (pack_minutes : ℕ) (news_port : Option ℕ) (news_level : ℕ) (areas : List BoardArea) (users : List BoardUser) : Type 0 where
  pub name_count : HasCount 1 36 name
  pub name_bytes : IsTrue (list_all is_printed name)
  pub address_count : HasCount 1 24 address
  pub address_bytes : IsTrue (list_all is_address_byte address)
  pub nodes_least : 1 ≤ nodes
  pub nodes_most : nodes ≤ MOST_NODES
  pub offset_least : negsuc 839 ≤ℤ offset
  pub offset_most : offset ≤ℤ pos 840
  pub pack_most : pack_minutes ≤ 10080
  pub news_most : ForSome news_port (λ port. (port ≤ 65535) × (nodes < MOST_NODES))
  pub news_level_most : news_level ≤ 255
  pub area_count : HasCount 1 MOST_AREAS areas
  pub area_values : AreAreasInRange address areas
  pub user_count : HasCount 1 MOST_USERS users
  pub user_values : AreUsersInRange users
