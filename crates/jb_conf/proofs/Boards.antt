-- The values of a settings file that is not refused are in their ranges.
use Rattle.std.proofs.Common.{◌≡◌, ◌≤◌, ◌<◌, ◌+◌, ◌&&◌, ◌==◌, ℕ, true, not, nat_le, List, [], ◌∷◌, ◌++◌, Some, None, pos, length, get_or, refl, arith, inl, inr, length-append}
use Rattle.std.specs.Prelude.{bytes_eq}
use Rattle.std.proofs.lemmas.Bool.{cases_lt}
use Rattle.std.proofs.lemmas.Bool.Decides.{nat_tests}
use Rattle.std.proofs.lemmas.List.{get_or_append_left}
use Rattle.std.proofs.Math.Seq.{get_or-append_seam}
use Rattle.std.proofs.lemmas.List.Elements.{All-push}
use Rattle.std.proofs.lemmas.List.Quantifiers.{all_pairs_push}
use Rattle.std.proofs.lemmas.List.Sums.{sum_by-append}
use Rattle.toml.specs.Data.{Members}
use Rattle.jb_bytes.specs.Name.{SameName, same_name}
use Rattle.jb_limits.specs.declared.limits.TheConstants.{MOST_AREAS, MOST_USERS}
use Rattle.jb_conf.specs.Areas.{area_fault, area_of, areas_fault, areas_of, rules_fault, rules_of, slots_of}
use Rattle.jb_conf.specs.Users.{user_fault, user_of, users_fault, users_of}
use Rattle.jb_conf.specs.Faults.{fault_if, tables_at, text_at, whole_at}
use Rattle.jb_conf.specs.InRange.{AreAreasInRange, AreUsersInRange, HasCount, IsAreaInRange, IsInRange, IsUserInRange}
use Rattle.jb_conf.specs.Rows.{area_kind_fault, given_number, number_at, number_fault}
use Rattle.jb_conf.specs.Settings.{board_fault}
use Rattle.jb_conf.specs.declared.board.BoardArea.{BoardArea}
use Rattle.jb_conf.specs.declared.board.BoardUser.{BoardUser}
use Rattle.jb_conf.specs.declared.field.Field.TheVariants.{Area, User, Board as OfBoard}
use Rattle.jb_conf.specs.declared.field.AreaKey.TheVariants as area_key
use Rattle.jb_conf.specs.declared.field.UserKey.TheVariants as user_key
use Rattle.jb_conf.specs.declared.field.BoardKey.TheVariants as board_key
use Rattle.jb_conf.specs.declared.error.ConfError.TheVariants.{OutOfRange}
use Rattle.jb_conf.proofs.Bounds.{address_bounds, from_not, minutes_bounds, news_bounds, none_each, none_if, none_of, number_bounds, other_name, other_number, other_place, printable_bounds, short_bounds, sized_bounds, tables_bounds}

-- what an area that passes is, beside those before it
record AreaPasses (address : List ℕ) (before : List BoardArea) (area : BoardArea) (place : ℕ) : Type 0 where
  ranges : IsAreaInRange address area
  names : (k : ℕ) (d : BoardArea) → k < length before → SameName (get_or before k d).name area.name → ⊥
  places : (k : ℕ) (d : BoardArea) → k < length before → ((get_or before k d).dir ≡ area.dir) × ((get_or before k d).base ≡ area.base) → ⊥
  ordinal : area.rules.ordinal ≡ place
  together : slots_of before + area.rules.slots ≤ 4200000

-- the test of the room for slots
fits_room : (n : ℕ) → nat_le n 4200000 ≡ true → n ≤ 4200000
fits_room n e = grind (arith, nat_tests)

-- rules that are not refused
rules_pass : (together place : ℕ) (entries : Members) → rules_fault together place entries ≡ None
    → (1 ≤ number_at (Area place area_key.Slots) (Some 16000) entries) × (number_at (Area place area_key.Slots) (Some 16000) entries ≤ 1000000)
    × (together + number_at (Area place area_key.Slots) (Some 16000) entries ≤ 4200000)
unfolding rules_fault
rules_pass together place entries e =
    let kind = none_each (area_kind_fault (Area place area_key.Kind) entries) _ e in
    let read = none_each (number_fault (Area place area_key.Read) (Some 0) 0 255 entries) _ kind.1 in
    let post = none_each (number_fault (Area place area_key.Post) (Some 0) 0 255 entries) _ read.1 in
    let sysop = none_each (number_fault (Area place area_key.Sysop) (Some 255) 0 255 entries) _ post.1 in
    let slots = none_each (number_fault (Area place area_key.Slots) (Some 16000) 1 1000000 entries) _ sysop.1 in
    let sum = together + number_at (Area place area_key.Slots) (Some 16000) entries in
    let room : nat_le sum 4200000 ≡ true = from_not (nat_le sum 4200000) (none_if (not (nat_le sum 4200000)) (OutOfRange (Area place area_key.Slots)) (none_each (fault_if (not (nat_le sum 4200000)) (OutOfRange (Area place area_key.Slots))) None slots.1).0) in
    let many = number_bounds (Area place area_key.Slots) (Some 16000) 1 1000000 entries slots.0 in
    (many.0, many.1, fits_room sum room)

-- an area that is not refused
area_passes : (address : List ℕ) (before : List BoardArea) (place : ℕ) (entries : Members) → area_fault before place entries ≡ None → AreaPasses address before (area_of address place entries) place
unfolding area_fault area_of rules_fault rules_of
area_passes address before place entries e =
    let name = none_each _ _ e in
    let named = none_each _ _ name.1 in
    let dir = none_each _ _ named.1 in
    let base = none_each _ _ dir.1 in
    let placed = none_each _ _ base.1 in
    let rules = none_each _ _ placed.1 in
    let text = printable_bounds (Area place area_key.Name) 24 entries name.0 in
    let many = rules_pass (slots_of before) place entries rules.0 in
    record {
      ranges = record {
        name = text.0;
        printed = text.1;
        dir = sized_bounds (Area place area_key.Dir) 1024 entries dir.0;
        base = sized_bounds (Area place area_key.Base) 200 entries base.0;
        under = refl;
        slots_some = many.0;
        slots = many.1;
      };
      names = λ k d within. other_name _ _ (none_of (λ area. same_name area.name (text_at (Area place area_key.Name) [] entries)) before (none_if _ _ named.0) k d within);
      places = λ k d within. other_place _ _ _ _ (none_of (λ area. bytes_eq area.dir (text_at (Area place area_key.Dir) [] entries) && bytes_eq area.base (text_at (Area place area_key.Base) [] entries)) before (none_if _ _ placed.0) k d within);
      ordinal = refl;
      together = many.2;
    }

-- one more area that passes
area_joins : (address : List ℕ) (before : List BoardArea) (area : BoardArea) → AreAreasInRange address before → AreaPasses address before area (length before + 1) → AreAreasInRange address (before ++ area ∷ [])
area_joins address before area are passes = record {
  each = All-push (IsAreaInRange address) before area are.each passes.ranges;
  names = all_pairs_push (λ one other. SameName one.name other.name → ⊥) before area are.names passes.names;
  places = all_pairs_push (λ one other. (one.dir ≡ other.dir) × (one.base ≡ other.base) → ⊥) before area are.places passes.places;
  numbered = λ i d within. elim (cases_lt i (length before)) [
    | inl below ↦ rw (get_or_append_left before (area ∷ []) d i below) (are.numbered i d below)
    | inr past ↦
        let last : i ≡ length before = (let size : length (before ++ area ∷ []) ≡ length before + 1 = length-append before (area ∷ []) in omega arith) in
        rw (last, get_or-append_seam before area [] d) passes.ordinal
  ];
  together = (let sum : slots_of (before ++ area ∷ []) ≡ slots_of before + (0 + area.rules.slots) = sum_by-append (λ area. area.rules.slots) before (area ∷ []) in let room = passes.together in omega arith);
}

-- all areas
areas_in_range : (address : List ℕ) (before : List BoardArea) (rest : List Members) → AreAreasInRange address before → areas_fault address before rest ≡ None → AreAreasInRange address (areas_of address before rest)
areas_in_range address before [] are e = are
areas_in_range address before (entries ∷ rest) are e =
    let parts = none_each _ _ e in
    areas_in_range address (before ++ area_of address (length before + 1) entries ∷ []) rest
    (area_joins address before (area_of address (length before + 1) entries) are (area_passes address before (length before + 1) entries parts.0)) parts.1

-- as many areas as tables
length-areas_of : (address : List ℕ) (before : List BoardArea) (rest : List Members) → length (areas_of address before rest) ≡ length before + length rest
length-areas_of address before [] = omega arith
length-areas_of address before (entries ∷ rest) =
    let size : length (before ++ area_of address (length before + 1) entries ∷ []) ≡ length before + 1 = length-append before (area_of address (length before + 1) entries ∷ []) in
    let more = length-areas_of address (before ++ area_of address (length before + 1) entries ∷ []) rest in omega arith

-- what a user that passes is, beside those before it
record UserPasses (before : List BoardUser) (user : BoardUser) : Type 0 where
  ranges : IsUserInRange user
  names : (k : ℕ) (d : BoardUser) → k < length before → SameName (get_or before k d).user.name user.user.name → ⊥
  ids : (k : ℕ) (d : BoardUser) → k < length before → (get_or before k d).user.id ≡ user.user.id → ⊥

-- a user that is not refused
user_passes : (before : List BoardUser) (place : ℕ) (entries : Members) → user_fault before place entries ≡ None → UserPasses before (user_of place entries)
unfolding user_fault user_of
user_passes before place entries e =
    let name = none_each _ _ e in
    let named = none_each _ _ name.1 in
    let id = none_each _ _ named.1 in
    let numbered = none_each _ _ id.1 in
    let level = none_each _ _ numbered.1 in
    let salt = none_each _ _ level.1 in
    let text = printable_bounds (User place user_key.Name) 36 entries name.0 in
    let number = number_bounds (User place user_key.Id) None 1 65535 entries id.0 in
    record {
      ranges = record {
        name = text.0;
        printed = text.1;
        id_some = number.0;
        id = number.1;
        salt = short_bounds (User place user_key.Salt) 64 entries salt.0;
      };
      names = λ k d within. other_name _ _ (none_of (λ user. same_name user.user.name (text_at (User place user_key.Name) [] entries)) before (none_if _ _ named.0) k d within);
      ids = λ k d within. other_number _ _ (none_of (λ user. user.user.id == number_at (User place user_key.Id) None entries) before (none_if _ _ numbered.0) k d within);
    }

-- one more user that passes
user_joins : (before : List BoardUser) (user : BoardUser) → AreUsersInRange before → UserPasses before user → AreUsersInRange (before ++ user ∷ [])
user_joins before user are passes = record {
  each = All-push IsUserInRange before user are.each passes.ranges;
  names = all_pairs_push (λ one other. SameName one.user.name other.user.name → ⊥) before user are.names passes.names;
  ids = all_pairs_push (λ one other. one.user.id ≡ other.user.id → ⊥) before user are.ids passes.ids;
}

-- all users
users_in_range : (before : List BoardUser) (rest : List Members) → AreUsersInRange before → users_fault before rest ≡ None → AreUsersInRange (users_of before rest)
users_in_range before [] are e = are
users_in_range before (entries ∷ rest) are e =
    let parts = none_each _ _ e in
    users_in_range (before ++ user_of (length before + 1) entries ∷ []) rest
    (user_joins before (user_of (length before + 1) entries) are (user_passes before (length before + 1) entries parts.0)) parts.1

-- as many users as tables
length-users_of : (before : List BoardUser) (rest : List Members) → length (users_of before rest) ≡ length before + length rest
length-users_of before [] = omega arith
length-users_of before (entries ∷ rest) =
    let size : length (before ++ user_of (length before + 1) entries ∷ []) ≡ length before + 1 = length-append before (user_of (length before + 1) entries ∷ []) in
    let more = length-users_of (before ++ user_of (length before + 1) entries ∷ []) rest in omega arith

-- no area, and no user
no_areas : (address : List ℕ) → AreAreasInRange address []
no_areas address = record {
  each = λ k d within. absurd (omega arith);
  names = λ i j d below within. absurd (omega arith);
  places = λ i j d below within. absurd (omega arith);
  numbered = λ i d within. absurd (omega arith);
  together = omega arith;
}

no_users : AreUsersInRange []
no_users = record {
  each = λ k d within. absurd (omega arith);
  names = λ i j d below within. absurd (omega arith);
  ids = λ i j d below within. absurd (omega arith);
}

-- a count that is that of another list
same_count : {X Y : Type 0} (least most : ℕ) (one : List X) (other : List Y) → length one ≡ 0 + length other → HasCount least most other → HasCount least most one
same_count least most one other same has = (omega (arith, same, has.0), omega (arith, same, has.1))

-- the values of a document that is not refused
pub values_in_range : (entries : Members) → board_fault entries ≡ None → IsInRange
    (text_at (OfBoard board_key.Name) [] entries)
    (text_at (OfBoard board_key.Address) [] entries)
    (number_at (OfBoard board_key.Nodes) (Some 1) entries)
    (whole_at (OfBoard board_key.Offset) (pos 0) entries)
    (number_at (OfBoard board_key.PackMinutes) (Some 60) entries)
    (given_number (OfBoard board_key.NewsPort) entries)
    (number_at (OfBoard board_key.NewsLevel) (Some 0) entries)
    (areas_of (text_at (OfBoard board_key.Address) [] entries) [] (tables_at (OfBoard board_key.Areas) entries))
    (users_of [] (tables_at (OfBoard board_key.Users) entries))
unfolding board_fault
values_in_range entries e =
    let name = none_each _ _ e in
    let address = none_each _ _ name.1 in
    let port = none_each _ _ address.1 in
    let nodes = none_each _ _ port.1 in
    let offset = none_each _ _ nodes.1 in
    let pack = none_each _ _ offset.1 in
    let news = none_each _ _ pack.1 in
    let level = none_each _ _ news.1 in
    let area_tables = none_each _ _ level.1 in
    let user_tables = none_each _ _ area_tables.1 in
    let areas = none_each _ _ user_tables.1 in
    let users = none_each _ _ areas.1 in
    let name_text = printable_bounds (OfBoard board_key.Name) 36 entries name.0 in
    let address_text = address_bounds (OfBoard board_key.Address) 24 entries address.0 in
    let at = text_at (OfBoard board_key.Address) [] entries in
    let many = number_bounds (OfBoard board_key.Nodes) (Some 1) 1 32 entries nodes.0 in
    let minutes = minutes_bounds (OfBoard board_key.Offset) entries offset.0 in
    record {
      name_count = name_text.0;
      name_bytes = name_text.1;
      address_count = address_text.0;
      address_bytes = address_text.1;
      nodes_least = many.0;
      nodes_most = many.1;
      offset_least = minutes.0;
      offset_most = minutes.1;
      pack_most = (number_bounds (OfBoard board_key.PackMinutes) (Some 60) 0 10080 entries pack.0).1;
      news_most = news_bounds (number_at (OfBoard board_key.Port) (Some 2323) entries) (number_at (OfBoard board_key.Nodes) (Some 1) entries) entries news.0;
      news_level_most = (number_bounds (OfBoard board_key.NewsLevel) (Some 0) 0 255 entries level.0).1;
      area_count = same_count 1 MOST_AREAS _ (tables_at (OfBoard board_key.Areas) entries) (length-areas_of at [] (tables_at (OfBoard board_key.Areas) entries)) (tables_bounds (OfBoard board_key.Areas) MOST_AREAS entries area_tables.0);
      area_values = areas_in_range at [] (tables_at (OfBoard board_key.Areas) entries) (no_areas at) areas.0;
      user_count = same_count 1 MOST_USERS _ (tables_at (OfBoard board_key.Users) entries) (length-users_of [] (tables_at (OfBoard board_key.Users) entries)) (tables_bounds (OfBoard board_key.Users) MOST_USERS entries user_tables.0);
      user_values = users_in_range [] (tables_at (OfBoard board_key.Users) entries) no_users users.0;
    }
