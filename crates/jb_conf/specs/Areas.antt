-- The areas of a settings file: what each table says, and what it is refused for.
use Rattle.std.specs.Prelude.{ℕ, ◌+◌, Bool, not, ◌&&◌, nat_le, List, [], ◌∷◌, ◌++◌, length, Option, Some, None, codes, bytes_eq}
use Rattle.std.specs.List.{list_any, sum_by}
use Rattle.std.specs.Option.{option_or}
use Rattle.toml.specs.Data.{Members}
use Rattle.jb_bytes.specs.Name.{same_name}
use Rattle.jb_base.specs.declared.area.AreaRules.{AreaRules}
use Rattle.jb_limits.specs.declared.limits.TheConstants.{MOST_SLOTS, MOST_SLOTS_TOGETHER}
use Rattle.jb_conf.specs.Faults.{fault_if, first_fault, text_at}
use Rattle.jb_conf.specs.Rows.{area_kind_fault, kind_of, number_at, number_fault, printable_fault, sized_fault}
use Rattle.jb_conf.specs.declared.board.BoardArea.{BoardArea}
use Rattle.jb_conf.specs.declared.field.Field.TheVariants.{Area}
use Rattle.jb_conf.specs.declared.field.AreaKey.TheVariants.{Name, Dir, Base, Kind, Read, Post, Sysop, Slots}
use Rattle.jb_conf.specs.declared.error.ConfError.{ConfError}
use Rattle.jb_conf.specs.declared.error.ConfError.TheVariants.{OutOfRange, Repeated}

-- the rules that a table says, under this address, at this place
unfoldable pub rules_of : List ℕ → ℕ → Members → AreaRules
rules_of address place entries = record {
  ordinal = place;
  address = address;
  kind = kind_of (text_at (Area place Kind) (codes "local") entries);
  read = number_at (Area place Read) (Some 0) entries;
  post = number_at (Area place Post) (Some 0) entries;
  sysop = number_at (Area place Sysop) (Some 255) entries;
  slots = number_at (Area place Slots) (Some 16000) entries;
}

-- what the rules are refused for, where the areas before have so many slots together
unfoldable pub rules_fault : ℕ → ℕ → Members → Option ConfError
rules_fault together place entries = first_fault (
    area_kind_fault (Area place Kind) entries
    ∷ number_fault (Area place Read) (Some 0) 0 255 entries
    ∷ number_fault (Area place Post) (Some 0) 0 255 entries
    ∷ number_fault (Area place Sysop) (Some 255) 0 255 entries
    ∷ number_fault (Area place Slots) (Some 16000) 1 MOST_SLOTS entries
    ∷ fault_if (not (nat_le (together + number_at (Area place Slots) (Some 16000) entries) MOST_SLOTS_TOGETHER)) (OutOfRange (Area place Slots))
    ∷ [])

-- the area that a table says
unfoldable pub area_of : List ℕ → ℕ → Members → BoardArea
area_of address place entries = record {
  name = text_at (Area place Name) [] entries;
  dir = text_at (Area place Dir) [] entries;
  base = text_at (Area place Base) [] entries;
  rules = rules_of address place entries;
}

-- the slots of areas together
abbrev pub slots_of : List BoardArea → ℕ
slots_of areas = sum_by (λ area. area.rules.slots) areas

-- whether one of these areas has the name
abbrev pub has_area_name : List ℕ → List BoardArea → Bool
has_area_name name areas = list_any (λ area. same_name area.name name) areas

-- whether one of these areas has the folder and the base
abbrev pub has_place : List ℕ → List ℕ → List BoardArea → Bool
has_place dir base areas = list_any (λ area. bytes_eq area.dir dir && bytes_eq area.base base) areas

-- what an area is refused for behind these areas
unfoldable pub area_fault : List BoardArea → ℕ → Members → Option ConfError
area_fault before place entries = first_fault (
    printable_fault (Area place Name) 24 entries
    ∷ fault_if (has_area_name (text_at (Area place Name) [] entries) before) (Repeated (Area place Name))
    ∷ sized_fault (Area place Dir) 1024 entries
    ∷ sized_fault (Area place Base) 200 entries
    ∷ fault_if (has_place (text_at (Area place Dir) [] entries) (text_at (Area place Base) [] entries) before) (Repeated (Area place Base))
    ∷ rules_fault (slots_of before) place entries
    ∷ [])

-- these areas, and behind them the one of each table
abbrev pub areas_of : List ℕ → List BoardArea → List Members → List BoardArea
areas_of address before [] = before
areas_of address before (entries ∷ rest) = areas_of address (before ++ area_of address (length before + 1) entries ∷ []) rest

-- what the first table is refused for that is refused behind those before it
abbrev pub areas_fault : List ℕ → List BoardArea → List Members → Option ConfError
areas_fault address before [] = None
areas_fault address before (entries ∷ rest) =
    option_or (area_fault before (length before + 1) entries) (areas_fault address (before ++ area_of address (length before + 1) entries ∷ []) rest)
