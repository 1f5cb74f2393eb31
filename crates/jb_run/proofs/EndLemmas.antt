-- The last of the areas is closed with the row of its passes.
use Rattle.std.specs.declared.alloc.Global.{Global}
use Rattle.std.proofs.Common.{Vec, ◌≡◌, ℕ, zero, suc, ◌+◌, ◌-◌, ◌<◌, ◌≤◌, Bool, List, [], ◌∷◌, length, refl, sym, ap, subst, ◌∙◌, arith}
use Rattle.std.specs.Prelude.{slice_index_or}
use Rattle.std.proofs.lemmas.List.{get_or-map, get_or_read, length-map, length_push}
use mathlib.Core.Option.{some-injective}
use Rattle.jb_conf.specs.declared.board.BoardArea.{BoardArea}
use Rattle.jb_disk.specs.Device.{Device}
use Rattle.jb_host.specs.Desk.{Desk, TakesBack}
use Rattle.jb_turn.specs.Rows.{Has}
use Rattle.jb_shared.specs.Closing.{HasEachNode, known_by}
use Rattle.jb_shared.specs.Passes.{Known, PassView}
use Rattle.jb_shared.specs.declared.shared.SharedArea.{SharedArea}
use Rattle.jb_run.specs.All.{ClosesLast}
use Rattle.jb_run.specs.Lives.{Ends}
use Rattle.jb_run.specs.declared.opening.SharedAreas.{SharedAreas}
use Rattle.jb_run.proofs.WholeLemmas.{IsBehind, IsSharedBy, nobody}

-- what stands in a list stands at a place of it
pub has_place : {A : Type 0} (xs : List A) (x : A) → Has xs x → (n : ℕ) × (n < length xs) × ((one : A) → slice_index_or xs n one ≡ x)
has_place [] x (k, there) = absurd (cc (there))
has_place (y ∷ xs) x (zero, here) = (0, omega arith, λ one. some-injective y x here)
has_place (y ∷ xs) x (suc k, there) = let rest = has_place xs x (k, there) in (suc rest.0, omega (arith, rest.1), rest.2)

-- and what stands at a place stands in it
pub place_has : {A : Type 0} (xs : List A) (n : ℕ) (one : A) → n < length xs → Has xs (slice_index_or xs n one)
place_has [] n one within = absurd (omega arith)
place_has (x ∷ xs) zero one within = (0, refl)
place_has (x ∷ xs) (suc n) one within = let rest = place_has xs n one (omega arith) in (suc rest.0, rest.1)

-- what the pass at a place knows is known by the passes
pub known_there : (row : List PassView) (n : ℕ) → n < length row → Has (known_by row) (slice_index_or row n nobody).known
known_there row n within =
    subst (Has (known_by row)) (get_or-map (λ (p : PassView). p.known) row n nobody nobody.known within)
    (place_has (known_by row) n nobody.known (omega (arith, within, length-map row (λ (p : PassView). p.known))))

-- and what is known by the passes is what one at a place knows
pub known_here : (row : List PassView) (known : Known) → Has (known_by row) known → (n : ℕ) × (n < length row) × ((slice_index_or row n nobody).known ≡ known)
known_here row known has =
    let place = has_place (known_by row) known has in
    let within : place.0 < length row = omega (arith, place.1, length-map row (λ (p : PassView). p.known)) in
    (place.0, within, sym (get_or-map (λ (p : PassView). p.known) row place.0 nobody nobody.known within) ∙ place.2 nobody.known)

module _ {D : Type 0} where
  -- the passes of all nodes are all
  pub all_there : (nodes : ℕ) (area : SharedArea D) (row : List PassView) (count : ℕ) → count ≡ nodes → IsSharedBy nodes area row → HasEachNode (known_by row) count
  all_there nodes area row count same by m some most =
      let here : m - 1 < nodes = omega (arith, some, most, same) in
      ((slice_index_or row (m - 1) nobody).known, known_there row (m - 1) (omega (arith, here, by.count)), by.numbers (m - 1) here ∙ omega (arith, some))

  -- an area that was the last is closed with its passes
  pub closes_last : (areas : List BoardArea) (k : ℕ) (here : BoardArea) (more fewer : SharedAreas D) (area : SharedArea D) (row : List PassView) (room : Vec PassView Global)
      (old new : Desk) (is_doubtful : Bool) (after : Device)
      → IsBehind more fewer area row room → length more.areas.items ≤ length areas → k ≡ length fewer.areas.items → here ≡ slice_index_or areas k here
      → TakesBack here.dir here.base after old new → Ends row is_doubtful after → ClosesLast areas more fewer old new is_doubtful
  closes_last areas k here more fewer area row room old new is_doubtful after behind within place found back ends =
      let n = length fewer.areas.items in
      let count : length more.areas.items ≡ n + 1 = ap length behind.areas ∙ length_push fewer.areas.items area in
      record {
        after = after;
        row = row;
        count = count;
        passes = behind.passes;
        back = λ other.
            let is : here ≡ slice_index_or areas n other = get_or_read areas k here (omega (arith, place, count, within)) found other ∙ ap (λ (m : ℕ). slice_index_or areas m other) place in
            subst (λ (a : BoardArea). TakesBack a.dir a.base after old new) is back;
        ends = ends;
      }
