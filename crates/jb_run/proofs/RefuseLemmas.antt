-- Areas of which one is refused: those before it are closed again.
use Rattle.std.proofs.Common.{◌≡◌, ℕ, ◌+◌, ◌<◌, List, [], ◌∷◌, ◌++◌, length, take, drop, inr, refl, sym, ap, subst, ◌∙◌, arith}
use Rattle.std.specs.Prelude.{slice_index_or}
use Rattle.std.proofs.lemmas.List.{drop_more, get_or_read, length-take-le, take-append-drop, take_at}
use Rattle.jb_conf.specs.declared.board.BoardArea.{BoardArea}
use Rattle.jb_disk.specs.Device.{Device}
use Rattle.jb_host.specs.Desk.{Desk}
use Rattle.jb_shared.specs.declared.opening.Opening.{Opening}
use Rattle.jb_run.specs.All.{Abandons, OpenAs, OpensAll, RefusesAll, RefusesNext, StopsAt}
use Rattle.jb_run.specs.AreasErrors.{RefusesArea}
use Rattle.jb_run.specs.Rows.{lists_of}
use Rattle.jb_run.specs.declared.areas_error.AreasError.{AreasError}
use Rattle.jb_run.specs.declared.areas_error.AreasError.TheVariants.{OutOfMemory}
use Rattle.jb_run.specs.declared.opening.SharedAreas.{SharedAreas}
use Rattle.jb_run.proofs.DeskLemmas.{hands_out_none, puts_back_none}
use Rattle.jb_run.proofs.EachLemmas.{one_of}

-- the area at this place is refused, as it was found there
pub refused_at : (areas : List BoardArea) (k n : ℕ) (one : BoardArea) (old new : Desk) (error : AreasError) → k ≡ n → n < length areas → one ≡ slice_index_or areas k one
    → RefusesArea (k + 1) one old new error → (area : BoardArea) → RefusesArea (n + 1) (slice_index_or areas n area) old new error
refused_at areas k n one old new error place within here refuses area =
    subst (λ (m : ℕ). RefusesArea (m + 1) (slice_index_or areas m area) old new error) place
    (subst (λ (a : BoardArea). RefusesArea (k + 1) a old new error) (get_or_read areas k one (omega arith) here area) refuses)

-- memory was wanting before the host was asked for the next area
asks_nothing : (areas : List BoardArea) (desk : Desk) (error : AreasError) → error ≡ OutOfMemory → RefusesNext 1 areas desk desk error
asks_nothing [] desk error lacks = (lacks, refl)
asks_nothing (area ∷ areas) desk error lacks = inr (inr (lacks, refl))

-- memory was wanting before the first area
pub refuses_none : (areas : List BoardArea) (desk : Desk) (error : AreasError) → error ≡ OutOfMemory → RefusesAll areas desk desk error
refuses_none areas desk error lacks = record {
  done = [];
  left = areas;
  parts = refl;
  befores = [];
  afters = [];
  mid = desk;
  last = desk;
  out = hands_out_none desk;
  refuses = asks_nothing areas desk error lacks;
  back = puts_back_none desk;
  kept = λ k area before after within. absurd (omega arith);
}

-- the first of these areas
first_are : (areas done left : List BoardArea) (count : ℕ) → areas ≡ done ++ left → count ≡ length done → take count areas ≡ done
first_are areas done left count parts same = ap (take count) parts ∙ take_at done left count (sym same)

module _ {D : Type 0} where
  -- the area at this place is refused
  pub stops_at : (areas : List BoardArea) (nodes k : ℕ) (old mid new : Desk) (shared was : SharedAreas D) (error : AreasError) → k < length areas → shared ≡ was
      → OpensAll (take k areas) nodes old mid was → ((area : BoardArea) → RefusesArea (k + 1) (slice_index_or areas k area) mid new error) → StopsAt areas nodes old new shared error
  stops_at areas nodes k old mid new shared was error within same opens refuses =
      let area = one_of areas k within in
      let place : k + 1 ≡ length (take k areas) + 1 = ap (λ (n : ℕ). n + 1) (sym (length-take-le k areas (omega arith))) in
      record {
        done = take k areas;
        left = drop k areas;
        parts = sym (take-append-drop k areas);
        mid = mid;
        opens = subst (OpensAll (take k areas) nodes old mid) (sym same) opens;
        refuses =
            subst (λ (l : List BoardArea). RefusesNext (length (take k areas) + 1) l mid new error) (sym (drop_more areas k area within))
            (subst (λ (n : ℕ). RefusesArea n (slice_index_or areas k area) mid new error) place (refuses area));
      }

  -- one is refused, and those before it are closed
  pub refuses_all : (areas : List BoardArea) (nodes : ℕ) (old mid new : Desk) (shared : SharedAreas D) (error : AreasError) → StopsAt areas nodes old mid shared error
      → ((befores : List Device) (openings : List Opening) → OpenAs (take (length shared.areas.items) areas) befores openings (lists_of shared.nodes.items)
      → Abandons (take (length shared.areas.items) areas) befores mid new)
      → RefusesAll areas old new error
  refuses_all areas nodes old mid new shared error stops abandons =
      let were = stops.opens in
      let first : take (length shared.areas.items) areas ≡ stops.done = first_are areas stops.done stops.left (length shared.areas.items) stops.parts were.whole.areas in
      let left : Abandons stops.done were.befores mid new
      = subst (λ (l : List BoardArea). Abandons l were.befores mid new) first
      (abandons were.befores were.openings (subst (λ (l : List BoardArea). OpenAs l were.befores were.openings (lists_of shared.nodes.items)) (sym first) were.start)) in
      record {
        done = stops.done;
        left = stops.left;
        parts = stops.parts;
        befores = were.befores;
        afters = left.afters;
        mid = stops.mid;
        last = mid;
        out = were.out;
        refuses = stops.refuses;
        back = left.back;
        kept = left.kept;
      }
