-- Where the targets of areas are: elsewhere than the areas, and apart.
use Rattle.std.proofs.Common.{◌≡◌, ℕ, zero, suc, ◌+◌, ◌<◌, ◌≤◌, Bool, true, false, List, [], ◌∷◌, ◌++◌, All, drop, get_or, length, map, take, sym, ap, subst, ◌∙◌, arith}
use Rattle.std.specs.Prelude.{AllPairs, bytes_eq, slice_index_or, Option, Some, None}
use Rattle.std.specs.List.{list_any}
use Rattle.std.specs.Option.{ForSome, option_map}
use Rattle.std.proofs.lemmas.List.{drop_all, drop_more, get_or-drop, get_or-map, get_or-take, get_or_default, length-append, length-drop, length-map, length-take-le, take-append-drop, take_at}
use Rattle.std.proofs.Math.Seq.{take-suc}
use Rattle.std.proofs.lemmas.Slice.Eq.{bytes_eq-Decides}
use Rattle.jb_conf.specs.declared.board.BoardArea.{BoardArea}
use Rattle.jb_disk.specs.Device.{Device}
use Rattle.jb_host.specs.Desk.{Desk, Disks, GivesDisk, RefusesCall, TakesBack, asked_disk}
use Rattle.jb_host.specs.declared.host.HostError.{HostError}
use Rattle.jb_run.specs.Desks.{BasePlace, DisksAreOut, HandsOut, PutsBack, Stand, place_of, places_of, with_each, with_places_out}
use Rattle.jb_run.specs.Targets.{HaveAllTargets, HaveTargets, StopsTargets, has_base, target_of, targets_for}
use Rattle.jb_run.proofs.DeskLemmas.{IsElsewhere, hands_out_more, puts_back_first, puts_back_none, with_each-append, with_each-other, with_places_out-append, was_there}
use Rattle.jb_run.proofs.EachLemmas.{one_of}
use Rattle.jb_run.proofs.Places.{are_out, not_first, not_second, put_back, stays_out}

-- two of these bits cannot be
not_both : (b : Bool) → b ≡ true → b ≡ false → ⊥
not_both true is off = cc
not_both false is off = cc

-- where none passes, no element does
none_passes : {X : Type 0} (test : X → Bool) (all : List X) → list_any test all ≡ false → (k : ℕ) (default : X) → k < length all → test (get_or all k default) ≡ false
none_passes test [] none k default within = absurd (omega (arith, within))
none_passes test (x ∷ all) none zero default within = not_first (test x) (list_any test all) none
none_passes test (x ∷ all) none (suc k) default within = none_passes test all (not_second (test x) (list_any test all) none) k default (omega (arith, within))

module _ (dir : List ℕ) (areas : List BoardArea) (have : HaveTargets dir areas (length areas)) where
  -- no area is in the folder for backups
  apart_dir : (k : ℕ) (area : BoardArea) → k < length areas → dir ≡ (slice_index_or areas k area).dir → ⊥
  apart_dir k area within same =
      let one = slice_index_or areas k area in
      not_both (bytes_eq one.dir dir) ((bytes_eq-Decides one.dir dir).1 (sym same)) (not_second (has_base one.base (take k areas)) (bytes_eq one.dir dir) (have k area within))

  -- no two have the same base
  apart_base : (j k : ℕ) (area : BoardArea) → j < k → k < length areas → (slice_index_or areas j area).base ≡ (slice_index_or areas k area).base → ⊥
  apart_base j k area before within same =
      let one = slice_index_or areas k area in
      let off : bytes_eq (slice_index_or (take k areas) j area).base one.base ≡ false
      = none_passes (λ (other : BoardArea). bytes_eq other.base one.base) (take k areas) (not_first (has_base one.base (take k areas)) (bytes_eq one.dir dir) (have k area within))
      j area (omega (arith, before, within, length-take-le k areas)) in
      let here : slice_index_or (take k areas) j area ≡ slice_index_or areas j area = get_or-take k areas j area before in
      not_both (bytes_eq (slice_index_or areas j area).base one.base) ((bytes_eq-Decides (slice_index_or areas j area).base one.base).1 same)
      (subst (λ (a : BoardArea). bytes_eq a.base one.base ≡ false) here off)

-- a target is elsewhere than all areas
pub targets_elsewhere : (backup : Option (List ℕ)) (areas : List BoardArea) → HaveAllTargets backup areas → (k : ℕ) (place : BasePlace) → k < length (targets_for backup areas)
    → All (IsElsewhere (slice_index_or (targets_for backup areas) k place)) (places_of areas)
targets_elsewhere None areas have k place within = absurd (omega (arith, within))
targets_elsewhere (Some dir) areas have k place within = λ j other low.
    let far : j < length areas = omega (arith, low, length-map areas place_of) in
    let here : k < length areas = omega (arith, within, length-map areas (target_of dir)) in
    let area = one_of areas j far in
    let mine = one_of areas k here in
    λ same.
    apart_dir dir areas have j area far
    (sym (ap (λ (p : BasePlace). p.dir) (get_or-map (target_of dir) areas k mine place here)) ∙ same.0
    ∙ ap (λ (p : BasePlace). p.dir) (get_or-map place_of areas j area other far))

-- and than the other targets
pub targets_apart : (dir : List ℕ) (areas : List BoardArea) → HaveTargets dir areas (length areas) → AllPairs IsElsewhere (map (target_of dir) areas)
targets_apart dir areas have j k place before within =
    let there : k < length areas = omega (arith, within, length-map areas (target_of dir)) in
    let here : j < length areas = omega (arith, before, there) in
    let area = one_of areas k there in
    λ same.
    apart_base dir areas have j k area before there
    (sym (ap (λ (p : BasePlace). p.base) (get_or-map (target_of dir) areas j area place here)) ∙ same.1
    ∙ ap (λ (p : BasePlace). p.base) (get_or-map (target_of dir) areas k area place there))

-- disks were handed out at these places and then at others, and are put back at these and then at those
pub put_both : (places others : List BasePlace) (afters left : List Device) (used closed now : Option Disks) (disks : Disks)
    → used ≡ Some (with_places_out others (with_places_out places disks))
    → ForSome used (λ d. DisksAreOut places d → closed ≡ option_map (with_each places afters) used)
    → ForSome closed (λ d. DisksAreOut others d → now ≡ option_map (with_each others left) closed)
    → length afters ≡ length places → ((k : ℕ) (place : BasePlace) → k < length others → All (IsElsewhere (slice_index_or others k place)) places)
    → now ≡ Some (with_each (places ++ others) (afters ++ left) (with_places_out (places ++ others) disks))
put_both places others afters left used closed now disks gone back puts count apart =
    let first : Disks = with_places_out places disks in
    let out : Disks = with_places_out others first in
    let out_places : DisksAreOut places out = λ k place within. stays_out others first _ _ (are_out places disks k place within) in
    let closed_is : closed ≡ Some (with_each places afters out) = back out gone out_places ∙ ap (option_map (with_each places afters)) gone in
    let out_others : DisksAreOut others (with_each places afters out)
    = λ k place within. with_each-other (slice_index_or others k place) places afters out (apart k place within) ∙ are_out others first k place within in
    puts (with_each places afters out) closed_is out_others ∙ ap (option_map (with_each others left)) closed_is
    ∙ ap (λ (d : Disks). Some (with_each others left (with_each places afters d))) (sym (with_places_out-append places others disks))
    ∙ ap (λ (d : Disks). Some d) (sym (with_each-append places others afters left (with_places_out (places ++ others) disks) count))

-- the same, as what stands then
pub put_behind : (places others : List BasePlace) (afters left : List Device) (used closed now : Option Disks) (disks : Disks)
    → used ≡ Some (with_places_out others (with_places_out places disks))
    → ForSome used (λ d. DisksAreOut places d → closed ≡ option_map (with_each places afters) used)
    → ForSome closed (λ d. DisksAreOut others d → now ≡ option_map (with_each others left) closed)
    → length afters ≡ length places → length left ≡ length others
    → ((k : ℕ) (place : BasePlace) → k < length others → All (IsElsewhere (slice_index_or others k place)) places)
    → now ≡ Some (with_each others left (with_each places afters disks))
put_behind places others afters left used closed now disks gone back puts count count_others apart =
    put_both places others afters left used closed now disks gone back puts count apart
    ∙ ap (λ (d : Disks). Some d)
    (put_back (places ++ others) (afters ++ left) disks
    (length-append afters left ∙ ap (λ (n : ℕ). n + length left) count ∙ ap (λ (n : ℕ). length places + n) count_others ∙ sym (length-append places others))
    ∙ with_each-append places others afters left disks count)

-- there are no more targets than areas
pub few_targets : (backup : Option (List ℕ)) (areas : List BoardArea) → length (targets_for backup areas) ≤ length areas
few_targets None areas = omega arith
few_targets (Some dir) areas = omega (arith, length-map areas (target_of dir))

-- disks that stood when others were out, stood before
pub stood_before : (places others : List BasePlace) (devices : List Device) (old opened : Option Disks) → opened ≡ option_map (with_places_out others) old
    → ForSome opened (Stand places devices) → ForSome old (Stand places devices)
stood_before places others devices old opened out stand = λ disks told k place device within.
    was_there others (slice_index_or places k place).dir (slice_index_or places k place).base (slice_index_or devices k device) disks
    (stand (with_places_out others disks) (out ∙ ap (option_map (with_places_out others)) told) k place device within)

-- of places that are apart, each is apart from those behind it
apart_behind : (places : List BasePlace) (k : ℕ) (place : BasePlace) → k < length places → AllPairs IsElsewhere places
    → All (IsElsewhere (slice_index_or places k place)) (drop (k + 1) places)
apart_behind places k place within apart = λ j other low.
    let far : k + 1 + j < length places = omega (arith, low, length-drop (k + 1) places) in
    subst (λ (p : BasePlace). IsElsewhere p (slice_index_or (drop (k + 1) places) j other)) (get_or_default places k other place within)
    (subst (IsElsewhere (slice_index_or places k other)) (sym (get_or-drop (k + 1) places j other)) (apart k (k + 1 + j) other (omega arith) far))

-- so are the first of them
apart_first : (places : List BasePlace) (n : ℕ) → n ≤ length places → AllPairs IsElsewhere places → AllPairs IsElsewhere (take n places)
apart_first places n within apart = λ i j place before low.
    let in_j : j < n = omega (arith, low, length-take-le n places within) in
    subst (λ (p : BasePlace). IsElsewhere p (slice_index_or (take n places) j place)) (sym (get_or-take n places i place (omega (arith, before, in_j))))
    (subst (IsElsewhere (slice_index_or places i place)) (sym (get_or-take n places j place in_j)) (apart i j place before (omega (arith, in_j, within))))

module _ (dir : List ℕ) (areas : List BoardArea) where
  -- where the targets of areas are in this folder
  abbrev pub all_targets : List BasePlace
  all_targets = map (target_of dir) areas

  long : length all_targets ≡ length areas
  long = length-map areas (target_of dir)

  -- the target of an area
  target_at : (k : ℕ) (area : BoardArea) (place : BasePlace) → k < length areas → slice_index_or all_targets k place ≡ target_of dir (slice_index_or areas k area)
  target_at k area place within = get_or-map (target_of dir) areas k area place within

  -- a target more is handed out
  pub hands_next : (k : ℕ) (area : BoardArea) (devices : List Device) (device : Device) (old mid new : Desk) → k < length areas
      → HandsOut (take k all_targets) devices old mid → GivesDisk dir (slice_index_or areas k area).base device mid new → HandsOut (take (k + 1) all_targets) (devices ++ device ∷ []) old new
  hands_next k area devices device old mid new within hands gives =
      let one : BasePlace = target_of dir (slice_index_or areas k area) in
      let next : k + 1 ≡ suc k = omega arith in
      let parts : take (k + 1) all_targets ≡ take k all_targets ++ one ∷ []
      = ap (λ (n : ℕ). take n all_targets) next ∙ take-suc all_targets k one (omega (arith, within, long))
      ∙ ap (λ (p : BasePlace). take k all_targets ++ p ∷ []) (target_at k area one within) in
      subst (λ (l : List BasePlace). HandsOut l (devices ++ device ∷ []) old new) (sym parts) (hands_out_more (take k all_targets) devices one device old mid new hands gives)

  -- the next target is refused
  pub stops_next : (k : ℕ) (area : BoardArea) (devices : List Device) (error : HostError) (old mid new : Desk) → k < length areas
      → HandsOut (take k all_targets) devices old mid → RefusesCall (asked_disk dir (slice_index_or areas k area).base) error mid new → StopsTargets all_targets devices error old new
  stops_next k area devices error old mid new within hands refuses =
      let one : BasePlace = target_of dir (slice_index_or areas k area) in
      let low : k < length all_targets = omega (arith, within, long) in
      record {
        done = take k all_targets;
        next = one;
        left = drop (k + 1) all_targets;
        parts = sym (take-append-drop k all_targets) ∙ ap (λ (l : List BasePlace). take k all_targets ++ l) (drop_more all_targets k one low)
            ∙ ap (λ (p : BasePlace). take k all_targets ++ p ∷ drop (k + 1) all_targets) (target_at k area one within);
        mid = mid;
        out = hands;
        refuses = refuses;
      }

  -- of the first targets, so many, those from a place on are back, and then the one before them
  pub puts_next : HaveTargets dir areas (length areas) → (n k : ℕ) (device : Device) (devices : List Device) (old mid new : Desk) → n ≤ length areas → k < n
      → ((area : BoardArea) → TakesBack dir (slice_index_or areas k area).base device mid new) → PutsBack (drop (k + 1) (take n all_targets)) devices old mid
      → PutsBack (drop k (take n all_targets)) (device ∷ devices) old new
  puts_next have n k device devices old mid new few within takes puts =
      let first : List BasePlace = take n all_targets in
      let count : length first ≡ n = length-take-le n all_targets (omega (arith, few, long)) in
      let low : k < length first = omega (arith, within, count) in
      let area = one_of areas k (omega (arith, within, few)) in
      let one : BasePlace = target_of dir (slice_index_or areas k area) in
      let is : slice_index_or first k one ≡ one = get_or-take n all_targets k one within ∙ target_at k area one (omega (arith, within, few)) in
      let parts : drop k first ≡ one ∷ drop (k + 1) first = drop_more first k one low ∙ ap (λ (p : BasePlace). p ∷ drop (k + 1) first) is in
      let apart : All (IsElsewhere one) (drop (k + 1) first)
      = subst (λ (p : BasePlace). All (IsElsewhere p) (drop (k + 1) first)) is
      (apart_behind first k one low (apart_first all_targets n (omega (arith, few, long)) (targets_apart dir areas have))) in
      subst (λ (l : List BasePlace). PutsBack l (device ∷ devices) old new) (sym parts)
      (puts_back_first one device (drop (k + 1) first) devices old mid new apart puts (takes area))

  -- none is back yet
  pub puts_begin : (n : ℕ) (desk : Desk) → n ≤ length areas → PutsBack (drop n (take n all_targets)) [] desk desk
  puts_begin n desk few =
      subst (λ (l : List BasePlace). PutsBack l [] desk desk)
      (sym (drop_all n (take n all_targets) (omega (arith, length-take-le n all_targets (omega (arith, few, long)))))) (puts_back_none desk)

-- the first places are those that were handed out
pub first_handed : (places done left : List BasePlace) (next : BasePlace) (devices : List Device) → places ≡ done ++ next ∷ left → length devices ≡ length done → take (length devices) places ≡ done
first_handed places done left next devices parts count = ap (take (length devices)) parts ∙ take_at done (next ∷ left) (length devices) (sym count)
