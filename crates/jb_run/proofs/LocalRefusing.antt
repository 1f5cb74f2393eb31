-- What is left of the host where nobody is served.
use Rattle.std.proofs.Common.{◌≡◌, ◌⊎◌, inl, inr, ℕ, ◌+◌, ◌<◌, ◌≤◌, Bool, true, false, ◌&&◌, List, [], ◌∷◌, length, Option, Some, refl, sym, ap, subst, ◌∙◌, arith}
use Rattle.std.specs.Prelude.{bytes_eq, if◌then◌else◌}
use Rattle.std.specs.Option.{option_map}
use Rattle.std.proofs.lemmas.Slice.Eq.{bytes_eq-Decides}
use Rattle.jb_area_open.specs.Opening.{is_opening_fault}
use Rattle.jb_area_open.specs.declared.error.OpeningError.{OpeningError}
use Rattle.jb_area_open.specs.declared.error.OpeningError.TheVariants.{BadJournal, Base}
use Rattle.jb_run.specs.All.{RefusesAll, RefusesNext}
use Rattle.jb_run.specs.Desks.{DisksAreOut, BasePlace, Stand, places_of, with_each, with_places_out}
use Rattle.jb_run.specs.AreasErrors.{AsksNothing, HasNoDisk, LacksRoom, RefusesArea, RefusesDisk, ReturnsDisk, refused_by_host as of_host_call, refused_at}
use Rattle.jb_run.specs.declared.areas_error.AreasError.{AreasError}
use Rattle.jb_run.specs.declared.areas_error.AreasError.TheVariants as areas
use Rattle.jb_bytes.specs.Fault.{Rose}
use Rattle.jb_conf.specs.declared.board.BoardArea.{BoardArea}
use Rattle.jb_conf.specs.declared.error.ConfError.{ConfError}
use Rattle.jb_conf.specs.declared.error.ConfError.TheVariants as conf
use Rattle.jb_disk.specs.Device.{Device, RoseIf}
use Rattle.jb_host.proofs.Callers.{keeps_more, keeps_none}
use Rattle.jb_host.specs.Desk.{Desk, Disks, HasHostCause, KeepsRest, DiskPlace, handed_out, has_disk, no_disk, with_place}
use Rattle.jb_host.specs.declared.host.HostError.{HostError}
use Rattle.jb_host.specs.declared.host.HostError.TheVariants as host
use Rattle.jb_image.specs.declared.error.OpenError.TheVariants as refused
use Rattle.jb_run.specs.LocalEnding.{of_areas, of_host, of_settings}
use Rattle.jb_run.specs.Begins.{AllBack, BeginsNone, HasNoSettings, IsBack, RefusesAreas, RefusesSettings}
use Rattle.jb_run.specs.declared.error.RunError.{RunError}
use Rattle.jb_run.specs.declared.error.RunError.TheVariants.{Area, HostFault, OutOfMemory}
use Rattle.jb_run.proofs.Counting.{rose_above}
use Rattle.jb_run.proofs.Keeping.{but_counts, but_doors, keeps_more_counts}
use Rattle.jb_run.proofs.Places.{are_out, both, parts, is_filled, is_left, is_of, is_untouched, stood}

pub is_as_it_was : (p : DiskPlace) → IsBack p p
is_as_it_was (has_disk device) = (device, refl)
is_as_it_was no_disk = refl
is_as_it_was handed_out = refl

is_back : (p q : DiskPlace) (was now : Device) → p ≡ has_disk was → q ≡ has_disk now → IsBack p q
is_back p q was now stood stands = subst (λ (w : DiskPlace). IsBack w q) (sym stood) (now, stands)

same_place : (p q : DiskPlace) → q ≡ p → IsBack p q
same_place p q is = subst (λ (w : DiskPlace). IsBack p w) (sym is) (is_as_it_was p)

still_out : (p q : DiskPlace) → p ≡ handed_out → IsBack p q → q ≡ handed_out
still_out p q out back = subst (λ (w : DiskPlace). IsBack w q) out back

-- no disk was touched
pub all_same : (old new : Option Disks) → new ≡ old → AllBack old new
all_same old new is = λ was told. (was, is ∙ told, λ dir name. is_as_it_was (was dir name))

-- what the refusal of an area leaves
record Leaves (old new : Desk) (error : AreasError) : Type 0 where
  disks : AllBack old.disks new.disks
  rest : KeepsRest old (record new { faults = old.faults; failed = old.failed })
  cause : error ≡ areas.HostFault → Rose old.faults new.faults
  steady : (error ≡ areas.HostFault → ⊥) → new.faults ≡ old.faults
  no_fewer : old.failed ≤ new.failed
  store : (at : ℕ) → error ≡ areas.Area at (Base refused.StoreFault) → Rose old.failed new.failed

no_disk_fault : (place : ℕ) (why : OpeningError) → refused_at place why ≡ areas.HostFault → ⊥
no_disk_fault place (BadJournal at) is = cc
no_disk_fault place (Base refused.OutOfMemory) is = cc
no_disk_fault place (Base error) is = cc

no_want : areas.OutOfMemory ≡ areas.HostFault → ⊥
no_want is = cc

no_store : (at : ℕ) → areas.OutOfMemory ≡ areas.Area at (Base refused.StoreFault) → ⊥
no_store at is = cc

-- the area is refused for its store where that is the refusal of the board
by_store : (place at : ℕ) (why : OpeningError) → refused_at place why ≡ areas.Area at (Base refused.StoreFault) → why ≡ Base refused.StoreFault
by_store place at (BadJournal byte) is = cc
by_store place at (Base refused.OutOfMemory) is = cc
by_store place at (Base error) is = cc

-- a place, by whether it was changed
changed : (b : Bool) (was now : DiskPlace) (before after : Device) → (b ≡ true → was ≡ has_disk before) → (b ≡ true → now ≡ has_disk after) → (b ≡ false → now ≡ was) → IsBack was now
changed true was now before after stood stands same = is_back was now before after (stood refl) (stands refl)
changed false was now before after stood stands same = same_place was now (same refl)

is_other : (b : Bool) (after was : DiskPlace) → b ≡ false → (if b then after else (if b then handed_out else was)) ≡ was
is_other b after was off = ap (λ (c : Bool). if c then after else (if c then handed_out else was)) off

is_here : (b : Bool) (after was : DiskPlace) → b ≡ true → (if b then after else (if b then handed_out else was)) ≡ after
is_here b after was on = ap (λ (c : Bool). if c then after else (if c then handed_out else was)) on

-- the place that was changed
at_once : (dir name : List ℕ) (was : Disks) → with_place dir name handed_out was dir name ≡ handed_out
at_once dir name was = ap (λ (b : Bool). if b then handed_out else was dir name) (both _ _ ((bytes_eq-Decides dir dir).1 refl) ((bytes_eq-Decides name name).1 refl))

-- a disk was handed out and put back
returned : (dir name : List ℕ) (before after : Device) (was : Disks) → was dir name ≡ has_disk before → (other_dir other_name : List ℕ)
    → IsBack (was other_dir other_name) (with_place dir name (has_disk after) (with_place dir name handed_out was) other_dir other_name)
returned dir name before after was stood other_dir other_name =
    let b = bytes_eq other_dir dir && bytes_eq other_name name in
    changed b _ _ before after
    (λ on.
    let same = parts (bytes_eq other_dir dir) (bytes_eq other_name name) on in
    ap (λ (d : List ℕ). was d other_name) ((bytes_eq-Decides other_dir dir).0 same.0) ∙ ap (λ (n : List ℕ). was dir n) ((bytes_eq-Decides other_name name).0 same.1) ∙ stood)
    (λ on. is_here b (has_disk after) (was other_dir other_name) on)
    (λ off. is_other b (has_disk after) (was other_dir other_name) off)

-- disks were handed out, one more call of the host came, and they were put back
pub all_back : (done : List BasePlace) (befores afters : List Device) (was last : Disks) → Stand done befores was
    → ((dir name : List ℕ) → IsBack (with_places_out done was dir name) (last dir name)) → length afters ≡ length done
    → (dir name : List ℕ) → IsBack (was dir name) (with_each done afters last dir name)
all_back done befores afters was last stand back count dir name = by (is_of done dir name) refl
  where
    by : (b : Bool) → is_of done dir name ≡ b → IsBack (was dir name) (with_each done afters last dir name)
    by true on =
        let before = stood done befores was dir name stand on in
        let after = is_filled done afters last dir name count on in
        is_back _ _ before.0 after.0 before.1 after.1
    by false off =
        let P : DiskPlace → Type 0 = λ w. IsBack w (last dir name) in
        subst (λ (w : DiskPlace). IsBack (was dir name) w) (sym (is_untouched done afters last dir name off)) (subst P (is_left done was dir name off) (back dir name))

pub still_all_out : (done : List BasePlace) (was last : Disks) → ((dir name : List ℕ) → IsBack (with_places_out done was dir name) (last dir name)) → DisksAreOut done last
still_all_out done was last back = λ k area within. still_out _ _ (are_out done was k area within) (back _ _)

-- the refusal of an area, by which the disk is back
refused_disk : (place : ℕ) (area : BoardArea) (old new : Desk) (error : AreasError) → ReturnsDisk place area old new error → Leaves old new error
refused_disk place area old new error r = record {
  disks = λ was told.
      let out : r.mid.disks ≡ Some (with_place area.dir area.base handed_out was) = r.gives.out ∙ ap (option_map (with_place area.dir area.base handed_out)) told in
      let back = r.back.back (with_place area.dir area.base handed_out was) out (at_once area.dir area.base was) in (
        with_place area.dir area.base (has_disk r.after) (with_place area.dir area.base handed_out was),
        back ∙ ap (option_map (with_place area.dir area.base (has_disk r.after))) out,
        returned area.dir area.base r.before r.after was (r.gives.was was told),
      );
  rest = but_counts old new new.faults r.mid.failed (keeps_more old r.mid (record new { failed = r.mid.failed }) r.gives.rest r.back.rest);
  cause = λ is. absurd (other r.why is);
  steady = λ _. r.back.rest.faults ∙ r.gives.rest.faults;
  no_fewer = omega (arith, r.back.failed.later, r.gives.rest.failed);
  store = λ at is. subst (λ (n : ℕ). Rose n new.failed) r.gives.rest.failed (r.back.failed.rose (has_failed r.why at is));
}
  where
    other : RefusesDisk place area.rules.slots r.before r.after error ⊎ LacksRoom r.before r.after error → error ≡ areas.HostFault → ⊥
    other (inl disk) is = no_disk_fault place disk.why (sym disk.is ∙ is)
    other (inr room) is = no_want (sym room.is ∙ is)

    has_failed : RefusesDisk place area.rules.slots r.before r.after error ⊎ LacksRoom r.before r.after error → (at : ℕ)
        → error ≡ areas.Area at (Base refused.StoreFault) → 0 < r.after.faults
    has_failed (inl disk) at is =
        let why : disk.why ≡ Base refused.StoreFault = by_store place at disk.why (sym disk.is ∙ is) in
        rose_above r.before.faults r.after.faults (subst (λ (w : OpeningError). RoseIf (is_opening_fault w) r.before.faults r.after.faults) why disk.cause)
    has_failed (inr room) at is = absurd (no_store at (sym room.is ∙ is))

-- a refusal of the host
by_host : (why : HostError) (old new : Desk) (error : AreasError) → error ≡ of_host_call why → HasHostCause why old.faults new.faults
    → (error ≡ areas.HostFault → Rose old.faults new.faults) × ((error ≡ areas.HostFault → ⊥) → new.faults ≡ old.faults)
by_host host.Failed old new error is rose = (λ _. rose, λ other. absurd (other is))
by_host host.OutOfMemory old new error is same = (λ fault. absurd (no_want (sym is ∙ fault)), λ _. same)

host_no_store : (why : HostError) (at : ℕ) → of_host_call why ≡ areas.Area at (Base refused.StoreFault) → ⊥
host_no_store host.Failed at is = cc
host_no_store host.OutOfMemory at is = cc

no_area : (area : BoardArea) (old new : Desk) (error : AreasError) → HasNoDisk area old new error → Leaves old new error
no_area area old new error h =
    let causes = by_host h.why old new error h.is h.refuses.cause in
    record {
      disks = all_same old.disks new.disks h.refuses.disks;
      rest = but_counts old new old.faults new.failed h.refuses.rest;
      cause = causes.0;
      steady = causes.1;
      no_fewer = omega (arith, h.refuses.rest.failed);
      store = λ at is. absurd (host_no_store h.why at (sym h.is ∙ is));
    }

nothing_asked : (old new : Desk) (error : AreasError) → AsksNothing old new error → Leaves old new error
nothing_asked old new error asks = record {
  disks = all_same old.disks new.disks (ap (λ (d : Desk). d.disks) asks.1);
  rest = but_counts old new new.faults new.failed (subst (KeepsRest old) (sym asks.1) (keeps_none old));
  cause = λ is. absurd (no_want (sym asks.0 ∙ is));
  steady = λ _. ap (λ (d : Desk). d.faults) asks.1;
  no_fewer = omega (arith, ap (λ (d : Desk). d.failed) asks.1);
  store = λ at is. absurd (no_store at (sym asks.0 ∙ is));
}

area_refused : (place : ℕ) (area : BoardArea) (old new : Desk) (error : AreasError) → RefusesArea place area old new error → Leaves old new error
area_refused place area old new error (inl disk) = refused_disk place area old new error disk
area_refused place area old new error (inr (inl none)) = no_area area old new error none
area_refused place area old new error (inr (inr asks)) = nothing_asked old new error asks

next_refused : (place : ℕ) (left : List BoardArea) (old new : Desk) (error : AreasError) → RefusesNext place left old new error → Leaves old new error
next_refused place [] old new error asks = nothing_asked old new error asks
next_refused place (area ∷ left) old new error refuses = area_refused place area old new error refuses

-- the refusal of the areas
all_refused : (areas : List BoardArea) (old new : Desk) (error : AreasError) → RefusesAll areas old new error → Leaves old new error
all_refused areas old new error r =
    let next = next_refused (length r.done + 1) r.left r.mid r.last error r.refuses in
    record {
      disks = λ was told.
          let done : List BasePlace = places_of r.done in
          let out : r.mid.disks ≡ Some (with_places_out done was) = r.out.disks ∙ ap (option_map (with_places_out done)) told in
          let last = next.disks (with_places_out done was) out in (
            with_each done r.afters last.0,
            r.back.disks last.0 last.1 (still_all_out done was last.0 last.2) ∙ ap (option_map (with_each done r.afters)) last.1,
            all_back done r.befores r.afters was last.0 (r.out.were was told) last.2 r.back.count,
          );
      rest = keeps_more_counts old r.mid new (but_counts old r.mid r.mid.faults r.mid.failed r.out.rest)
          (keeps_more_counts r.mid r.last new next.rest (but_counts r.last new new.faults r.last.failed r.back.rest));
      cause = λ is. omega (arith, r.back.rest.faults, next.cause is, r.out.rest.faults);
      steady = λ other. r.back.rest.faults ∙ next.steady other ∙ r.out.rest.faults;
      no_fewer = omega (arith, r.back.failed.later, next.no_fewer, r.out.rest.failed);
      store = λ at is. omega (arith, r.back.failed.later, next.store at is, r.out.rest.failed);
    }

no_memory : OutOfMemory ≡ HostFault → ⊥
no_memory is = cc

pub by_setting : (why : HostError) (old new : Desk) (error : RunError) → error ≡ of_host why → HasHostCause why old.faults new.faults
    → (error ≡ HostFault → Rose old.faults new.faults) × ((error ≡ HostFault → ⊥) → new.faults ≡ old.faults)
by_setting host.Failed old new error is rose = (λ _. rose, λ other. absurd (other is))
by_setting host.OutOfMemory old new error is same = (λ fault. absurd (no_memory (sym is ∙ fault)), λ _. same)

pub no_setting_store : (why : HostError) (place : ℕ) → of_host why ≡ Area place (Base refused.StoreFault) → ⊥
no_setting_store host.Failed place is = cc
no_setting_store host.OutOfMemory place is = cc

no_setting_fault : (why : ConfError) → of_settings why ≡ HostFault → ⊥
no_setting_fault conf.OutOfMemory is = cc
no_setting_fault why is = cc

settings_no_store : (why : ConfError) (place : ℕ) → of_settings why ≡ Area place (Base refused.StoreFault) → ⊥
settings_no_store conf.OutOfMemory place is = cc
settings_no_store why place is = cc

host_fault : (why : AreasError) → of_areas why ≡ HostFault → why ≡ areas.HostFault
host_fault (areas.Area place error) is = absurd (let no : ⊥ = cc in no)
host_fault areas.HostFault is = refl
host_fault areas.OutOfMemory is = absurd (no_memory is)

store_of : (why : AreasError) (place : ℕ) → of_areas why ≡ Area place (Base refused.StoreFault) → why ≡ areas.Area place (Base refused.StoreFault)
store_of (areas.Area at error) place is = cc
store_of areas.HostFault place is = absurd (let no : ⊥ = cc in no)
store_of areas.OutOfMemory place is = absurd (let no : ⊥ = cc in no)

module _ (Lines : Type 0) (path : List ℕ) (old new : Desk) (error : RunError) where
  no_settings : HasNoSettings path old new error → BeginsNone Lines path old new error
  no_settings h =
      let causes = by_setting h.why old new error h.is h.refuses.cause in
      let rest = h.refuses.rest in
      record {
        why = inl h;
        disks = all_same old.disks new.disks h.refuses.disks;
        rest = but_doors old new (but_counts old new old.faults new.failed rest);
        doors = λ _. (rest.waiting, rest.doors);
        cause = causes.0;
        steady = causes.1;
        no_fewer = omega (arith, rest.failed);
        store = λ place is. absurd (no_setting_store h.why place (sym h.is ∙ is));
      }

  settings_refused : RefusesSettings path old new error → BeginsNone Lines path old new error
  settings_refused r =
      let rest = r.gives.rest in
      record {
        why = inr (inl r);
        disks = all_same old.disks new.disks r.gives.disks;
        rest = but_doors old new (but_counts old new new.faults new.failed rest);
        doors = λ _. (rest.waiting, rest.doors);
        cause = λ is. absurd (no_setting_fault r.why (sym r.is ∙ is));
        steady = λ _. rest.faults;
        no_fewer = omega (arith, rest.failed);
        store = λ place is. absurd (settings_no_store r.why place (sym r.is ∙ is));
      }

  -- no board was read
  pub no_board : HasNoSettings path old new error ⊎ RefusesSettings path old new error → BeginsNone Lines path old new error
  no_board (inl none) = no_settings none
  no_board (inr refuses) = settings_refused refuses

  -- the areas were not opened
  pub no_areas : RefusesAreas path old new error → BeginsNone Lines path old new error
  no_areas r =
      let left = all_refused r.board.areas r.mid new r.why r.refuses in
      let gives = r.has.gives in
      let rest = keeps_more_counts old r.mid new (but_counts old r.mid r.mid.faults r.mid.failed gives.rest) left.rest in
      record {
        why = inr (inr (inl r));
        disks = subst (λ (d : Option Disks). AllBack d new.disks) gives.disks left.disks;
        rest = but_doors old new rest;
        doors = λ _. (rest.waiting, rest.doors);
        cause = λ is. omega (arith, left.cause (host_fault r.why (sym r.is ∙ is)), gives.rest.faults);
        steady = λ other. left.steady (λ is. other (r.is ∙ ap of_areas is)) ∙ gives.rest.faults;
        no_fewer = omega (arith, left.no_fewer, gives.rest.failed);
        store = λ place is. omega (arith, left.store place (store_of r.why place (sym r.is ∙ is)), gives.rest.failed);
      }
