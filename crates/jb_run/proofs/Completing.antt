-- Settings and bases that are there and open are refused for nothing but a fault or want of memory.
use Rattle.std.proofs.Common.{◌≡◌, ℕ, ◌+◌, ◌<◌, Bool, true, false, ◌&&◌, List, [], ◌∷◌, ◌++◌, length, inl, inr, ap, sym, subst, ◌∙◌, refl, length-append, arith}
use Rattle.std.specs.Prelude.{◌⊎◌, bytes_eq, if◌then◌else◌, slice_index_or, take, unwrap_or, Option, Some, Err}
use Rattle.std.specs.Option.{option_map}
use Rattle.std.proofs.Math.Seq.{get_or-append_seam}
use Rattle.jb_area_open.specs.Laws.{IsNotOfBase, OpensWithin, RefusesNothingThatOpens}
use Rattle.jb_area_open.specs.declared.error.OpeningError.{OpeningError}
use Rattle.jb_area_open.specs.declared.error.OpeningError.TheVariants.{BadJournal, Base}
use Rattle.jb_conf.specs.Settings.{ReadsSettings}
use Rattle.jb_conf.specs.declared.board.BoardArea.{BoardArea}
use Rattle.jb_conf.specs.declared.error.ConfError.{ConfError}
use Rattle.jb_conf.specs.declared.error.ConfError.TheVariants as conf
use Rattle.jb_disk.specs.Device.{Device}
use Rattle.jb_disk.specs.Files.{Files}
use Rattle.jb_host.specs.Desk.{Desk, Disks, DiskPlace, handed_out, has_disk, no_disk, with_place}
use Rattle.jb_host.specs.declared.host.HostError.{HostError}
use Rattle.jb_host.specs.declared.host.HostError.TheVariants as host
use Rattle.jb_image.specs.Laws.{IsNotOfFiles}
use Rattle.jb_image.specs.declared.error.OpenError.{OpenError}
use Rattle.jb_image.specs.declared.error.OpenError.TheVariants as refused
use Rattle.jb_run.specs.All.{RefusesAll, RefusesNext}
use Rattle.jb_run.specs.AreasErrors.{RefusesArea, RefusesDisk, ReturnsDisk, refused_at}
use Rattle.jb_run.specs.Begins.{BeginsNone, LacksTarget, RefusesAreas, RefusesLines, RefusesSettings}
use Rattle.jb_run.specs.Desks.{BasePlace, places_of, with_places_out}
use Rattle.jb_run.specs.Laws.{HasFiles, HasNotFailed, HasOpenBoard, RefusesNoOpenBoard, SayOpenBoard}
use Rattle.jb_run.specs.LocalEnding.{of_areas, of_host, of_settings}
use Rattle.jb_run.specs.Targets.{HaveAllTargets, HaveTargets, has_no_target}
use Rattle.jb_run.proofs.EachLemmas.{one_of}
use Rattle.jb_run.specs.declared.areas_error.AreasError.{AreasError}
use Rattle.jb_run.specs.declared.areas_error.AreasError.TheVariants as areas
use Rattle.jb_run.specs.declared.error.RunError.{RunError}
use Rattle.jb_run.specs.declared.error.RunError.TheVariants as run

one_some : {T : Type 0} (a b : T) → Some a ≡ Some b → a ≡ b
one_some {T} a b same = ap (λ (o : Option T). unwrap_or o a) same

-- what is there behind a place that was emptied was there before
there_before : (b : Bool) (device : Device) (place : DiskPlace) → (if b then handed_out else place) ≡ has_disk device → place ≡ has_disk device
there_before true device place is = absurd (cc (is))
there_before false device place is = is

-- what is there while disks are out was there before
was_there : (out : List BasePlace) (disks : Disks) (dir name : List ℕ) (device : Device) → with_places_out out disks dir name ≡ has_disk device → disks dir name ≡ has_disk device
was_there [] disks dir name device is = is
was_there (place ∷ out) disks dir name device is =
    there_before (bytes_eq dir place.dir && bytes_eq name place.base) device (disks dir name)
    (was_there out (with_place place.dir place.base handed_out disks) dir name device is)

abbrev device_in : Device → DiskPlace → Device
device_in other no_disk = other
device_in other handed_out = other
device_in other (has_disk device) = device

-- a place has one disk
same_disk : (one other : Device) → has_disk one ≡ has_disk other → one ≡ other
same_disk one other same = ap (device_in one) same

-- what is refused but not for what it holds: its store has failed, or memory was wanting
only_memory : (place : ℕ) (error : OpenError) → IsNotOfFiles error → (error ≡ refused.StoreFault) ⊎ (error ≡ refused.OutOfMemory)
only_memory place refused.ShortHeader is = absurd is
only_memory place refused.BadSignature is = absurd is
only_memory place refused.BaseZero is = absurd is
only_memory place refused.IndexLength is = absurd is
only_memory place refused.LastreadLength is = absurd is
only_memory place refused.TooManySlots is = absurd is
only_memory place refused.NumberRange is = absurd is
only_memory place (refused.HeaderPlace n) is = absurd is
only_memory place (refused.HeaderSignature n) is = absurd is
only_memory place (refused.HeaderRevision n) is = absurd is
only_memory place (refused.Subfields n at) is = absurd is
only_memory place (refused.TextPlace n) is = absurd is
only_memory place (refused.HeadersOverlap a b) is = absurd is
only_memory place refused.StoreFault is = inl refl
only_memory place refused.OutOfMemory is = inr refl

only_store : (place : ℕ) (why : OpeningError) → IsNotOfBase why → (refused_at place why ≡ areas.Area place (Base refused.StoreFault)) ⊎ (refused_at place why ≡ areas.OutOfMemory)
only_store place (BadJournal at) is = absurd is
only_store place (Base error) is = elim (only_memory place error is) [
  | inl store ↦ inl (ap (λ (e : OpenError). refused_at place (Base e)) store)
  | inr memory ↦ inr (ap (λ (e : OpenError). refused_at place (Base e)) memory)
]

-- a refusal of areas that open: the store of one has failed, the host has, or memory was wanting
abbrev IsOnlyFault : AreasError → Type 0
IsOnlyFault error = ((place : ℕ) × (error ≡ areas.Area place (Base refused.StoreFault))) ⊎ ((error ≡ areas.HostFault) ⊎ (error ≡ areas.OutOfMemory))

of_host_only : (error : AreasError) (why : HostError) → error ≡ Rattle.jb_run.specs.AreasErrors.refused_by_host why → IsOnlyFault error
of_host_only error host.Failed is = inr (inl is)
of_host_only error host.OutOfMemory is = inr (inr is)

-- the disk of an area that opens, as it was when the areas were asked for
pub record IsOpenHere (disks : Disks) (area : BoardArea) : Type 0 where
  pub base : HasFiles (OpensWithin area.rules.slots) disks area.dir area.base

module _ (opens : RefusesNothingThatOpens) where
  disk_only : (place slots : ℕ) (before after : Device) (error : AreasError) (was : Files) → before.contents ≡ Some was → OpensWithin slots was
      → RefusesDisk place slots before after error → IsOnlyFault error
  disk_only place slots before after error was told within refuses =
      elim (only_store place refuses.why (opens slots before after was refuses.why told within refuses.refuses)) [
        | inl store ↦ inl (place, refuses.is ∙ store)
        | inr memory ↦ inr (inr (refuses.is ∙ memory))
      ]

  area_only : (place : ℕ) (area : BoardArea) (disks : Disks) (old new : Desk) (error : AreasError)
      → HasFiles (OpensWithin area.rules.slots) disks area.dir area.base → ((device : Device) (now : Disks) → old.disks ≡ Some now → now area.dir area.base ≡ has_disk device → disks area.dir area.base ≡ has_disk device)
      → (now : Disks) → old.disks ≡ Some now → RefusesArea place area old new error → IsOnlyFault error
  area_only place area disks old new error files back now told (inl returns) =
      let here = back returns.before now told (returns.gives.was now told) in
      let same : files.device ≡ returns.before = same_disk files.device returns.before (sym files.stands ∙ here) in
      let has : returns.before.contents ≡ Some files.files = ap (λ (d : Device). d.contents) (sym same) ∙ files.told in
      elim returns.why [
        | inl disk ↦ disk_only place area.rules.slots returns.before returns.after error files.files has files.has disk
        | inr room ↦ inr (inr room.is)
      ]
  area_only place area disks old new error files back now told (inr (inl none)) = of_host_only error none.why none.is
  area_only place area disks old new error files back now told (inr (inr nothing)) = inr (inr nothing.0)

  next_only : (place : ℕ) (done left : List BoardArea) (disks : Disks) (old new : Desk) (error : AreasError)
      → ((area : BoardArea) (k : ℕ) → k < length (done ++ left) → HasFiles (OpensWithin (slice_index_or (done ++ left) k area).rules.slots) disks (slice_index_or (done ++ left) k area).dir (slice_index_or (done ++ left) k area).base)
      → old.disks ≡ Some (with_places_out (places_of done) disks) → RefusesNext place left old new error → IsOnlyFault error
  next_only place done [] disks old new error each told nothing = inr (inr nothing.0)
  next_only place done (area ∷ left) disks old new error each told refuses =
      let P : BoardArea → Type 0 = λ a. HasFiles (OpensWithin a.rules.slots) disks a.dir a.base in
      let files : P area = subst P (get_or-append_seam done area left area) (each area (length done) (omega (arith, length-append done (area ∷ left)))) in
      area_only place area disks old new error files
      (λ device now is here. was_there (places_of done) disks area.dir area.base device (ap (λ (d : Disks). d area.dir area.base) (one_some (with_places_out (places_of done) disks) now (sym told ∙ is)) ∙ here))
      (with_places_out (places_of done) disks) told refuses

  all_only : (board_areas : List BoardArea) (disks : Disks) (old new : Desk) (error : AreasError) → old.disks ≡ Some disks
      → ((area : BoardArea) (k : ℕ) → k < length board_areas → HasFiles (OpensWithin (slice_index_or board_areas k area).rules.slots) disks (slice_index_or board_areas k area).dir (slice_index_or board_areas k area).base)
      → RefusesAll board_areas old new error → IsOnlyFault error
  all_only board_areas disks old new error told each all =
      let P : List BoardArea → Type 0 = λ them. (area : BoardArea) (k : ℕ) → k < length them
      → HasFiles (OpensWithin (slice_index_or them k area).rules.slots) disks (slice_index_or them k area).dir (slice_index_or them k area).base in
      next_only (length all.done + 1) all.done all.left disks all.mid all.last error (subst P all.parts each)
      (all.out.disks ∙ ap (option_map (with_places_out (places_of all.done))) told) all.refuses

  -- what is refused of a board, one after the other
  settings_none : (path : List ℕ) (backup : Option (List ℕ)) (old new : Desk) (error : RunError) → HasOpenBoard old path backup → RefusesSettings path old new error → error ≡ run.OutOfMemory
  settings_none path backup old new error there refuses =
      let same : there.bytes ≡ refuses.bytes = one_some there.bytes refuses.bytes (sym there.stands ∙ refuses.gives.was there.pages there.told) in
      let P : List ℕ → Type 0 = λ b. (e : ConfError) → ReadsSettings b (Err e) → e ≡ conf.OutOfMemory in
      let memory : refuses.why ≡ conf.OutOfMemory = subst P same there.say.only refuses.why refuses.reads in
      refuses.is ∙ ap of_settings memory

  areas_none : (path : List ℕ) (backup : Option (List ℕ)) (old new : Desk) (error : RunError) → HasOpenBoard old path backup → RefusesAreas path old new error
      → (why : AreasError) × (error ≡ of_areas why) × IsOnlyFault why
  areas_none path backup old new error there refuses =
      let same : there.bytes ≡ refuses.has.bytes = one_some there.bytes refuses.has.bytes (sym there.stands ∙ refuses.has.gives.was there.pages there.told) in
      let P : List ℕ → Type 0 = λ b. SayOpenBoard there.disks backup b in
      let say : SayOpenBoard there.disks backup refuses.has.bytes = subst P same there.say in (
        refuses.why,
        refuses.is,
        all_only refuses.board.areas there.disks refuses.mid new refuses.why (refuses.has.gives.disks ∙ there.disks_told)
            (λ area k within. say.boards refuses.board refuses.has.reads k area within) refuses.refuses,
      )

  host_none : (error : RunError) (why : HostError) → error ≡ of_host why → (error ≡ run.HostFault) ⊎ (error ≡ run.OutOfMemory)
  host_none error host.Failed is = inl is
  host_none error host.OutOfMemory is = inr is

  -- a refusal that is that of the host or a store would have been counted
  not_counted : (error : RunError) → (error ≡ run.HostFault → ⊥) → (error ≡ run.HostFault) ⊎ (error ≡ run.OutOfMemory) → error ≡ run.OutOfMemory
  not_counted error quiet (inl host) = absurd (quiet host)
  not_counted error quiet (inr memory) = memory

  only_none : (error : RunError) (why : AreasError) → (error ≡ run.HostFault → ⊥) → ((place : ℕ) → error ≡ run.Area place (Base refused.StoreFault) → ⊥)
      → error ≡ of_areas why → IsOnlyFault why → error ≡ run.OutOfMemory
  only_none error why host store is (inl fault) = absurd (store fault.0 (is ∙ ap of_areas fault.1))
  only_none error why host store is (inr (inl fault)) = absurd (host (is ∙ ap of_areas fault))
  only_none error why host store is (inr (inr memory)) = is ∙ ap of_areas memory

  -- the first refusal, where that of the lines is one of the host
  begins_none : (Lines : Type 0) (path : List ℕ) (backup : Option (List ℕ)) (old new : Desk) (error : RunError)
      → (Lines → (error ≡ run.HostFault) ⊎ (error ≡ run.OutOfMemory)) → BeginsNone Lines path old new error → HasNotFailed old new → HasOpenBoard old path backup
      → error ≡ run.OutOfMemory
  begins_none Lines path backup old new error of_lines none quiet there =
      let host : error ≡ run.HostFault → ⊥ = λ is. quiet.host (none.cause is) in
      elim none.why [
        | inl settings ↦ not_counted error host (host_none error settings.why settings.is)
        | inr rest ↦ elim rest [
          | inl settings ↦ settings_none path backup old new error there settings
          | inr later ↦ elim later [
            | inl refuses ↦ let only = areas_none path backup old new error there refuses in
                only_none error only.0 host (λ place is. quiet.back (none.store place is)) only.1 only.2
            | inr lines ↦ not_counted error host (of_lines lines)
          ]
        ]
      ]

  two_bits : (b : Bool) → b ≡ true → b ≡ false → ⊥
  two_bits true is off = cc
  two_bits false is off = cc

  none_lacks : (path : List ℕ) (backup : Option (List ℕ)) (old new : Desk) (error : RunError) → HasOpenBoard old path backup → LacksTarget path backup old new error → ⊥
  none_lacks path backup old new error there lacks =
      let same : there.bytes ≡ lacks.has.bytes = one_some there.bytes lacks.has.bytes (sym there.stands ∙ lacks.has.gives.was there.pages there.told) in
      let P : List ℕ → Type 0 = λ b. SayOpenBoard there.disks backup b in
      let say : SayOpenBoard there.disks backup lacks.has.bytes = subst P same there.say in
      let all : List BoardArea = lacks.board.areas in
      let have : HaveTargets lacks.dir all (length all) = subst (λ (b : Option (List ℕ)). HaveAllTargets b all) lacks.folder (say.targeted lacks.board lacks.has.reads) in
      let area = one_of all lacks.place lacks.first.within in
      two_bits (has_no_target lacks.dir (take lacks.place all) (slice_index_or all lacks.place area)) (lacks.first.is area) (have lacks.place area lacks.first.within)

  lines_host : (path : List ℕ) (most : Option ℕ) (backup : Option (List ℕ)) (old new : Desk) (error : RunError) → HasOpenBoard old path backup
      → RefusesLines path most backup old new error → (error ≡ run.HostFault) ⊎ (error ≡ run.OutOfMemory)
  lines_host path most backup old new error there (inl lacks) = absurd (none_lacks path backup old new error there lacks)
  lines_host path most backup old new error there (inr calls) = host_none error calls.why calls.is

  pub refuses_none : RefusesNoOpenBoard
  refuses_none path most backup old new error (inl one) quiet there = begins_none ⊥ path backup old new error (λ lines. absurd lines) one quiet there
  refuses_none path most backup old new error (inr many) quiet there =
      begins_none (RefusesLines path most backup old new error) path backup old new error (lines_host path most backup old new error there) many quiet there
