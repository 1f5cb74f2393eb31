-- What stands for the history while the files of the area are read, and the texts that an area at rest has by it.
use Rattle.std.proofs.Common.{◌≡◌, ℕ, ◌≤◌, List, Some, None, sym, ◌∙◌, ap, subst, arith}
use Rattle.std.specs.Prelude.{is_some}
use Rattle.jb_area.specs.Area.{IsResting, device_of, packs_of}
use Rattle.jb_area.specs.Backups.{StandsAsBefore}
use Rattle.jb_area.specs.declared.area.OpenArea.{OpenArea}
use Rattle.jb_disk.specs.Device.{Device, OnlyReads}
use Rattle.jb_disk.specs.Files.{Files}
use Rattle.jb_disk.specs.Runs.{LeavesNow, LeavesOnly, Shows}
use Rattle.jb_disk.proofs.FileLemmas.{leaves_map}
use Rattle.jb_disk.proofs.RunLemmas.{runs-refl}
use Rattle.jb_model.specs.Standing.{Standing, Settled, InDoubt, StandsWithin}
use Rattle.jb_model.specs.declared.entry.Entry.{Entry}
use Rattle.jb_publish.specs.declared.known.PairMark.{PairMark}
use Rattle.jb_state.specs.State.{state_of}
use Rattle.jb_state.specs.declared.loaded.Loaded.{Loaded}
use Rattle.jb_shared.specs.Histories.{Tells}
use Rattle.jb_shared.specs.Keeping.{HasChange, IsKept}
use Rattle.jb_shared.specs.Standing.{IsAt, LeavesBetween, StandsAt, StandsForHistory, doubt_between}
use Rattle.jb_shared.specs.Stops.{OpensAtLast, OpensBetween}
use Rattle.jb_shared.specs.Texts.{HasTextFiles, TextFiles, text_files_at}
use Rattle.jb_shared.specs.declared.opening.Opening.{Opening}
use Rattle.jb_shared.specs.declared.shown.ShownArea.{ShownArea}
use Rattle.jb_shared.proofs.IndexLemmas.{rests_no_change, rests_no_doubt, unchanged_no_change}
use Rattle.jb_shared.proofs.StandingLemmas.{comes_still}
use Rattle.jb_shared.proofs.StopLemmas.{comes_by_still, opens_same}
use Rattle.jb_shared.proofs.TextLemmas.{one_text}

-- a disk that is only read shows what it did
shows_read : (P : Files → Type 0) (old new : Device) → OnlyReads old new → Shows P old → Shows P new
shows_read P old new reads shows = record { read = λ files there. shows.read files (sym reads.contents ∙ there); left = subst (LeavesNow P) (sym reads.moments) shows.left }

-- and a crash meanwhile leaves what it left before
leaves_read : (P : Files → Type 0) (old new : Device) → OnlyReads old new → LeavesNow P old.moments → LeavesOnly old new P
leaves_read P old new reads first = record { first = first; run = runs-refl P old.moments new.moments reads.moments }

-- of a disk that shows itself so
module _ {D : Type 0} (shown : D → Device) where
  -- the area is where it was
  at_read : (old new : OpenArea D) (standing : Standing) → StandsAsBefore shown old new → IsAt shown old standing → IsAt shown new standing
  at_read old new (Settled state) same (texts, rests, is) = (texts, same.rests texts rests, ap (state_of texts) same.loaded ∙ is)
  at_read old new (InDoubt before after) same (texts, coming, doubt, within) =
      (texts, coming, same.doubt texts coming doubt, subst (λ (l : Loaded). StandsWithin (doubt_between texts l coming) (InDoubt before after)) (sym same.loaded) within)

  -- with the same texts and packs
  files_read : (old new : OpenArea D) (standing : Standing) (files : TextFiles) → StandsAsBefore shown old new → HasTextFiles shown old standing files → HasTextFiles shown new standing files
  files_read old new (Settled state) files same (rests, packs) = (same.rests files.now.bytes rests, same.packs ∙ packs)
  files_read old new (InDoubt before after) files same (coming, doubt, packs, to) =
      (coming, same.doubt files.now.bytes coming doubt, same.packs ∙ packs, comes_still shown old new coming files.coming same.packs_to to)

  -- a crash while the area is read leaves what opens to it after the history
  pub read_leaves : (old new : OpenArea D) (opening : Opening) (history : List Entry) → OnlyReads (device_of shown old) (device_of shown new) → StandsForHistory shown old opening history → LeavesBetween shown old new opening history history
  read_leaves old new opening history reads (standing, stands) = λ t.
      leaves_read (OpensBetween opening history history) (device_of shown old) (device_of shown new) reads
      (leaves_map (OpensAtLast opening history) (OpensBetween opening history history) (device_of shown old).moments (opens_same opening history) (stands.opens t).left)

  -- an area whose disk alone changed, and that by readings, stands for the history as before
  pub stands_read : (old new : OpenArea D) (opening : Opening) (history : List Entry) (standing : Standing) → StandsAsBefore shown old new → OnlyReads (device_of shown old) (device_of shown new)
      → (device_of shown old).faults ≤ (device_of shown new).faults → StandsAt shown old opening history standing → StandsAt shown new opening history standing
  stands_read old new opening history standing same reads later stands = record {
    rules = same.rules ∙ stands.rules;
    history = stands.history;
    faults = omega (arith, stands.faults, later);
    told = ap is_some reads.contents ∙ stands.told;
    at = at_read old new standing same stands.at;
    kind = stands.kind;
    leads = stands.leads;
    text_files = λ t. files_read old new standing (text_files_at opening history) same (stands.text_files t);
    opens = λ t. shows_read (OpensAtLast opening history) (device_of shown old) (device_of shown new) reads (stands.opens t);
    crash = λ t. comes_by_still opening (device_of shown old) (device_of shown new) history (stands.crash t) (read_leaves old new opening history reads (standing, stands) t);
  }

  -- a change that is in doubt then was so before
  change_read : (old new : OpenArea D) (standing : Standing) → StandsAsBefore shown old new → IsAt shown old standing → HasChange shown new → HasChange shown old
  change_read old new (Settled state) same (texts, rests, is) change = absurd (rests_no_change shown new (same.rests texts rests).stage change)
  change_read old new (InDoubt before after) same (texts, None, doubt, within) change = absurd (unchanged_no_change shown new texts (same.doubt texts None doubt) change)
  change_read old new (InDoubt before after) same (texts, Some coming, doubt, within) change = (texts, coming, doubt)

  -- and so does all that lies behind the turn with it
  pub kept_read : (old : ShownArea D) (area : OpenArea D) (mark : PairMark Opening) (history : List Entry) → StandsAsBefore shown old.area area → OnlyReads (device_of shown old.area) (device_of shown area)
      → (device_of shown old.area).faults ≤ (device_of shown area).faults → IsKept shown old mark history → IsKept shown (record { area = area; shower = old.shower; doubted = old.doubted }) mark history
  kept_read old area mark history same reads later kept =
      let was = kept.area in
      record {
        area = (was.0, stands_read old.area area mark.opening history was.0 same reads later was.1);
        index = record {
          pair = kept.index.pair;
          list = kept.index.list;
          queued = kept.index.queued;
          value = kept.index.value;
          doubted = λ t before after between change. kept.index.doubted t before after between (change_read old.area area was.0 same was.1.at change);
        };
      }

  -- an area at rest has the texts and the packs to which the history leads
  pub kept_text_file : (state : ShownArea D) (mark : PairMark Opening) (history : List Entry) (texts : List ℕ) → IsKept shown state mark history → Tells mark.opening → IsResting shown state.area texts
      → (texts ≡ (text_files_at mark.opening history).now.bytes) × (packs_of state.area ≡ (text_files_at mark.opening history).now.packs)
  kept_text_file state mark history texts kept t rests = let was = kept.area in file_by was.0 was.1
    where
      file_by : (standing : Standing) → StandsAt shown state.area mark.opening history standing
          → (texts ≡ (text_files_at mark.opening history).now.bytes) × (packs_of state.area ≡ (text_files_at mark.opening history).now.packs)
      file_by (Settled at) stands =
          let held = stands.text_files t in (one_text shown state.area texts (text_files_at mark.opening history).now.bytes (stands.told ∙ t) rests held.0, held.1)
      file_by (InDoubt before after) stands = let held = stands.text_files t in absurd (rests_no_doubt shown state.area (text_files_at mark.opening history).now.bytes held.0 rests.stage held.1)
