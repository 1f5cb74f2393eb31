use Rattle.std.proofs.Common.{subst, sym}
use Rattle.jb_area.specs.Area.{loaded_of, rules_of}
use Rattle.jb_decide.proofs.DecidedLemmas.{fits_under, sound_under}
use Rattle.jb_link.specs.Index.{IsIndexOf}
use Rattle.jb_limits.specs.declared.limits.TheConstants.{MOST_SLOTS}
use Rattle.jb_index.specs.Change.{Follows}
use Rattle.jb_state.specs.Change.{Fits}
use Rattle.jb_state.specs.Sound.{IsSound}
use Rattle.jb_state.specs.declared.loaded.Loaded.{Loaded}
use Rattle.jb_shared.proofs.ChangingLemmas.{begun_sound, followed_by}
use Rattle.jb_shared.proofs.changing.change_of.Goals as goal

pub of-requires : goal.of-requires
of-requires g c =
    let area = c.args.area.now in
    let begun = c.requires.begun in
    record {
      index = subst (λ (l : Loaded). IsIndexOf c.replies.result.now l) (sym c.loaded.ensures) c.replies.ensures;
      sound = subst (IsSound MOST_SLOTS) (sym c.loaded.ensures)
          (sound_under (rules_of area).slots MOST_SLOTS (loaded_of area) begun.begun.kept.ruled.few_slots (begun_sound g.D.Disk.device area begun));
      fits = subst (Fits MOST_SLOTS c.change.result.now) (sym c.loaded.ensures)
          (fits_under (rules_of area).slots MOST_SLOTS c.change.result.now (loaded_of area) begun.begun.kept.ruled.few_slots c.change.ensures.fits);
    }

pub returns : goal.returns
returns g c =
    followed_by g.D.Disk.device c.args.area.now c.change.result.now c.in_ok-op.op c.requires.begun c.change.ensures.fits c.change.ensures.becomes
    (subst (λ (l : Loaded). Follows c.change.result.now l c.in_ok-op.op) c.loaded.ensures c.in_ok-op.ensures)
