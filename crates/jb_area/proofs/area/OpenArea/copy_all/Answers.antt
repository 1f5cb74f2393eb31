use Rattle.std.proofs.Common.{◌<◌, ◌≤◌, Bool, Err, Ok, Result, refl, subst, sym, true}
use Rattle.std.proofs.lemmas.Bool.{false≢true}
use Rattle.jb_limits.specs.declared.limits.TheConstants.{TEXTS_CEILING}
use Rattle.jb_decide.specs.declared.error.AreaError.{AreaError}
use Rattle.jb_state.specs.declared.loaded.Loaded.{Loaded}
use Rattle.jb_state.specs.Packed.{texts_size}
use Rattle.jb_area.specs.Calls.{StepsPack}
use Rattle.jb_area.specs.Copying.{begun_of}
use Rattle.jb_area.proofs.MeasureLemmas.{copied_fewer, to_do_with}
use Rattle.jb_area.proofs.StepLemmas.{all_then, rests_then, steps_none, steps_then}
use Rattle.jb_area.proofs.area.OpenArea.copy_all.Goals as goal

pub loop-more-init : goal.loop-more-init
loop-more-init g c = record {
  steps = steps_none g.D.Disk.device c.args.self.now true;
  rest = c.requires.rests;
  fits = c.requires.fits;
  all = λ is. absurd (false≢true (sym is));
}

pub copy-requires-clause-rests : goal.copy-requires-clause-rests
copy-requires-clause-rests g c = c.loop-more.invariant.rest

pub copy-requires-clause-fits : goal.copy-requires-clause-fits
copy-requires-clause-fits g c = c.loop-more.invariant.fits

pub loop-more-preserved : goal.loop-more-preserved
loop-more-preserved g c =
    let at = c.loop-more in
    let steps = c.copy.ensures.steps in
    let done : Result Bool AreaError = Ok at.more in
    record {
      steps = steps_then g.D.Disk.device c.args.self.now at.self c.copy.new.self done (Ok c.in-Ok.left) at.more refl at.invariant.steps
          (subst (λ (r : Result Bool AreaError). StepsPack g.D.Disk.device at.self c.copy.new.self r) c.in-Ok.is steps);
      rest = rests_then g.D.Disk.device at.self c.copy.new.self c.copy.result c.in-Ok.left c.in-Ok.is steps at.invariant.rest;
      fits = subst (λ (l : Loaded). texts_size l.slots ≤ TEXTS_CEILING) (sym steps.loaded) at.invariant.fits;
      all = all_then g.D.Disk.device at.self c.copy.new.self c.copy.result c.in-Ok.left steps c.in-Ok.ensures.copied;
    }

pub loop-more-smaller : goal.loop-more-smaller
loop-more-smaller g c =
    let at = c.loop-more in
    let steps = c.copy.ensures.steps in
    let has = at.invariant.rest in
    subst (λ (b : Bool). to_do_with c.in-Ok.left c.copy.new.self.held.slots (begun_of c.copy.new.self.packer) < to_do_with b at.self.held.slots (begun_of at.self.packer)) (sym c.loop-more-test.true)
    (subst (λ (l : Loaded). to_do_with c.in-Ok.left l.slots (begun_of c.copy.new.self.packer) < to_do_with true at.self.held.slots (begun_of at.self.packer)) (sym steps.loaded)
    (copied_fewer at.self.rules.slots at.self.held has.rests.kept.ruled.sound at.invariant.fits at.self.packer c.copy.new.self.packer c.in-Ok.left c.in-Ok.ensures.copied))

pub returns-in-Err-clause-steps : goal.returns-in-Err-clause-steps
returns-in-Err-clause-steps g c =
    let at = c.loop-more in
    let done : Result Bool AreaError = Ok at.more in
    steps_then g.D.Disk.device c.args.self.now at.self c.copy.new.self done (Err c.in-Err.error) at.more refl at.invariant.steps
    (subst (λ (r : Result Bool AreaError). StepsPack g.D.Disk.device at.self c.copy.new.self r) c.in-Err.is c.copy.ensures.steps)

pub returns-clause-steps : goal.returns-clause-steps
returns-clause-steps g c = c.loop-more.invariant.steps

pub returns-clause-all : goal.returns-clause-all
returns-clause-all g c = c.loop-more.invariant.all c.loop-more-test.false
