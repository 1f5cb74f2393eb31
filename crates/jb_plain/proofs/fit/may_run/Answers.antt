use Rattle.std.proofs.Common.{sym, ◌∙◌}
use Rattle.jb_plain.proofs.FitLaws.{fits_well, well_fits}
use Rattle.jb_plain.proofs.fit.may_run.Goals as goal

pub returns : goal.returns
returns c =
    (λ told. fits_well c.args.slots c.args.area.now (sym c.fits_area.ensures ∙ told), λ well. c.fits_area.ensures ∙ well_fits c.args.slots c.args.area.now well)
