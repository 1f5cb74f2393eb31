use Rattle.jb_page.specs.Pagers.{IsPagerOf}
use Rattle.trial_parts.proofs.pages.send.Given as goal

abbrev pub invariant-loop : goal.invariant-loop
invariant-loop g l = IsPagerOf l.pages l.pager
