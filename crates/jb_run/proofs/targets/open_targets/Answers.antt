use Rattle.std.proofs.Common.{[], List, Option, ap, map, subst, sym}
use Rattle.std.specs.Option.{option_map}
use Rattle.jb_run.specs.Desks.{HandsOut}
use Rattle.jb_run.specs.Nodes.{lent_path}
use Rattle.jb_run.specs.Targets.{targets_for}
use Rattle.jb_run.proofs.DeskLemmas.{hands_out_none}
use Rattle.jb_run.proofs.targets.open_targets.Goals as goal

-- none is asked for
pub returns-in-None-clause-ok : goal.returns-in-None-clause-ok
returns-in-None-clause-ok g c =
    let desk = g.H.Host.desk c.args.host.now in (
      [],
      ap (λ (l : List (Option g.row.H-Disk.Denot)). map (option_map g.H.Disk.Disk.device) l) c.requires.none.0,
      subst (λ (b : _). HandsOut (targets_for (lent_path b) c.args.areas.now) [] desk desk) (sym c.in-None.is) (hands_out_none desk),
    )
