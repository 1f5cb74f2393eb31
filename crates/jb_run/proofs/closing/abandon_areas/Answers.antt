use Rattle.std.proofs.Common.{length, take}
use Rattle.jb_run.specs.Rows.{lists_of}
use Rattle.jb_run.proofs.AbandonLemmas.{abandons}
use Rattle.jb_run.proofs.closing.abandon_areas.Goals as goal

pub returns : goal.returns
returns g c =
    abandons (take (length c.args.shared.areas.items) c.args.areas.now) (lists_of c.args.shared.nodes.items) (g.H.Host.desk c.args.host.now) (g.H.Host.desk c.close_areas.new.host)
    c.close_areas.result c.close_areas.ensures
