use Rattle.jb_shared.specs.Areas.{passes_of}
use Rattle.jb_run.proofs.LifeLemmas.{ends_as, none_missing, takes_back_at}
use Rattle.jb_run.proofs.sharing.end.Goals as goal

pub unreachable-requires : goal.unreachable-requires
unreachable-requires g c = none_missing c.args.passes.items (passes_of c.args.shared) c.in-Err._kept.2 c.requires.all c.in-Err.ensures.missing

pub returns : goal.returns
returns g c =
    let after = g.H.Disk.Disk.device c.close-in-Ok.result in
    let doubt = c.in_doubt-is_doubtful in (
      after,
      takes_back_at c.as_str.result.now c.as_str-in-Ok.result.now c.args.area.now.dir c.args.area.now.base after (g.H.Host.desk c.args.host.now) (g.H.Host.desk c.put_back.new.self) c.as_str.ensures c.as_str-in-Ok.ensures c.put_back.ensures,
      ends_as g.H.Disk.Disk.device c.args.passes.items c.in-Ok.opened doubt.result after c.in-Ok.ensures.closed doubt.ensures.doubt doubt.ensures.rests doubt.ensures.opens c.close-in-Ok.ensures,
    )
