use Rattle.std.proofs.Common.{subst, sym}
use Rattle.jb_run.specs.Telling.{AreNamed}
use Rattle.jb_run.proofs.Naming.{are_named}
use Rattle.jb_run.proofs.telling.tell_open.Goals as goal

pub tell_areas-requires : goal.tell_areas-requires
tell_areas-requires g c = record { named = subst AreNamed (sym c.as_slice.ensures) (are_named c.args.board.now) }
