use Rattle.std.proofs.Common.{List, ap, inr, refl, subst, sym}
use Rattle.jb_conf.specs.declared.board.BoardArea.{BoardArea}
use Rattle.jb_run.specs.Begins.{HasBoard}
use Rattle.jb_run.specs.Nodes.{lent_path}
use Rattle.jb_run.specs.Targets.{IsFirstWithout}
use Rattle.jb_run.proofs.targets.board_for.Goals as goal

-- an area has no target
pub returns-clause-err : goal.returns-clause-err
returns-clause-err g c = inr (inr (record {
  board = c.in_ok-board.board;
  has = subst (HasBoard c.args.path.now c.in_ok-board.board (g.H.Host.desk c.args.host.now)) (sym c.tell_untargeted.ensures) c.in_ok-board.ensures.ok;
  dir = c.in-Some.dir.now;
  folder = ap lent_path c.in-Some.is;
  place = c.in-Some-first_without_target.place;
  first = subst (λ (l : List BoardArea). IsFirstWithout c.in-Some.dir.now l c.in-Some-first_without_target.place) c.as_slice.ensures c.in-Some-first_without_target.ensures.some;
  is = refl;
}))
