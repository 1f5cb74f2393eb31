use Rattle.std.proofs.Common.{rules}
use Rattle.jb_turn.proofs.TurnKeeps.{notes}
use Rattle.jb_turn.proofs.seat.Turn.note.Goals as goal

pub fetch_add-requires : goal.fetch_add-requires
fetch_add-requires g c = let e = c.requires.entry in
    (c.requires.seat.0, search rules, notes g.row.S.Denot g.row.O.Denot g.row.E.Denot g.row.Q.Denot g.S.Kept.stands g.S.Kept.caller _ _ _ _ _ _ c.args.seat.now.one_row _ c.requires.seat.1.0 e.0 e.1 e.2 (search rules))
