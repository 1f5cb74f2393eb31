use Rattle.std.proofs.Common.{rules}
use Rattle.jb_turn.proofs.Out.{gives_out}
use Rattle.jb_turn.proofs.seat.Turn.give.Goals as goal

pub fetch_add-served-requires : goal.fetch_add-served-requires
fetch_add-served-requires g c = let was = c.requires.seat.1 in
    (search rules, search rules, gives_out g.row.S.Denot g.row.O.Denot g.row.E.Denot g.row.Q.Denot g.S.Kept.stands g.S.Kept.caller _ _ _ _ c.args.seat.now.place.me _ _ c.args.seat.now.one_row _ was.0 c.args.held.state was.1 c.exchange-was.ensures.3 c.requires.state)
