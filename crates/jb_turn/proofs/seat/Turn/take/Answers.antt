use Rattle.std.proofs.Common.{rules, ◌∙◌}
use Rattle.jb_turn.proofs.TurnKeeps.{draws, comes}
use Rattle.jb_turn.proofs.Out.{out_with, taken_is, counts_out, holds_out}
use Rattle.jb_turn.proofs.seat.Turn.take.Goals as goal

pub fetch_add-ticket-requires : goal.fetch_add-ticket-requires
fetch_add-ticket-requires g c =
    (c.requires.seat.0, search rules, draws g.row.S.Denot g.row.O.Denot g.row.E.Denot g.row.Q.Denot g.S.Kept.stands g.S.Kept.caller _ _ _ _ _ c.args.seat.now.one_row c.requires.seat.1.0)

pub load-serving-requires : goal.load-serving-requires
load-serving-requires g c =
    (search rules, search rules, comes g.row.S.Denot g.row.O.Denot g.row.E.Denot g.row.Q.Denot g.S.Kept.stands g.S.Kept.caller _ _ _ _ _ c.loop.seat.one_row c.loop.invariant.stage c.loop.invariant.empty)

pub exchange-requires : goal.exchange-requires
exchange-requires g c = let told = c.load-serving.ensures.2.0 (c.if-serving-ticket.true ∙ c.loop.invariant.drawn) in
    (search rules, out_with g.row.S.Denot g.row.O.Denot g.row.E.Denot g.row.Q.Denot g.S.Kept.stands g.S.Kept.caller _ c.loop.seat.place.me c.load-serving.new.seat.me told)

pub unwrap-state-requires : goal.unwrap-state-requires
unwrap-state-requires g c = let told = c.load-serving.ensures.2.0 (c.if-serving-ticket.true ∙ c.loop.invariant.drawn) in
    taken_is g.row.S.Denot g.row.O.Denot g.row.E.Denot g.row.Q.Denot g.S.Kept.stands g.S.Kept.caller _ c.loop.seat.place.me c.load-serving.new.seat.me c.exchange.result told c.exchange.ensures.2

pub load-count-requires : goal.load-count-requires
load-count-requires g c = let told = c.load-serving.ensures.2.0 (c.if-serving-ticket.true ∙ c.loop.invariant.drawn) in
    (search rules, search rules, counts_out g.row.S.Denot g.row.O.Denot g.row.E.Denot g.row.Q.Denot g.S.Kept.stands g.S.Kept.caller _ _ _ _ _ c.loop.seat.place.me c.load-serving.new.seat.me c.exchange.new.seat.me told c.exchange.ensures.3)

pub returns-then-serving-ticket-clause-holds : goal.returns-then-serving-ticket-clause-holds
returns-then-serving-ticket-clause-holds g c = let told = c.load-serving.ensures.2.0 (c.if-serving-ticket.true ∙ c.loop.invariant.drawn) in
    (search rules, holds_out g.row.S.Denot g.row.O.Denot g.row.E.Denot g.row.Q.Denot g.S.Kept.stands g.S.Kept.caller _ c.loop.seat.place.me c.load-serving.new.seat.me c.exchange.new.seat.me c.load-count.new.seat.me told c.exchange.ensures.3 c.load-count.ensures.2.0, search rules)
