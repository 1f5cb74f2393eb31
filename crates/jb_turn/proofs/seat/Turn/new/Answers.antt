use Rattle.std.proofs.Common.{rules, ◌≡◌, [], ◌∷◌, length, Some, ap, ◌∙◌}
use Rattle.std.proofs.lemmas.List.Elements.{All-push}
use Rattle.jb_turn.specs.declared.view.TicketStage.TheVariants.{Idle}
use Rattle.jb_turn.specs.Rows.{row, view_of}
use Rattle.jb_turn.specs.Steps.{maker_no_more, newcomer}
use Rattle.jb_turn.specs.Seats.{IsNew, HasNoTicket, turn_of}
use Rattle.jb_turn.proofs.Places.{each_end, is_new}
use Rattle.jb_turn.proofs.TurnKeeps.{starts, cuts_at}
use Rattle.jb_turn.proofs.seat.Turn.new.Goals as goal

pub new-requires : goal.new-requires
new-requires g c = starts g.row.S.Denot g.row.O.Denot g.row.E.Denot g.row.Q.Denot g.S.Kept.stands g.S.Kept.caller _ _ c.args.state _ (search rules) (search rules) (search rules) (search rules)

pub split_seat-next-requires : goal.split_seat-next-requires
split_seat-next-requires g c = let made : c.loop-node.place.me.0.made ≡ c.loop-node.node = ap (λ m. m.0.made) c.loop-node.invariant.view in
    (search rules, search rules, cuts_at g.row.S.Denot g.row.O.Denot g.row.E.Denot g.row.Q.Denot g.S.Kept.stands g.S.Kept.caller _ _ _ _ c.loop-node.place.me.0 made (search rules) (search rules) (search rules))

pub loop-node-preserved : goal.loop-node-preserved
loop-node-preserved g c = let old = c.loop-node.invariant in let now = c.split_seat-next.ensures in let first = g.S.Kept.opening c.args.state in
    let left : c.split_seat-next.new.seat.me ≡ (view_of Idle (row c.loop-node.node (Some first) [] [] [] ∷ []) 0, []) = now.2 ∙ ap (λ m. (maker_no_more m.0, m.1)) old.view in
    record {
      table = old.table;
      seated = search rules;
      view = now.4 ∙ ap (λ m. (newcomer m.0, [])) old.view;
      count = search rules;
      room = search rules;
      rests = rw c.push_reserved-in-loop-node.ensures.items (All-push (λ s. (turn_of s ≡ c.in-Ok-new.table.shared.table_id) × HasNoTicket s) c.loop-node.all.items _ old.rests (search rules, (ap (λ m. m.0.stage) left, ap (λ m. m.1) left)));
      each = rw c.push_reserved-in-loop-node.ensures.items (each_end (λ k s. IsNew first k s) c.loop-node.all.items _ old.each
          (is_new first (length c.loop-node.all.items) c.loop-node.node 0 c.split_seat-next.new.seat left (search rules)));
    }

pub returns-after-loop-node-clause-rests : goal.returns-after-loop-node-clause-rests
returns-after-loop-node-clause-rests g c = let old = c.loop-node.invariant in
    rw c.push_reserved-in-Ok-new.ensures.items (All-push (λ s. (turn_of s ≡ c.in-Ok-new.table.shared.table_id) × HasNoTicket s) c.loop-node.all.items _ old.rests (old.seated, (ap (λ m. m.0.stage) old.view, ap (λ m. m.1) old.view)))

pub returns-after-loop-node-clause-fresh : goal.returns-after-loop-node-clause-fresh
returns-after-loop-node-clause-fresh g c = let old = c.loop-node.invariant in let first = g.S.Kept.opening c.args.state in
    rw c.push_reserved-in-Ok-new.ensures.items (each_end (λ k s. IsNew first k s) c.loop-node.all.items _ old.each
    (is_new first (length c.loop-node.all.items) c.loop-node.node c.loop-node.node c.loop-node.place old.view (search rules)))
