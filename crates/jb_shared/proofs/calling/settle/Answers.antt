use Rattle.std.proofs.Common.{None, Some, refl, sym, ◌∙◌, arith}
use Rattle.jb_state.proofs.LinkLaws.{true_not_false}
use Rattle.jb_turn.specs.Seats.{row_of}
use Rattle.jb_shared.proofs.CallLemmas.{leads_still}
use Rattle.jb_shared.proofs.KeepingLemmas.{leaves_idle, out_in_doubt, out_settled}
use Rattle.jb_shared.proofs.KnowingLemmas.{on_ok_then}
use Rattle.jb_shared.proofs.calling.settle.Goals as goal

pub end_doubt-requires : goal.end_doubt-requires
end_doubt-requires g c =
    let out = c.requires.out in
    record {
      out = (
        record {
          holds = out.0.holds;
          knows = out_in_doubt g.D.Disk.device c.args.held.state (row_of c.args.seat.now) out.0.knows (λ texts rests. true_not_false (sym c.if-in_doubt.true ∙ c.in_doubt.ensures.rests texts rests));
        },
        out.1,
      );
    }

pub returns-then-in_doubt-clause-ended : goal.returns-then-in_doubt-clause-ended
returns-then-in_doubt-clause-ended g c =
    on_ok_then c.end_doubt.result.1 _ _ c.end_doubt.ensures.ended (λ is. (Some is.0, is.1))

pub returns-else-in_doubt-clause-ended : goal.returns-else-in_doubt-clause-ended
returns-else-in_doubt-clause-ended g c = (None, leads_still _ (row_of c.args.seat.now) (λ account. refl))

pub returns-else-in_doubt-clause-ok : goal.returns-else-in_doubt-clause-ok
returns-else-in_doubt-clause-ok g c =
    let out = c.requires.out in (
      record {
        holds = out.0.holds;
        knows = out_settled g.D.Disk.device c.args.held.state (row_of c.args.seat.now) out.0.knows (λ has. true_not_false (sym (c.in_doubt.ensures.doubt has) ∙ c.if-in_doubt.false));
      },
      omega (arith, out.1),
    )

pub returns-else-in_doubt-clause-crash : goal.returns-else-in_doubt-clause-crash
returns-else-in_doubt-clause-crash g c = leaves_idle g.D.Disk.device (row_of c.args.seat.now) c.args.held.state c.requires.out.0.knows
