use Rattle.std.proofs.Common.{refl}
use Rattle.jb_state.specs.Posted.{with_first_reply, with_next_reply}
use Rattle.jb_decide.specs.Neighbour.{first_reply_head, next_reply_head}
use Rattle.jb_decide.proofs.NeighbourLemmas.{no_neighbour, one_neighbour}
use Rattle.jb_decide.proofs.neighbours.neighbour_of.Goals as goal

pub returns-in-None : goal.returns-in-None
returns-in-None c = no_neighbour c.args.loaded.now c.args.parent c.args.number c.in-None.ensures.changes

pub returns-in-First : goal.returns-in-First
returns-in-First c =
    one_neighbour c.args.loaded.now c.args.parent c.args.number c.in-First.of (first_reply_head c.args.number) (with_first_reply c.args.number) c.named_first.result
    (λ texts message. refl) (λ head. refl) c.named_first.ensures (λ texts. c.in-First.ensures.changes texts c.args.number)

pub returns-in-After : goal.returns-in-After
returns-in-After c =
    one_neighbour c.args.loaded.now c.args.parent c.args.number c.in-After.of (next_reply_head c.args.number) (with_next_reply c.args.number) c.named_next.result
    (λ texts message. refl) (λ head. refl) c.named_next.ensures (λ texts. c.in-After.ensures.changes texts c.args.number)
