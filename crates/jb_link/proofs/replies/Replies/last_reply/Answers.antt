use Rattle.std.proofs.Common.{inl, inr, arith}
use Rattle.std.proofs.lemmas.Bool.{cases_lt}
use Rattle.jb_link.proofs.FoundLemmas.{last_of_both}
use Rattle.jb_link.proofs.replies.Replies.last_reply.Goals as goal

pub returns : goal.returns
returns c =
    last_of_both c.args.loaded.now c.args.parent c.last_by_id.result c.last_by_number.result c.max.result c.last_by_id.ensures c.last_by_number.ensures
    (elim (cases_lt c.last_by_id.result c.last_by_number.result) [ inl below ↦ inr (omega (arith, c.max.ensures, below)) | inr above ↦ inl (omega (arith, c.max.ensures, above)) ])
    (omega (arith, c.max.ensures)) (omega (arith, c.max.ensures))
