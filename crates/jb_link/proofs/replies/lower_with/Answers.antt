use Rattle.std.proofs.Common.{arith, inr, sym}
use Rattle.jb_bytes.specs.declared.subfield.TheConstants.{MSGID}
use Rattle.jb_link.proofs.FoundLemmas.{id_live, is_least_with, no_parent_by_id, none_is_least, parent_by_id}
use Rattle.jb_link.proofs.replies.lower_with.Goals as goal

pub returns-in-Some-clause-found : goal.returns-in-Some-clause-found
returns-in-Some-clause-found c = λ kept.
    let least = is_least_with MSGID c.args.loaded.now c.args.id.now _ _ c.least_with.ensures c.in-Some.is in
    sym (parent_by_id c.args.loaded.now c.args.number c.args.id.now kept c.in-Some.found (record { has = least.0; lower = c.if-found-number.true; upto = least.1 }))

pub returns-in-Some-clause-live : goal.returns-in-Some-clause-live
returns-in-Some-clause-live c =
    inr (id_live MSGID c.args.loaded.now c.in-Some.found c.args.id.now (is_least_with MSGID c.args.loaded.now c.args.id.now _ _ c.least_with.ensures c.in-Some.is).0)

pub returns-in_default-clause-found : goal.returns-in_default-clause-found
returns-in_default-clause-found c = λ kept.
    let least = is_least_with MSGID c.args.loaded.now c.args.id.now _ _ c.least_with.ensures c.in-Some.is in
    sym (no_parent_by_id c.args.loaded.now c.args.number c.args.id.now kept (λ other is. omega (arith, c.if-found-number.false, least.1 other is)))

pub returns-in_default-2-clause-found : goal.returns-in_default-2-clause-found
returns-in_default-2-clause-found c = λ kept.
    sym (no_parent_by_id c.args.loaded.now c.args.number c.args.id.now kept
    (λ other is. absurd (none_is_least MSGID c.args.loaded.now c.args.id.now _ c.least_with.ensures c.in_default.is other is)))
