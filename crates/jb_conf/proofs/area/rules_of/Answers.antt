use Rattle.std.proofs.Common.{inl, refl}
use Rattle.std.proofs.lemmas.Result.{err_from_is_err_and}
use Rattle.jb_conf.specs.Areas.{rules_fault, rules_of}
use Rattle.jb_conf.proofs.area.rules_of.Goals as goal

pub returns-in_err-kind-clause-row : goal.returns-in_err-kind-clause-row
unfolding rules_fault
returns-in_err-kind-clause-row c =
    let p = err_from_is_err_and c.from_residual.result c.from_residual.ensures.1 in
    rw (p.1, p.2) (inl (rw c.in_err-kind.ensures refl))

pub returns-in_err-read-clause-row : goal.returns-in_err-read-clause-row
unfolding rules_fault
returns-in_err-read-clause-row c =
    let p = err_from_is_err_and c.from_residual-in_err-read.result c.from_residual-in_err-read.ensures.1 in
    rw (p.1, p.2) (inl (rw (c.in_ok-kind.ensures.0, c.in_err-read.ensures) refl))

pub returns-in_err-post-clause-row : goal.returns-in_err-post-clause-row
unfolding rules_fault
returns-in_err-post-clause-row c =
    let p = err_from_is_err_and c.from_residual-in_err-post.result c.from_residual-in_err-post.ensures.1 in
    rw (p.1, p.2) (inl (rw (c.in_ok-kind.ensures.0, c.in_ok-read.ensures.0, c.in_err-post.ensures) refl))

pub returns-in_err-sysop-clause-row : goal.returns-in_err-sysop-clause-row
unfolding rules_fault
returns-in_err-sysop-clause-row c =
    let p = err_from_is_err_and c.from_residual-in_err-sysop.result c.from_residual-in_err-sysop.ensures.1 in
    rw (p.1, p.2) (inl (rw (c.in_ok-kind.ensures.0, c.in_ok-read.ensures.0, c.in_ok-post.ensures.0, c.in_err-sysop.ensures) refl))

pub returns-in_err-slots-clause-row : goal.returns-in_err-slots-clause-row
unfolding rules_fault
returns-in_err-slots-clause-row c =
    let p = err_from_is_err_and c.from_residual-in_err-slots.result c.from_residual-in_err-slots.ensures.1 in
    rw (p.1, p.2) (inl (rw (c.in_ok-kind.ensures.0, c.in_ok-read.ensures.0, c.in_ok-post.ensures.0, c.in_ok-sysop.ensures.0, c.in_err-slots.ensures.row) refl))

pub returns-in_err-within-clause-row : goal.returns-in_err-within-clause-row
unfolding rules_fault
returns-in_err-within-clause-row c =
    let p = err_from_is_err_and c.from_residual-in_err-within.result c.from_residual-in_err-within.ensures.1 in
    let out = c.in_err-within.ensures in
    rw (p.1, p.2) (inl (rw (c.in_ok-kind.ensures.0, c.in_ok-read.ensures.0, c.in_ok-post.ensures.0, c.in_ok-sysop.ensures.0, c.in_ok-slots.ensures.row.0, ← c.in_ok-slots.ensures.row.1, out) refl))

pub returns-clause-row : goal.returns-clause-row
unfolding rules_fault rules_of
returns-clause-row c =
    let fits = c.in_ok-within.ensures in (
      rw (c.in_ok-kind.ensures.0, c.in_ok-read.ensures.0, c.in_ok-post.ensures.0, c.in_ok-sysop.ensures.0, c.in_ok-slots.ensures.row.0, ← c.in_ok-slots.ensures.row.1, fits.0) refl,
      rw (c.in_ok-kind.ensures.1, c.in_ok-read.ensures.1, c.in_ok-post.ensures.1, c.in_ok-sysop.ensures.1, c.in_ok-slots.ensures.row.1, c.in_ok-copy.ensures) refl,
    )
