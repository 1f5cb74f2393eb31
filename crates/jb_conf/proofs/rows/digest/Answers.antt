use Rattle.std.proofs.Common.{ap, ◌∙◌, refl}
use Rattle.std.proofs.lemmas.Result.{err_from_is_err_and}
use Rattle.jb_conf.specs.Rows.{digest_fault, digest_of}
use Rattle.jb_conf.proofs.Digests.{decoded, undecoded}
use Rattle.jb_conf.proofs.rows.digest.Goals as goal

pub returns-in_err-text : goal.returns-in_err-text
unfolding digest_fault
returns-in_err-text c =
    let p = err_from_is_err_and c.from_residual.result c.from_residual.ensures.1 in
    rw (p.1, p.2) (rw c.in_err-text.ensures refl)

pub returns-in-Ok : goal.returns-in-Ok
unfolding digest_fault
returns-in-Ok c =
    let is = decoded c.in_ok-text.text.now c.in-Ok.bytes c.in-Ok.ensures in
    let same = c.in_ok-text.ensures.1 in
    (rw (c.in_ok-text.ensures.0, ← same, is.0) refl, is.1 ∙ ap digest_of same)

pub returns-in-Err : goal.returns-in-Err
unfolding digest_fault
returns-in-Err c =
    let is = undecoded c.in_ok-text.text.now c.in-Err.field-0 c.in-Err.ensures in
    let same = c.in_ok-text.ensures.1 in
    rw (c.in_ok-text.ensures.0, ← same, is) refl
