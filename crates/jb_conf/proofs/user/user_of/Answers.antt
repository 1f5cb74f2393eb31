use Rattle.std.proofs.Common.{inl, refl, ◌∙◌}
use Rattle.std.proofs.lemmas.Result.{err_from_is_err_and}
use Rattle.jb_conf.specs.Users.{user_fault, user_of}
use Rattle.jb_conf.proofs.user.user_of.Goals as goal

pub returns-in_err-name : goal.returns-in_err-name
unfolding user_fault
returns-in_err-name c =
    let p = err_from_is_err_and c.from_residual.result c.from_residual.ensures.1 in
    rw (p.1, p.2) (inl (rw c.in_err-name.ensures refl))

pub returns-in_err-unrepeated : goal.returns-in_err-unrepeated
unfolding user_fault
returns-in_err-unrepeated c =
    let p = err_from_is_err_and c.from_residual-in_err-unrepeated.result c.from_residual-in_err-unrepeated.ensures.1 in
    let same = c.as_bytes.ensures.value ∙ c.in_ok-name.ensures.1 in
    rw (p.1, p.2) (inl (rw (c.in_ok-name.ensures.0, ← same, ← c.has_user_name.ensures, c.in_err-unrepeated.ensures) refl))

pub returns-in_err-id : goal.returns-in_err-id
unfolding user_fault
returns-in_err-id c =
    let p = err_from_is_err_and c.from_residual-in_err-id.result c.from_residual-in_err-id.ensures.1 in
    let same = c.as_bytes.ensures.value ∙ c.in_ok-name.ensures.1 in
    rw (p.1, p.2) (inl (rw (c.in_ok-name.ensures.0, ← same, ← c.has_user_name.ensures, c.in_ok-unrepeated.ensures.0, c.in_err-id.ensures.row) refl))

pub returns-in_err-unrepeated-2 : goal.returns-in_err-unrepeated-2
unfolding user_fault
returns-in_err-unrepeated-2 c =
    let p = err_from_is_err_and c.from_residual-in_err-unrepeated-2.result c.from_residual-in_err-unrepeated-2.ensures.1 in
    let same = c.as_bytes.ensures.value ∙ c.in_ok-name.ensures.1 in
    rw (p.1, p.2) (inl (rw (c.in_ok-name.ensures.0, ← same, ← c.has_user_name.ensures, c.in_ok-unrepeated.ensures.0, c.in_ok-id.ensures.row.0, ← c.in_ok-id.ensures.row.1, ← c.has_id.ensures, c.in_err-unrepeated-2.ensures) refl))

pub returns-in_err-level : goal.returns-in_err-level
unfolding user_fault
returns-in_err-level c =
    let p = err_from_is_err_and c.from_residual-in_err-level.result c.from_residual-in_err-level.ensures.1 in
    let same = c.as_bytes.ensures.value ∙ c.in_ok-name.ensures.1 in
    rw (p.1, p.2) (inl (rw (c.in_ok-name.ensures.0, ← same, ← c.has_user_name.ensures, c.in_ok-unrepeated.ensures.0, c.in_ok-id.ensures.row.0, ← c.in_ok-id.ensures.row.1, ← c.has_id.ensures, c.in_ok-unrepeated-2.ensures.0, c.in_err-level.ensures.row) refl))

pub returns-in_err-salt : goal.returns-in_err-salt
unfolding user_fault
returns-in_err-salt c =
    let p = err_from_is_err_and c.from_residual-in_err-salt.result c.from_residual-in_err-salt.ensures.1 in
    let same = c.as_bytes.ensures.value ∙ c.in_ok-name.ensures.1 in
    rw (p.1, p.2) (inl (rw (c.in_ok-name.ensures.0, ← same, ← c.has_user_name.ensures, c.in_ok-unrepeated.ensures.0, c.in_ok-id.ensures.row.0, ← c.in_ok-id.ensures.row.1, ← c.has_id.ensures, c.in_ok-unrepeated-2.ensures.0, c.in_ok-level.ensures.row.0, c.in_err-salt.ensures) refl))

pub returns-in_err-digest : goal.returns-in_err-digest
unfolding user_fault
returns-in_err-digest c =
    let p = err_from_is_err_and c.from_residual-in_err-digest.result c.from_residual-in_err-digest.ensures.1 in
    let same = c.as_bytes.ensures.value ∙ c.in_ok-name.ensures.1 in
    rw (p.1, p.2) (inl (rw (c.in_ok-name.ensures.0, ← same, ← c.has_user_name.ensures, c.in_ok-unrepeated.ensures.0, c.in_ok-id.ensures.row.0, ← c.in_ok-id.ensures.row.1, ← c.has_id.ensures, c.in_ok-unrepeated-2.ensures.0, c.in_ok-level.ensures.row.0, c.in_ok-salt.ensures.0, c.in_err-digest.ensures) refl))

pub returns : goal.returns
unfolding user_fault user_of
returns c =
    let same = c.as_bytes.ensures.value ∙ c.in_ok-name.ensures.1 in (
      rw (c.in_ok-name.ensures.0, ← same, ← c.has_user_name.ensures, c.in_ok-unrepeated.ensures.0, c.in_ok-id.ensures.row.0, ← c.in_ok-id.ensures.row.1, ← c.has_id.ensures, c.in_ok-unrepeated-2.ensures.0, c.in_ok-level.ensures.row.0, c.in_ok-salt.ensures.0, c.in_ok-digest.ensures.0) refl,
      λ i. record {
        user = record { name = (c.in_ok-copy.ensures ∙ c.as_bytes-2.ensures.value ∙ c.in_ok-name.ensures.1) i; id = c.in_ok-id.ensures.row.1 i; level = c.in_ok-level.ensures.row.1 i };
        salt = (c.in_ok-copy-2.ensures ∙ c.as_bytes-3.ensures.value ∙ c.in_ok-salt.ensures.1) i;
        digest = c.in_ok-digest.ensures.1 i;
      },
    )
