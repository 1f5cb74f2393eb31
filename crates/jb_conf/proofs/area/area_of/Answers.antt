use Rattle.std.proofs.Common.{inl, inr, refl, ◌∙◌}
use Rattle.std.proofs.lemmas.Result.{err_from_is_err_and}
use Rattle.jb_conf.specs.Areas.{area_fault, area_of}
use Rattle.jb_conf.proofs.area.area_of.Goals as goal

pub returns-in_err-name-clause-row : goal.returns-in_err-name-clause-row
unfolding area_fault
returns-in_err-name-clause-row c =
    let p = err_from_is_err_and c.from_residual.result c.from_residual.ensures.1 in
    rw (p.1, p.2) (inl (rw c.in_err-name.ensures refl))

pub returns-in_err-unrepeated-clause-row : goal.returns-in_err-unrepeated-clause-row
unfolding area_fault
returns-in_err-unrepeated-clause-row c =
    let p = err_from_is_err_and c.from_residual-in_err-unrepeated.result c.from_residual-in_err-unrepeated.ensures.1 in
    let same = c.as_bytes.ensures.value ∙ c.in_ok-name.ensures.1 in
    rw (p.1, p.2) (inl (rw (c.in_ok-name.ensures.0, ← same, ← c.has_area_name.ensures, c.in_err-unrepeated.ensures) refl))

pub returns-in_err-dir-clause-row : goal.returns-in_err-dir-clause-row
unfolding area_fault
returns-in_err-dir-clause-row c =
    let p = err_from_is_err_and c.from_residual-in_err-dir.result c.from_residual-in_err-dir.ensures.1 in
    let same = c.as_bytes.ensures.value ∙ c.in_ok-name.ensures.1 in
    rw (p.1, p.2) (inl (rw (c.in_ok-name.ensures.0, ← same, ← c.has_area_name.ensures, c.in_ok-unrepeated.ensures.0, c.in_err-dir.ensures) refl))

pub returns-in_err-base-clause-row : goal.returns-in_err-base-clause-row
unfolding area_fault
returns-in_err-base-clause-row c =
    let p = err_from_is_err_and c.from_residual-in_err-base.result c.from_residual-in_err-base.ensures.1 in
    let same = c.as_bytes.ensures.value ∙ c.in_ok-name.ensures.1 in
    rw (p.1, p.2) (inl (rw (c.in_ok-name.ensures.0, ← same, ← c.has_area_name.ensures, c.in_ok-unrepeated.ensures.0, c.in_ok-dir.ensures.0, c.in_err-base.ensures) refl))

pub returns-in_err-unrepeated-2-clause-row : goal.returns-in_err-unrepeated-2-clause-row
unfolding area_fault
returns-in_err-unrepeated-2-clause-row c =
    let p = err_from_is_err_and c.from_residual-in_err-unrepeated-2.result c.from_residual-in_err-unrepeated-2.ensures.1 in
    let same = c.as_bytes.ensures.value ∙ c.in_ok-name.ensures.1 in
    rw (p.1, p.2) (inl (rw (c.in_ok-name.ensures.0, ← same, ← c.has_area_name.ensures, c.in_ok-unrepeated.ensures.0, c.in_ok-dir.ensures.0, c.in_ok-base.ensures.0, ← c.in_ok-dir.ensures.1, ← c.in_ok-base.ensures.1, ← c.has_place.ensures, c.in_err-unrepeated-2.ensures) refl))

pub returns-in_err-rules-clause-row : goal.returns-in_err-rules-clause-row
unfolding area_fault
returns-in_err-rules-clause-row c =
    let p = err_from_is_err_and c.from_residual-in_err-rules.result c.from_residual-in_err-rules.ensures.1 in
    let same = c.as_bytes.ensures.value ∙ c.in_ok-name.ensures.1 in
    rw (p.1, p.2) (elim c.in_err-rules.ensures.row [
      | inl fault ↦ inl (rw (c.in_ok-name.ensures.0, ← same, ← c.has_area_name.ensures, c.in_ok-unrepeated.ensures.0, c.in_ok-dir.ensures.0, c.in_ok-base.ensures.0, ← c.in_ok-dir.ensures.1, ← c.in_ok-base.ensures.1, ← c.has_place.ensures, c.in_ok-unrepeated-2.ensures.0, ← c.requires.sum, fault) refl)
      | inr memory ↦ inr memory
    ])

pub returns-clause-row : goal.returns-clause-row
unfolding area_fault area_of
returns-clause-row c =
    let same = c.as_bytes.ensures.value ∙ c.in_ok-name.ensures.1 in (
      rw (c.in_ok-name.ensures.0, ← same, ← c.has_area_name.ensures, c.in_ok-unrepeated.ensures.0, c.in_ok-dir.ensures.0, c.in_ok-base.ensures.0, ← c.in_ok-dir.ensures.1, ← c.in_ok-base.ensures.1, ← c.has_place.ensures, c.in_ok-unrepeated-2.ensures.0, ← c.requires.sum, c.in_ok-rules.ensures.row.0) refl,
      c.in_ok-board_area.ensures ∙ (λ i. record {
        name = (c.as_bytes-2.ensures.value ∙ c.in_ok-name.ensures.1) i;
        dir = c.in_ok-dir.ensures.1 i;
        base = c.in_ok-base.ensures.1 i;
        rules = c.in_ok-rules.ensures.row.1 i;
      }),
    )
