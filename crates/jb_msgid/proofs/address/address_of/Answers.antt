use Rattle.std.proofs.Common.{◌≡◌, ◌≤◌, ℕ, List, length, drop, sym, ◌∙◌, subst, inl, arith, Some}
use Rattle.std.specs.Prelude.{slice_get}
use Rattle.jb_msgid.specs.Address.{IsPlain}
use Rattle.jb_msgid.proofs.Beginnings.{first_space, first_space-le, plain_begins, place_or_len}
use Rattle.jb_msgid.proofs.address.address_of.Goals as goal

pub returns-in_ok-plain_address-in-Some-clause-ok : goal.returns-in_ok-plain_address-in-Some-clause-ok
returns-in_ok-plain_address-in-Some-clause-ok c =
    let text = c.args.text.now in
    let found = c.in_ok-plain_address-in-Some in
    let at : found.field-0.end ≡ first_space text = found.ensures.end ∙ place_or_len text in
    let begins : slice_get text 0 ≡ Some c.in-Some.field-0.now = sym c.in-Some.ensures.value in
    let test = c.in-Some.field-0-test in
    let plain = plain_begins text c.in-Some.field-0.now found.field-0.end begins test.0.1 test.1 at in
    let within : found.field-0.end ≤ length text = omega (arith, at, first_space-le text) in
    (within, inl (subst (λ (l : List ℕ). IsPlain text l (drop found.field-0.end text)) (sym found.ensures.bytes) plain))
