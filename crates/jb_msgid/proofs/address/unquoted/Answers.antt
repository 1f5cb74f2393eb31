use Rattle.std.proofs.Common.{◌<◌, ◌++◌, ◌∷◌, [], ℕ, List, length, ap, sym, ◌∙◌, append_assoc, rules}
use Rattle.jb_msgid.specs.Address.{quotes_doubled}
use Rattle.jb_msgid.proofs.Beginnings.{closed_at}
use Rattle.jb_msgid.proofs.Doubling.{doubled-push}
use Rattle.jb_msgid.proofs.address.unquoted.Goals as goal

pub loop-byte-preserved : goal.loop-byte-preserved
loop-byte-preserved c =
    let bytes = c.loop-byte.bytes in
    let byte = c.in-Some.byte in
    let behind = c.in-Some.behind.now in
    c.loop-byte.invariant
    ∙ ap (λ (l : List ℕ). quotes_doubled bytes ++ l) c.in-Some.ensures.inner
    ∙ sym (append_assoc (quotes_doubled bytes) (quotes_doubled (byte ∷ [])) behind)
    ∙ ap (λ (l : List ℕ). l ++ behind) (sym (doubled-push bytes byte))
    ∙ ap (λ (l : List ℕ). quotes_doubled l ++ behind) (sym c.in_ok-append.ensures.ok)

pub returns : goal.returns
returns c =
    let some : 0 < length c.loop-byte.rest.now = search rules in
    closed_at c.args.text.now c.loop-byte.bytes c.loop-byte.rest.now c.loop-byte.invariant c.in_default.ensures.inner some
