use Rattle.std.proofs.Common.{◌≡◌, ◌++◌, ◌∷◌, [], ℕ, List, ap, sym, ◌∙◌, subst, append_assoc, arith}
use Rattle.jb_msgid.specs.Text.{IsMsgId, address_text, msgid_text}
use Rattle.jb_msgid.proofs.Written.{msgid_text_read}
use Rattle.jb_msgid.proofs.writing.print.Goals as goal

pub returns-clause-reads : goal.returns-clause-reads
returns-clause-reads c =
    let value = c.args.value.now in
    let digits = c.serial_digits.result in
    let address =
    c.in_ok-append_address.ensures
    ∙ ap (λ (l : List ℕ). l ++ address_text c.as_slice.result.now) c.new-text.ensures
    ∙ ap address_text c.as_slice.ensures in
    let exact : c.append-2.new.self ≡ msgid_text value =
    c.in_ok-append-2.ensures.ok
    ∙ ap (λ (l : List ℕ). l ++ digits) (c.in_ok-append.ensures.ok ∙ ap (λ (l : List ℕ). l ++ 32 ∷ []) address)
    ∙ append_assoc (address_text value.address) (32 ∷ []) digits
    ∙ ap (λ (l : List ℕ). address_text value.address ++ 32 ∷ l) c.serial_digits.ensures in
    subst (λ (text : List ℕ). IsMsgId text value) (sym exact) (msgid_text_read value c.requires (omega arith))
