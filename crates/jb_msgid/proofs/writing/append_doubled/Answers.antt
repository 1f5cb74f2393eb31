use Rattle.std.proofs.Common.{◌++◌, ◌∷◌, [], ℕ, List, take, get_or, ap, sym, ◌∙◌, append_assoc, arith}
use Rattle.std.proofs.lemmas.List.{take_more}
use Rattle.jb_msgid.specs.Address.{quotes_doubled}
use Rattle.jb_msgid.proofs.Doubling.{doubled-push}
use Rattle.jb_msgid.proofs.writing.append_doubled.Goals as goal

pub loop-byte-preserved : goal.loop-byte-preserved
loop-byte-preserved c =
    let bytes = c.args.bytes.now in
    let i = c.loop-byte.byte-index in
    let byte = get_or bytes i 0 in
    let before = c.args.text.now in
    c.in_ok-append_byte.ensures
    ∙ ap (λ (l : List ℕ). l ++ quotes_doubled (byte ∷ [])) c.loop-byte.invariant
    ∙ append_assoc before (quotes_doubled (take i bytes)) (quotes_doubled (byte ∷ []))
    ∙ ap (λ (l : List ℕ). before ++ l) (sym (doubled-push (take i bytes) byte) ∙ ap quotes_doubled (sym (take_more bytes i 0 (omega arith))))
