use Rattle.std.proofs.Common.{refl}
use Rattle.std.proofs.lemmas.List.{take_rest}
use Rattle.jb_msgid.proofs.Beginnings.{unclosed_text}
use Rattle.jb_msgid.proofs.address.quoted_address.Goals as goal

pub returns-in-None-clause-err : goal.returns-in-None-clause-err
returns-in-None-clause-err c =
    let text = c.args.text.now in
    let found = rw c.in-None.is at c.in_ok-unquoted.ensures in
    (unclosed_text text _ found.0 c.requires (take_rest text 1) found.1, refl)
