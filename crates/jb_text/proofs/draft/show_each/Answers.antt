use Rattle.std.proofs.Common.{◌<◌, length, ap, get_or, set, ◌∙◌, arith}
use Rattle.std.proofs.lemmas.List.{get_or_default}
use Rattle.std.proofs.lemmas.List.Edits.{map_over_more}
use Rattle.jb_text.specs.Shown.{shown_byte}
use Rattle.jb_text.proofs.draft.show_each.Goals as goal

pub loop-byte-preserved : goal.loop-byte-preserved
loop-byte-preserved c =
    let bytes = c.loop-byte.bytes in
    let place = c.loop-byte.byte-index in
    let byte = get_or bytes place 0 in
    let within : place < length bytes = omega (arith, c.loop-byte.auto.bytes, c.loop-byte-test.true) in
    ap (set bytes place) c.show.ensures
    ∙ map_over_more shown_byte c.args.bytes.now bytes place byte c.loop-byte-test.true c.loop-byte.invariant (get_or_default bytes place 0 byte within)
