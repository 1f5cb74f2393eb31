use Rattle.std.proofs.Common.{◌≤◌, ◌+◌, length, arith, length-drop, length-take}
use Rattle.std.proofs.lemmas.List.{take_rest}
use Rattle.jb_bytes.proofs.Heads.{begins_with}
use Rattle.jb_bytes.proofs.part.first_part.Goals as goal

pub returns : goal.returns
returns c =
    let bytes = c.args.bytes.now in
    let within : 8 + c.get_u32-len.result ≤ length bytes = omega (arith, simp (length-take, length-drop) at c.if-rest-len.false) in
    simp take_rest
    (begins_with bytes c.get_u16.result c.get_u16-2.result c.get_u32-len.result (λ k. (c.type_inv.bytes k).fits) c.get_u16.ensures c.get_u16-2.ensures c.get_u32-len.ensures within)
