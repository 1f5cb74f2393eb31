use Rattle.std.proofs.Common.{◌<◌, ◌+◌, ◌*◌, bit_xor, ◌∙◌, ap, arith}
use Rattle.std.proofs.lemmas.Nat.{xor_of_8}
use Rattle.jb_bytes.specs.Crc.{crc_bits}
use Rattle.jb_crc.specs.Share.{share_of}
use Rattle.jb_crc.proofs.Rows.{entry}
use Rattle.jb_crc.proofs.remainder.share.Goals as goal

pub returns : goal.returns
unfolding share_of
returns c =
    let small : bit_xor c.args.low c.to_ascii_lowercase.result < 256 = xor_of_8 c.args.low c.to_ascii_lowercase.result (omega arith) (omega arith) in
    entry c.args.further (bit_xor c.args.low c.to_ascii_lowercase.result) c.requires small
    ∙ ap (λ byte. crc_bits (8 * (c.args.further + 1)) (bit_xor c.args.low byte)) c.to_ascii_lowercase.ensures.value
