use Rattle.std.proofs.Common.{[], sym}
use Rattle.jb_crc.proofs.Remainders.{crc_from-cons}
use Rattle.jb_crc.proofs.remainder.after_byte.Goals as goal

pub returns : goal.returns
returns c = rw c.share.ensures (sym (crc_from-cons c.args.crc c.args.byte []))
