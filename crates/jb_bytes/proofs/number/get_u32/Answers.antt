use Rattle.std.proofs.Common.{arith, length-drop}
use Rattle.jb_bytes.proofs.Numbers.{number_at-pairs}
use Rattle.jb_bytes.proofs.number.get_u32.Goals as goal

pub returns : goal.returns
returns c =
    rw (c.get_u16.ensures, c.get_u16-2.ensures) (number_at-pairs c.args.at c.args.bytes.now (omega (arith, length-drop c.args.at c.args.bytes.now)))
