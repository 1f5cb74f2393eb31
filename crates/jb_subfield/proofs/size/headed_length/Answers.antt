use Rattle.std.proofs.Common.{◌≡◌, length, ap, arith}
use Rattle.jb_bytes.specs.Subfields.{subfield_bytes}
use Rattle.jb_subfield.proofs.size.headed_length.Goals as goal

pub returns : goal.returns
returns c =
    let same : length (subfield_bytes c.args.subfields.now) ≡ length c.as_bytes.result.now = ap length c.as_bytes.ensures.spelled in
    omega arith
