use Rattle.std.proofs.Common.{◌≡◌, length, drop}
use Rattle.jb_bytes.specs.Crc.{crc_from, jam_crc_of}
use Rattle.jb_crc.proofs.remainder.jam_crc.Given as goal

abbrev pub invariant-loop-block : goal.invariant-loop-block
invariant-loop-block l = crc_from l.crc l.rest ≡ jam_crc_of l.bytes

abbrev pub decreases-loop-block : goal.decreases-loop-block
decreases-loop-block l = length l.rest

abbrev pub invariant-loop-byte : goal.invariant-loop-byte
invariant-loop-byte l = crc_from l.crc (drop l.byte-index l.byte-items) ≡ jam_crc_of l.bytes
