use Rattle.std.proofs.Common.{arith}
use Rattle.jb_limits.specs.declared.limits.TheConstants.{MOST_SLOTS}
use Rattle.jb_pack.proofs.FinishLemmas.{copied_pack_of}
use Rattle.jb_pack.proofs.finishing.put_copied_pack.Goals as goal

pub returns-clause-packs : goal.returns-clause-packs
returns-clause-packs c = λ len.
    copied_pack_of MOST_SLOTS c.args.loaded.now (record { texts = c.args.copies.now; len = len }) c.put_base.new.redo c.put_copies.new.redo c.requires.sound (omega arith) c.requires.fits
    c.in_ok-put_base.ensures.puts c.in_ok-put_copies.ensures.puts
