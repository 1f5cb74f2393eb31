use Rattle.std.proofs.Common.{ap, ◌∙◌}
use Rattle.jb_record.specs.Fixed.{fixed_header_of}
use Rattle.jb_record.proofs.ReadAgain.{fixed_header_of-back}
use Rattle.jb_record.proofs.PrefixFree.{fixed_headers}
use Rattle.jb_record.proofs.fixed.encode_fixed.Goals as goal

pub returns-clause-back : goal.returns-clause-back
returns-clause-back c = ap fixed_header_of c.spell.ensures.exact ∙ fixed_header_of-back c.args.value.now c.spell.ensures.fits

pub returns-clause-prefix_free : goal.returns-clause-prefix_free
returns-clause-prefix_free c = fixed_headers
