use Rattle.std.proofs.Common.{ap, ◌∙◌}
use Rattle.jb_record.specs.Lastread.{lastread_record_of}
use Rattle.jb_record.proofs.ReadAgain.{lastread_record_of-back}
use Rattle.jb_record.proofs.PrefixFree.{lastread_records}
use Rattle.jb_record.proofs.lastread.encode_mark.Goals as goal

pub returns-clause-back : goal.returns-clause-back
returns-clause-back c = ap lastread_record_of c.spell.ensures.exact ∙ lastread_record_of-back c.args.value.now c.spell.ensures.fits

pub returns-clause-prefix_free : goal.returns-clause-prefix_free
returns-clause-prefix_free c = lastread_records
