use Rattle.std.proofs.Common.{ap, ◌∙◌}
use Rattle.jb_record.specs.Index.{index_record_of}
use Rattle.jb_record.proofs.ReadAgain.{index_record_of-back}
use Rattle.jb_record.proofs.PrefixFree.{index_records}
use Rattle.jb_record.proofs.index.encode_index.Goals as goal

pub returns-clause-back : goal.returns-clause-back
returns-clause-back c = ap index_record_of c.spell.ensures.exact ∙ index_record_of-back c.args.value.now c.spell.ensures.fits

pub returns-clause-prefix_free : goal.returns-clause-prefix_free
returns-clause-prefix_free c = index_records
