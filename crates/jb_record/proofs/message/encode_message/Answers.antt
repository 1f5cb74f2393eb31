use Rattle.std.proofs.Common.{ap, ◌∙◌}
use Rattle.jb_record.specs.Message.{message_header_of}
use Rattle.jb_record.proofs.ReadAgain.{message_header_of-back}
use Rattle.jb_record.proofs.PrefixFree.{message_headers}
use Rattle.jb_record.proofs.message.encode_message.Goals as goal

pub returns-clause-back : goal.returns-clause-back
returns-clause-back c = ap message_header_of c.spell.ensures.exact ∙ message_header_of-back c.args.value.now c.spell.ensures.fits

pub returns-clause-prefix_free : goal.returns-clause-prefix_free
returns-clause-prefix_free c = message_headers
