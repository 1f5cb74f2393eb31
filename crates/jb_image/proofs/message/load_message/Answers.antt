use Rattle.jb_image.proofs.FirstTests.{fails_subfields_whole}
use Rattle.jb_image.proofs.message.load_message.Goals as goal

pub returns-in-Err-clause-damaged : goal.returns-in-Err-clause-damaged
returns-in-Err-clause-damaged g c = λ files contents_is entry is.
    let cut = rw c.in-Err.is at c.in_ok-subfields.ensures.cut in
    fails_subfields_whole files entry c.args.seen.now c.in-Err.damage is (cut files contents_is)
