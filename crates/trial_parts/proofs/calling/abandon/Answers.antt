use Rattle.trial_parts.proofs.calling.abandon.Goals as goal

pub returns : goal.returns
returns g c =
    let has = c.requires in
    record { texts = has.texts; rests = (c.abandon.ensures.rests has.texts has.reply has.coming has.begun).rests }
