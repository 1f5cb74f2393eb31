use Rattle.std.proofs.lemmas.List.{take-replicate}
use Rattle.jb_text.proofs.draft.LineDraft.spaces.Goals as goal

pub returns : goal.returns
returns c = take-replicate c.args.count 128 32 c.requires
