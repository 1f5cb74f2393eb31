use Rattle.jb_redo.proofs.WayLemmas.{way_replays, one_replay}
use Rattle.jb_redo.proofs.applying.apply_record.Goals as goal

pub returns-clause-same : goal.returns-clause-same
returns-clause-same g c = (way_replays, one_replay)
