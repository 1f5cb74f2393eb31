use Rattle.jb_redo.proofs.OneReading.{one_record, one_bad_place, record_or_bad_place}
use Rattle.jb_redo.proofs.testing.test_record.Goals as goal

pub returns-clause-one : goal.returns-clause-one
returns-clause-one g c = (one_record, one_bad_place, record_or_bad_place)
