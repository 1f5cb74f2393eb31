use Rattle.jb_telnet.proofs.Cuts.{cuts_some, cuts_one, goes_on}
use Rattle.jb_telnet.proofs.laws.bytes_are_cut_one_way.Goals as goal

pub returns-clause-some : goal.returns-clause-some
returns-clause-some c = cuts_some

pub returns-clause-same : goal.returns-clause-same
returns-clause-same c = λ bytes events others rest other. cuts_one events others bytes rest other

pub returns-clause-kept : goal.returns-clause-kept
returns-clause-kept c = λ bytes more events rest. goes_on more events bytes rest
