use Rattle.std.proofs.Common.{◌∙◌}
use Rattle.jb_publish.specs.Accounts.{account_of}
use Rattle.jb_publish.specs.Publications.{publication_of}
use Rattle.jb_turn.specs.Seats.{row_of}
use Rattle.jb_shared.proofs.CallLemmas.{is_informed, may_inform, same_pair}
use Rattle.jb_shared.proofs.entering.leave.Goals as goal

pub inform-requires-clause-mark : goal.inform-requires-clause-mark
inform-requires-clause-mark g c = same_pair g.D.Disk.device (row_of c.args.seat) (account_of c.args.reader) c.args.held.state c.requires.told.0 c.requires.out.knows.stands_for

pub inform-requires-clause-grown : goal.inform-requires-clause-grown
inform-requires-clause-grown g c = may_inform g.D.Disk.device (row_of c.args.seat) (account_of c.args.reader) c.args.held.state c.requires.told.1 c.requires.out.knows.stands_for

pub end-requires-clause-told : goal.end-requires-clause-told
end-requires-clause-told g c =
    is_informed g.D.Disk.device (row_of c.args.seat) (account_of c.args.reader) (account_of c.inform.new.reader) c.args.held.state c.requires.told.0 c.requires.out.knows.stands_for c.inform.ensures

pub returns-clause-account : goal.returns-clause-account
returns-clause-account g c = ((publication_of c.args.held.state.shower).list, c.end.ensures.account ∙ c.inform.ensures)
