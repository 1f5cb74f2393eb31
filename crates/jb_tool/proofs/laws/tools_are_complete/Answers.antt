use Rattle.jb_area_open.proofs.RefusalLemmas.{refuses_nothing_that_opens}
use Rattle.jb_tool.proofs.BackedLemmas.{backs_up_what_opens}
use Rattle.jb_tool.proofs.CompleteLemmas.{makes_where_none_is, serves_what_opens}
use Rattle.jb_tool.proofs.laws.tools_are_complete.Goals as goal

pub returns-clause-served : goal.returns-clause-served
returns-clause-served c = serves_what_opens

pub returns-clause-made : goal.returns-clause-made
returns-clause-made c = makes_where_none_is

pub returns-clause-backed : goal.returns-clause-backed
returns-clause-backed c = backs_up_what_opens refuses_nothing_that_opens
