use Rattle.jb_news_talk.proofs.Whole.{lists_whole}
use Rattle.jb_news_talk.proofs.laws.lists_are_whole.Goals as goal

pub returns : goal.returns
returns c = lists_whole
