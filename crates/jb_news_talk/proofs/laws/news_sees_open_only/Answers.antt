use Rattle.jb_news_talk.proofs.OpenOnly.{sees_open_only}
use Rattle.jb_news_talk.proofs.laws.news_sees_open_only.Goals as goal

pub returns : goal.returns
returns c = sees_open_only
