use Rattle.jb_decide.proofs.PostLaws.{posts_keep_links}
use Rattle.jb_decide.proofs.laws.posts_keep_links.Goals as goal

pub returns : goal.returns
returns c = posts_keep_links
