use Rattle.std.proofs.Common.{◌≡◌, ◌++◌, flat_map, take}
use Rattle.jb_news_talk.specs.Newsgroups.{named_line}
use Rattle.jb_news_talk.proofs.newsgroups.append_named_lines.Given as goal

abbrev pub invariant-loop-area : goal.invariant-loop-area
invariant-loop-area l = l.text ≡ l.initial.text ++ flat_map (named_line l.board l.wildmat) (take l.area-index l.area-items)
