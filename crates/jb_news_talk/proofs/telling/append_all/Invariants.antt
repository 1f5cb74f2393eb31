use Rattle.std.proofs.Common.{◌≡◌, ◌++◌, flat_map, take}
use Rattle.jb_news_talk.specs.Telling.{told_line, up_to}
use Rattle.jb_news_talk.proofs.telling.append_all.Given as goal

abbrev pub invariant-loop-one : goal.invariant-loop-one
invariant-loop-one l = l.text ≡ l.initial.text ++ flat_map (told_line l.board l.told l.area) (up_to l.last (take l.one-index l.messages))
