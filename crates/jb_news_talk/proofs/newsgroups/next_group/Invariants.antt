use Rattle.std.proofs.Common.{◌≡◌, ◌-◌, ◌≤◌, length, drop}
use Rattle.std.specs.List.{position_from}
use Rattle.jb_news_talk.specs.Newsgroups.{is_listed, next_group}
use Rattle.jb_news_talk.proofs.newsgroups.next_group.Given as goal

abbrev pub invariant-loop-place : goal.invariant-loop-place
invariant-loop-place l =
    (l.place ≤ length l.areas) × (next_group l.board l.wildmat l.from ≡ position_from (is_listed l.board l.wildmat) l.place (drop l.place l.areas))

abbrev pub decreases-loop-place : goal.decreases-loop-place
decreases-loop-place l = length l.areas - l.place
