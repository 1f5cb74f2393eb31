use Rattle.std.proofs.Common.{◌≡◌, ◌≤◌, List, length, drop, subst, sym}
use Rattle.std.specs.List.{position_from}
use Rattle.jb_conf.specs.declared.board.BoardArea.{BoardArea}
use Rattle.jb_news_talk.specs.Newsgroups.{is_listed, next_group}
use Rattle.jb_news_talk.proofs.Found.{found_from}
use Rattle.jb_news_talk.proofs.newsgroups.next_group.Goals as goal

pub loop-place-init : goal.loop-place-init
loop-place-init c =
    let board = c.args.board.now in
    let wildmat = c.args.wildmat.now in
    let P : List BoardArea → Type 0 = λ areas. (c.args.from ≤ length areas)
    × (next_group board wildmat c.args.from ≡ position_from (is_listed board wildmat) c.args.from (drop c.args.from areas)) in
    subst P (sym c.as_slice-areas.ensures) (c.requires.from, found_from board wildmat c.args.from)
