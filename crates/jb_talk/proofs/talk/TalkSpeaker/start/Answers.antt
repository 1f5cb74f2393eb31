use Rattle.std.proofs.Common.{ℕ, List, ◌++◌, refl, ◌∙◌, ap, flat_map}
use Rattle.jb_option.specs.Table.{Sides, first_sides, greeting_bytes}
use Rattle.jb_telnet.specs.Units.{doubled}
use Rattle.jb_line.specs.Typing.{Typing, first_typing}
use Rattle.jb_menu.specs.declared.state.State.{State}
use Rattle.jb_talk.specs.declared.standing.Standing.TheVariants.{On}
use Rattle.jb_talk.specs.Turns.{Place}
use Rattle.jb_telnet.specs.Reading.{HasRead}
use Rattle.jb_speech.proofs.Talked.{talked_first}
use Rattle.jb_talk.specs.Conversations.{manner_of}
use Rattle.jb_talk.proofs.talk.TalkSpeaker.start.Goals as goal

pub returns-clause-fits : goal.returns-clause-fits
returns-clause-fits c =
    let F : Sides → Typing → State → Place = λ o t m. record { options = o; typing = t; menu = m; standing = On } in
    talked_first (manner_of c.args.board.now) HasRead _ refl c.new.ensures
    (ap (λ (o : Sides). F o c.new-2.result c.in_ok-menu.menu) c.new-options.ensures.exact ∙ ap (λ (t : Typing). F first_sides t c.in_ok-menu.menu) c.new-2.ensures.value
    ∙ ap (λ (m : State). F first_sides first_typing m) c.in_ok-menu.ensures.state)
    (c.in_ok-owed.ensures ∙ ap (λ (t : List ℕ). greeting_bytes ++ flat_map doubled t) (c.as_slice.ensures ∙ c.in_ok-menu.ensures.text)) refl refl
