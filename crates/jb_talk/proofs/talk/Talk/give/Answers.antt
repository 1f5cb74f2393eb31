use Rattle.std.proofs.Common.{◌≡◌, subst, sym}
use Rattle.jb_speech.specs.Conversations.{owing}
use Rattle.jb_talk.specs.Talking.{Hands, Talking}
use Rattle.jb_talk.specs.Turns.{move_turn}
use Rattle.jb_menu.specs.Awaits.{IsFor}
use Rattle.jb_menu.specs.declared.moves.Moved.{Moved}
use Rattle.jb_talk.proofs.MoveLemmas.{hands_moved, ok_both}
use Rattle.jb_talk.proofs.PageLemmas.{IsOfUser, of_user}
use Rattle.jb_talk.proofs.talk.Talk.give.Goals as goal

pub returns-clause-hands : goal.returns-clause-hands
returns-clause-hands c =
    let mid : Talking = record {
      kept = c.self.inside.decoder;
      taken = c.self.inside.taken;
      place = record { options = c.self.inside.options; typing = c.self.inside.editor; menu = c.step.new.self; standing = c.self.inside.standing };
      owed = c.self.inside.owed.items;
    } in
    let of = subst (λ (w : Talking). IsFor c.args.board.now w.place.menu) (sym c.self.view_is) c.requires.of in
    let user = subst (λ (w : Moved). IsOfUser w.step w.state) c.in_ok-step.ensures.step (of_user c.args.board.now c.self.inside.menu c.args.given.now of) in
    ok_both c.move_on.result (λ _. c.move_on.new.self ≡ owing mid (move_turn mid.place c.in_ok-step.step)) (λ request. request ≡ (move_turn mid.place c.in_ok-step.step).request)
    (λ request. Hands c.args.board.now c.move_on.new.self request)
    (λ request turned is. rw (turned, is) (hands_moved c.args.board.now mid c.in_ok-step.step c.step.ensures.of c.in_ok-step.ensures.here c.in_ok-step.ensures.reaches user))
    c.move_on.ensures.turn c.move_on.ensures.request
