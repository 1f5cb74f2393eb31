use Rattle.std.proofs.Common.{◌≡◌, subst, sym}
use Rattle.jb_speech.specs.Conversations.{owing}
use Rattle.jb_news_talk.specs.Reading.{IsPlaceOn, NewsHands, NewsTalking}
use Rattle.jb_news_talk.proofs.Hands.{IsTurnOn, command_on}
use Rattle.jb_news_talk.proofs.Turning.{hands_turn, ok_both}
use Rattle.jb_news_talk.proofs.talk.NewsTalk.turn.Goals as goal

pub returns-clause-hands : goal.returns-clause-hands
returns-clause-hands c =
    let board = c.args.board.now in
    let talk = c.args.self.now in
    let chosen = c.self.inside.place.chosen in
    let turn = c.in_ok-turn.turn in
    let place = subst (λ (w : NewsTalking). IsPlaceOn board w.held.place) (sym c.self.view_is) c.requires.place in
    let on = subst (IsTurnOn board) (sym c.in_ok-turn.ensures) (command_on board chosen place.group c.command_of.result) in
    ok_both c.go.result (λ _. c.go.new.self ≡ record talk { held = owing talk.held turn }) (λ request. request ≡ turn.request) (λ request. NewsHands board c.go.new.self request)
    (λ request turned is. rw (turned, is) (hands_turn board talk turn c.requires.user on)) c.go.ensures.turn c.go.ensures.request
