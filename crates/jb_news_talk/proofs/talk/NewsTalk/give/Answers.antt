use Rattle.std.proofs.Common.{◌≡◌, subst, sym}
use Rattle.jb_speech.specs.Conversations.{owing}
use Rattle.jb_news_talk.specs.Newsgroups.{news_user}
use Rattle.jb_news_talk.specs.Reading.{IsPlaceOn, IsStageOn, NewsHands, NewsTalking}
use Rattle.jb_news_talk.proofs.Hands.{IsTurnOn, given_on}
use Rattle.jb_news_talk.proofs.Turning.{hands_turn, ok_both}
use Rattle.jb_news_talk.proofs.talk.NewsTalk.give.Goals as goal

pub returns-clause-hands : goal.returns-clause-hands
returns-clause-hands c =
    let board = c.args.board.now in
    let talk : NewsTalking = record {
      held = record { kept = c.self.inside.cutter; taken = c.self.inside.taken; place = c.self.inside.place; owed = c.self.inside.owed.items };
      user = c.self.inside.user;
    } in
    let turn = c.in_ok-turn.turn in
    let user = subst (λ (w : NewsTalking). w.user ≡ news_user board) (sym c.self.view_is) c.requires.user in
    let place = subst (λ (w : NewsTalking). IsPlaceOn board w.held.place) (sym c.self.view_is) c.requires.place in
    let stage = subst (IsStageOn board) (sym c.replace-stage.ensures.value) place.stage in
    let on = subst (IsTurnOn board) (sym c.in_ok-turn.ensures) (given_on board c.self.inside.place.chosen c.replace-stage.result c.args.given.now place.group stage) in
    ok_both c.go.result (λ _. c.go.new.self ≡ record talk { held = owing talk.held turn }) (λ request. request ≡ turn.request) (λ request. NewsHands board c.go.new.self request)
    (λ request turned is. rw (turned, is) (hands_turn board talk turn user on)) c.go.ensures.turn c.go.ensures.request
