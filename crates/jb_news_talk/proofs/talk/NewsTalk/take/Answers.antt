use Rattle.std.proofs.Common.{◌≡◌, ℕ, ◌+◌, false, List, [], ◌∷◌, ◌++◌, Option, refl, sym, subst, ◌∙◌}
use Rattle.std.specs.Option.{option_to_list}
use Rattle.jb_news.specs.declared.line.NewsLine.{NewsLine}
use Rattle.jb_news.specs.Reading.{HasRead, lines_given}
use Rattle.jb_menu.specs.declared.given.Given.{Given}
use Rattle.jb_speech.specs.declared.request.Request.{Request}
use Rattle.jb_speech.specs.Conversations.{HasSaid, Held, owing}
use Rattle.jb_speech.proofs.Talked.{talked_event, talked_over}
use Rattle.jb_news_talk.specs.Conversations.{is_waiting, line_turn, manner_of}
use Rattle.jb_news_talk.specs.Reading.{NewsHasTalked, NewsTalking}
use Rattle.jb_news_talk.specs.declared.place.NewsPlace.{NewsPlace}
use Rattle.jb_news_talk.proofs.Turning.{ok_both}
use Rattle.jb_news_talk.proofs.talk.NewsTalk.take.Goals as goal

pub returns-then-is_on-clause-fits : goal.returns-then-is_on-clause-fits
returns-then-is_on-clause-fits c =
    let board = c.args.board.now in
    let held : Held (List ℕ) NewsPlace = record { kept = c.self.inside.cutter; taken = c.self.inside.taken; place = c.self.inside.place; owed = c.self.inside.owed.items } in
    let talk : NewsTalking = record { held = held; user = c.self.inside.user } in
    let next : Held (List ℕ) NewsPlace = record held { kept = c.push.new.self; taken = c.self.inside.taken + 1 } in
    let line = c.in-Some.line in
    let idle = subst (λ (w : NewsTalking). is_waiting w.held.place.stage ≡ false) (sym c.self.view_is) c.requires.idle in
    ok_both c.turn.result (λ _. c.turn.new.self ≡ record talk { held = owing next (line_turn board held.place line) })
    (λ request. request ≡ (line_turn board held.place line).request)
    (λ request. (bytes sent : List ℕ) (answers : List Given) (asked : List Request) → NewsHasTalked board c.args.self.now bytes answers sent asked
    → NewsHasTalked board c.turn.new.self (bytes ++ c.args.byte ∷ []) answers sent (asked ++ option_to_list request))
    (λ request turned is. λ bytes sent answers asked talked.
    let h : HasSaid (manner_of board) HasRead held bytes answers sent asked = subst (λ (w : NewsTalking). NewsHasTalked board w bytes answers sent asked) (sym c.self.view_is) talked in
    let read = subst (λ (w : Option NewsLine). HasRead c.push.new.self (bytes ++ c.args.byte ∷ []) (h.events ++ lines_given w)) c.in-Some.is (c.push.ensures.fits bytes h.events h.read) in
    rw (turned, is) (talked_event (manner_of board) HasRead held bytes sent answers asked h c.push.new.self c.args.byte (c.self.inside.taken + 1) refl line read
    (sym c.is_on.ensures ∙ c.if-is_on.true) idle))
    c.turn.ensures.turn c.turn.ensures.request

pub returns-else-is_on-clause-fits : goal.returns-else-is_on-clause-fits
returns-else-is_on-clause-fits c =
    let board = c.args.board.now in
    let held : Held (List ℕ) NewsPlace = record { kept = c.self.inside.cutter; taken = c.self.inside.taken; place = c.self.inside.place; owed = c.self.inside.owed.items } in
    let line = c.in-Some.line in
    let idle = subst (λ (w : NewsTalking). is_waiting w.held.place.stage ≡ false) (sym c.self.view_is) c.requires.idle in
    λ bytes sent answers asked talked.
    let h : HasSaid (manner_of board) HasRead held bytes answers sent asked = subst (λ (w : NewsTalking). NewsHasTalked board w bytes answers sent asked) (sym c.self.view_is) talked in
    let read = subst (λ (w : Option NewsLine). HasRead c.push.new.self (bytes ++ c.args.byte ∷ []) (h.events ++ lines_given w)) c.in-Some.is (c.push.ensures.fits bytes h.events h.read) in
    talked_over (manner_of board) HasRead held bytes sent answers asked h c.push.new.self c.args.byte (c.self.inside.taken + 1) refl line read
    (sym c.is_on.ensures ∙ c.if-is_on.false) idle
