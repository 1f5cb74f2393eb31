use Rattle.std.proofs.Common.{◌≡◌, ℕ, ◌+◌, false, List, [], ◌∷◌, ◌++◌, Option, refl, sym, ap, subst}
use Rattle.jb_telnet.specs.declared.event.Event.{Event}
use Rattle.jb_telnet.specs.Reading.{HasRead, events_given}
use Rattle.jb_menu.specs.Awaits.{IsFor}
use Rattle.jb_talk.specs.Conversations.{is_waiting}
use Rattle.std.specs.Option.{option_to_list}
use Rattle.jb_menu.specs.declared.given.Given.{Given}
use Rattle.jb_speech.specs.declared.request.Request.{Request}
use Rattle.jb_speech.specs.Conversations.{owing}
use Rattle.jb_speech.proofs.Talked.{talked_event, talked_over}
use Rattle.jb_talk.specs.Conversations.{is_going, manner_of}
use Rattle.jb_talk.specs.Talking.{HasTalked, Talking}
use Rattle.jb_talk.specs.Turns.{event_turn}
use Rattle.jb_talk.proofs.MoveLemmas.{not_on, ok_both}
use Rattle.jb_talk.proofs.talk.Talk.take.Goals as goal

pub returns-in-On-clause-fits : goal.returns-in-On-clause-fits
returns-in-On-clause-fits c =
    let board = c.args.board.now in
    let talk : Talking = record {
      kept = c.self.inside.decoder;
      taken = c.self.inside.taken;
      place = record { options = c.self.inside.options; typing = c.self.inside.editor; menu = c.self.inside.menu; standing = c.self.inside.standing };
      owed = c.self.inside.owed.items;
    } in
    let mid : Talking = record talk { kept = c.push.new.self; taken = c.self.inside.taken + 1 } in
    ok_both c.turn.result (λ _. c.turn.new.self ≡ owing mid (event_turn board talk.place c.in-Some.event)) (λ request. request ≡ (event_turn board talk.place c.in-Some.event).request)
    (λ request. (bytes sent : List ℕ) (answers : List Given) (asked : List Request) → HasTalked board c.args.self.now bytes answers sent asked
    → HasTalked board c.turn.new.self (bytes ++ c.args.byte ∷ []) answers sent (asked ++ option_to_list request))
    (λ request turned is. λ bytes sent answers asked talked.
    let h : HasTalked board talk bytes answers sent asked = subst (λ (w : Talking). HasTalked board w bytes answers sent asked) (sym c.self.view_is) talked in
    let read = subst (λ (w : Option Event). HasRead c.push.new.self (bytes ++ c.args.byte ∷ []) (h.events ++ events_given w)) c.in-Some.is (c.push.ensures.fits bytes h.events h.read) in
    rw (turned, is) (talked_event (manner_of board) HasRead talk bytes sent answers asked h c.push.new.self c.args.byte (c.self.inside.taken + 1) refl c.in-Some.event read
    (ap is_going c.in-On.is) (ap is_waiting c.in-On.is)))
    c.turn.ensures.turn c.turn.ensures.request

pub returns-in_default-standing : goal.returns-in_default-standing
returns-in_default-standing c =
    let board = c.args.board.now in
    let talk : Talking = record {
      kept = c.self.inside.decoder;
      taken = c.self.inside.taken;
      place = record { options = c.self.inside.options; typing = c.self.inside.editor; menu = c.self.inside.menu; standing = c.self.inside.standing };
      owed = c.self.inside.owed.items;
    } in
    let idle : is_waiting c.self.inside.standing ≡ false = subst (λ (w : Talking). is_waiting w.place.standing ≡ false) (sym c.self.view_is) c.requires.idle in
    record {
      fits = λ bytes sent answers asked talked.
          let h : HasTalked board talk bytes answers sent asked = subst (λ (w : Talking). HasTalked board w bytes answers sent asked) (sym c.self.view_is) talked in
          let read = subst (λ (w : Option Event). HasRead c.push.new.self (bytes ++ c.args.byte ∷ []) (h.events ++ events_given w)) c.in-Some.is (c.push.ensures.fits bytes h.events h.read) in
          talked_over (manner_of board) HasRead talk bytes sent answers asked h c.push.new.self c.args.byte (c.self.inside.taken + 1) refl c.in-Some.event read
          (not_on c.self.inside.standing c.in_default-standing.not-On) idle;
      hands = record { menu = subst (λ (w : Talking). IsFor board w.place.menu) (sym c.self.view_is) c.requires.of; waits = idle; of = tt };
      counted = subst (λ (w : Talking). c.self.inside.taken + 1 ≡ w.taken + 1) c.self.view_is refl;
    }
