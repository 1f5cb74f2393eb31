use Rattle.std.proofs.Common.{◌≡◌, ℕ, Bool, true, false, refl, arith}
use Rattle.std.specs.Prelude.{◌≢◌, ◌==◌, if◌then◌else◌}
use Rattle.std.proofs.lemmas.Bool.{true≢false}
use Rattle.jb_limits.specs.declared.limits.TheConstants.{MOST_SESSION_BYTES}
use Rattle.jb_menu.specs.declared.moves.MenuEnd.TheVariants as menu_end
use Rattle.jb_speech.specs.Laws.{IsWithin}
use Rattle.jb_speech.specs.declared.end.TalkEnd.TheVariants.{Hangup, Spent, Unanswered}
use Rattle.jb_speech.specs.declared.request.Request.{Request}
use Rattle.jb_speech.specs.declared.request.Request.TheVariants.{Area, Clock, Send, Take}
use Rattle.jb_talk.specs.declared.standing.Standing.{Standing}
use Rattle.jb_talk.specs.declared.standing.Standing.TheVariants.{On, Waits, Over, Failed}
use Rattle.jb_conf.specs.declared.board.Board.{Board}
use Rattle.jb_menu.specs.declared.state.State.{State}
use Rattle.jb_telnet.specs.Reading.{HasRead}
use Rattle.jb_speech.proofs.Speaking.{IsCutting, says_each, says_grow, says_one_way}
use Rattle.jb_speech.proofs.Talked.{talks}
use Rattle.jb_talk.specs.Conversations.{end_of, is_waiting, manner_of}
use Rattle.jb_talk.specs.Talking.{MayAsk}
use Rattle.jb_talk.proofs.MoveLemmas.{not_waiting}
use Rattle.jb_talk.proofs.talk.TalkSpeaker.laws.Goals as goal
use Rattle.jb_telnet.specs.Laws.{CutsOneWay, EachIsCut, EventsGrow}

-- the units of Telnet
telnet_cuts : EachIsCut → CutsOneWay → EventsGrow → (board : Board) → IsCutting (manner_of board).cuts
telnet_cuts some same kept board = record {
  each = λ bytes. let cut = some bytes in (cut.more, (cut.rest, cut.cuts));
  same = λ bytes events others one two. (same bytes events others one.0 two.0 one.1 two.1).0;
  grow = λ bytes more events cuts. let on = kept bytes more events cuts.0 cuts.1 in (on.more, (on.rest, on.cuts));
}

pub returns-clause-some : goal.returns-clause-some
returns-clause-some c = let laws = c.bytes_are_cut_one_way.ensures in says_each manner_of (telnet_cuts laws.some laws.same laws.kept)

pub returns-clause-same : goal.returns-clause-same
returns-clause-same c = let laws = c.bytes_are_cut_one_way.ensures in says_one_way manner_of (telnet_cuts laws.some laws.same laws.kept)

pub returns-clause-grows : goal.returns-clause-grows
returns-clause-grows c =
    let laws = c.bytes_are_cut_one_way.ensures in
    says_grow manner_of (telnet_cuts laws.some laws.same laws.kept) (λ board place on. not_waiting place.standing on) (λ board. refl)

pub returns-clause-stands : goal.returns-clause-stands
returns-clause-stands c = λ board talk bytes sent answers asked talked.
    talks (manner_of board) HasRead talk bytes sent answers asked talked (λ kept so_far events read. (read.rest, read.cuts))

on_goes : (spent : Bool) → (if spent then Spent else Hangup) ≢ Unanswered
on_goes true = λ is. absurd (cc (is))
on_goes false = λ is. absurd (cc (is))

-- a talk that has handed nothing out does not end for want of an answer
not_unanswered : (standing : Standing) (taken : ℕ) → is_waiting standing ≡ false → end_of standing taken ≢ Unanswered
not_unanswered On taken waits = on_goes (taken == MOST_SESSION_BYTES)
not_unanswered Waits taken waits = absurd (true≢false waits)
not_unanswered (Over menu_end.Quit) taken waits = λ is. absurd (cc (is))
not_unanswered (Over menu_end.LoginRefused) taken waits = λ is. absurd (cc (is))
not_unanswered Failed taken waits = λ is. absurd (cc (is))

pub returns-clause-waits : goal.returns-clause-waits
returns-clause-waits c = λ board talk hands. not_unanswered talk.place.standing talk.taken hands.waits

-- what may be asked is within the nodes of the board
within : (board : Board) (menu : State) (request : Request) → MayAsk board menu request → IsWithin board.nodes request
within board menu (Area request) may = tt
within board menu Clock may = tt
within board menu (Send to text) may = (may.1, may.2)
within board menu Take may = omega (arith, board.in_range.nodes_least)

pub returns-clause-reaches : goal.returns-clause-reaches
returns-clause-reaches c = λ board talk request hands. within board talk.place.menu request hands.of
