use Rattle.std.proofs.Common.{◌≡◌, ℕ, Bool, true, false, refl}
use Rattle.std.specs.Prelude.{◌≢◌, ◌==◌, if◌then◌else◌}
use Rattle.std.proofs.lemmas.Bool.{true≢false}
use Rattle.jb_limits.specs.declared.limits.TheConstants.{MOST_SESSION_BYTES}
use Rattle.jb_speech.specs.declared.end.TalkEnd.TheVariants.{Hangup, Spent, Unanswered}
use Rattle.jb_speech.specs.declared.request.Request.{Request}
use Rattle.jb_speech.specs.declared.request.Request.TheVariants.{Area, Clock}
use Rattle.jb_speech.specs.Laws.{IsWithin}
use Rattle.jb_conf.specs.declared.board.Board.{Board}
use Rattle.jb_news.specs.Laws.{CutsOneWay, EachIsCut, LinesGrow}
use Rattle.jb_news.specs.Reading.{HasRead}
use Rattle.jb_speech.proofs.Speaking.{IsCutting, says_each, says_grow, says_one_way}
use Rattle.jb_speech.proofs.Talked.{talks}
use Rattle.jb_news_talk.specs.Conversations.{end_of, is_waiting, manner_of}
use Rattle.jb_news_talk.specs.Reading.{IsRequestOn}
use Rattle.jb_news_talk.specs.declared.place.NewsStage.{NewsStage}
use Rattle.jb_news_talk.specs.declared.place.NewsStage.TheVariants as stage
use Rattle.jb_news_talk.proofs.Turning.{not_waiting}
use Rattle.jb_news_talk.proofs.talk.NewsTalkSpeaker.laws.Goals as goal

-- the lines of a reader
lines_cut : EachIsCut → CutsOneWay → LinesGrow → (board : Board) → IsCutting (manner_of board).cuts
lines_cut some same kept board = record {
  each = λ bytes. let cut = some bytes in (cut.more, (cut.rest, cut.cuts));
  same = λ bytes lines others one two. (same bytes lines others one.0 two.0 one.1 two.1).0;
  grow = λ bytes more lines cuts. let on = kept bytes more lines cuts.0 cuts.1 in (on.more, (on.rest, on.cuts));
}

pub returns-clause-some : goal.returns-clause-some
returns-clause-some c = let laws = c.lines_are_cut_one_way.ensures in says_each manner_of (lines_cut laws.some laws.same laws.kept)

pub returns-clause-same : goal.returns-clause-same
returns-clause-same c = let laws = c.lines_are_cut_one_way.ensures in says_one_way manner_of (lines_cut laws.some laws.same laws.kept)

pub returns-clause-grows : goal.returns-clause-grows
returns-clause-grows c =
    let laws = c.lines_are_cut_one_way.ensures in
    says_grow manner_of (lines_cut laws.some laws.same laws.kept) (λ board place on. not_waiting place.stage on) (λ board. refl)

pub returns-clause-stands : goal.returns-clause-stands
returns-clause-stands c = λ board talk bytes sent answers asked talked.
    talks (manner_of board) HasRead talk.held bytes sent answers asked talked (λ kept so_far lines read. (read.rest, read.cuts))

on_goes : (spent : Bool) → (if spent then Spent else Hangup) ≢ Unanswered
on_goes true = λ is. absurd (cc (is))
on_goes false = λ is. absurd (cc (is))

-- a talk that has handed nothing out does not end for want of an answer
not_unanswered : (at : NewsStage) (taken : ℕ) → is_waiting at ≡ false → end_of at taken ≢ Unanswered
not_unanswered stage.Idle taken waits = on_goes (taken == MOST_SESSION_BYTES)
not_unanswered stage.Over taken waits = λ is. absurd (cc (is))
not_unanswered stage.Broken taken waits = λ is. absurd (cc (is))
not_unanswered _ taken waits = absurd (true≢false waits)

pub returns-clause-waits : goal.returns-clause-waits
returns-clause-waits c = λ board talk hands. not_unanswered talk.held.place.stage talk.held.taken hands.waits

-- no page is sent or taken
none_reached : (board : Board) (request : Request) → IsRequestOn board request → IsWithin 0 request
none_reached board (Area asked) on = tt
none_reached board Clock on = tt
none_reached board _ on = absurd on

pub returns-clause-reaches : goal.returns-clause-reaches
returns-clause-reaches c = λ board talk request hands. none_reached board request hands.of
