use Rattle.std.proofs.Common.{◌≡◌, ℕ, Bool, true, false}
use Rattle.std.specs.Prelude.{◌==◌, if◌then◌else◌}
use Rattle.jb_limits.specs.declared.limits.TheConstants.{MOST_SESSION_BYTES}
use Rattle.jb_speech.specs.Conversations.{conversation}
use Rattle.jb_speech.specs.declared.end.TalkEnd.TheVariants.{Hangup, LoginRefused, Spent}
use Rattle.jb_news_talk.specs.Conversations.{end_of, manner_of}
use Rattle.jb_news_talk.specs.declared.place.NewsStage.{NewsStage}
use Rattle.jb_news_talk.specs.declared.place.NewsStage.TheVariants as stage
use Rattle.jb_news_talk.proofs.laws.news_is_never_refused.Goals as goal

spent_or_gone : (spent : Bool) → LoginRefused ≡ (if spent then Spent else Hangup) → ⊥
spent_or_gone true = λ is. absurd (cc (is))
spent_or_gone false = λ is. absurd (cc (is))

ends_otherwise : (at : NewsStage) (taken : ℕ) → LoginRefused ≡ end_of at taken → ⊥
ends_otherwise stage.Idle taken = spent_or_gone (taken == MOST_SESSION_BYTES)
ends_otherwise _ taken = λ is. absurd (cc (is))

pub returns : goal.returns
returns c = λ board bytes out answers asked talked.
    ends_otherwise (conversation (manner_of board) answers talked.events).course.place.stage _ talked.ends
