-- That the looks and counts of a node show never less than those before.
use Rattle.std.specs.Prelude.{ℕ, ◌≤◌, List, All, length, slice_index_or, Option}
use Rattle.std.specs.List.Sorted.{IsNonDecreasing}
use Rattle.jb_base.specs.declared.user.User.{User}
use Rattle.jb_shared.specs.Passes.{Known, PassView}
use Rattle.jb_speech.specs.Laws.{IsFront}
use Rattle.jb_speech.specs.declared.request.AreaRequest.{AreaRequest}
use Rattle.jb_speech.specs.declared.request.Request.{Request}
use Rattle.jb_session.specs.Exchanges.{Exchange, NodeState, Passed, PassedLast}

-- how many entries the looks and counts showed never falls from one to the next, and none showed more than all that was shown
pub record LooksRise (known : Known) : Type 0 where
  pub rising : IsNonDecreasing known.looks
  pub within : All (λ count. count ≤ length known.shown) known.looks

-- the looks and counts before stay the first ones, and rise on where they rose
pub record RisesOn (old new : Known) : Type 0 where
  pub front : IsFront old.looks new.looks
  pub rises : LooksRise old → LooksRise new

-- on each pass of a node, through its requests and a last one that memory was wanting for, where there was one
abbrev pub LooksNeverFall : Type 0
LooksNeverFall = (user_of : AreaRequest → Option User) (exchanges : List Exchange) (last : Option Request) (from mid to : NodeState)
    → Passed user_of from exchanges mid → PassedLast user_of mid last to
    → (k : ℕ) (pass : PassView) → RisesOn (slice_index_or from.passes k pass).known (slice_index_or to.passes k pass).known
