-- What keeps an area linked.
use Rattle.std.specs.Prelude.{ℕ, ◌≤◌}
use Rattle.jb_base.specs.declared.area.AreaRules.{AreaRules}
use Rattle.jb_base.specs.declared.user.User.{User}
use Rattle.jb_state.specs.Links.{IsLinked}
use Rattle.jb_model.specs.Post.{Draft, post_step}
use Rattle.jb_state.specs.State.{AreaState}

-- a linked area stays linked whatever is posted, and whether it is refused or not
abbrev pub PostsKeepLinks : Type 0
PostsKeepLinks = (rules : AreaRules) (state : AreaState) (user : User) (moment : ℕ) (draft : Draft)
    → 1 ≤ state.base → IsLinked state → IsLinked (post_step rules state user moment draft).state
