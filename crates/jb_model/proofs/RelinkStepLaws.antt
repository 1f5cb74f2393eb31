-- A relink links the area, and a second one keeps it.
use Rattle.std.proofs.Common.{◌≡◌, ℕ, Bool, true, false, cond, ◌==◌, refl, ◌∙◌, ap}
use Rattle.std.proofs.lemmas.Bool.{eqb-true}
use Rattle.jb_state.specs.Links.{IsLinked}
use Rattle.jb_state.specs.Live.{counted}
use Rattle.jb_model.specs.Answered.{Answered}
use Rattle.jb_state.specs.Relinked.{relinked_area, wrongly_linked}
use Rattle.jb_model.specs.Relink.{relink_done}
use Rattle.jb_model.specs.declared.reply.Reply.TheVariants.{Relinked}
use Rattle.jb_state.specs.State.{AreaState}
use Rattle.jb_state.proofs.RelinkLaws.{counted_is_linked, linked_is_right, relinked_is_linked, right_is_linked}

-- the area after a relink, by whether a message was wrongly linked
relink_links_by : (state : AreaState) (wrong : ℕ) (none : Bool) → wrongly_linked state ≡ wrong → (wrong == 0) ≡ none
    → IsLinked (cond {A = Answered} none (record { reply = Relinked 0; state = state })
    (record { reply = Relinked wrong; state = counted (relinked_area state) })).state
relink_links_by state wrong true is none = right_is_linked state (is ∙ eqb-true wrong 0 none)
relink_links_by state wrong false is some = counted_is_linked (relinked_area state) (relinked_is_linked state)

-- a relink leaves the area linked
pub relink_links : (state : AreaState) → IsLinked (relink_done state).state
relink_links state = relink_links_by state (wrongly_linked state) (wrongly_linked state == 0) refl refl

-- where nothing is wrongly linked a relink keeps the area
relink_keeps : (state : AreaState) → wrongly_linked state ≡ 0 → relink_done state ≡ record { reply = Relinked 0; state = state }
relink_keeps state none = ap (λ wrong. cond (wrong == 0) (record { reply = Relinked 0; state = state })
    (record { reply = Relinked wrong; state = counted (relinked_area state) })) none

-- a second relink finds nothing wrong, and keeps the area
pub relink_again : (state : AreaState) → relink_done (relink_done state).state ≡ record { reply = Relinked 0; state = (relink_done state).state }
relink_again state = relink_keeps (relink_done state).state (linked_is_right (relink_done state).state (relink_links state))
