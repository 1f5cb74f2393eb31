-- The ways through a relink.
use Rattle.std.proofs.Common.{◌≡◌, ◌≢◌, ℕ, ◌+◌, ◌-◌, ◌%◌, ◌^◌, cond, ◌==◌, List, [], ◌∷◌, map, Option, Some, None, refl, sym, ◌∙◌, ap, ne_eqb}
use Rattle.jb_base.specs.Access.{first_refusal}
use Rattle.jb_base.specs.declared.area.Action.TheVariants.{Tend as Tending}
use Rattle.jb_base.specs.declared.area.AreaRules.{AreaRules}
use Rattle.jb_base.specs.declared.user.User.{User}
use Rattle.jb_link.proofs.LiveLemmas.{linkables_with_texts}
use Rattle.jb_state.specs.Plan.{loaded_at, plan_of}
use Rattle.jb_state.specs.LiveSlots.{linkables}
use Rattle.jb_state.specs.Live.{counted, change_live_from}
use Rattle.jb_state.specs.Links.{Linkable}
use Rattle.jb_model.specs.Relink.{relink_done, relink_step}
use Rattle.jb_state.specs.Relinked.{relinked, relinked_area, wrongly_linked}
use Rattle.jb_state.specs.Sound.{IsSound}
use Rattle.jb_state.specs.State.{AreaState, slot_state, state_of}
use Rattle.jb_state.specs.declared.links.Links.{Links}
use Rattle.jb_state.specs.declared.loaded.Loaded.{Loaded}
use Rattle.jb_state.specs.declared.loaded.LoadedMessage.{LoadedMessage}
use Rattle.jb_model.specs.declared.reply.Reply.TheVariants.{Relinked}
use Rattle.jb_state.specs.Change.{live_messages, loaded_counted}
use Rattle.jb_decide.specs.StepOf.{IsStepOf}
use Rattle.jb_decide.proofs.StepLemmas.{something}
use Rattle.jb_state.specs.declared.change.Change.TheVariants.{Nothing, Relinked as RelinkedBy}
use Rattle.jb_model.specs.declared.command.Command.TheVariants.{Relink}
use Rattle.jb_state.specs.Linked.{linked_head, with_links_in, with_links_of}
use Rattle.jb_decide.proofs.CountLemmas.{counted_now}
use Rattle.jb_decide.proofs.NeighbourLemmas.{named_at_place, sound_with_head}
use Rattle.jb_decide.proofs.SoundLemmas.{sound_counted}
use Rattle.jb_decide.proofs.StateLemmas.{allowed_way, answer, with_slots}
use Rattle.jb_state.proofs.LinkedLaws.{linked_state, links_of_area}

-- the plan of the area links the state
pub links_of_state : (texts : List ℕ) (loaded : Loaded) (plan : List Links) → plan ≡ plan_of (linkables [] loaded)
    → state_of texts (with_links_of plan loaded) ≡ relinked_area (state_of texts loaded)
links_of_state texts loaded plan is =
    let live : List Linkable = linkables [] loaded in
    ap (state_of texts) (links_of_area loaded plan is)
    ∙ ap (with_slots (state_of texts loaded))
    (linked_state texts live loaded.base loaded.slots
    ∙ ap (λ l. change_live_from (λ n message. relinked l (record { number = n; message = message })) loaded.base (map (slot_state texts) loaded.slots))
    (sym (linkables_with_texts texts loaded.base loaded.slots)))

-- links keep an area sound, whatever they are
pub links_keep_sound : (limit : ℕ) (plan : List Links) (loaded : Loaded) → IsSound limit loaded → IsSound limit (with_links_of plan loaded)
links_keep_sound limit [] loaded sound = sound
links_keep_sound limit (links ∷ plan) loaded sound =
    links_keep_sound limit plan (with_links_in links (loaded_at loaded links.number) loaded) (one (loaded_at loaded links.number) refl)
  where
    one : (found : Option LoadedMessage) → loaded_at loaded links.number ≡ found → IsSound limit (with_links_in links found loaded)
    one None at = sound
    one (Some message) at =
        sound_with_head limit loaded (links.number - loaded.base) (linked_head links message.head) message (named_at_place loaded links.number message at).here refl sound

-- no link is another, and nothing is written
pub relink_none : (texts : List ℕ) (rules : AreaRules) (loaded : Loaded) (user : User) (changed : ℕ)
    → first_refusal user rules Tending None ≡ None → changed ≡ 0 → changed ≡ wrongly_linked (state_of texts loaded)
    → relink_step rules (state_of texts loaded) user ≡ answer (Relinked changed) (state_of texts loaded)
relink_none texts rules loaded user changed allowed none counts =
    let state : AreaState = state_of texts loaded in
    allowed_way state (first_refusal user rules Tending None) (relink_done state) allowed
    ∙ ap (λ w. cond (w == 0) (answer (Relinked 0) state) (answer (Relinked w) (counted (relinked_area state)))) (sym counts ∙ none)
    ∙ ap (λ n. answer (Relinked n) state) (sym none)

-- the area is relinked
pub relink_some : (texts : List ℕ) (rules : AreaRules) (loaded : Loaded) (user : User) (plan : List Links) (changed : ℕ)
    → first_refusal user rules Tending None ≡ None → plan ≡ plan_of (linkables [] loaded) → changed ≢ 0 → changed ≡ wrongly_linked (state_of texts loaded)
    → relink_step rules (state_of texts loaded) user ≡ answer (Relinked changed) (state_of texts (loaded_counted (with_links_of plan loaded)))
relink_some texts rules loaded user plan changed allowed is some counts =
    let state : AreaState = state_of texts loaded in
    allowed_way state (first_refusal user rules Tending None) (relink_done state) allowed
    ∙ ap (λ w. cond (w == 0) (answer (Relinked 0) state) (answer (Relinked w) (counted (relinked_area state)))) (sym counts)
    ∙ ap (λ b. cond b (answer (Relinked 0) state) (answer (Relinked changed) (counted (relinked_area state)))) (ne_eqb changed 0 some)
    ∙ ap (λ s. answer (Relinked changed) (counted s)) (sym (links_of_state texts loaded plan is))
    ∙ ap (answer (Relinked changed)) (sym (counted_now texts (with_links_of plan loaded)))

-- the area stays sound
relink_keeps_sound : (limit : ℕ) (plan : List Links) (loaded : Loaded) → IsSound limit loaded → IsSound limit (loaded_counted (with_links_of plan loaded))
relink_keeps_sound limit plan loaded sound =
    let linked : Loaded = with_links_of plan loaded in
    sound_counted limit linked ((linked.counter + 1) % 2 ^ 32) (live_messages linked) (links_keep_sound limit plan loaded sound)

-- two replies of a relink are one
same_count : (one other : ℕ) → Relinked one ≡ Relinked other → one ≡ other
same_count one other is = cc

-- a relink that finds no wrong link
pub linked_is : (rules : AreaRules) (loaded : Loaded) (user : User) (moment changed : ℕ) → first_refusal user rules Tending None ≡ None → changed ≡ 0
    → ((texts : List ℕ) → changed ≡ wrongly_linked (state_of texts loaded)) → IsSound rules.slots loaded
    → IsStepOf rules loaded user moment Relink (λ texts. Relinked changed) Nothing
linked_is rules loaded user moment changed allowed none counts sound = record {
  step = λ texts sized. relink_none texts rules loaded user changed allowed none (counts texts);
  fits = tt;
  sound = sound;
  kind = tt;
  text = refl;
  idle = λ texts nothing. refl;
  told = λ texts. tt;
  named = λ texts. tt;
}

-- a relink that finds some
pub relinking_is : (rules : AreaRules) (loaded : Loaded) (user : User) (moment changed : ℕ) (plan : List Links) → first_refusal user rules Tending None ≡ None
    → plan ≡ plan_of (linkables [] loaded) → changed ≢ 0 → ((texts : List ℕ) → changed ≡ wrongly_linked (state_of texts loaded)) → IsSound rules.slots loaded
    → IsStepOf rules loaded user moment Relink (λ texts. Relinked changed) (RelinkedBy plan)
relinking_is rules loaded user moment changed plan allowed is some counts sound = record {
  step = λ texts sized. relink_some texts rules loaded user plan changed allowed is some (counts texts);
  fits = is;
  sound = relink_keeps_sound rules.slots plan loaded sound;
  kind = tt;
  text = refl;
  idle = λ texts nothing. absurd (something Relink (Relinked changed) refl (λ look. look) (λ none. some (same_count changed 0 none)) nothing);
  told = λ texts. tt;
  named = λ texts. tt;
}
