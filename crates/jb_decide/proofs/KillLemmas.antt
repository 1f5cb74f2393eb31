-- The ways through a kill.
use Rattle.std.proofs.Common.{◌≡◌, ℕ, ◌+◌, ◌%◌, ◌^◌, List, Some, None, refl, sym, ◌∙◌, ap, subst, arith}
use Rattle.jb_base.specs.Access.{first_refusal}
use Rattle.jb_base.specs.declared.area.Action.TheVariants.{List as Listing, Kill as Killing}
use Rattle.jb_base.specs.declared.area.AreaRules.{AreaRules}
use Rattle.jb_base.specs.declared.area.Rule.{Rule}
use Rattle.jb_base.specs.declared.user.User.{User}
use Rattle.jb_model.specs.Answered.{Answered, unless_denied, with_message}
use Rattle.jb_state.specs.Live.{counted}
use Rattle.jb_model.specs.Kill.{kill_done, kill_step}
use Rattle.jb_state.specs.Loaded.{IsMessageAt, with_killed_at}
use Rattle.jb_state.specs.Message.{envelope_of}
use Rattle.jb_state.specs.Sound.{IsSound}
use Rattle.jb_state.specs.State.{AreaState, LiveMessage, state_of}
use Rattle.jb_state.specs.Visible.{visible_at}
use Rattle.jb_model.specs.declared.command.Command.TheVariants.{Kill}
use Rattle.jb_state.specs.declared.loaded.Loaded.{Loaded}
use Rattle.jb_state.specs.declared.loaded.LoadedMessage.{LoadedMessage}
use Rattle.jb_state.specs.declared.change.Change.TheVariants.{Killed as KilledAt}
use Rattle.jb_state.specs.declared.loaded.LoadedSlot.TheVariants.{Killed, Live}
use Rattle.jb_model.specs.declared.reply.Reply.TheVariants.{Denied, NoMessage, Killed as KilledReply}
use Rattle.jb_state.specs.Change.{live_messages, loaded_counted}
use Rattle.jb_decide.specs.Refusal.{IsRefusal}
use Rattle.jb_decide.specs.StepOf.{IsStepOf}
use Rattle.jb_decide.proofs.StepLemmas.{something}
use Rattle.jb_state.proofs.PlaceLaws.{killed_is}
use Rattle.jb_decide.specs.Seen.{IsNamed, loaded_envelope, seen_at}
use Rattle.jb_decide.proofs.CountLemmas.{counted_now}
use Rattle.jb_decide.proofs.SoundLemmas.{slot_within, sound_after_set, sound_counted}
use Rattle.jb_decide.proofs.StateLemmas.{allowed_way, answer, denied_way, none_way, state_with_slot, visible_found, visible_none}

-- what follows the first rule
abbrev seen_rest : AreaRules → AreaState → User → ℕ → Answered
seen_rest rules state user number =
    with_message state number (visible_at rules user state number)
    (λ message. unless_denied state (first_refusal user rules Killing (Some (envelope_of message))) (kill_done state number))

-- the user sees no such message
pub kill_unseen : (rules : AreaRules) (loaded : Loaded) (user : User) (number : ℕ) → first_refusal user rules Listing None ≡ None → seen_at rules user loaded number ≡ None
    → IsRefusal rules loaded user (Kill number) (NoMessage number)
kill_unseen rules loaded user number listed unseen = record {
  refusal = refl;
  step = λ texts moment.
      allowed_way (state_of texts loaded) (first_refusal user rules Listing None) (seen_rest rules (state_of texts loaded) user number) listed
      ∙ none_way (state_of texts loaded) number (visible_at rules user (state_of texts loaded) number)
      (λ message. unless_denied (state_of texts loaded) (first_refusal user rules Killing (Some (envelope_of message))) (kill_done (state_of texts loaded) number))
      (visible_none texts rules user loaded number unseen);
}

-- up to the rule on kills
to_rule : (texts : List ℕ) (rules : AreaRules) (loaded : Loaded) (user : User) (number : ℕ) (message : LoadedMessage) → first_refusal user rules Listing None ≡ None
    → seen_at rules user loaded number ≡ Some message
    → kill_step rules (state_of texts loaded) user number
    ≡ unless_denied (state_of texts loaded) (first_refusal user rules Killing (Some (loaded_envelope message))) (kill_done (state_of texts loaded) number)
to_rule texts rules loaded user number message listed seen =
    allowed_way (state_of texts loaded) (first_refusal user rules Listing None) (seen_rest rules (state_of texts loaded) user number) listed
    ∙ ap (λ o. with_message (state_of texts loaded) number o
    (λ (m : LiveMessage). unless_denied (state_of texts loaded) (first_refusal user rules Killing (Some (envelope_of m))) (kill_done (state_of texts loaded) number)))
    (visible_found texts rules user loaded number message seen)

-- the user is no party of the message
pub kill_forbidden : (rules : AreaRules) (loaded : Loaded) (user : User) (number : ℕ) (message : LoadedMessage) (rule : Rule) → first_refusal user rules Listing None ≡ None
    → seen_at rules user loaded number ≡ Some message → first_refusal user rules Killing (Some (loaded_envelope message)) ≡ Some rule
    → IsRefusal rules loaded user (Kill number) (Denied rule)
kill_forbidden rules loaded user number message rule listed seen denied = record {
  refusal = refl;
  step = λ texts moment. to_rule texts rules loaded user number message listed seen
      ∙ denied_way (state_of texts loaded) (first_refusal user rules Killing (Some (loaded_envelope message))) rule (kill_done (state_of texts loaded) number) denied;
}

-- the kill is done
pub kill_way : (texts : List ℕ) (rules : AreaRules) (loaded : Loaded) (user : User) (number place : ℕ) (message : LoadedMessage)
    → first_refusal user rules Listing None ≡ None → seen_at rules user loaded number ≡ Some message
    → first_refusal user rules Killing (Some (loaded_envelope message)) ≡ None → IsNamed loaded number place message
    → kill_step rules (state_of texts loaded) user number ≡ answer (KilledReply number) (state_of texts (loaded_counted (with_killed_at place message loaded)))
kill_way texts rules loaded user number place message listed seen allowed named =
    to_rule texts rules loaded user number message listed seen
    ∙ allowed_way (state_of texts loaded) (first_refusal user rules Killing (Some (loaded_envelope message))) (kill_done (state_of texts loaded) number) allowed
    ∙ ap (λ s. answer (KilledReply number) (counted s)) (sym (state_with_slot texts loaded number place (Killed message.header_at) named.placed))
    ∙ ap (answer (KilledReply number)) (sym (counted_now texts (with_killed_at place message loaded)))

-- the area stays sound
pub kill_keeps_sound : (limit : ℕ) (loaded : Loaded) (place : ℕ) (message : LoadedMessage) → IsMessageAt loaded place message → IsSound limit loaded
    → IsSound limit (loaded_counted (with_killed_at place message loaded))
kill_keeps_sound limit loaded place message here sound =
    let fits = slot_within limit loaded place (Live message) here sound in
    sound_counted limit (with_killed_at place message loaded) ((loaded.counter + 1) % 2 ^ 32) (live_messages (with_killed_at place message loaded))
    (sound_after_set limit loaded place (Live message) (Killed message.header_at) here
    (λ i covered. (covered.0, omega (arith, covered.1)))
    (record { after = fits.header.after; inside = omega (arith, fits.header.inside); below = omega (arith, fits.header.below) })
    sound)

-- a kill that nothing refuses
pub kill_is : (rules : AreaRules) (loaded : Loaded) (user : User) (moment number place : ℕ) (message : LoadedMessage)
    → first_refusal user rules Listing None ≡ None → seen_at rules user loaded number ≡ Some message
    → first_refusal user rules Killing (Some (loaded_envelope message)) ≡ None → IsNamed loaded number place message → IsSound rules.slots loaded
    → IsStepOf rules loaded user moment (Kill number) (λ texts. KilledReply number) (KilledAt place)
kill_is rules loaded user moment number place message listed seen allowed named sound =
    let same = killed_is place message loaded named.here in
    record {
      step = λ texts sized. subst (λ (l : Loaded). kill_step rules (state_of texts loaded) user number ≡ answer (KilledReply number) (state_of texts (loaded_counted l))) (sym same)
          (kill_way texts rules loaded user number place message listed seen allowed named);
      fits = record { message = message; here = named.here };
      sound = subst (λ (l : Loaded). IsSound rules.slots (loaded_counted l)) (sym same) (kill_keeps_sound rules.slots loaded place message named.here sound);
      kind = tt;
      text = refl;
      idle = λ texts nothing. absurd (something (Kill number) (KilledReply number) refl (λ look. look) (λ links. cc) nothing);
      told = λ texts. tt;
      named = λ texts. tt;
    }
