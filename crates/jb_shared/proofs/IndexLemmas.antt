-- What looks see, with one entry more.
use Rattle.std.proofs.Common.{◌≡◌, inl, inr, ℕ, Bool, true, false, cond, List, [], ◌∷◌, ◌++◌, Option, Some, None, refl, sym, ◌∙◌, ap, subst}
use Rattle.std.specs.Prelude.{IsSome, unwrap_or}
use Rattle.jb_area.specs.Area.{IsDoubtful, SettlesAt, device_of, loaded_of, rules_of}
use Rattle.jb_area.specs.declared.area.OpenArea.{OpenArea}
use Rattle.jb_area.specs.declared.stage.Stage.{Stage}
use Rattle.jb_area.specs.declared.stage.Stage.TheVariants.{Copying, Doubtful, Resting}
use Rattle.jb_base.specs.declared.area.AreaRules.{AreaRules}
use Rattle.jb_base.specs.declared.user.User.{User}
use Rattle.jb_decide.specs.Coming.{Coming}
use Rattle.jb_held.specs.Pending.{no_room}
use Rattle.jb_held.specs.declared.pending.Pending.{Pending}
use Rattle.jb_state.specs.declared.change.Change.TheVariants.{Nothing}
use Rattle.jb_disk.specs.Device.{Device}
use Rattle.jb_index.specs.Edit.{absorbed}
use Rattle.jb_index.specs.Index.{AreaIndex, index_of}
use Rattle.jb_index.specs.declared.op.OpEdit.{OpEdit}
use Rattle.jb_model.specs.Answered.{Answered}
use Rattle.jb_model.specs.Standing.{InDoubt, Settled, Standing, StandsWithin, after_entry, change_of, is_refusal}
use Rattle.jb_state.specs.State.{AreaState}
use Rattle.jb_model.specs.Step.{step}
use Rattle.jb_model.specs.declared.command.Command.{Command}
use Rattle.jb_model.specs.declared.entry.Entry.{Entry}
use Rattle.jb_model.specs.declared.entry.Entry.TheVariants.{Called, Reopened}
use Rattle.jb_model.specs.declared.entry.Outcome.TheVariants.{Replied, InDoubt as LeftInDoubt, NotBegun}
use Rattle.jb_model.specs.declared.reply.Reply.{Reply}
use Rattle.jb_model.proofs.HistoryLaws.{standing_after_push}
use Rattle.jb_shared.specs.Histories.{Tells, first_state, leads_to, state_at}
use Rattle.jb_shared.specs.Keeping.{FollowsCommand, HasChange, IsDoubted}
use Rattle.jb_shared.specs.Standing.{StandsInDoubt, StandsSettled, doubt_between, state_to}
use Rattle.jb_shared.specs.declared.opening.Opening.{Opening}

-- what may stand besides the state before
abbrev after_of : Standing → Option AreaState
after_of (Settled state) = None
after_of (InDoubt before after) = after

-- settled is not in doubt
settled_or_not : {A : Type 0} (state before : AreaState) (after : Option AreaState) → Settled state ≡ InDoubt before after → A
settled_or_not state before after is = absurd (cc (is))

-- the change of what was answered is its state
change_is : (answered : Answered) (after : AreaState) → change_of answered ≡ Some after → answered.state ≡ after
change_is answered after is = by (is_refusal answered.reply) refl
  where
    by : (b : Bool) → is_refusal answered.reply ≡ b → answered.state ≡ after
    by true refuses = let none : None ≡ Some after = sym (ap (λ (b : Bool). cond b None (Some answered.state)) refuses) ∙ is in absurd (cc (none))
    by false does = let some : Some answered.state ≡ Some after = sym (ap (λ (b : Bool). cond b None (Some answered.state)) does) ∙ is in ap (λ (o : Option AreaState). unwrap_or o after) some

-- the pending change of a doubt
abbrev pending_of : Stage → Option Pending
pending_of (Doubtful stopped pending) = Some pending
pending_of stage = None

module _ {D : Type 0} (shown : D → Device) where
  -- an area at rest has no change that is in doubt
  pub rests_no_change : (area : OpenArea D) → area.stage ≡ Resting → HasChange shown area → ⊥
  rests_no_change area rests (texts, coming, doubt) =
      let is : None ≡ Some doubt.pending = ap pending_of (sym rests ∙ doubt.stage) in absurd (cc (is))

  -- nor has one that was stopped without a change
  pub unchanged_no_change : (area : OpenArea D) (texts : List ℕ) → IsDoubtful shown area texts None → HasChange shown area → ⊥
  unchanged_no_change area texts (inr half) (texts', coming, doubt) =
      let is : None ≡ Some doubt.pending = ap pending_of (sym half.stage ∙ doubt.stage) in absurd (cc (is))
  unchanged_no_change area texts (inl none) (texts', coming, doubt) =
      let nothing : Pending = record { change = Nothing; room = no_room } in
      let is : Some nothing ≡ Some doubt.pending = ap pending_of (sym none.stage ∙ doubt.stage) in
      doubt.change.some (ap (λ (o : Option Pending). (unwrap_or o nothing).change) (sym is))

  -- and one at rest is in no doubt at all
  pub rests_no_doubt : (area : OpenArea D) (texts : List ℕ) (coming : Option Coming) → area.stage ≡ Resting → IsDoubtful shown area texts coming → ⊥
  rests_no_doubt area texts None rests (inl none) = let is : None ≡ Some (record { change = Nothing; room = no_room }) = ap pending_of (sym rests ∙ none.stage) in absurd (cc (is))
  rests_no_doubt area texts None rests (inr half) = let is : Resting ≡ Copying = sym rests ∙ half.stage in absurd (cc (is))
  rests_no_doubt area texts (Some coming) rests doubt = rests_no_change area rests (texts, coming, doubt)

  -- where an area that stands settled is: at a state, whose index is the one that looks see, and the edits make of it that after the command
  pub index_after : (area : OpenArea D) (opening : Opening) (history : List Entry) (index : AreaIndex) (user : User) (moment : ℕ) (command : Command) (edits : List OpEdit)
      → StandsSettled shown area opening history → Tells opening → index ≡ index_of opening.rules (state_at (leads_to opening history)) → FollowsCommand shown area user moment command edits
      → (state : AreaState) × (leads_to opening history ≡ Settled state) × (absorbed index edits ≡ index_of opening.rules (step opening.rules state user moment command).state)
  index_after area opening history index user moment command edits (state, stands) t is follows =
      let at = stands.at in
      let leads : leads_to opening history ≡ Settled state = sym (stands.leads t) in
      let of_it : index ≡ index_of opening.rules state = is ∙ ap (λ (s : Standing). index_of opening.rules (state_at s)) leads in
      let told : IsSome (device_of shown area).contents = stands.told ∙ t in
      let then = follows at.0 at.1 told in
      let P : AreaRules → AreaState → Type 0 = λ rules s. absorbed (index_of rules s) edits ≡ index_of rules (step rules s user moment command).state in (
        state,
        leads,
        ap (λ (i : AreaIndex). absorbed i edits) of_it
            ∙ subst (λ (rules : AreaRules). P rules state) stands.rules (subst (P (rules_of area)) at.2 then),
      )

  -- the index after a call that was answered
  pub index_replied : (area : OpenArea D) (opening : Opening) (history : List Entry) (index : AreaIndex) (node call : ℕ) (user : User) (moment : ℕ) (command : Command) (reply : Reply) (edits : List OpEdit)
      → StandsSettled shown area opening history → Tells opening → index ≡ index_of opening.rules (state_at (leads_to opening history)) → FollowsCommand shown area user moment command edits
      → absorbed index edits ≡ index_of opening.rules (state_at (leads_to opening (history ++ Called node call user moment command (Replied reply) ∷ [])))
  index_replied area opening history index node call user moment command reply edits stands t is follows =
      let after = index_after area opening history index user moment command edits stands t is follows in
      let entry : Entry = Called node call user moment command (Replied reply) in
      after.2 ∙ sym (ap (λ (s : Standing). index_of opening.rules (state_at s)) (standing_after_push opening.rules (first_state opening) history entry ∙ ap (λ (s : Standing). after_entry opening.rules s entry) after.1))

  -- the index after a call that the device stopped, which is that before it, and the one if its change stands
  pub index_stopped : (area : OpenArea D) (opening : Opening) (history : List Entry) (index : AreaIndex) (node call : ℕ) (user : User) (moment : ℕ) (command : Command) (faults : ℕ)
      → StandsSettled shown area opening history → Tells opening → index ≡ index_of opening.rules (state_at (leads_to opening history))
      → index ≡ index_of opening.rules (state_at (leads_to opening (history ++ Called node call user moment command (LeftInDoubt faults) ∷ [])))
  index_stopped area opening history index node call user moment command faults (state, stands) t is =
      let leads : leads_to opening history ≡ Settled state = sym (stands.leads t) in
      let entry : Entry = Called node call user moment command (LeftInDoubt faults) in
      is ∙ ap (λ (s : Standing). index_of opening.rules (state_at s)) leads
      ∙ sym (ap (λ (s : Standing). index_of opening.rules (state_at s)) (standing_after_push opening.rules (first_state opening) history entry ∙ ap (λ (s : Standing). after_entry opening.rules s entry) leads))

  pub doubted_stopped : (area new : OpenArea D) (opening : Opening) (history : List Entry) (index : AreaIndex) (node call : ℕ) (user : User) (moment : ℕ) (command : Command) (faults : ℕ) (edits : List OpEdit)
      → StandsSettled shown area opening history → (Tells opening → index ≡ index_of opening.rules (state_at (leads_to opening history))) → (HasChange shown new → FollowsCommand shown area user moment command edits)
      → IsDoubted shown new opening (history ++ Called node call user moment command (LeftInDoubt faults) ∷ []) index edits
  doubted_stopped area new opening history index node call user moment command faults edits stands value follows = λ t before after between change.
      let then = index_after area opening history index user moment command edits stands t (value t) (follows change) in
      let entry : Entry = Called node call user moment command (LeftInDoubt faults) in
      let leads = standing_after_push opening.rules (first_state opening) history entry ∙ ap (λ (s : Standing). after_entry opening.rules s entry) then.1 in
      let some : change_of (step opening.rules then.0 user moment command) ≡ Some after = ap after_of (sym leads ∙ between) in
      then.2 ∙ ap (index_of opening.rules) (change_is (step opening.rules then.0 user moment command) after some)

  -- where the area stands settled, no change is in doubt
  pub doubted_settled : (area new : OpenArea D) (opening : Opening) (history : List Entry) (index : AreaIndex) (edits : List OpEdit) → StandsSettled shown area opening history → IsDoubted shown new opening history index edits
  doubted_settled area new opening history index edits (state, stands) = λ t before after between change. settled_or_not state before (Some after) (stands.leads t ∙ between)

  -- a call that was not begun leaves where the history leads, and what is in doubt
  not_begun_leads : (opening : Opening) (history : List Entry) (node call : ℕ) (user : User) (moment : ℕ) (command : Command) (faults : ℕ) (before : AreaState) (after : Option AreaState)
      → leads_to opening history ≡ InDoubt before after → leads_to opening (history ++ Called node call user moment command (NotBegun faults) ∷ []) ≡ leads_to opening history
  not_begun_leads opening history node call user moment command faults before after is =
      let entry : Entry = Called node call user moment command (NotBegun faults) in
      standing_after_push opening.rules (first_state opening) history entry ∙ ap (λ (s : Standing). after_entry opening.rules s entry) is ∙ sym is

  pub index_not_begun : (area : OpenArea D) (opening : Opening) (history : List Entry) (index : AreaIndex) (node call : ℕ) (user : User) (moment : ℕ) (command : Command) (faults : ℕ)
      → StandsInDoubt shown area opening history → Tells opening → index ≡ index_of opening.rules (state_at (leads_to opening history))
      → index ≡ index_of opening.rules (state_at (leads_to opening (history ++ Called node call user moment command (NotBegun faults) ∷ [])))
  index_not_begun area opening history index node call user moment command faults (before, after, stands) t is =
      is ∙ sym (ap (λ (s : Standing). index_of opening.rules (state_at s)) (not_begun_leads opening history node call user moment command faults before after (sym (stands.leads t))))

  -- a change that is in doubt was so before the reopening that failed
  still_change : (old new : OpenArea D) (texts : List ℕ) (coming : Option Coming) → IsDoubtful shown old texts coming → ((texts : List ℕ) (coming : Option Coming) → IsDoubtful shown old texts coming → IsDoubtful shown new texts coming)
      → HasChange shown new → HasChange shown old
  still_change old new texts None was still change = absurd (unchanged_no_change new texts (still texts None was) change)
  still_change old new texts (Some coming) was still change = (texts, coming, was)

  pub doubted_not_begun : (old new : OpenArea D) (opening : Opening) (history : List Entry) (index : AreaIndex) (node call : ℕ) (user : User) (moment : ℕ) (command : Command) (faults : ℕ) (edits : List OpEdit)
      → StandsInDoubt shown old opening history → ((texts : List ℕ) (coming : Option Coming) → IsDoubtful shown old texts coming → IsDoubtful shown new texts coming)
      → IsDoubted shown old opening history index edits → IsDoubted shown new opening (history ++ Called node call user moment command (NotBegun faults) ∷ []) index edits
  doubted_not_begun old new opening history index node call user moment command faults edits (before, after, stands) still doubted = λ t before' after' between change.
      let at = stands.at in
      doubted t before' after' (sym (not_begun_leads opening history node call user moment command faults before after (sym (stands.leads t))) ∙ between) (still_change old new at.0 at.1 at.2 still change)

  -- the index once a doubt has ended: with the change that was in doubt where that stands
  reopened_by : (opening : Opening) (history : List Entry) (index : AreaIndex) (edits : List OpEdit) (old new : OpenArea D) (before : AreaState) (after : Option AreaState) (stands : Bool) (texts : List ℕ) (coming : Option Coming)
      → leads_to opening history ≡ InDoubt before after → Tells opening → IsDoubtful shown old texts coming → StandsWithin (doubt_between texts (loaded_of old) coming) (InDoubt before after)
      → SettlesAt shown stands (loaded_of old) texts coming new → index ≡ index_of opening.rules (state_at (leads_to opening history)) → IsDoubted shown old opening history index edits
      → cond stands (absorbed index edits) index ≡ index_of opening.rules (state_at (after_entry opening.rules (InDoubt before after) (Reopened stands)))
  reopened_by opening history index edits old new before after false texts coming leads t was within settles is doubted =
      is ∙ ap (λ (s : Standing). index_of opening.rules (state_at s)) leads
  reopened_by opening history index edits old new before after true texts None leads t was within settles is doubted = absurd settles
  reopened_by opening history index edits old new before after true texts (Some coming) leads t was within settles is doubted =
      let there : after ≡ Some (state_to coming) = within.1 in
      doubted t before (state_to coming) (leads ∙ ap (InDoubt before) there) (texts, coming, was)
      ∙ sym (ap (λ (a : Option AreaState). index_of opening.rules (state_at (after_entry opening.rules (InDoubt before a) (Reopened true)))) there)

  pub index_reopened : (old new : OpenArea D) (opening : Opening) (history : List Entry) (index : AreaIndex) (edits : List OpEdit) (stands : Bool) → StandsInDoubt shown old opening history
      → ((texts : List ℕ) (coming : Option Coming) → IsDoubtful shown old texts coming → SettlesAt shown stands (loaded_of old) texts coming new)
      → Tells opening → index ≡ index_of opening.rules (state_at (leads_to opening history)) → IsDoubted shown old opening history index edits
      → cond stands (absorbed index edits) index ≡ index_of opening.rules (state_at (leads_to opening (history ++ Reopened stands ∷ [])))
  index_reopened old new opening history index edits stands (before, after, was) settled t is doubted =
      let at = was.at in
      let leads : leads_to opening history ≡ InDoubt before after = sym (was.leads t) in
      reopened_by opening history index edits old new before after stands at.0 at.1 leads t at.2 at.3 (settled at.0 at.1 at.2) is doubted
      ∙ sym (ap (λ (s : Standing). index_of opening.rules (state_at s)) (standing_after_push opening.rules (first_state opening) history (Reopened stands) ∙ ap (λ (s : Standing). after_entry opening.rules s (Reopened stands)) leads))
