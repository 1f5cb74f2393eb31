-- What looks see, and the area that lies beside it, with one entry more.
use Rattle.std.proofs.Common.{◌≡◌, ℕ, ◌+◌, ◌≤◌, Bool, true, false, cond, List, [], ◌∷◌, ◌++◌, length, Result, Ok, Err, Option, None, Some, refl, sym, ◌∙◌, ap, subst, arith, length-append}
use mathlib.Core.List.{IsPrefix}
use Rattle.std.specs.Prelude.{if◌then◌else◌}
use Rattle.jb_area.specs.Area.{HasDoubt, IsDoubtful, IsResting, SettlesAt, device_of, loaded_of, packs_of, packs_to, rules_of}
use Rattle.jb_area.specs.Calls.{HasRest, MeetsCall}
use Rattle.jb_area.specs.declared.area.OpenArea.{OpenArea}
use Rattle.jb_bytes.specs.Fault.{Rose}
use Rattle.jb_base.specs.declared.user.User.{User}
use Rattle.jb_decide.specs.Coming.{Coming}
use Rattle.jb_decide.specs.declared.error.AreaError.{AreaError}
use Rattle.jb_decide.specs.declared.error.AreaError.TheVariants as failing
use Rattle.jb_disk.specs.Device.{Device, TellsAlike}
use Rattle.jb_disk.specs.Files.{Files}
use Rattle.jb_disk.proofs.FileLemmas.{leaves_map}
use Rattle.jb_index.specs.Edit.{absorbed}
use Rattle.jb_index.specs.Index.{AreaIndex, index_of}
use Rattle.jb_model.specs.History.{calls_of}
use Rattle.jb_model.specs.Standing.{Settled, is_settled}
use Rattle.jb_model.specs.declared.command.Command.{Command}
use Rattle.jb_model.specs.declared.entry.Entry.{Entry}
use Rattle.jb_model.specs.declared.entry.Entry.TheVariants.{Called, Reopened}
use Rattle.jb_model.specs.declared.entry.Outcome.TheVariants.{Replied, InDoubt as LeftInDoubt, NotBegun}
use Rattle.jb_model.specs.declared.reply.Reply.{Reply}
use Rattle.jb_publish.specs.Marks.{ValueStandsFrom as ShowsFrom, opening_at}
use Rattle.jb_publish.specs.Publications.{publication_of}
use Rattle.jb_publish.specs.declared.known.PairMark.{PairMark}
use Rattle.jb_turn.specs.Rows.{Begins, StandsFrom}
use Rattle.jb_shared.specs.Calls.{call_of}
use Rattle.jb_shared.specs.Histories.{Tells, is_stopped, leads_to, settled_of, state_at}
use Rattle.jb_shared.specs.InTurn.{Knows, LeavesInTurn, SeatRow}
use Rattle.jb_shared.specs.Keeping.{FollowsCommand, HasChange, IsDoubted, IsKept, IsKeptInDoubt, IsKeptSettled, IsPublished, LeavesAsIs}
use Rattle.jb_shared.specs.Laws.{ShownSurvivesStops}
use Rattle.jb_shared.specs.Showing.{CanShow, HasShown, IsFirm, published_with, value_with}
use Rattle.jb_shared.specs.Shows.{IsShownAs}
use Rattle.jb_shared.specs.Standing.{LeavesBetween, StandsSettled}
use Rattle.jb_shared.specs.Stops.{OpensBehind, OpensBetween, OpensAtLast, ended}
use Rattle.jb_shared.specs.declared.change.IndexChange.{IndexChange}
use Rattle.jb_shared.specs.declared.opening.Opening.{Opening}
use Rattle.jb_shared.specs.declared.shown.ShownArea.{ShownArea}
use Rattle.jb_shared.proofs.IndexLemmas.{doubted_not_begun, doubted_settled, doubted_stopped, index_not_begun, index_reopened, index_replied, index_stopped}
use Rattle.jb_shared.proofs.KnowingLemmas.{knows_still, mark_known, next_number}
use Rattle.jb_shared.proofs.SettledLemmas.{begins_itself, begins_on, prefix_of, settled_begins_history, settled_push}
use Rattle.jb_shared.proofs.StopLemmas.{between_more, only_still, only_then, only_weaken, opens_same}
use Rattle.jb_shared.proofs.StandingLemmas.{LeavesDoubt, ReadsDoubt, doubtful_doubts, settled_rests, stands_in_doubt, stands_not_begun, stands_reopened, stands_replied, stands_settled, stands_still, stands_stopped}

-- an entry that is no stopped call settles all
pub all_settled : (history : List Entry) (entry : Entry) → is_stopped entry ≡ false → settled_of (history ++ entry ∷ []) ≡ history ++ entry ∷ []
all_settled history entry is = settled_push history entry ∙ ap (λ (b : Bool). cond b (settled_of history) (history ++ entry ∷ [])) is

-- a stopped call settles nothing
pub none_settled : (history : List Entry) (entry : Entry) → is_stopped entry ≡ true → settled_of (history ++ entry ∷ []) ≡ settled_of history
none_settled history entry is = settled_push history entry ∙ ap (λ (b : Bool). cond b (settled_of history) (history ++ entry ∷ [])) is

-- what was settled begins the history with one entry more
pub settled_before : (history : List Entry) (entry : Entry) → IsPrefix (settled_of history) (history ++ entry ∷ [])
settled_before history entry = prefix_of (settled_of history) (history ++ entry ∷ []) (begins_on (settled_of history) history (history ++ entry ∷ []) (settled_begins_history history) (entry ∷ [], refl))

-- a history begins what it is once its doubt has ended
ended_begins : (history : List Entry) (end : Option Bool) → Begins history (ended history end)
ended_begins history None = begins_itself history
ended_begins history (Some stands) = (Reopened stands ∷ [], refl)

-- one opening
same_first : (one other : Opening) → Some one ≡ Some other → one ≡ other
same_first one other is = cc

module _ {D : Type 0} (shown : D → Device) where
  -- what is shown with a last entry that settles all
  pub shows_settled : (new : OpenArea D) (opening : Opening) (history : List Entry) (entry : Entry) (index : AreaIndex) → StandsSettled shown new opening (history ++ entry ∷ []) → is_stopped entry ≡ false
      → (Tells opening → index ≡ index_of opening.rules (state_at (leads_to opening (history ++ entry ∷ [])))) → IsShownAs index opening (history ++ entry ∷ [])
  shows_settled new opening history entry index (state, stands) last is = record {
    history = stands.history;
    whole = all_settled history entry last;
    settled = λ t. ap is_settled (sym (stands.leads t));
    after = is;
  }

  -- what may be shown, whatever the mark is
  pub can_show : (P : ShownArea D → PairMark Opening → List Entry → Type 0) (known new : SeatRow) (old now : ShownArea D) (done : Bool) (entry : Entry) (value : AreaIndex) → StandsFrom P known.opening old known.front
      → now.shower ≡ old.shower → value_with now done ≡ value → new.front ≡ known.front ++ entry ∷ []
      → ((first : PairMark Opening) → P old first known.front → IsPublished shown old first known.front × IsShownAs value first.opening (known.front ++ entry ∷ []))
      → CanShow now done new.front
  can_show P known new old now done entry value stands same is fronts from =
      let first = mark_known P known.opening old known.front stands in
      let here = from first.0 first.2 in
      let mark : (publication_of now.shower).mark ≡ Some first.0 = ap (λ s. (publication_of s).mark) same ∙ here.0.pair in
      let list : (publication_of now.shower).list ≡ settled_of known.front = ap (λ s. (publication_of s).list) same ∙ here.0.list in
      subst (CanShow now done) (sym fronts) record {
        longer = subst (λ (l : List Entry). IsPrefix l (known.front ++ entry ∷ [])) (sym list) (settled_before known.front entry);
        queued = ap (λ s. (publication_of s).queued) same ∙ here.0.queued;
        stands =
            subst (λ (m : Option (PairMark Opening)). ShowsFrom IsShownAs (opening_at m) (value_with now done) (known.front ++ entry ∷ [])) (sym mark)
            (subst (λ (v : AreaIndex). IsShownAs v first.0.opening (known.front ++ entry ∷ [])) (sym is) here.1);
      }

  -- and no crash takes it back
  pub is_firm : (P : ShownArea D → PairMark Opening → List Entry → Type 0) (known new : SeatRow) (old now : ShownArea D) (entry : Entry) → StandsFrom P known.opening old known.front → now.shower ≡ old.shower
      → new.front ≡ known.front ++ entry ∷ []
      → ((first : PairMark Opening) → P old first known.front → IsPublished shown old first known.front × StandsSettled shown now.area first.opening (known.front ++ entry ∷ []))
      → IsFirm shown now new.front
  is_firm P known new old now entry stands same fronts from = λ opening there.
      let first = mark_known P known.opening old known.front stands in
      let here = from first.0 first.2 in
      let is : Some first.0.opening ≡ Some opening = sym (ap (λ s. opening_at (publication_of s).mark) same ∙ ap opening_at here.0.pair) ∙ there in
      subst (λ (o : Opening). StandsSettled shown now.area o new.front) (same_first first.0.opening opening is) (subst (StandsSettled shown now.area first.0.opening) (sym fronts) here.1)

  -- and what then is
  pub shown_as : (old now new : ShownArea D) (done : Bool) (entries list : List Entry) (value : AreaIndex) → HasShown now new done entries → now.shower ≡ old.shower → value_with now done ≡ value → entries ≡ list
      → publication_of new.shower ≡ published_with (publication_of old.shower) value list
  shown_as old now new done entries list value has same is fronts =
      has.published ∙ ap (λ s. published_with (publication_of s) (value_with now done) entries) same ∙ ap (λ (v : AreaIndex). published_with (publication_of old.shower) v entries) is
      ∙ ap (published_with (publication_of old.shower) value) fronts

  -- once that is shown
  pub published_shown : (old new : ShownArea D) (mark : PairMark Opening) (history : List Entry) (entry : Entry) (index : AreaIndex) → IsPublished shown old mark history → StandsSettled shown new.area mark.opening (history ++ entry ∷ [])
      → is_stopped entry ≡ false → (Tells mark.opening → index ≡ index_of mark.opening.rules (state_at (leads_to mark.opening (history ++ entry ∷ []))))
      → publication_of new.shower ≡ published_with (publication_of old.shower) index (history ++ entry ∷ []) → IsPublished shown new mark (history ++ entry ∷ [])
  published_shown old new mark history entry index was stands last is same = record {
    pair = ap (λ p. p.mark) same ∙ was.pair;
    list = ap (λ p. p.list) same ∙ sym (all_settled history entry last);
    queued = ap (λ p. p.queued) same;
    value = λ t. ap (λ p. p.value) same ∙ is t;
    doubted = doubted_settled shown new.area new.area mark.opening (history ++ entry ∷ []) (publication_of new.shower).value new.doubted.op stands;
  }

  -- where a call was stopped, nothing is shown
  pub published_stopped : (old new : ShownArea D) (mark : PairMark Opening) (history : List Entry) (entry : Entry) → IsPublished shown old mark history → new.shower ≡ old.shower → is_stopped entry ≡ true
      → (Tells mark.opening → (publication_of old.shower).value ≡ index_of mark.opening.rules (state_at (leads_to mark.opening (history ++ entry ∷ []))))
      → IsDoubted shown new.area mark.opening (history ++ entry ∷ []) (publication_of old.shower).value new.doubted.op → IsPublished shown new mark (history ++ entry ∷ [])
  published_stopped old new mark history entry was same last is doubted = record {
    pair = ap (λ s. (publication_of s).mark) same ∙ was.pair;
    list = ap (λ s. (publication_of s).list) same ∙ was.list ∙ sym (none_settled history entry last);
    queued = ap (λ s. (publication_of s).queued) same ∙ was.queued;
    value = λ t. ap (λ s. (publication_of s).value) same ∙ is t;
    doubted = subst (λ (i : AreaIndex). IsDoubted shown new.area mark.opening (history ++ entry ∷ []) i new.doubted.op) (sym (ap (λ s. (publication_of s).value) same)) doubted;
  }

  -- where nothing is recorded, neither
  pub published_still : (old new : ShownArea D) (mark : PairMark Opening) (history : List Entry) → IsPublished shown old mark history → new.shower ≡ old.shower
      → IsDoubted shown new.area mark.opening history (publication_of old.shower).value new.doubted.op → IsPublished shown new mark history
  published_still old new mark history was same doubted = record {
    pair = ap (λ s. (publication_of s).mark) same ∙ was.pair;
    list = ap (λ s. (publication_of s).list) same ∙ was.list;
    queued = ap (λ s. (publication_of s).queued) same ∙ was.queued;
    value = λ t. ap (λ s. (publication_of s).value) same ∙ was.value t;
    doubted = subst (λ (i : AreaIndex). IsDoubted shown new.area mark.opening history i new.doubted.op) (sym (ap (λ s. (publication_of s).value) same)) doubted;
  }

  -- a doubt that has ended: what is to be shown
  pub shows_reopened : (old : ShownArea D) (area : OpenArea D) (mark : PairMark Opening) (history : List Entry) (stands : Bool) → IsKeptInDoubt shown old mark history
      → ((texts : List ℕ) (coming : Option Coming) → IsDoubtful shown old.area texts coming → SettlesAt shown stands (loaded_of old.area) texts coming area)
      → LeavesDoubt shown old.area area → rules_of area ≡ rules_of old.area → TellsAlike (device_of shown old.area) (device_of shown area) → (device_of shown area).faults ≡ (device_of shown old.area).faults
      → packs_of area ≡ (if stands then packs_to old.area else packs_of old.area)
      → ((publication_of old.shower).mark ≡ Some mark) × IsShownAs (value_with old stands) mark.opening (history ++ Reopened stands ∷ [])
  shows_reopened old area mark history stands kept settled crash rules alike quiet counted = (
    kept.index.pair,
    shows_settled area mark.opening history (Reopened stands) (value_with old stands) (stands_reopened shown old.area area mark.opening history stands kept.area settled crash rules alike quiet counted).0 refl
        (λ t. index_reopened shown old.area area mark.opening history (publication_of old.shower).value old.doubted.op stands kept.area settled t (kept.index.value t) kept.index.doubted),
  )

  -- and once that is shown
  pub kept_reopened : (old new : ShownArea D) (area : OpenArea D) (mark : PairMark Opening) (history : List Entry) (stands : Bool) → IsKeptInDoubt shown old mark history
      → ((texts : List ℕ) (coming : Option Coming) → IsDoubtful shown old.area texts coming → SettlesAt shown stands (loaded_of old.area) texts coming area)
      → LeavesDoubt shown old.area area → rules_of area ≡ rules_of old.area → TellsAlike (device_of shown old.area) (device_of shown area) → (device_of shown area).faults ≡ (device_of shown old.area).faults
      → packs_of area ≡ (if stands then packs_to old.area else packs_of old.area)
      → new.area ≡ area → publication_of new.shower ≡ published_with (publication_of old.shower) (value_with old stands) (history ++ Reopened stands ∷ [])
      → IsKeptSettled shown new mark (history ++ Reopened stands ∷ [])
  kept_reopened old new area mark history stands kept settled crash rules alike quiet counted same published =
      let ends : StandsSettled shown new.area mark.opening (history ++ Reopened stands ∷ [])
      = subst (λ (a : OpenArea D). StandsSettled shown a mark.opening (history ++ Reopened stands ∷ [])) (sym same) (stands_reopened shown old.area area mark.opening history stands kept.area settled crash rules alike quiet counted).0 in
      record {
        area = ends;
        index =
            published_shown old new mark history (Reopened stands) (value_with old stands) kept.index ends refl
            (λ t. index_reopened shown old.area area mark.opening history (publication_of old.shower).value old.doubted.op stands kept.area settled t (kept.index.value t) kept.index.doubted) published;
      }

  -- a doubt that could not be ended
  pub kept_not_begun : (old new : ShownArea D) (area : OpenArea D) (mark : PairMark Opening) (history : List Entry) (node call : ℕ) (user : User) (moment : ℕ) (command : Command) → IsKeptInDoubt shown old mark history
      → ((texts : List ℕ) (coming : Option Coming) → IsDoubtful shown old.area texts coming → IsDoubtful shown area texts coming) → loaded_of area ≡ loaded_of old.area → LeavesDoubt shown old.area area → ReadsDoubt shown old.area area
      → rules_of area ≡ rules_of old.area → TellsAlike (device_of shown old.area) (device_of shown area) → Rose (device_of shown old.area).faults (device_of shown area).faults
      → (packs_of area ≡ packs_of old.area) × (packs_to area ≡ packs_to old.area) → call ≡ length (calls_of node history) + 1
      → new ≡ record { area = area; shower = old.shower; doubted = old.doubted }
      → IsKept shown new mark (history ++ Called node call user moment command (NotBegun (device_of shown area).faults) ∷ [])
  kept_not_begun old new area mark history node call user moment command kept still loaded crash reads rules alike rose counts next same =
      let entry : Entry = Called node call user moment command (NotBegun (device_of shown area).faults) in
      subst (λ (s : ShownArea D). IsKept shown s mark (history ++ entry ∷ [])) (sym same) record {
        area = (stands_not_begun shown old.area area mark.opening history node call user moment command kept.area still loaded crash reads rules alike rose counts next).0;
        index =
            published_stopped old (record { area = area; shower = old.shower; doubted = old.doubted }) mark history entry kept.index refl refl
            (λ t. index_not_begun shown old.area mark.opening history (publication_of old.shower).value node call user moment command (device_of shown area).faults kept.area t (kept.index.value t))
            (doubted_not_begun shown old.area area mark.opening history (publication_of old.shower).value node call user moment command (device_of shown area).faults old.doubted.op kept.area still kept.index.doubted);
      }

  -- a call that was answered: what is to be shown
  pub shows_replied : (old : ShownArea D) (area : OpenArea D) (change : IndexChange) (mark : PairMark Opening) (history : List Entry) (node call : ℕ) (user : User) (moment : ℕ) (command : Command) (reply : Reply) → IsKeptSettled shown old mark history
      → MeetsCall shown old.area area user moment command (Ok reply) → FollowsCommand shown old.area user moment command change.op → call ≡ length (calls_of node history) + 1
      → ((publication_of old.shower).mark ≡ Some mark) × IsShownAs (absorbed (publication_of old.shower).value change.op) mark.opening (history ++ Called node call user moment command (Replied reply) ∷ [])
  shows_replied old area change mark history node call user moment command reply kept meets follows next =
      let entry : Entry = Called node call user moment command (Replied reply) in (
        kept.index.pair,
        shows_settled area mark.opening history entry (absorbed (publication_of old.shower).value change.op) (stands_replied shown old.area area mark.opening history node call user moment command reply kept.area meets next).0 refl
            (λ t. index_replied shown old.area mark.opening history (publication_of old.shower).value node call user moment command reply change.op kept.area t (kept.index.value t) follows),
      )

  -- and once that is shown
  pub kept_replied : (old new : ShownArea D) (area : OpenArea D) (change : IndexChange) (mark : PairMark Opening) (history : List Entry) (node call : ℕ) (user : User) (moment : ℕ) (command : Command) (reply : Reply) → IsKeptSettled shown old mark history
      → MeetsCall shown old.area area user moment command (Ok reply) → FollowsCommand shown old.area user moment command change.op → call ≡ length (calls_of node history) + 1 → new.area ≡ area
      → publication_of new.shower ≡ published_with (publication_of old.shower) (absorbed (publication_of old.shower).value change.op) (history ++ Called node call user moment command (Replied reply) ∷ [])
      → IsKept shown new mark (history ++ Called node call user moment command (Replied reply) ∷ [])
  kept_replied old new area change mark history node call user moment command reply kept meets follows next same published =
      let entry : Entry = Called node call user moment command (Replied reply) in
      let ends : StandsSettled shown new.area mark.opening (history ++ entry ∷ [])
      = subst (λ (a : OpenArea D). StandsSettled shown a mark.opening (history ++ entry ∷ [])) (sym same) (stands_replied shown old.area area mark.opening history node call user moment command reply kept.area meets next).0 in
      record {
        area = (Settled ends.0, ends.1);
        index =
            published_shown old new mark history entry (absorbed (publication_of old.shower).value change.op) kept.index ends refl
            (λ t. index_replied shown old.area mark.opening history (publication_of old.shower).value node call user moment command reply change.op kept.area t (kept.index.value t) follows) published;
      }

  -- a call that the device stopped
  pub kept_stopped : (old new : ShownArea D) (area : OpenArea D) (change : IndexChange) (mark : PairMark Opening) (history : List Entry) (node call : ℕ) (user : User) (moment : ℕ) (command : Command) → IsKeptSettled shown old mark history
      → MeetsCall shown old.area area user moment command (Err failing.StoreFault) → (HasChange shown area → FollowsCommand shown old.area user moment command change.op) → call ≡ length (calls_of node history) + 1
      → new ≡ record { area = area; shower = old.shower; doubted = change }
      → IsKept shown new mark (history ++ Called node call user moment command (LeftInDoubt (device_of shown area).faults) ∷ [])
  kept_stopped old new area change mark history node call user moment command kept meets follows next same =
      let faults = (device_of shown area).faults in
      let entry : Entry = Called node call user moment command (LeftInDoubt faults) in
      subst (λ (s : ShownArea D). IsKept shown s mark (history ++ entry ∷ [])) (sym same) record {
        area = (stands_stopped shown old.area area mark.opening history node call user moment command kept.area meets next).0;
        index =
            published_stopped old (record { area = area; shower = old.shower; doubted = change }) mark history entry kept.index refl refl
            (λ t. index_stopped shown old.area mark.opening history (publication_of old.shower).value node call user moment command faults kept.area t (kept.index.value t))
            (doubted_stopped shown old.area area mark.opening history (publication_of old.shower).value node call user moment command faults change.op kept.area kept.index.value follows);
      }

  -- a call that wanted memory
  pub kept_wanting : (old new : ShownArea D) (area : OpenArea D) (change : IndexChange) (mark : PairMark Opening) (history : List Entry) (user : User) (moment : ℕ) (command : Command) → IsKeptSettled shown old mark history
      → MeetsCall shown old.area area user moment command (Err failing.OutOfMemory) → LeavesAsIs shown old.area area → new ≡ record { area = area; shower = old.shower; doubted = change } → IsKept shown new mark history
  kept_wanting old new area change mark history user moment command kept meets still same =
      subst (λ (s : ShownArea D). IsKept shown s mark history) (sym same) record {
        area = (stands_still shown old.area area mark.opening history user moment command kept.area meets still).0;
        index =
            published_still old (record { area = area; shower = old.shower; doubted = change }) mark history kept.index refl
            (doubted_settled shown old.area area mark.opening history (publication_of old.shower).value change.op kept.area);
      }

  -- from the mark that a seat knows the state stands for what it has seen
  here : (P : ShownArea D → PairMark Opening → List Entry → Type 0) (known : SeatRow) (state : ShownArea D) → Knows P state known → (first : PairMark Opening) → known.opening ≡ Some first → P state first known.front
  here P known state knows first is = subst (λ (m : Option (PairMark Opening)). StandsFrom P m state known.front) is knows.stands_for

  -- a call by its answer
  pub meets_as : (old new : OpenArea D) (user : User) (moment : ℕ) (command : Command) (result answer : Result Reply AreaError) → result ≡ answer → MeetsCall shown old new user moment command result → MeetsCall shown old new user moment command answer
  meets_as old new user moment command result answer is meets = subst (λ (r : Result Reply AreaError). MeetsCall shown old new user moment command r) is meets

  -- what a crash leaves in a turn that records an entry
  pub leaves_noted : (P : ShownArea D → PairMark Opening → List Entry → Type 0) (known known' : SeatRow) (old : ShownArea D) (area new : OpenArea D) (entry : Entry) → StandsFrom P known.opening old known.front
      → known'.front ≡ known.front ++ entry ∷ [] → new ≡ area
      → ((first : PairMark Opening) → P old first known.front → LeavesBetween shown old.area area first.opening known.front (known.front ++ entry ∷ [])) → LeavesInTurn shown old.area new known known'
  leaves_noted P known known' old area new entry stands fronts same leaves = λ first is.
      subst (LeavesBetween shown old.area new first.opening known.front) (sym fronts)
      (subst (λ (a : OpenArea D). LeavesBetween shown old.area a first.opening known.front (known.front ++ entry ∷ [])) (sym same) (leaves first (subst (λ (m : Option (PairMark Opening)). StandsFrom P m old known.front) is stands)))

  -- in one with a call at rest: it was answered
  pub leaves_replied : (known new : SeatRow) (old : ShownArea D) (area last : OpenArea D) (user : User) (moment : ℕ) (command : Command) (reply : Reply) → Knows (IsKeptSettled shown) old known
      → MeetsCall shown old.area area user moment command (Ok reply) → new.front ≡ known.front ++ call_of known.node known.mine user moment command (Replied reply) ∷ [] → last ≡ area → LeavesInTurn shown old.area last known new
  leaves_replied known new old area last user moment command reply knows meets fronts same =
      leaves_noted (IsKeptSettled shown) known new old area last (call_of known.node known.mine user moment command (Replied reply)) knows.stands_for fronts same
      (λ first was. (stands_replied shown old.area area first.opening known.front known.node (length known.mine + 1) user moment command reply was.area meets (next_number (IsKeptSettled shown) (IsKeptSettled shown) old known knows)).1)

  -- the device stopped it
  pub leaves_stopped : (known new : SeatRow) (old : ShownArea D) (area last : OpenArea D) (user : User) (moment : ℕ) (command : Command) → Knows (IsKeptSettled shown) old known
      → MeetsCall shown old.area area user moment command (Err failing.StoreFault) → new.front ≡ known.front ++ call_of known.node known.mine user moment command (LeftInDoubt (device_of shown area).faults) ∷ [] → last ≡ area
      → LeavesInTurn shown old.area last known new
  leaves_stopped known new old area last user moment command knows meets fronts same =
      leaves_noted (IsKeptSettled shown) known new old area last (call_of known.node known.mine user moment command (LeftInDoubt (device_of shown area).faults)) knows.stands_for fronts same
      (λ first was. (stands_stopped shown old.area area first.opening known.front known.node (length known.mine + 1) user moment command was.area meets (next_number (IsKeptSettled shown) (IsKeptSettled shown) old known knows)).1)

  -- or it wanted memory
  pub leaves_wanting : (known : SeatRow) (old : ShownArea D) (area : OpenArea D) (user : User) (moment : ℕ) (command : Command) → Knows (IsKeptSettled shown) old known
      → MeetsCall shown old.area area user moment command (Err failing.OutOfMemory) → LeavesAsIs shown old.area area → LeavesInTurn shown old.area area known known
  leaves_wanting known old area user moment command knows meets still = λ first is.
      (stands_still shown old.area area first.opening known.front user moment command (here (IsKeptSettled shown) known old knows first is).area meets still).1

  -- in one that does nothing
  pub leaves_idle : (known : SeatRow) (state : ShownArea D) → Knows (IsKept shown) state known → LeavesInTurn shown state.area state.area known known
  leaves_idle known state knows = λ first is t.
      let same = OpensBetween first.opening known.front known.front in
      only_still same (device_of shown state.area) (leaves_map (OpensAtLast first.opening known.front) same (device_of shown state.area).moments (opens_same first.opening known.front) ((here (IsKept shown) known state knows first is).area.1.opens t).left)

  -- and in one part of a turn behind another
  pub leaves_then : (known mid new : SeatRow) (first second third : OpenArea D) → mid.opening ≡ known.opening → Begins known.front mid.front → Begins mid.front new.front
      → LeavesInTurn shown first second known mid → LeavesInTurn shown second third mid new → LeavesInTurn shown first third known new
  leaves_then known mid new first second third mark less more before after = λ opening is t.
      let whole = OpensBetween opening.opening known.front new.front in
      only_then whole (device_of shown first) (device_of shown second) (device_of shown third)
      (only_weaken (OpensBetween opening.opening known.front mid.front) whole (device_of shown first) (device_of shown second)
      (between_more opening.opening known.front mid.front known.front new.front (begins_itself known.front) more) (before opening is t))
      (only_weaken (OpensBetween opening.opening mid.front new.front) whole (device_of shown second) (device_of shown third)
      (between_more opening.opening mid.front new.front known.front new.front less (begins_itself new.front)) (after opening (mark ∙ is) t))

  -- what opens to the area after a history opens behind what is settled of it
  opens_behind : (opening : Opening) (history : List Entry) (files : Files) → OpensAtLast opening history files → OpensBehind opening (settled_of history) history files
  opens_behind opening history files (end, opens) = record {
    end = end;
    begins = begins_on (settled_of history) history (ended history end) (settled_begins_history history) (ended_begins history end);
    opens = opens;
  }

  -- so no stop takes back what was shown
  pub survives : ShownSurvivesStops shown
  survives state mark history kept t =
      let list = (publication_of state.shower).list in
      let device = device_of shown state.area in
      let opens = kept.area.1.opens t in
      let behind : (files : Files) → OpensAtLast mark.opening history files → OpensBehind mark.opening list history files
      = λ files to. subst (λ (l : List Entry). OpensBehind mark.opening l history files) (sym kept.index.list) (opens_behind mark.opening history files to) in (
        kept.index.list,
        record {
          read = λ files there. behind files (opens.read files there);
          left = leaves_map (OpensAtLast mark.opening history) (OpensBehind mark.opening list history) device.moments behind opens.left;
        },
      )

  -- an area that is not in doubt is settled
  pub kept_settled : (state : ShownArea D) (mark : PairMark Opening) (history : List Entry) → IsKept shown state mark history → (HasDoubt shown state.area → ⊥) → IsKeptSettled shown state mark history
  kept_settled state mark history kept none = record { area = stands_settled shown state.area mark.opening history kept.area none; index = kept.index }

  -- an area that does not rest is in doubt
  pub kept_in_doubt : (state : ShownArea D) (mark : PairMark Opening) (history : List Entry) → IsKept shown state mark history → ((texts : List ℕ) → IsResting shown state.area texts → ⊥) → IsKeptInDoubt shown state mark history
  kept_in_doubt state mark history kept none = record { area = stands_in_doubt shown state.area mark.opening history kept.area none; index = kept.index }

  -- the same of a state that is out
  pub out_settled : (state : ShownArea D) (known : SeatRow) → Knows (IsKept shown) state known → (HasDoubt shown state.area → ⊥) → Knows (IsKeptSettled shown) state known
  out_settled state known knows none = knows_still (IsKept shown) (IsKeptSettled shown) state state known knows (λ first was. kept_settled state first known.front was none)

  pub out_in_doubt : (state : ShownArea D) (known : SeatRow) → Knows (IsKept shown) state known → ((texts : List ℕ) → IsResting shown state.area texts → ⊥) → Knows (IsKeptInDoubt shown) state known
  out_in_doubt state known knows none = knows_still (IsKept shown) (IsKeptInDoubt shown) state state known knows (λ first was. kept_in_doubt state first known.front was none)

  -- one that is out and settled has no call begun
  pub out_rests : (state : ShownArea D) (known : SeatRow) → Knows (IsKeptSettled shown) state known → HasRest shown state.area
  out_rests state known knows =
      let first = mark_known (IsKeptSettled shown) known.opening state known.front knows.stands_for in settled_rests shown state.area first.0.opening known.front first.2.area

  -- one that is out and in doubt has one that was stopped
  pub out_doubts : (state : ShownArea D) (known : SeatRow) → Knows (IsKeptInDoubt shown) state known → HasDoubt shown state.area
  out_doubts state known knows =
      let first = mark_known (IsKeptInDoubt shown) known.opening state known.front knows.stands_for in doubtful_doubts shown state.area first.0.opening known.front first.2.area

  -- what looks see is of the mark that the seat knows, and shows all that is settled of what it has seen
  pub fits : (mark : Option (PairMark Opening)) (state : ShownArea D) (history : List Entry) → StandsFrom (IsKept shown) mark state history → ((publication_of state.shower).mark ≡ mark) × ((publication_of state.shower).list ≡ settled_of history)
  fits mark state history stands = let first = mark_known (IsKept shown) mark state history stands in (first.2.index.pair ∙ sym first.1, first.2.index.list)

-- a beginning is no longer
pub begins_length : {A : Type 0} (xs ys : List A) → Begins xs ys → length xs ≤ length ys
begins_length xs ys (rest, is) = omega (arith, ap length is ∙ length-append xs rest)
