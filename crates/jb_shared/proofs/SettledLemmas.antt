-- All that is settled of a history: it begins the history, goes on as the history does, and is its longest settled beginning.
use Rattle.std.proofs.Common.{◌≡◌, Bool, true, false, cond, List, [], ◌∷◌, ◌++◌, Some, None, refl, sym, ◌∙◌, ap, subst, append_assoc}
use Rattle.std.specs.Prelude.{not}
use Rattle.std.proofs.lemmas.List.{append-nil}
use mathlib.Core.List.{IsPrefix}
use Rattle.jb_base.specs.declared.area.AreaRules.{AreaRules}
use Rattle.jb_model.specs.History.{AllowsEach, settled_prefix, standing_after}
use Rattle.jb_model.specs.Standing.{Standing, Settled, InDoubt, Allows, after_entry, is_settled}
use Rattle.jb_state.specs.State.{AreaState}
use Rattle.jb_model.specs.declared.entry.Entry.{Entry}
use Rattle.jb_model.specs.declared.entry.Entry.TheVariants.{Called, Reopened}
use Rattle.jb_model.specs.declared.entry.Outcome.TheVariants.{Replied, InDoubt as LeftInDoubt, NotBegun}
use Rattle.jb_model.proofs.HistoryLaws.{standing_after_push}
use Rattle.jb_model.proofs.SettledLaws.{settled_prefix_push, settles}
use Rattle.jb_turn.specs.Rows.{Begins}
use Rattle.jb_shared.specs.Histories.{IsHistory, Tells, first_state, is_stopped, settled_of, settled_with}
use Rattle.jb_shared.specs.declared.opening.Opening.{Opening}

-- what begins a beginning begins the whole
pub begins_on : {A : Type 0} (xs ys zs : List A) → Begins xs ys → Begins ys zs → Begins xs zs
begins_on xs ys zs (more, is) (rest, are) = (more ++ rest, are ∙ ap (λ l. l ++ rest) is ∙ append_assoc xs more rest)

-- a list begins itself
pub begins_itself : {A : Type 0} (xs : List A) → Begins xs xs
begins_itself xs = ([], sym (append-nil xs))

-- a beginning of a published list, in the words of the turn
pub begins_of : {A : Type 0} (xs ys : List A) → IsPrefix xs ys → Begins xs ys
begins_of xs ys (rest, is) = (rest, sym is)

-- and the other way round
pub prefix_of : {A : Type 0} (xs ys : List A) → Begins xs ys → IsPrefix xs ys
prefix_of xs ys (rest, is) = (rest, sym is)

-- an entry alone, by whether it is stopped
alone : (b : Bool) (entry : Entry) (rest : List Entry) → Begins (cond b [] (entry ∷ [])) (entry ∷ rest)
alone true entry rest = (entry ∷ rest, refl)
alone false entry rest = (rest, refl)

-- an entry before what begins the rest
before_rest : (entry : Entry) (settled rest : List Entry) → Begins settled rest → Begins (settled_with entry settled) (entry ∷ rest)
before_rest entry [] rest begins = alone (is_stopped entry) entry rest
before_rest entry (next ∷ more) rest (behind, is) = (behind, ap (λ l. entry ∷ l) is)

-- all that is settled begins the history
pub settled_begins_history : (history : List Entry) → Begins (settled_of history) history
settled_begins_history [] = ([], refl)
settled_begins_history (entry ∷ rest) = before_rest entry (settled_of rest) rest (settled_begins_history rest)

-- before a last entry all are kept
before_last : (entry : Entry) (history : List Entry) (last : Entry) → settled_with entry (history ++ last ∷ []) ≡ entry ∷ (history ++ last ∷ [])
before_last entry [] last = refl
before_last entry (next ∷ rest) last = refl

-- by whether the last entry is stopped
push_by : (b : Bool) (entry : Entry) (history : List Entry) (last : Entry)
    → settled_with entry (cond b (settled_of history) (history ++ last ∷ [])) ≡ cond b (settled_of (entry ∷ history)) ((entry ∷ history) ++ last ∷ [])
push_by true entry history last = refl
push_by false entry history last = before_last entry history last

-- with one entry more nothing more is settled where it is stopped, and else all is
pub settled_push : (history : List Entry) (last : Entry) → settled_of (history ++ last ∷ []) ≡ cond (is_stopped last) (settled_of history) (history ++ last ∷ [])
settled_push [] last = refl
settled_push (entry ∷ history) last = ap (settled_with entry) (settled_push history last) ∙ push_by (is_stopped last) entry history last

-- one step on
step_by : (b : Bool) (settled history : List Entry) (last : Entry) → Begins settled history → Begins settled (cond b settled (history ++ last ∷ []))
step_by true settled history last begins = begins_itself settled
step_by false settled history last begins = begins_on settled history (history ++ last ∷ []) begins (last ∷ [], refl)

settled_one : (history : List Entry) (last : Entry) → Begins (settled_of history) (settled_of (history ++ last ∷ []))
settled_one history last =
    subst (λ (l : List Entry). Begins (settled_of history) l) (sym (settled_push history last))
    (step_by (is_stopped last) (settled_of history) history last (settled_begins_history history))

settled_more : (history rest : List Entry) → Begins (settled_of history) (settled_of (history ++ rest))
settled_more history [] = subst (λ (l : List Entry). Begins (settled_of history) (settled_of l)) (sym (append-nil history)) (begins_itself (settled_of history))
settled_more history (entry ∷ rest) =
    subst (λ (l : List Entry). Begins (settled_of history) (settled_of l)) (append_assoc history (entry ∷ []) rest)
    (begins_on (settled_of history) (settled_of (history ++ entry ∷ [])) (settled_of ((history ++ entry ∷ []) ++ rest)) (settled_one history entry) (settled_more (history ++ entry ∷ []) rest))

-- what is settled of a beginning begins what is settled of the whole
pub settled_begins : (history whole : List Entry) → Begins history whole → Begins (settled_of history) (settled_of whole)
settled_begins history whole (rest, is) = subst (λ (l : List Entry). Begins (settled_of history) (settled_of l)) (sym is) (settled_more history rest)

-- an entry that may come settles the area just where it is no stopped call
allowed_settles : (rules : AreaRules) (standing : Standing) (entry : Entry) → Allows rules standing entry → is_settled (after_entry rules standing entry) ≡ not (is_stopped entry)
allowed_settles rules (Settled state) (Called node call user moment command (Replied reply)) may = refl
allowed_settles rules (Settled state) (Called node call user moment command (LeftInDoubt faults)) may = refl
allowed_settles rules (Settled state) (Called node call user moment command (NotBegun faults)) may = absurd may
allowed_settles rules (Settled state) (Reopened stands) may = absurd may
allowed_settles rules (InDoubt before after) (Called node call user moment command (Replied reply)) may = absurd may
allowed_settles rules (InDoubt before after) (Called node call user moment command (LeftInDoubt faults)) may = absurd may
allowed_settles rules (InDoubt before after) (Called node call user moment command (NotBegun faults)) may = refl
allowed_settles rules (InDoubt before after) (Reopened false) may = refl
allowed_settles rules (InDoubt before (Some after)) (Reopened true) may = refl
allowed_settles rules (InDoubt before None) (Reopened true) may = absurd may

-- the other way round
turned : {A : Type 0} (b : Bool) (x y : A) → cond b x y ≡ cond (not b) y x
turned true x y = refl
turned false x y = refl

-- as long as each entry may come
longest_on : (rules : AreaRules) (first : AreaState) (done rest : List Entry) → settled_of done ≡ settled_prefix rules first done → AllowsEach rules (standing_after rules first done) rest
    → settled_of (done ++ rest) ≡ settled_prefix rules first (done ++ rest)
longest_on rules first done [] here may = subst (λ (l : List Entry). settled_of l ≡ settled_prefix rules first l) (sym (append-nil done)) here
longest_on rules first done (entry ∷ rest) here may =
    let after = standing_after_push rules first done entry in
    let settles_is : settles rules first (done ++ entry ∷ []) ≡ not (is_stopped entry) = ap is_settled after ∙ allowed_settles rules (standing_after rules first done) entry may.0 in
    let next : settled_of (done ++ entry ∷ []) ≡ settled_prefix rules first (done ++ entry ∷ [])
    = settled_push done entry ∙ turned (is_stopped entry) (settled_of done) (done ++ entry ∷ [])
    ∙ ap (λ (b : Bool). cond b (done ++ entry ∷ []) (settled_of done)) (sym settles_is)
    ∙ ap (λ (l : List Entry). cond (settles rules first (done ++ entry ∷ [])) (done ++ entry ∷ []) l) here
    ∙ sym (settled_prefix_push rules first done entry) in
    subst (λ (l : List Entry). settled_of l ≡ settled_prefix rules first l) (append_assoc done (entry ∷ []) rest)
    (longest_on rules first (done ++ entry ∷ []) rest next (subst (λ (s : Standing). AllowsEach rules s rest) (sym after) may.1))

-- of a legal history all that is settled is the longest settled beginning
pub settled_longest : (opening : Opening) (history : List Entry) → IsHistory opening history → Tells opening → settled_of history ≡ settled_prefix opening.rules (first_state opening) history
settled_longest opening history right t = longest_on opening.rules (first_state opening) [] history refl (right.allowed t)
