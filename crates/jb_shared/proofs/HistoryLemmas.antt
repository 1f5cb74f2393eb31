-- A history with one entry more: what stays legal, what its last count is, and which of its calls are a node's.
use Rattle.std.proofs.Common.{◌≡◌, ℕ, ◌≤◌, ◌==◌, Bool, true, false, cond, List, [], ◌∷◌, ◌++◌, Option, Some, None, refl, sym, ◌∙◌, ap, subst, arith}
use Rattle.std.specs.Prelude.{filter_map, is_some, IfSome}
use Rattle.std.specs.List.{cons_option}
use Rattle.std.proofs.lemmas.List.{append-nil}
use Rattle.std.proofs.lemmas.List.Elements.{filter_map-append}
use Rattle.jb_bytes.specs.Fault.{Rose}
use Rattle.jb_model.specs.History.{IsNextCall, Rises, calls_of, faults_of, last_faults, last_told}
use Rattle.jb_model.specs.Standing.{Allows, Settled}
use Rattle.jb_model.specs.declared.entry.Entry.{Entry}
use Rattle.jb_model.specs.declared.entry.Entry.TheVariants.{Called, Reopened}
use Rattle.jb_model.proofs.HistoryLaws.{allowed_push, numbered_push, rises_push}
use Rattle.jb_turn.specs.Rows.{calls, when}
use Rattle.jb_shared.specs.Histories.{IsHistory, Tells, first_state, leads_to, stopped_behind}
use Rattle.jb_shared.specs.Standing.{caller_of}
use Rattle.jb_shared.specs.declared.opening.Opening.{Opening}

-- the same, by whether the entry tells a count
rises_by : (before : ℕ) (told : List ℕ) (more : Option ℕ) → Rises before told → IfSome more (λ faults. Rose (last_told before told) faults) → Rises before (told ++ cons_option more [])
rises_by before told None risen next = subst (λ (l : List ℕ). Rises before l) (sym (append-nil told)) risen
rises_by before told (Some faults) risen next = rises_push before told faults risen next

-- the last count of a list with one more
pub last_push : (before : ℕ) (told : List ℕ) (faults : ℕ) → last_told before (told ++ faults ∷ []) ≡ faults
last_push before [] faults = refl
last_push before (first ∷ rest) faults = last_push first rest faults

-- an entry that tells no count leaves the last one
pub last_same : (before : ℕ) (history : List Entry) (entry : Entry) → faults_of entry ≡ None → last_faults before (history ++ entry ∷ []) ≡ last_faults before history
last_same before history entry none =
    ap (last_told before) (filter_map-append faults_of history (entry ∷ [])) ∙ ap (λ (more : Option ℕ). last_told before (filter_map faults_of history ++ cons_option more [])) none
    ∙ ap (last_told before) (append-nil (filter_map faults_of history))

-- an entry that tells a count makes it the last one
pub last_new : (before : ℕ) (history : List Entry) (entry : Entry) (faults : ℕ) → faults_of entry ≡ Some faults → last_faults before (history ++ entry ∷ []) ≡ faults
last_new before history entry faults some =
    ap (last_told before) (filter_map-append faults_of history (entry ∷ [])) ∙ ap (λ (more : Option ℕ). last_told before (filter_map faults_of history ++ cons_option more [])) some
    ∙ last_push before (filter_map faults_of history) faults

-- a count that rose from a later one rose from an earlier one
pub rose_from : (before mid now : ℕ) → before ≤ mid → Rose mid now → Rose before now
rose_from before mid now later rose = omega (arith, later, rose)

-- whether the last call was stopped is said by the last entry
pub stopped_push : (before : Bool) (history : List Entry) (entry : Entry) → stopped_behind before (history ++ entry ∷ []) ≡ is_some (faults_of entry)
stopped_push before [] entry = refl
stopped_push before (first ∷ rest) entry = stopped_push (is_some (faults_of first)) rest entry

-- a history goes on by an entry that may come
pub history_push : (opening : Opening) (history : List Entry) (entry : Entry) → IsHistory opening history → IsNextCall history entry
    → IfSome (faults_of entry) (λ told. Rose (last_faults opening.faults history) told) → (Tells opening → Allows opening.rules (leads_to opening history) entry)
    → IsHistory opening (history ++ entry ∷ [])
history_push opening history entry right next risen allow = record {
  numbered = numbered_push history entry right.numbered next;
  risen =
      subst (λ (told : List ℕ). Rises opening.faults told) (sym (filter_map-append faults_of history (entry ∷ [])))
      (rises_by opening.faults (filter_map faults_of history) (faults_of entry) right.risen risen);
  allowed = λ t. allowed_push opening.rules (Settled (first_state opening)) history entry (right.allowed t) (allow t);
}

-- by whether the first one is the node's
calls_by : (b : Bool) (entry : Entry) (xs ys : List Entry) → xs ≡ ys → when b entry ++ xs ≡ cond b (entry ∷ ys) ys
calls_by true entry xs ys same = ap (λ l. entry ∷ l) same
calls_by false entry xs ys same = same

-- the calls of a node, as the turn sees them, are those of the history
pub calls_are : (node : ℕ) (history : List Entry) → calls caller_of node history ≡ calls_of node history
calls_are node [] = refl
calls_are node (Called caller call user moment command outcome ∷ history) =
    calls_by (caller == node) (Called caller call user moment command outcome) (calls caller_of node history) (calls_of node history) (calls_are node history)
calls_are node (Reopened stands ∷ history) = calls_are node history
