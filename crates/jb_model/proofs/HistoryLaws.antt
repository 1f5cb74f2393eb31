-- Histories: their prefixes are legal, and the longest settled prefix is one.
use Rattle.std.proofs.Common.{◌≡◌, ℕ, zero, suc, ◌+◌, ◌≤◌, Bool, true, false, cond, List, [], ◌∷◌, ◌++◌, length, map, take, Option, Some, None, refl, sym, ◌∙◌, ap, subst, arith, length-append}
use Rattle.std.specs.Prelude.{filter_map, drop, IfSome}
use Rattle.std.specs.List.{range_with_len, cons_option}
use Rattle.std.proofs.lemmas.Bool.{eqb-true}
use Rattle.std.proofs.lemmas.List.{append-nil, length-map, length_push, map-append, map-id, map_push, take-append-drop, take_at}
use Rattle.std.proofs.lemmas.List.Elements.{filter-append, filter_map-append}
use Rattle.std.proofs.lemmas.List.FromFn.{map-range_with_len_more}
use Rattle.jb_bytes.specs.Fault.{Rose}
use Rattle.jb_state.proofs.LinkLaws.{true_not_false}
use Rattle.jb_model.specs.declared.entry.Entry.TheVariants.{Called, Reopened}
use Rattle.jb_base.specs.declared.area.AreaRules.{AreaRules}
use Rattle.jb_model.specs.History.{AllowsEach, AreNumbered, IsLegal, IsNextCall, MayFollow, Rises, last_told, call_number, calls_of, faults_of, is_call_of, standing_after, standing_from}
use Rattle.jb_model.specs.Standing.{Standing, Settled, Allows, after_entry}
use Rattle.jb_state.specs.State.{AreaState}
use Rattle.jb_model.specs.declared.entry.Entry.{Entry}

-- where an area stands after one list of entries and then another
pub standing_from-append : (rules : AreaRules) (standing : Standing) (before behind : List Entry) → standing_from rules standing (before ++ behind) ≡ standing_from rules (standing_from rules standing before) behind
standing_from-append rules standing [] behind = refl
standing_from-append rules standing (entry ∷ before) behind = standing_from-append rules (after_entry rules standing entry) before behind

-- the entries of a beginning may come
pub allowed-take : (rules : AreaRules) (standing : Standing) (n : ℕ) (history : List Entry) → AllowsEach rules standing history → AllowsEach rules standing (take n history)
allowed-take rules standing zero history allowed = tt
allowed-take rules standing (suc n) [] allowed = tt
allowed-take rules standing (suc n) (entry ∷ rest) allowed = (allowed.0, allowed-take rules (after_entry rules standing entry) n rest allowed.1)

-- entries that may come, and then one more that may
pub allowed_push : (rules : AreaRules) (standing : Standing) (history : List Entry) (entry : Entry) → AllowsEach rules standing history → Allows rules (standing_from rules standing history) entry → AllowsEach rules standing (history ++ entry ∷ [])
allowed_push rules standing [] entry allowed more = (more, tt)
allowed_push rules standing (first ∷ rest) entry allowed more = (allowed.0, allowed_push rules (after_entry rules standing first) rest entry allowed.1 more)

-- of two lists one behind the other, the first has risen
rises_front : (before : ℕ) (front behind : List ℕ) → Rises before (front ++ behind) → Rises before front
rises_front before [] behind risen = tt
rises_front before (faults ∷ front) behind risen = (risen.0, rises_front faults front behind risen.1)

-- counts that have risen, and then one that rises
pub rises_push : (before : ℕ) (told : List ℕ) (faults : ℕ) → Rises before told → Rose (last_told before told) faults → Rises before (told ++ faults ∷ [])
rises_push before [] faults risen more = (more, tt)
rises_push before (first ∷ rest) faults risen more = (risen.0, rises_push first rest faults risen.1 more)

-- the first of numbers in a row
take-range : (a n k : ℕ) → k ≤ n → take k (range_with_len a n) ≡ range_with_len a k
take-range a n zero within = refl
take-range a zero (suc k) within = absurd (omega arith)
take-range a (suc n) (suc k) within = ap (λ l. a ∷ l) (take-range (a + 1) n k (omega arith))

-- the calls of a node in two lists one behind the other
calls_of-append : (node : ℕ) (front behind : List Entry) → calls_of node (front ++ behind) ≡ calls_of node front ++ calls_of node behind
calls_of-append node front behind = filter-append (is_call_of node) front behind

-- of calls that are numbered in a row, the first are
numbered_front : (calls more : List Entry) → map call_number (calls ++ more) ≡ range_with_len 1 (length (calls ++ more)) → map call_number calls ≡ range_with_len 1 (length calls)
numbered_front calls more numbered =
    let few : length calls ≤ length (calls ++ more) = omega (arith, length-append calls more) in
    let parts : map call_number calls ++ map call_number more ≡ range_with_len 1 (length (calls ++ more)) = sym (map-append call_number calls more) ∙ numbered in
    let cut : take (length calls) (map call_number calls ++ map call_number more) ≡ map call_number calls =
    take_at (map call_number calls) (map call_number more) (length calls) (length-map calls call_number) in
    sym cut ∙ ap (take (length calls)) parts ∙ take-range 1 (length (calls ++ more)) (length calls) few

-- the calls of a beginning are numbered
pub numbered-front : (front behind : List Entry) → AreNumbered (front ++ behind) → AreNumbered front
numbered-front front behind numbered node =
    let P : List Entry → Type 0 = λ calls. map call_number calls ≡ range_with_len 1 (length calls) in
    numbered_front (calls_of node front) (calls_of node behind) (subst P (calls_of-append node front behind) (numbered node))

-- what may come in two lists one behind the other may come in the first
allowed_front : (rules : AreaRules) (standing : Standing) (front behind : List Entry) → AllowsEach rules standing (front ++ behind) → AllowsEach rules standing front
allowed_front rules standing [] behind allowed = tt
allowed_front rules standing (entry ∷ front) behind allowed = (allowed.0, allowed_front rules (after_entry rules standing entry) front behind allowed.1)

-- a beginning of a legal history is one
pub legal_front : (rules : AreaRules) (first : AreaState) (faults : ℕ) (front behind : List Entry) → IsLegal rules first faults (front ++ behind) → IsLegal rules first faults front
legal_front rules first faults front behind legal = record {
  allowed = allowed_front rules (Settled first) front behind legal.allowed;
  numbered = numbered-front front behind legal.numbered;
  risen =
      let P : List ℕ → Type 0 = λ told. Rises faults told in
      rises_front faults (filter_map faults_of front) (filter_map faults_of behind) (subst P (filter_map-append faults_of front behind) legal.risen);
}

-- so are its first so many entries
pub legal-take : (rules : AreaRules) (first : AreaState) (faults n : ℕ) (history : List Entry) → IsLegal rules first faults history → IsLegal rules first faults (take n history)
legal-take rules first faults n history legal =
    let P : List Entry → Type 0 = λ l. IsLegal rules first faults l in
    legal_front rules first faults (take n history) (drop n history) (subst P (sym (take-append-drop n history)) legal)

-- calls that are numbered in a row, and then the next one
numbered_call : (calls : List Entry) (call : Entry) → map call_number calls ≡ range_with_len 1 (length calls) → call_number call ≡ length calls + 1 → map call_number (calls ++ call ∷ []) ≡ range_with_len 1 (length (calls ++ call ∷ []))
numbered_call calls call numbered next =
    map_push call_number calls call
    ∙ ap (λ l. l ++ call_number call ∷ []) numbered
    ∙ ap (λ n. range_with_len 1 (length calls) ++ n ∷ []) next
    ∙ sym (range_push 1 (length calls) (length calls + 1) (omega arith))
    ∙ ap (range_with_len 1) (sym (length_push calls call))
  where
    -- the numbers in a row, and the next
    range_push : (a n next : ℕ) → next ≡ a + n → range_with_len a (n + 1) ≡ range_with_len a n ++ next ∷ []
    range_push a n next is =
        sym (map-id (range_with_len a (n + 1))) ∙ map-range_with_len_more (λ k. k) a n next (sym is) ∙ ap (λ l. l ++ next ∷ []) (map-id (range_with_len a n))

-- by whether the entry is a call of the node
numbered_by : (node : ℕ) (history : List Entry) (entry : Entry) (b : Bool) → map call_number (calls_of node history) ≡ range_with_len 1 (length (calls_of node history)) → (b ≡ true → call_number entry ≡ length (calls_of node history) + 1) → map call_number (calls_of node history ++ cond b (entry ∷ []) []) ≡ range_with_len 1 (length (calls_of node history ++ cond b (entry ∷ []) []))
numbered_by node history entry true numbered next = numbered_call (calls_of node history) entry numbered (next refl)
numbered_by node history entry false numbered next =
    let P : List Entry → Type 0 = λ calls. map call_number calls ≡ range_with_len 1 (length calls) in
    subst P (sym (append-nil (calls_of node history))) numbered

-- a next call has the next number of its node
next_number_of : (node : ℕ) (history : List Entry) (entry : Entry) → IsNextCall history entry → is_call_of node entry ≡ true → call_number entry ≡ length (calls_of node history) + 1
next_number_of node history (Called caller call user moment command outcome) next is =
    let P : ℕ → Type 0 = λ n. call ≡ length (calls_of n history) + 1 in
    subst P (eqb-true caller node is) next
next_number_of node history (Reopened stands) next is = absurd (true_not_false (sym is))

-- numbered calls and a next one are numbered
pub numbered_push : (history : List Entry) (entry : Entry) → AreNumbered history → IsNextCall history entry → AreNumbered (history ++ entry ∷ [])
numbered_push history entry numbered next node =
    let P : List Entry → Type 0 = λ calls. map call_number calls ≡ range_with_len 1 (length calls) in
    subst P (sym (calls_of-append node history (entry ∷ [])))
    (numbered_by node history entry (is_call_of node entry) (numbered node) (next_number_of node history entry next))

-- by whether the entry tells a count
risen_by : (before : ℕ) (told : List ℕ) (more : Option ℕ) → Rises before told → IfSome more (λ faults. Rose (last_told before told) faults) → Rises before (told ++ cons_option more [])
risen_by before told None risen next =
    let P : List ℕ → Type 0 = λ l. Rises before l in
    subst P (sym (append-nil told)) risen
risen_by before told (Some faults) risen next = rises_push before told faults risen next

-- a legal history and an entry that may follow make a legal one
pub legal_push : (rules : AreaRules) (first : AreaState) (faults : ℕ) (history : List Entry) (entry : Entry) → IsLegal rules first faults history → MayFollow rules first faults history entry → IsLegal rules first faults (history ++ entry ∷ [])
legal_push rules first faults history entry legal next = record {
  allowed = allowed_push rules (Settled first) history entry legal.allowed next.allowed;
  numbered = numbered_push history entry legal.numbered next.numbered;
  risen =
      let P : List ℕ → Type 0 = λ told. Rises faults told in
      subst P (sym (filter_map-append faults_of history (entry ∷ [])))
      (risen_by faults (filter_map faults_of history) (faults_of entry) legal.risen next.risen);
}

-- where the area stands after one more entry
pub standing_after_push : (rules : AreaRules) (first : AreaState) (history : List Entry) (entry : Entry) → standing_after rules first (history ++ entry ∷ []) ≡ after_entry rules (standing_after rules first history) entry
standing_after_push rules first history entry = standing_from-append rules (Settled first) history (entry ∷ [])
