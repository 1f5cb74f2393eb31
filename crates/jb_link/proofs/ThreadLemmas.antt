-- Roots of threads, and the numbers that have one.
use Rattle.std.proofs.Common.{◌≡◌, ◌≢◌, ℕ, ◌+◌, ◌-◌, ◌<◌, ◌≤◌, Bool, true, false, ◌&&◌, ◌==◌, cond, List, [], ◌∷◌, ◌++◌, Some, filter, map, length, take, slice_index, get_or, refl, sym, ◌∙◌, ap, arith, ne_eqb, eq-eqb}
use Rattle.std.proofs.lemmas.Grind.{common_steps}
use Rattle.std.proofs.lemmas.List.{append-nil, map-append}
use Rattle.std.proofs.lemmas.List.Elements.{filter-append}
use Rattle.std.specs.Option.{is_some}
use Rattle.jb_state.specs.Links.{Linkable, parent_at, thread_root}
use Rattle.jb_state.specs.declared.loaded.LoadedMessage.{LoadedMessage}
use Rattle.jb_state.specs.declared.loaded.LoadedSlot.{LoadedSlot}
use Rattle.jb_state.specs.declared.loaded.LoadedSlot.TheVariants.{Empty, Killed, Live}
use Rattle.jb_state.specs.LiveSlots.{linkables_from, loaded_linkable, message_in}
use Rattle.jb_state.proofs.ThreadLaws.{root_is_that_of_parent}
use Rattle.jb_link.specs.Thread.{AreRoots}
use Rattle.jb_link.proofs.ParentLemmas.{one_more}

-- the roots with one more
pub roots_step : (live : List Linkable) (base k root : ℕ) (roots : List ℕ) → AreRoots live base k roots → root ≡ thread_root live (base + k)
    → AreRoots live base (k + 1) (roots ++ root ∷ [])
roots_step live base k root roots h is = record {
  len = grind (arith, common_steps, h.len);
  each = λ place below. grind (arith, common_steps, h.len, h.each place);
}

-- a message without a parent is its own root
pub root_without_parent : (live : List Linkable) (n parent : ℕ) → parent ≡ parent_at live n → parent ≡ 0 → n ≡ thread_root live n
root_without_parent live n parent is none =
    let no_parent : (parent_at live n == 0) ≡ true = eq-eqb (parent_at live n) 0 (sym is ∙ none) in
    sym (root_is_that_of_parent live n ∙ ap (λ b. cond b n (thread_root live (parent_at live n))) no_parent)

-- with one it has that of its parent
pub root_of_parent : (live : List Linkable) (n parent : ℕ) → parent ≡ parent_at live n → parent ≢ 0 → thread_root live parent ≡ thread_root live n
root_of_parent live n parent is some =
    let has_parent : (parent_at live n == 0) ≡ false = ne_eqb (parent_at live n) 0 (λ e. some (is ∙ e)) in
    ap (thread_root live) is ∙ sym (root_is_that_of_parent live n ∙ ap (λ b. cond b n (thread_root live (parent_at live n))) has_parent)

-- the numbers that pass, with one more slot
pub thread_step : (test : Linkable → Bool) (base k : ℕ) (slots : List LoadedSlot) (slot : LoadedSlot) (numbers : List ℕ) (b d : Bool)
    → k < length slots → slot ≡ get_or slots k slot → is_some (message_in (Some slot)) ≡ b → ((one : Linkable) → one.number ≡ base + k → test one ≡ d)
    → numbers ≡ map (λ one. one.number) (filter test (linkables_from base (take k slots)))
    → cond (b && d) (numbers ++ (base + k) ∷ []) numbers ≡ map (λ one. one.number) (filter test (linkables_from base (take (k + 1) slots)))
thread_step test base k slots slot numbers b d within read live passes before =
    step_case slot b live
    ∙ ap (λ l. l ++ map (λ one. one.number) (filter test (linkables_from (base + k) (slot ∷ [])))) before
    ∙ sym (ap (λ l. map (λ (one : Linkable). one.number) (filter test l)) (one_more base k slots slot within read)
    ∙ ap (map (λ (one : Linkable). one.number)) (filter-append test (linkables_from base (take k slots)) (linkables_from (base + k) (slot ∷ [])))
    ∙ map-append (λ (one : Linkable). one.number) (filter test (linkables_from base (take k slots))) (filter test (linkables_from (base + k) (slot ∷ []))))
  where
    live_case : (message : LoadedMessage) (d : Bool) → test (loaded_linkable (base + k) message) ≡ d
        → cond d (numbers ++ (base + k) ∷ []) numbers ≡ numbers ++ map (λ one. one.number) (filter test (loaded_linkable (base + k) message ∷ []))
    live_case message true e = rw e refl
    live_case message false e = rw e (sym (append-nil numbers))

    step_case : (slot : LoadedSlot) (b : Bool) → is_some (message_in (Some slot)) ≡ b
        → cond (b && d) (numbers ++ (base + k) ∷ []) numbers ≡ numbers ++ map (λ one. one.number) (filter test (linkables_from (base + k) (slot ∷ [])))
    step_case Empty b e = rw (sym e) (sym (append-nil numbers))
    step_case (Killed header_at) b e = rw (sym e) (sym (append-nil numbers))
    step_case (Live message) b e = rw (sym e) (live_case message d (passes (loaded_linkable (base + k) message) refl))

-- a test of the root at a place is that of the message with its number
pub passes_at : (live : List Linkable) (base k root : ℕ) {count : ℕ} (roots : List ℕ) (d : Bool) → k < count → AreRoots live base count roots
    → (slice_index roots k == root) ≡ d
    → (one : Linkable) → one.number ≡ base + k → (thread_root live one.number == root) ≡ d
passes_at live base k root roots d within are tested one numbered =
    ap (λ n. thread_root live n == root) numbered ∙ ap (λ r. r == root) (sym (are.each k within)) ∙ tested

-- the root of a number is at its place
pub root_read : (live : List Linkable) (base count number : ℕ) (roots : List ℕ) → base ≤ number → number < base + count → AreRoots live base count roots
    → slice_index roots (number - base) ≡ thread_root live number
root_read live base count number roots from to are =
    let there : base + (number - base) ≡ number = omega arith in
    are.each (number - base) (omega arith) ∙ ap (thread_root live) there
