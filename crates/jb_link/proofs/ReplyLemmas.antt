-- The parent by a kept number, and the header that one more reply changes.
use Rattle.std.proofs.Common.{◌≡◌, ℕ, ◌⊎◌, ◌≢◌, inl, inr, nat_lt, Bool, true, false, ◌&&◌, ◌==◌, cond, List, [], ◌∷◌, Some, None, find, refl, sym, ◌∙◌, ap, ne_eqb, eqb-true, option_map}
use Rattle.jb_state.specs.Links.{linkables_of, Linkable, last_reply_of, number_or_0, parent_for}
use Rattle.jb_state.specs.Live.{message_at}
use Rattle.jb_state.specs.Posted.{slots_with, spliced_slots, with_first_reply, with_next_reply}
use Rattle.jb_state.specs.State.{AreaState, state_of}
use Rattle.jb_state.specs.declared.loaded.Loaded.{Loaded}
use Rattle.jb_state.specs.LiveSlots.{linkables_from}
use Rattle.jb_link.specs.Splice.{spliced, with_spliced}
use Rattle.jb_link.specs.declared.splicing.Spliced.{Spliced}
use Rattle.jb_link.specs.declared.splicing.Spliced.TheVariants.{None as Nothing, First, After}
use Rattle.jb_link.proofs.LiveLemmas.{linkables_with_texts}

-- the parent by a kept number
abbrev pub kept_if_live : List Linkable → ℕ → ℕ → ℕ
kept_if_live live number kept = parent_for live number None kept

-- what is found by a kept number is 0 or has it
pub found_kept : (n kept : ℕ) (live : List Linkable) → (kept_if_live live n kept ≡ 0) ⊎ (kept_if_live live n kept ≡ kept)
found_kept n kept [] = inl refl
found_kept n kept (one ∷ live) = kept_case (nat_lt one.number n) (one.number == kept) refl (found_kept n kept live)
  where
    kept_case : (b d : Bool) → (one.number == kept) ≡ d → (kept_if_live live n kept ≡ 0) ⊎ (kept_if_live live n kept ≡ kept)
        → (number_or_0 (cond (b && d) (Some one) (find (λ x. nat_lt x.number n && (x.number == kept)) live)) ≡ 0)
        ⊎ (number_or_0 (cond (b && d) (Some one) (find (λ x. nat_lt x.number n && (x.number == kept)) live)) ≡ kept)
    kept_case true true e h = inr (eqb-true one.number kept e)
    kept_case true false e h = h
    kept_case false d e h = h

-- the header that one more reply changes, by the last reply
pub spliced_first : (texts : List ℕ) (loaded : Loaded) (parent last : ℕ) → parent ≢ 0 → last ≡ last_reply_of (linkables_from loaded.base loaded.slots) parent → last ≡ 0
    → First parent ≡ spliced (linkables_of (state_of texts loaded)) parent
spliced_first texts loaded parent last some is none =
    let there : (parent == 0) ≡ false = ne_eqb parent 0 some in
    let zero_last : last_reply_of (linkables_from loaded.base loaded.slots) parent ≡ 0 = sym is ∙ none in
    let value : First parent ≡ spliced (linkables_from loaded.base loaded.slots) parent = rw (there, zero_last) refl in
    value ∙ ap (λ live. spliced live parent) (sym (linkables_with_texts texts loaded.base loaded.slots))

pub spliced_after : (texts : List ℕ) (loaded : Loaded) (parent last : ℕ) → parent ≢ 0 → last ≡ last_reply_of (linkables_from loaded.base loaded.slots) parent → last ≢ 0
    → After last ≡ spliced (linkables_of (state_of texts loaded)) parent
spliced_after texts loaded parent last some is other =
    let there : (parent == 0) ≡ false = ne_eqb parent 0 some in
    let known : (last_reply_of (linkables_from loaded.base loaded.slots) parent == 0) ≡ false = rw (sym is) (ne_eqb last 0 other) in
    let value : After last ≡ spliced (linkables_from loaded.base loaded.slots) parent = rw (there, known) (ap After is) in
    value ∙ ap (λ live. spliced live parent) (sym (linkables_with_texts texts loaded.base loaded.slots))

-- what is named is what a post changes
pub named_is_changed : (state : AreaState) (parent : ℕ) (named : Spliced) → named ≡ spliced (linkables_of state) parent
    → (number : ℕ) → spliced_slots state parent number ≡ with_spliced state named number
named_is_changed state parent named is number =
    sym
    (ap (λ what. with_spliced state what number) is
    ∙ by_tests (parent == 0) (last_reply_of (linkables_of state) parent == 0) (last_reply_of (linkables_of state) parent))
  where
    by_tests : (b d : Bool) (last : ℕ)
        → with_spliced state (cond b Nothing (cond d (First parent) (After last))) number
        ≡ cond b state.slots (cond d (slots_with state parent (option_map (with_first_reply number) (message_at state parent)))
        (slots_with state last (option_map (with_next_reply number) (message_at state last))))
    by_tests true d last = refl
    by_tests false true last = refl
    by_tests false false last = refl
