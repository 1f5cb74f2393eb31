-- How many messages a user has not read.
use Rattle.std.proofs.Common.{◌≡◌, ◌+◌, ◌-◌, ◌<◌, ◌≤◌, ℕ, zero, suc, Bool, true, false, cond, List, [], ◌∷◌, ◌++◌, drop, length, map, ap, refl, sym, ◌∙◌, append_assoc, arith}
use Rattle.std.proofs.lemmas.Bool.Decides.{nat_tests}
use Rattle.std.proofs.lemmas.List.Sums.{sum_by-cons}
use Rattle.std.proofs.lemmas.List.{drop-map}
use Rattle.std.proofs.lemmas.List.Folds.{drop_split}
use Rattle.std.proofs.Math.ListN.{drop_of_length-le}
use Rattle.std.proofs.Math.Seq.{drop-length}
use Rattle.std.proofs.Common.{append-nil}
use Rattle.std.specs.List.{slice_range}
use Rattle.std.specs.Prelude.{count_by, filter, nat_lt}
use Rattle.jb_base.specs.declared.area.AreaRules.{AreaRules}
use Rattle.jb_base.specs.declared.user.User.{User}
use Rattle.jb_state.specs.Live.{Numbered, live_from}
use Rattle.jb_state.specs.State.{LiveMessage, SlotState, killed_message, live_message, no_message, slot_state, state_of}
use Rattle.jb_state.specs.Visible.{is_shown, last_read_by, unlinked, unread_by, visible_to}
use Rattle.jb_state.specs.declared.loaded.Loaded.{Loaded}
use Rattle.jb_state.specs.declared.loaded.LoadedSlot.{LoadedSlot}
use Rattle.jb_tool.specs.LoadSummary.{is_seen}

-- one at most
pub one_at_most : (so : Bool) → cond so 1 0 ≤ 1
one_at_most true = omega arith
one_at_most false = omega arith

-- three parts, each put behind those before
pub three_parts : (a b c t0 t1 t2 t3 : List ℕ) → t0 ≡ [] → t1 ≡ t0 ++ a → t2 ≡ t1 ++ b → t3 ≡ t2 ++ c → t3 ≡ a ++ b ++ c
three_parts a b c t0 t1 t2 t3 none one two three =
    three ∙ ap (λ (t : List ℕ). t ++ c) (two ∙ ap (λ (t : List ℕ). t ++ b) (one ∙ ap (λ (t : List ℕ). t ++ a) none))

-- the same behind a text
pub three_behind : (t a b c t1 t2 t3 : List ℕ) → t1 ≡ t ++ a → t2 ≡ t1 ++ b → t3 ≡ t2 ++ c → t3 ≡ t ++ (a ++ b ++ c)
three_behind t a b c t1 t2 t3 one two three =
    three ∙ ap (λ (l : List ℕ). l ++ c) (two ∙ ap (λ (l : List ℕ). l ++ b) one ∙ append_assoc t a b) ∙ append_assoc t (a ++ b) c

-- a number above another
is_above : (last number : ℕ) → last < number → nat_lt last number ≡ true
is_above last number above = grind (arith, nat_tests)

-- one that is not
is_read : (last number : ℕ) → number ≤ last → nat_lt last number ≡ false
is_read last number low = grind (arith, nat_tests)

module _ (rules : AreaRules) (user : User) (last : ℕ) where
  -- the messages above the one read last, of slots of which the first has this number
  abbrev pub unread_from : ℕ → List SlotState → List Numbered
  unread_from number slots = filter (λ one. nat_lt last one.number) (map unlinked (filter (λ one. is_shown rules user one.message) (live_from number slots)))

  -- one live message in front of others
  unread_more : (number : ℕ) (message : LiveMessage) (slots : List SlotState) (shown above : Bool) → is_shown rules user message ≡ shown → nat_lt last number ≡ above
      → length (unread_from number (live_message message ∷ slots)) ≡ cond shown (cond above 1 0) 0 + length (unread_from (number + 1) slots)
  unread_more number message slots true true seen high = rw seen (rw high (omega arith))
  unread_more number message slots true false seen high = rw seen (rw high (omega arith))
  unread_more number message slots false above seen high = rw seen (omega arith)

  -- all numbers are above the one read last
  all_above : (number : ℕ) (slots : List SlotState) → last < number → length (unread_from number slots) ≡ count_by (is_seen rules user) slots
  all_above number [] above = refl
  all_above number (no_message ∷ slots) above = all_above (number + 1) slots (omega (arith, above))
  all_above number (killed_message ∷ slots) above = all_above (number + 1) slots (omega (arith, above))
  all_above number (live_message message ∷ slots) above =
      unread_more number message slots (is_shown rules user message) true refl (is_above last number above)
      ∙ ap (λ (n : ℕ). cond (is_shown rules user message) 1 0 + n) (all_above (number + 1) slots (omega (arith, above)))
      ∙ sym (sum_by-cons (λ slot. cond (is_seen rules user slot) 1 0) (live_message message) slots)

  -- the first so many numbers are read
  pub unread_behind : (number read : ℕ) (slots : List SlotState) → read ≡ last + 1 - number → length (unread_from number slots) ≡ count_by (is_seen rules user) (drop read slots)
  unread_behind number zero slots is = all_above number slots (omega (arith, is))
  unread_behind number (suc more) [] is = refl
  unread_behind number (suc more) (no_message ∷ slots) is = unread_behind (number + 1) more slots (omega (arith, is))
  unread_behind number (suc more) (killed_message ∷ slots) is = unread_behind (number + 1) more slots (omega (arith, is))
  unread_behind number (suc more) (live_message message ∷ slots) is =
      unread_more number message slots (is_shown rules user message) false refl (is_read last number (omega (arith, is)))
      ∙ none (is_shown rules user message) (length (unread_from (number + 1) slots))
      ∙ unread_behind (number + 1) more slots (omega (arith, is))
    where
      none : (shown : Bool) (rest : ℕ) → cond shown 0 0 + rest ≡ rest
      none true rest = omega arith
      none false rest = omega arith

  -- the slots behind those that are read
  unread_is : (texts : List ℕ) (loaded : Loaded) (read : ℕ) → last ≡ last_read_by user (state_of texts loaded) → read ≡ last + 1 - loaded.base
      → length (unread_by rules user (state_of texts loaded)) ≡ count_by (is_seen rules user) (map (slot_state texts) (drop read loaded.slots))
  unread_is texts loaded read last_is read_is =
      ap (λ (n : ℕ). length (filter (λ (one : Numbered). nat_lt n one.number) (visible_to rules user (state_of texts loaded)))) (sym last_is)
      ∙ unread_behind loaded.base read (map (slot_state texts) loaded.slots) read_is
      ∙ ap (λ (l : List SlotState). count_by (is_seen rules user) l) (drop-map (slot_state texts) read loaded.slots)

  -- what was counted of them
  pub unread_some : (texts : List ℕ) (loaded : Loaded) (read count : ℕ) (slots behind : List LoadedSlot) → last ≡ last_read_by user (state_of texts loaded) → read ≡ last + 1 - loaded.base
      → slots ≡ loaded.slots → read ≤ length slots → behind ≡ slice_range slots read (length slots) → count ≡ count_by (is_seen rules user) (map (slot_state texts) behind)
      → count ≡ length (unread_by rules user (state_of texts loaded))
  unread_some texts loaded read count slots behind last_is read_is same within range counted =
      let rest : drop read slots ≡ behind =
      drop_split slots read (length slots) within ∙ ap (λ (l : List LoadedSlot). slice_range slots read (length slots) ++ l) (drop-length slots) ∙ append-nil (slice_range slots read (length slots)) ∙ sym range in
      counted ∙ ap (λ (l : List LoadedSlot). count_by (is_seen rules user) (map (slot_state texts) l)) (sym rest ∙ ap (λ (l : List LoadedSlot). drop read l) same)
      ∙ sym (unread_is texts loaded read last_is read_is)

  -- there are none
  pub unread_none : (texts : List ℕ) (loaded : Loaded) (read : ℕ) (slots : List LoadedSlot) → last ≡ last_read_by user (state_of texts loaded) → read ≡ last + 1 - loaded.base
      → slots ≡ loaded.slots → length slots ≤ read → 0 ≡ length (unread_by rules user (state_of texts loaded))
  unread_none texts loaded read slots last_is read_is same short =
      sym (unread_is texts loaded read last_is read_is
      ∙ ap (λ (l : List LoadedSlot). count_by (is_seen rules user) (map (slot_state texts) l)) (ap (λ (l : List LoadedSlot). drop read l) (sym same) ∙ drop_of_length-le slots short))
