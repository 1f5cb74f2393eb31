-- What .JDT holds after a history: by one entry more, by the change of a call, and while nobody packs.
use Rattle.std.proofs.Common.{◌≡◌, ℕ, ◌+◌, ◌≤◌, ◌<◌, true, false, List, [], ◌∷◌, ◌++◌, length, map, Some, None, refl, sym, ◌∙◌, ap, subst, arith, append_assoc}
use Rattle.std.specs.Prelude.{flat_map, min, is_some}
use Rattle.std.proofs.lemmas.List.{append-nil}
use Rattle.std.proofs.Math.Nat.{le-min, min-eq_left, min-le_right}
use mathlib.Core.List.{IsPrefix}
use Rattle.jb_area.specs.Area.{IsResting, device_of}
use Rattle.jb_area.specs.Commits.{last_count, packs_with}
use Rattle.jb_area.specs.declared.area.OpenArea.{OpenArea}
use Rattle.jb_base.specs.declared.area.AreaRules.{AreaRules}
use Rattle.jb_decide.specs.StepOf.{written_text}
use Rattle.jb_decide.specs.Telling.{IsPacking, IsToldBy, KeepsTexts, WritesText}
use Rattle.jb_disk.specs.Device.{Device}
use Rattle.jb_model.specs.Standing.{Standing, Settled, InDoubt, after_entry}
use Rattle.jb_model.specs.History.{standing_from}
use Rattle.jb_model.specs.Step.{step}
use Rattle.jb_model.specs.declared.command.Command.{Command}
use Rattle.jb_model.specs.declared.entry.Entry.{Entry}
use Rattle.jb_model.specs.declared.entry.Entry.TheVariants.{Called, Reopened}
use Rattle.jb_model.specs.declared.entry.Outcome.TheVariants.{Replied, InDoubt as LeftInDoubt, NotBegun}
use Rattle.jb_model.specs.declared.reply.Reply.{Reply}
use Rattle.jb_model.specs.declared.reply.Reply.TheVariants.{Posted, Edited, Text, Killed, Marked, Packed, Relinked, Denied, NoMessage, TooLong, EmptyName, SlotsFull, SubfieldsFull, HeadersFull, TextFull, NumbersSpent, MarksFull}
use Rattle.jb_pack.proofs.StateLemmas.{kept_within, slots_packed}
use Rattle.jb_state.specs.Change.{after, texts_after}
use Rattle.jb_state.specs.Links.{Linkable}
use Rattle.jb_state.specs.Live.{change_live_from}
use Rattle.jb_state.specs.LiveSlots.{linkables_from}
use Rattle.jb_state.specs.Packed.{kept_slots, new_base, packed, packed_texts, texts_in}
use Rattle.jb_state.specs.PackedState.{emptied}
use Rattle.jb_state.specs.Relinked.{relink_by}
use Rattle.jb_state.specs.Sound.{IsSound}
use Rattle.jb_state.specs.State.{AreaState, slot_state, state_of, text_of}
use Rattle.jb_state.specs.declared.change.Change.{Change}
use Rattle.jb_state.specs.declared.change.Change.TheVariants as changes
use Rattle.jb_state.specs.declared.loaded.Loaded.{Loaded}
use Rattle.jb_state.specs.declared.loaded.LoadedSlot.{LoadedSlot}
use Rattle.jb_state.specs.declared.loaded.LoadedSlot.TheVariants as slot
use Rattle.jb_turn.specs.Rows.{Begins}
use Rattle.jb_shared.specs.Histories.{first_state, leads_to}
use Rattle.jb_shared.specs.Texts.{TextFile, TextFiles, file_answered, files_after_entry, files_from, slot_text, text_file_after, text_files_at}
use Rattle.jb_shared.specs.declared.opening.Opening.{Opening}
use Rattle.jb_shared.proofs.StopLemmas.{told_gives}

-- what is held after two parts of a history
files_append : (rules : AreaRules) (standing : Standing) (files : TextFiles) (history more : List Entry)
    → files_from rules standing files (history ++ more) ≡ files_from rules (standing_from rules standing history) (files_from rules standing files history) more
files_append rules standing files [] more = refl
files_append rules standing files (entry ∷ history) more = files_append rules (after_entry rules standing entry) (files_after_entry rules standing entry files) history more

-- what is held with one entry more
pub text_files_push : (opening : Opening) (history : List Entry) (entry : Entry) (standing : Standing) → standing ≡ leads_to opening history
    → text_files_at opening (history ++ entry ∷ []) ≡ files_after_entry opening.rules standing entry (text_files_at opening history)
text_files_push opening history entry standing is =
    files_append opening.rules (Settled (first_state opening)) _ history (entry ∷ [])
    ∙ ap (λ (s : Standing). files_after_entry opening.rules s entry (text_files_at opening history)) (sym is)

-- the first file goes on to the last one: no packs are taken back, and where there are no more of them its bytes begin those of the last
pub record GoesOn (first last : TextFile) : Type 0 where
  pub within : first.packs ≤ last_count → last.packs ≤ last_count
  pub more : first.packs ≤ last_count → first.packs ≤ last.packs
  pub bytes : first.packs ≡ last.packs → first.packs < last_count → IsPrefix first.bytes last.bytes

-- each goes on to itself
goes_itself : (file : TextFile) → GoesOn file file
goes_itself file = record { within = λ is. is; more = λ is. omega arith; bytes = λ same low. ([], append-nil file.bytes) }

-- a beginning of a beginning
prefix_on : (xs ys zs : List ℕ) → IsPrefix xs ys → IsPrefix ys zs → IsPrefix xs zs
prefix_on xs ys zs (more, is) (rest, are) = (more ++ rest, sym (append_assoc xs more rest) ∙ ap (λ (l : List ℕ). l ++ rest) is ∙ are)

-- and so on
goes_then : (first mid last : TextFile) → GoesOn first mid → GoesOn mid last → GoesOn first last
goes_then first mid last one two = record {
  within = λ is. two.within (one.within is);
  more = λ is. let up = one.more is in let on = two.more (one.within is) in omega (arith, up, on);
  bytes = λ same low.
      let under : first.packs ≤ last_count = omega (arith, low) in
      let up : first.packs ≤ mid.packs = one.more under in
      let on : mid.packs ≤ last.packs = two.more (one.within under) in
      prefix_on first.bytes mid.bytes last.bytes (one.bytes (omega (arith, same, up, on)) low) (two.bytes (omega (arith, same, up, on)) (omega (arith, same, up, on, low)));
}

-- a text behind the others
goes_written : (file : TextFile) (text : List ℕ) → GoesOn file (record file { bytes = file.bytes ++ text })
goes_written file text = record { within = λ is. is; more = λ is. omega arith; bytes = λ same low. (text, refl) }

-- a pack
goes_packed : (file : TextFile) (bytes : List ℕ) → GoesOn file (record { bytes = bytes; packs = min (file.packs + 1) last_count })
goes_packed file bytes = record {
  within = λ is. min-le_right (file.packs + 1) last_count;
  more = λ is. counts is;
  bytes = λ same low. let next : min (file.packs + 1) last_count ≡ file.packs + 1 = min-eq_left (omega (arith, low)) in absurd (omega (arith, same, next));
}
  where
    -- at the last count it stays
    counts : file.packs ≤ last_count → file.packs ≤ min (file.packs + 1) last_count
    counts is = le-min (omega arith) is

-- what an answer makes of the file
goes_answered : (command : Command) (reply : Reply) (state : AreaState) (file : TextFile) → GoesOn file (text_file_after command reply state file)
goes_answered command (Posted number) state file = goes_written file (written_text command)
goes_answered command (Edited number) state file = goes_written file (written_text command)
goes_answered command (Packed base live dropped) state file = goes_packed file (flat_map slot_text state.slots)
goes_answered command (Text letter) state file = goes_itself file
goes_answered command (Killed number) state file = goes_itself file
goes_answered command (Marked last high) state file = goes_itself file
goes_answered command (Relinked changed) state file = goes_itself file
goes_answered command (Denied rule) state file = goes_itself file
goes_answered command (NoMessage number) state file = goes_itself file
goes_answered command (TooLong field len) state file = goes_itself file
goes_answered command (EmptyName field) state file = goes_itself file
goes_answered command (SlotsFull slots) state file = goes_itself file
goes_answered command (SubfieldsFull len) state file = goes_itself file
goes_answered command (HeadersFull len) state file = goes_itself file
goes_answered command (TextFull len) state file = goes_itself file
goes_answered command (NumbersSpent next) state file = goes_itself file
goes_answered command (MarksFull marks) state file = goes_itself file

-- what is held goes on to what is to come, where something is in doubt
abbrev IsAhead : TextFiles → Type 0
IsAhead files = GoesOn files.now files.coming

-- what an entry makes of it
goes_by : (rules : AreaRules) (standing : Standing) (entry : Entry) (files : TextFiles) → IsAhead files
    → GoesOn files.now (files_after_entry rules standing entry files).now × IsAhead (files_after_entry rules standing entry files)
goes_by rules (Settled state) (Called node call user moment command (Replied reply)) files ahead =
    let answered = step rules state user moment command in
    (goes_answered command answered.reply answered.state files.now, goes_itself (file_answered command answered files.now))
goes_by rules (Settled state) (Called node call user moment command (LeftInDoubt faults)) files ahead =
    let answered = step rules state user moment command in
    (goes_itself files.now, goes_answered command answered.reply answered.state files.now)
goes_by rules (Settled state) (Called node call user moment command (NotBegun faults)) files ahead = (goes_itself files.now, ahead)
goes_by rules (Settled state) (Reopened stands) files ahead = (goes_itself files.now, ahead)
goes_by rules (InDoubt before after) (Called node call user moment command outcome) files ahead = (goes_itself files.now, ahead)
goes_by rules (InDoubt before after) (Reopened false) files ahead = (goes_itself files.now, goes_itself files.now)
goes_by rules (InDoubt before (Some after)) (Reopened true) files ahead = (ahead, goes_itself files.coming)
goes_by rules (InDoubt before None) (Reopened true) files ahead = (goes_itself files.now, ahead)

-- and what a history does
goes_from : (rules : AreaRules) (standing : Standing) (files : TextFiles) (history : List Entry) → IsAhead files
    → GoesOn files.now (files_from rules standing files history).now × IsAhead (files_from rules standing files history)
goes_from rules standing files [] ahead = (goes_itself files.now, ahead)
goes_from rules standing files (entry ∷ history) ahead =
    let next = goes_by rules standing entry files ahead in
    let rest = goes_from rules (after_entry rules standing entry) (files_after_entry rules standing entry files) history next.1 in
    (goes_then files.now (files_after_entry rules standing entry files).now (files_from rules standing files (entry ∷ history)).now next.0 rest.0, rest.1)

-- the texts go on with the history
pub texts_on : (opening : Opening) (first last : List Entry) → Begins first last
    → (text_files_at opening first).now.packs ≡ (text_files_at opening last).now.packs → (text_files_at opening first).now.packs < last_count
    → IsPrefix (text_files_at opening first).now.bytes (text_files_at opening last).now.bytes
texts_on opening first last (rest, is) same low =
    let from : TextFiles = text_files_at opening first in
    let to : TextFiles = files_from opening.rules (leads_to opening first) from rest in
    let ends : text_files_at opening last ≡ to = ap (text_files_at opening) is ∙ files_append opening.rules (Settled (first_state opening)) _ first rest in
    let ahead : IsAhead from = (goes_from opening.rules (Settled (first_state opening)) _ first (goes_itself _)).1 in
    let goes : GoesOn from.now to.now = (goes_from opening.rules (leads_to opening first) from rest ahead).0 in
    subst (λ (f : TextFiles). IsPrefix from.now.bytes f.now.bytes) (sym ends) (goes.bytes (same ∙ ap (λ (f : TextFiles). f.now.packs) ends) low)

-- a change that puts a text behind the others
written_by : (change : Change) (loaded : Loaded) (written texts : List ℕ) (packs : ℕ) → WritesText change → (texts_after change loaded written texts ≡ texts ++ written) × (packs_with change packs ≡ packs)
written_by changes.Nothing loaded written texts packs writes = absurd writes
written_by (changes.Posted message neighbour) loaded written texts packs writes = (refl, refl)
written_by (changes.Headed at) loaded written texts packs writes = absurd writes
written_by (changes.Edited place message) loaded written texts packs writes = (refl, refl)
written_by (changes.Killed place) loaded written texts packs writes = absurd writes
written_by (changes.Relinked plan) loaded written texts packs writes = absurd writes
written_by (changes.Marked place mark) loaded written texts packs writes = absurd writes
written_by (changes.Packed plan base) loaded written texts packs writes = absurd writes

-- a change that leaves them
kept_by : (change : Change) (loaded : Loaded) (written texts : List ℕ) (packs : ℕ) → KeepsTexts change → (texts_after change loaded written texts ≡ texts) × (packs_with change packs ≡ packs)
kept_by changes.Nothing loaded written texts packs keeps = (refl, refl)
kept_by (changes.Posted message neighbour) loaded written texts packs keeps = absurd keeps
kept_by (changes.Headed at) loaded written texts packs keeps = (refl, refl)
kept_by (changes.Edited place message) loaded written texts packs keeps = absurd keeps
kept_by (changes.Killed place) loaded written texts packs keeps = (refl, refl)
kept_by (changes.Relinked plan) loaded written texts packs keeps = (refl, refl)
kept_by (changes.Marked place mark) loaded written texts packs keeps = (refl, refl)
kept_by (changes.Packed plan base) loaded written texts packs keeps = absurd keeps

-- the texts of slots in which links were changed and killed messages dropped
texts_emptied : (live : List Linkable) (number : ℕ) (texts : List ℕ) (slots : List LoadedSlot)
    → flat_map slot_text (map emptied (change_live_from (relink_by live) number (map (slot_state texts) slots))) ≡ texts_in texts slots
texts_emptied live number texts [] = refl
texts_emptied live number texts (slot.Empty ∷ slots) = texts_emptied live (number + 1) texts slots
texts_emptied live number texts (slot.Killed at ∷ slots) = texts_emptied live (number + 1) texts slots
texts_emptied live number texts (slot.Live message ∷ slots) = ap (λ (l : List ℕ). text_of texts message ++ l) (texts_emptied live (number + 1) texts slots)

-- the texts after a pack are those of the live messages, in the order of their numbers
texts_packed : (limit : ℕ) (texts : List ℕ) (loaded : Loaded) → IsSound limit loaded → length texts ≡ loaded.texts_len
    → flat_map slot_text (map (slot_state (packed_texts texts loaded)) (packed loaded).slots) ≡ packed_texts texts loaded
texts_packed limit texts loaded sound size =
    let live : List Linkable = linkables_from loaded.base loaded.slots in
    ap (flat_map slot_text)
    (slots_packed live loaded.headers_len loaded.texts_len texts (packed_texts texts loaded) [] (new_base loaded) 1024 0 (kept_slots loaded) (kept_within limit texts loaded sound size) size refl refl)
    ∙ texts_emptied live (new_base loaded) texts (kept_slots loaded)

-- a change that packs the area
packed_by : (change : Change) (limit : ℕ) (loaded : Loaded) (written texts : List ℕ) (packs : ℕ) → IsSound limit loaded → length texts ≡ loaded.texts_len → IsPacking change
    → (texts_after change loaded written texts ≡ flat_map slot_text (state_of (texts_after change loaded written texts) (after change loaded)).slots) × (packs_with change packs ≡ min (packs + 1) last_count)
packed_by changes.Nothing limit loaded written texts packs sound size packing = absurd packing
packed_by (changes.Posted message neighbour) limit loaded written texts packs sound size packing = absurd packing
packed_by (changes.Headed at) limit loaded written texts packs sound size packing = absurd packing
packed_by (changes.Edited place message) limit loaded written texts packs sound size packing = absurd packing
packed_by (changes.Killed place) limit loaded written texts packs sound size packing = absurd packing
packed_by (changes.Relinked plan) limit loaded written texts packs sound size packing = absurd packing
packed_by (changes.Marked place mark) limit loaded written texts packs sound size packing = absurd packing
packed_by (changes.Packed plan base) limit loaded written texts packs sound size packing = (sym (texts_packed limit texts loaded sound size), refl)

-- the file that an answer with this change of the area makes of one with these texts and packs
abbrev ComesTo : Change → Loaded → Command → Reply → TextFile → Type 0
ComesTo change loaded command reply file =
    let to : TextFile = text_file_after command reply (state_of (texts_after change loaded (written_text command) file.bytes) (after change loaded)) file in
    (texts_after change loaded (written_text command) file.bytes ≡ to.bytes) × (packs_with change file.packs ≡ to.packs)

-- an answered change comes to the file of its answer
pub comes_to : (change : Change) (limit : ℕ) (loaded : Loaded) (command : Command) (reply : Reply) (file : TextFile) → IsSound limit loaded → length file.bytes ≡ loaded.texts_len → IsToldBy reply change
    → ComesTo change loaded command reply file
comes_to change limit loaded command (Posted number) file sound size told = written_by change loaded (written_text command) file.bytes file.packs told
comes_to change limit loaded command (Edited number) file sound size told = written_by change loaded (written_text command) file.bytes file.packs told
comes_to change limit loaded command (Packed base live dropped) file sound size told = packed_by change limit loaded (written_text command) file.bytes file.packs sound size told
comes_to change limit loaded command (Text letter) file sound size told = kept_by change loaded (written_text command) file.bytes file.packs told
comes_to change limit loaded command (Killed number) file sound size told = kept_by change loaded (written_text command) file.bytes file.packs told
comes_to change limit loaded command (Marked last high) file sound size told = kept_by change loaded (written_text command) file.bytes file.packs told
comes_to change limit loaded command (Relinked changed) file sound size told = kept_by change loaded (written_text command) file.bytes file.packs told
comes_to change limit loaded command (Denied rule) file sound size told = kept_by change loaded (written_text command) file.bytes file.packs told
comes_to change limit loaded command (NoMessage number) file sound size told = kept_by change loaded (written_text command) file.bytes file.packs told
comes_to change limit loaded command (TooLong field len) file sound size told = kept_by change loaded (written_text command) file.bytes file.packs told
comes_to change limit loaded command (EmptyName field) file sound size told = kept_by change loaded (written_text command) file.bytes file.packs told
comes_to change limit loaded command (SlotsFull slots) file sound size told = kept_by change loaded (written_text command) file.bytes file.packs told
comes_to change limit loaded command (SubfieldsFull len) file sound size told = kept_by change loaded (written_text command) file.bytes file.packs told
comes_to change limit loaded command (HeadersFull len) file sound size told = kept_by change loaded (written_text command) file.bytes file.packs told
comes_to change limit loaded command (TextFull len) file sound size told = kept_by change loaded (written_text command) file.bytes file.packs told
comes_to change limit loaded command (NumbersSpent next) file sound size told = kept_by change loaded (written_text command) file.bytes file.packs told
comes_to change limit loaded command (MarksFull marks) file sound size told = kept_by change loaded (written_text command) file.bytes file.packs told

module _ {D : Type 0} (shown : D → Device) where
  -- where the disk tells, an area rests with one list of texts
  pub one_text : (area : OpenArea D) (texts other : List ℕ) → is_some (device_of shown area).contents ≡ true → IsResting shown area texts → IsResting shown area other → texts ≡ other
  one_text area texts other told rests others =
      told_gives (device_of shown area).contents (texts ≡ other) told (λ files there. sym (rests.kept.settled.rests files there).holds.texts_are ∙ (others.kept.settled.rests files there).holds.texts_are)
