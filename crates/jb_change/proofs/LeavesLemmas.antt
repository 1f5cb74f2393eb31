-- What a change leaves of the bytes of an area's files.
use Rattle.std.proofs.Common.{◌≡◌, ◌⊎◌, inl, inr, ℕ, ◌+◌, ◌*◌, ◌<◌, ◌≤◌, List, [], length, take, Option, None, Some, ap, sym, refl, ◌∙◌, subst, arith, length-take}
use Rattle.std.specs.Prelude.{option_and_then, slice_index}
use Rattle.std.proofs.lemmas.Bool.{cases_lt}
use Rattle.std.proofs.lemmas.Grind.{same_number_lists}
use Rattle.std.proofs.lemmas.List.{places}
use Rattle.jb_disk.specs.FileLaws.{same_file}
use Rattle.jb_disk.specs.Files.{Files, InFile, file_number}
use Rattle.jb_disk.specs.RedoView.{RedoView}
use Rattle.jb_disk.specs.Steps.{Torn}
use Rattle.jb_disk.specs.declared.file.FileId.{FileId}
use Rattle.jb_disk.specs.declared.file.FileId.TheVariants.{Jhr, Jdx, Jlr}
use Rattle.jb_image.specs.Stands.{Loads}
use Rattle.jb_redo.specs.Changes.{changed}
use Rattle.jb_state.proofs.LinkedLaws.{length_of}
use Rattle.jb_state.proofs.PlaceLaws.{length_changed}
use Rattle.jb_state.specs.Change.{after, killed_slot}
use Rattle.jb_state.specs.Loaded.{IsMessageAt, slot_with_head}
use Rattle.jb_state.specs.declared.change.Change.{Change}
use Rattle.jb_state.specs.declared.change.Change.TheVariants.{Nothing, Posted, Headed, Edited, Killed, Relinked, Marked, Packed}
use Rattle.jb_state.specs.declared.loaded.Loaded.{Loaded}
use Rattle.jb_state.specs.declared.loaded.LoadedMessage.{LoadedMessage}
use Rattle.jb_change.specs.Behind.{AppendsOnly}
use Rattle.jb_change.specs.Changing.{WritesOnly}
use Rattle.jb_change.specs.Headers.{Updates, header_place}
use Rattle.jb_change.specs.Put.{IsInCounts, IsInHeaderAt, IsInMark, KeepsIndex, KeepsIndexOnKill, LeavesBut, LeavesRest, MayWrite}
use Rattle.jb_change.proofs.UpdateLemmas.{file_left, header_there}

-- a change of nothing leaves all
pub leaves_nothing : (redo : RedoView) (loaded : Loaded) (may : FileId → ℕ → Type 0) → redo.lengths ≡ [] → redo.pieces ≡ [] → LeavesBut redo loaded may
leaves_nothing redo loaded may no_lengths no_pieces files loads file i low = inr (ap (λ (l : List ℕ). slice_index l i) (file_left redo files file no_lengths no_pieces))

-- the front of a file
in_front : (n i : ℕ) (bytes : List ℕ) → i < n → slice_index (take n bytes) i ≡ slice_index bytes i
in_front n i bytes low = grind (arith, places)

-- what is only put behind files leaves all
pub leaves_behind : (redo : RedoView) (loaded : Loaded) (may : FileId → ℕ → Type 0) → AppendsOnly redo loaded → LeavesBut redo loaded may
leaves_behind redo loaded may appends files loads file i low =
    inr (sym (in_front (length (files file)) i (changed redo files file) low) ∙ ap (λ (l : List ℕ). slice_index l i) (appends files loads file))

-- one small write more, into bytes that may be written
pub leaves_then : (old new : RedoView) (file : FileId) (at len : ℕ) → WritesOnly old new file at len → (loaded : Loaded) (may : FileId → ℕ → Type 0)
    → ((files : Files) → Loads loaded files → at + len ≤ length (changed old files file)) → ((i : ℕ) → at ≤ i → i < at + len → may file i)
    → LeavesBut old loaded may → LeavesBut new loaded may
leaves_then old new file at len only loaded may room inside was files loads other i low = elim (was files loads other i low) [
  | inl there ↦ inl there
  | inr same ↦ elim (same_file other file) [
    | inr apart ↦ inr (ap (λ (l : List ℕ). slice_index l i) (put.others other apart) ∙ same)
    | inl is ↦ elim (cases_lt i at) [
      | inl below ↦ inr (kept is (put.here.below i below) ∙ same)
      | inr high ↦ elim (cases_lt i (at + len)) [
        | inl within ↦ inl (subst (λ (f : FileId). may f i) (sym is) (inside i high within))
        | inr past ↦ inr (kept is (put.here.above i past) ∙ same)
      ]
    ]
  ]
]
  where
    put : InFile file (Torn at len) (changed old files) (changed new files)
    put = only files (room files loads)

    kept : other ≡ file → slice_index (changed new files file) i ≡ slice_index (changed old files file) i → slice_index (changed new files other) i ≡ slice_index (changed old files other) i
    kept is here = subst (λ (f : FileId). slice_index (changed new files f) i ≡ slice_index (changed old files f) i) (sym is) here

-- more bytes may be written than are
pub leaves_more : (redo : RedoView) (loaded : Loaded) (few more : FileId → ℕ → Type 0) → ((file : FileId) (i : ℕ) → few file i → more file i) → LeavesBut redo loaded few → LeavesBut redo loaded more
leaves_more redo loaded few more is left files loads file i low = elim (left files loads file i low) [ inl there ↦ inl (is file i there) | inr same ↦ inr same ]

-- the counts
pub leaves_counts : (old new : RedoView) (from to : Loaded) (text : List ℕ) (may : FileId → ℕ → Type 0) → WritesOnly old new Jhr 8 8 → Updates old from to text
    → ((i : ℕ) → IsInCounts Jhr i → may Jhr i) → LeavesBut old from may → LeavesBut new from may
leaves_counts old new from to text may only was inside left =
    leaves_then old new Jhr 8 8 only from may (λ files loads.
    let size = (was.makes.made files loads).loads.header.size in
    let taken = length-take 1024 (changed old files Jhr) in
    omega (arith, size, taken)) (λ i low high. inside i (refl, low, omega (arith, high))) left

-- bytes of the header of a live message
pub leaves_header : (old new : RedoView) (o len : ℕ) → o + len ≤ 76 → (from to : Loaded) (text : List ℕ) (place : ℕ) (message : LoadedMessage) (may : FileId → ℕ → Type 0)
    → IsMessageAt from place message → WritesOnly old new Jhr (message.header_at + o) len → Updates old from to text
    → ((i : ℕ) → IsInHeaderAt from place o len Jhr i → may Jhr i) → LeavesBut old from may → LeavesBut new from may
leaves_header old new o len short from to text place message may here only was inside left =
    leaves_then old new Jhr (message.header_at + o) len only from may (λ files loads.
    let has = header_there (changed old files) to place message.header_at (was.makes.made files loads).loads
    (was.places place message.header_at (ap (option_and_then header_place) here)) in
    omega (arith, short, has.placed.inside)) (λ i low high. inside i (record { message = message; here = here; headers = refl; low = low; high = high })) left

-- the record of a mark
pub leaves_mark : (old new : RedoView) (place : ℕ) (from to : Loaded) (text : List ℕ) → place < length to.marks → WritesOnly old new Jlr (16 * place) 16 → Updates old from to text
    → LeavesBut old from (IsInMark (Some place)) → LeavesBut new from (IsInMark (Some place))
leaves_mark old new place from to text within only was left =
    leaves_then old new Jlr (16 * place) 16 only from (IsInMark (Some place)) (λ files loads.
    omega (arith, (was.makes.made files loads).loads.lastread, within)) (λ i low high. (refl, low, high)) left

-- the index is no other file
no_headers : Jdx ≡ Jhr → ⊥
no_headers same = let number = ap file_number same in omega (arith, number)

-- files of as many slots have the same index, where none of its bytes may be written
index_kept : (redo : RedoView) (from to : Loaded) (text : List ℕ) (may : FileId → ℕ → Type 0) → Updates redo from to text → length to.slots ≡ length from.slots → ((i : ℕ) → may Jdx i → ⊥)
    → LeavesBut redo from may → (files : Files) → Loads from files → changed redo files Jdx ≡ files Jdx
index_kept redo from to text may makes many none leaves files loads =
    let size : length (changed redo files Jdx) ≡ length (files Jdx) = (makes.makes.made files loads).loads.index ∙ ap (λ (n : ℕ). 8 * n) many ∙ sym loads.index in
    same_number_lists (changed redo files Jdx) (files Jdx) size (λ k low.
    elim (leaves files loads Jdx k (omega (arith, size, low))) [ inl may ↦ absurd (none k may) | inr same ↦ same ])

-- no byte of the index is one of a header
no_header : (loaded : Loaded) (place o len i : ℕ) → IsInCounts Jdx i ⊎ IsInHeaderAt loaded place o len Jdx i → ⊥
no_header loaded place o len i (inl counts) = no_headers counts.0
no_header loaded place o len i (inr there) = no_headers there.headers

-- so the index stays
keeps_index : (redo : RedoView) (from : Loaded) (change : Change) (text : List ℕ) → Updates redo from (after change from) text → LeavesBut redo from (MayWrite from change) → KeepsIndex redo from change
keeps_index redo from Nothing text makes leaves = index_kept redo from from text (MayWrite from Nothing) makes refl (λ i none. none) leaves
keeps_index redo from (Posted message neighbour) text makes leaves = tt
keeps_index redo from (Headed at) text makes leaves =
    index_kept redo from (after (Headed at) from) text (MayWrite from (Headed at)) makes (length_changed at.place (slot_with_head at.head) from) (no_header from at.place 12 44) leaves
keeps_index redo from (Edited place message) text makes leaves = tt
keeps_index redo from (Killed place) text makes leaves =
    index_kept redo from (after (Killed place) from) text (MayWrite from (Killed place)) makes (length_changed place killed_slot from) (no_header from place 52 4) leaves
keeps_index redo from (Relinked plan) text makes leaves =
    index_kept redo from (after (Relinked plan) from) text (MayWrite from (Relinked plan)) makes (length_of plan from) none leaves
  where
    none : (i : ℕ) → MayWrite from (Relinked plan) Jdx i → ⊥
    none i (inl counts) = no_headers counts.0
    none i (inr there) = no_headers there.1.headers
keeps_index redo from (Marked place mark) text makes leaves = index_kept redo from (after (Marked place mark) from) text (IsInMark place) makes refl (none place) leaves
  where
    none : (place : Option ℕ) (i : ℕ) → IsInMark place Jdx i → ⊥
    none None i there = there
    none (Some place) i there = let number = ap file_number there.0 in omega (arith, number)
keeps_index redo from (Packed plan base) text makes leaves = tt

-- what a change leaves
pub leaves_rest : (redo : RedoView) (from : Loaded) (change : Change) (text : List ℕ) → Updates redo from (after change from) text → LeavesBut redo from (MayWrite from change) → LeavesRest redo from change
leaves_rest redo from change text makes leaves = record { bytes = leaves; index = keeps_index redo from change text makes leaves }

-- the index is left by a kill
pub index_on_kill : (redo : RedoView) (loaded : Loaded) (change : Change) → KeepsIndex redo loaded change → KeepsIndexOnKill redo loaded change
index_on_kill redo loaded Nothing keeps = tt
index_on_kill redo loaded (Posted message neighbour) keeps = tt
index_on_kill redo loaded (Headed at) keeps = tt
index_on_kill redo loaded (Edited place message) keeps = tt
index_on_kill redo loaded (Killed place) keeps = keeps
index_on_kill redo loaded (Relinked plan) keeps = tt
index_on_kill redo loaded (Marked place mark) keeps = tt
index_on_kill redo loaded (Packed plan base) keeps = tt
