-- The calls by which moments come.
use Rattle.std.specs.Prelude.{◌≡◌, ◌⊎◌, ℕ, ◌+◌, List, [], ◌∷◌, ◌++◌}
use Rattle.jb_disk.specs.declared.file.FileId.{FileId}
use Rattle.jb_disk.specs.declared.file.FileId.TheVariants.{Jhr, Jdt, Jdx, Jlr, Jnl}
use Rattle.jb_disk.specs.declared.piece.Length.{Length}
use Rattle.jb_disk.specs.declared.piece.Piece.{Piece}
use Rattle.jb_disk.specs.RedoView.{RedoView}
use Rattle.jb_disk.specs.Device.{and_then}
use Rattle.jb_disk.specs.Images.{Images, just_synced, torn, cut, with_image}
use Rattle.jb_redo.specs.Changes.{record_size}
use Rattle.jb_journal.specs.Filing.{IsUnmentioned}

-- a call that was done, by what it makes of what a crash may leave
pub data Done : Type 0 where
  Wrote : (file : FileId) (at len : ℕ) → Done
  Resized : (entry : Length) → Done
  Synced : (file : FileId) (bytes : List ℕ) → Done

-- what it makes of that
abbrev pub made_by : Done → Images → Images
made_by (Wrote file at len) = with_image file (torn at len)
made_by (Resized entry) = with_image entry.file (cut entry.len)
made_by (Synced file bytes) = with_image file (λ _. just_synced bytes)

-- the moments after these calls, in order
abbrev pub moments_after : List Done → List Images → List Images
moments_after [] moments = moments
moments_after (call ∷ calls) moments = moments_after calls (and_then (made_by call) moments)

-- the lengths that they set
abbrev pub lengths_of : List Done → List Length
lengths_of [] = []
lengths_of (Wrote file at len ∷ calls) = lengths_of calls
lengths_of (Resized entry ∷ calls) = entry ∷ lengths_of calls
lengths_of (Synced file bytes ∷ calls) = lengths_of calls

-- the files that they sync
abbrev pub syncs_of : List Done → List FileId
syncs_of [] = []
syncs_of (Wrote file at len ∷ calls) = syncs_of calls
syncs_of (Resized entry ∷ calls) = syncs_of calls
syncs_of (Synced file bytes ∷ calls) = file ∷ syncs_of calls

-- the moments that have come came by these new lengths and these syncs, in order, and by writes, and by no other call
pub record ComeBy (lengths : List Length) (syncs : List FileId) (old new : List Images) : Type 0 where
  pub calls : List Done
  pub all : new ≡ moments_after calls old
  pub lengths_are : lengths_of calls ≡ lengths
  pub syncs_are : syncs_of calls ≡ syncs

-- this one file, where the change speaks of it, and else none
abbrev pub IsOneIfChanged : List Length → List Piece → FileId → List FileId → Type 0
IsOneIfChanged lengths pieces file syncs = ((syncs ≡ []) × IsUnmentioned lengths pieces file) ⊎ ((syncs ≡ file ∷ []) × (IsUnmentioned lengths pieces file → ⊥))

-- each file of the base of which the change speaks once, in the order of the files, and no other
pub record AreChanged (lengths : List Length) (pieces : List Piece) (syncs : List FileId) : Type 0 where
  pub headers : List FileId
  pub texts : List FileId
  pub index : List FileId
  pub lastread : List FileId
  pub headers_are : IsOneIfChanged lengths pieces Jhr headers
  pub texts_are : IsOneIfChanged lengths pieces Jdt texts
  pub index_is : IsOneIfChanged lengths pieces Jdx index
  pub lastread_is : IsOneIfChanged lengths pieces Jlr lastread
  pub all : syncs ≡ headers ++ (texts ++ (index ++ lastread))

-- this one file was synced where the change speaks of it, and else no call was made
pub record SyncsIfChanged (lengths : List Length) (pieces : List Piece) (file : FileId) (old new : List Images) : Type 0 where
  pub syncs : List FileId
  pub one : IsOneIfChanged lengths pieces file syncs
  pub come : ComeBy [] syncs old new

-- these lengths were set, and the changed files of the base were synced, with these files before them and those behind
pub record SyncsChanged (front back : List FileId) (set lengths : List Length) (pieces : List Piece) (old new : List Images) : Type 0 where
  pub files : List FileId
  pub changed : AreChanged lengths pieces files
  pub come : ComeBy set (front ++ files ++ back) old new

-- the journal's length with the record of a change
abbrev pub journal_length : RedoView → Length
journal_length change = record { file = Jnl; len = 16 + record_size change }

-- the journal was synced with the record and with the gate open, then each file of which the change speaks, then the journal with the gate closed, and no other file
abbrev pub HasSynced : RedoView → List Images → List Images → Type 0
HasSynced change old new = SyncsChanged (Jnl ∷ Jnl ∷ []) (Jnl ∷ []) (journal_length change ∷ change.lengths) change.lengths change.pieces old new
