-- New lengths set one after another.
use Rattle.std.proofs.Common.{◌≡◌, ◌≢◌, inl, inr, zero, suc, ℕ, ◌+◌, ◌<◌, List, [], ◌∷◌, All, length, drop, get_or, refl, ap, sym, ◌∙◌, subst, arith, Option, Some, None, Result, Ok}
use Rattle.std.specs.List.{AllPairs}
use Rattle.std.proofs.lemmas.Bool.{cases_eq}
use Rattle.std.proofs.lemmas.List.{drop_more}
use Rattle.std.proofs.lemmas.List.Elements.{All-head, All-tail}
use Rattle.jb_disk.specs.declared.file.FileId.{FileId}
use Rattle.jb_disk.specs.declared.piece.Length.{Length}
use Rattle.jb_disk.specs.declared.piece.Piece.{Piece}
use Rattle.jb_disk.specs.Files.{Files, file_number, IsResized, InFile}
use Rattle.jb_disk.specs.FileLaws.{same_file, number-injective}
use Rattle.jb_disk.specs.Steps.{Cut}
use Rattle.jb_disk.specs.Device.{Device, TellsAlike, Turns, Resizes, TellsAnImage, and_then}
use Rattle.jb_disk.specs.Images.{Images, cut, with_image}
use Rattle.jb_disk.specs.Runs.{Keeps}
use Rattle.jb_disk.proofs.RunLemmas.{keeps-refl, keeps-then, keeps-resize}
use Rattle.jb_redo.specs.OnTheWay.{IsOnTheWay}
use Rattle.jb_redo.specs.Rules.{sizes_of, with_size, new_sizes, IsBefore}
use Rattle.jb_redo.proofs.SizeLemmas.{with_size-here, with_size-other}
use Rattle.jb_redo.proofs.WayLemmas.{way_cut, resized_same}
use Rattle.jb_journal.specs.Coming.{ComeBy}
use Rattle.jb_journal.specs.Filing.{HaveNewLengths}
use Rattle.jb_journal.proofs.ComingLemmas.{come_none, come_then, come_resized}

-- a file that none of them sets
pub none_sets : (lengths : List Length) (sizes : FileId → ℕ) (file : FileId) → All (λ entry. file_number (entry.file) ≢ file_number file) lengths → new_sizes lengths sizes file ≡ sizes file
none_sets [] sizes file none = refl
none_sets (entry ∷ lengths) sizes file none =
    none_sets lengths (with_size entry sizes) file (All-tail (λ (e : Length). file_number (e.file) ≢ file_number file) entry lengths none)
    ∙ with_size-other entry sizes file (λ same. All-head (λ (e : Length). file_number (e.file) ≢ file_number file) entry lengths none (sym same))

-- a file's new length hangs on its old one alone
pub sizes_agree : (lengths : List Length) (one other : FileId → ℕ) (file : FileId) → one file ≡ other file → new_sizes lengths one file ≡ new_sizes lengths other file
sizes_agree [] one other file same = same
sizes_agree (first ∷ lengths) one other file same = sizes_agree lengths (with_size first one) (with_size first other) file (elim (cases_eq (file_number file) (file_number first.file)) [
  | inl here ↦ with_size-here first one file here ∙ sym (with_size-here first other file here)
  | inr apart ↦ with_size-other first one file apart ∙ same ∙ sym (with_size-other first other file apart)
])

-- the later ones are of other files
later_apart : (entry : Length) (lengths : List Length) → All (IsBefore entry) lengths → All (λ other. file_number (other.file) ≢ file_number (entry.file)) lengths
later_apart entry lengths later = λ k d low same. let less = later k d low in omega (arith, same, less)

-- the first of a rising list and the rest
pairs_head : (entry : Length) (lengths : List Length) → AllPairs IsBefore (entry ∷ lengths) → All (IsBefore entry) lengths
pairs_head entry lengths rising = λ k d low. rising 0 (suc k) d (omega arith) (omega arith)

-- the rest is rising
pairs_tail : (entry : Length) (lengths : List Length) → AllPairs IsBefore (entry ∷ lengths) → AllPairs IsBefore lengths
pairs_tail entry lengths rising = λ i j d less low. rising (suc i) (suc j) d (omega arith) (omega arith)

-- in a rising list, each sets what it says
pub set_at : (lengths : List Length) (i : ℕ) (d : Length) (sizes : FileId → ℕ) → AllPairs IsBefore lengths → i < length lengths → new_sizes lengths sizes (get_or lengths i d).file ≡ (get_or lengths i d).len
set_at [] i d sizes rising low = absurd (omega arith)
set_at (entry ∷ lengths) zero d sizes rising low =
    none_sets lengths (with_size entry sizes) entry.file (later_apart entry lengths (pairs_head entry lengths rising)) ∙ with_size-here entry sizes entry.file refl
set_at (entry ∷ lengths) (suc i) d sizes rising low = set_at lengths i d (with_size entry sizes) (pairs_tail entry lengths rising) (omega arith)

-- one length set, and then the rest
resized_more : (entry : Length) (lengths : List Length) (before mid after : Files) → All (IsBefore entry) lengths → InFile entry.file (IsResized entry.len) before mid → HaveNewLengths lengths mid after
    → HaveNewLengths (entry ∷ lengths) before after
resized_more entry lengths before mid after later step rest file = elim (same_file file entry.file) [
  | inl same ↦ subst (λ (f : FileId). IsResized (new_sizes (entry ∷ lengths) (sizes_of before) f) (before f) (after f)) (sym same)
      (let apart = later_apart entry lengths later in
      let size = step.here.size in
      let given : new_sizes (entry ∷ lengths) (sizes_of before) entry.file ≡ entry.len = none_sets lengths (with_size entry (sizes_of before)) entry.file apart ∙ with_size-here entry (sizes_of before) entry.file refl in
      let kept : new_sizes lengths (sizes_of mid) entry.file ≡ length (mid entry.file) = none_sets lengths (sizes_of mid) entry.file apart in
      let stays : after entry.file ≡ mid entry.file = resized_same _ _ _ kept (rest entry.file) in
      subst (λ (n : ℕ). IsResized n (before entry.file) (after entry.file)) (sym given) (subst (IsResized entry.len (before entry.file)) (sym stays) step.here))
  | inr other ↦
      let same : mid file ≡ before file = step.others file other in
      let is : new_sizes lengths (sizes_of mid) file ≡ new_sizes (entry ∷ lengths) (sizes_of before) file = sizes_agree lengths (sizes_of mid) (with_size entry (sizes_of before)) file (ap length same ∙ sym (with_size-other entry (sizes_of before) file (λ e. other (number-injective file entry.file e)))) in
      subst (λ (n : ℕ). IsResized n (before file) (after file)) is (subst (λ (l : List ℕ). IsResized (new_sizes lengths (sizes_of mid) file) l (after file)) same (rest file))
]

-- nothing is set
resized_none : (files : Files) → HaveNewLengths [] files files
resized_none files file = record { size = refl; same = λ i within low. refl }

-- these lengths of all are still to be set
pub record Setting (initial now : Device) (lengths rest : List Length) : Type 0 where
  pub rising : AllPairs IsBefore rest
  pub told : (final : Option Files) → Turns (HaveNewLengths rest) now.contents final → Turns (HaveNewLengths lengths) initial.contents final
  pub come : (final : List Images) → ComeBy rest [] now.moments final → ComeBy lengths [] initial.moments final
  pub counted : now.faults ≡ initial.faults
  pub alike : TellsAlike initial now
  pub keeps : (pieces : List Piece) (start : Files) → Keeps (IsOnTheWay lengths pieces start) initial now

-- none is set yet
pub setting_start : (device : Device) (lengths : List Length) → AllPairs IsBefore lengths → Setting device device lengths lengths
setting_start device lengths rising = record {
  rising = rising;
  told = λ final turns. turns;
  come = λ final rest. rest;
  counted = refl;
  alike = refl;
  keeps = λ pieces start. keeps-refl (IsOnTheWay lengths pieces start) device;
}

-- what is told, one length on
told_more : (entry : Length) (lengths : List Length) (before mid after : Option Files) → All (IsBefore entry) lengths → Turns (InFile entry.file (IsResized entry.len)) before mid → Turns (HaveNewLengths lengths) mid after
    → Turns (HaveNewLengths (entry ∷ lengths)) before after
told_more entry lengths None None None later first rest = tt
told_more entry lengths None None (Some c) later first rest = absurd rest
told_more entry lengths None (Some b) after later first rest = absurd first
told_more entry lengths (Some a) None after later first rest = absurd first
told_more entry lengths (Some a) (Some b) None later first rest = absurd rest
told_more entry lengths (Some a) (Some b) (Some c) later first rest = resized_more entry lengths a b c later first rest

-- a new length of a file on its way
pub keeps_set : {T E : Type 0} (lengths : List Length) (i : ℕ) (d : Length) (old new : Device) (result : Result T E) → AllPairs IsBefore lengths → i < length lengths
    → TellsAnImage old → TellsAnImage new → Resizes (get_or lengths i d).file (get_or lengths i d).len old new result → (pieces : List Piece) (start : Files) → Keeps (IsOnTheWay lengths pieces start) old new
keeps_set lengths i d old new result rising low tells_old tells_new resizes pieces start =
    let entry = get_or lengths i d in
    let same : new_sizes lengths (sizes_of start) entry.file ≡ entry.len = set_at lengths i d (sizes_of start) rising low in
    keeps-resize (IsOnTheWay lengths pieces start) entry.file entry.len old new result tells_old tells_new resizes
    (λ before after way step. way_cut lengths pieces start entry.file before after way (subst (λ (n : ℕ). InFile entry.file (Cut n) before after) (sym same) step))

-- one length more
pub setting_on : {T E : Type 0} (initial now next : Device) (lengths : List Length) (i : ℕ) (d : Length) (value : T) → Setting initial now lengths (drop i lengths) → AllPairs IsBefore lengths → i < length lengths
    → TellsAnImage now → TellsAnImage next → Resizes {T = T} {E = E} (get_or lengths i d).file (get_or lengths i d).len now next (Ok value)
    → next.moments ≡ and_then (with_image (get_or lengths i d).file (cut (get_or lengths i d).len)) now.moments → next.faults ≡ now.faults → TellsAlike now next → Setting initial next lengths (drop (i + 1) lengths)
setting_on initial now next lengths i d value setting rising low tells_now tells_next resizes moments kept alike =
    let entry = get_or lengths i d in
    let more : drop i lengths ≡ entry ∷ drop (i + 1) lengths = drop_more lengths i d low in
    let pairs : AllPairs IsBefore (entry ∷ drop (i + 1) lengths) = subst (AllPairs IsBefore) more setting.rising in
    record {
      rising = pairs_tail entry (drop (i + 1) lengths) pairs;
      told = λ final rest. setting.told final (subst (λ (l : List Length). Turns (HaveNewLengths l) now.contents final) (sym more) (told_more entry (drop (i + 1) lengths) now.contents next.contents final (pairs_head entry (drop (i + 1) lengths) pairs) resizes.done rest));
      come = λ final rest. setting.come final (subst (λ (l : List Length). ComeBy l [] now.moments final) (sym more)
          (come_then (entry ∷ []) (drop (i + 1) lengths) [] [] now.moments next.moments final (come_resized entry now.moments next.moments moments) rest));
      counted = kept ∙ setting.counted;
      alike = alike ∙ setting.alike;
      keeps = λ pieces start. keeps-then (IsOnTheWay lengths pieces start) initial now next (setting.keeps pieces start) (keeps_set lengths i d now next (Ok value) rising low tells_now tells_next resizes pieces start);
    }

-- all are set
pub setting_end : (initial now : Device) (lengths rest : List Length) → Setting initial now lengths rest → rest ≡ [] → Turns (HaveNewLengths lengths) initial.contents now.contents
setting_end initial now lengths rest setting none = setting.told now.contents (subst (λ (l : List Length). Turns (HaveNewLengths l) now.contents now.contents) (sym none) (same now.contents))
  where
    same : (contents : Option Files) → Turns (HaveNewLengths []) contents contents
    same None = tt
    same (Some files) = resized_none files

-- by these lengths
pub setting_come : (initial now : Device) (lengths rest : List Length) → Setting initial now lengths rest → rest ≡ [] → ComeBy lengths [] initial.moments now.moments
setting_come initial now lengths rest setting none = setting.come now.moments (subst (λ (l : List Length). ComeBy l [] now.moments now.moments) (sym none) (come_none now.moments))
