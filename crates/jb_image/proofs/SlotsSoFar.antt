-- Loops over the slots: what is known of those so far.
use Rattle.std.proofs.Common.{◌≡◌, inl, inr, ℕ, ◌+◌, ◌<◌, List, [], ◌∷◌, ◌++◌, length, ap, sym, ◌∙◌, subst, arith}
use Rattle.std.specs.Prelude.{slice_index_or, All}
use Rattle.std.specs.Option.{ForSome}
use Rattle.std.proofs.lemmas.List.{get_or_push, get_or_append_left, length_push}
use Rattle.std.proofs.lemmas.Bool.{cases_lt}
use Rattle.std.proofs.lemmas.List.Elements.{All-push}
use Rattle.jb_disk.specs.Device.{Device, OnlyReads}
use Rattle.jb_disk.specs.Files.{Files}
use Rattle.jb_state.specs.declared.loaded.LoadedSlot.{LoadedSlot}
use Rattle.jb_state.specs.declared.mark.Mark.{Mark}
use Rattle.jb_image.specs.declared.seen.SeenSlot.{SeenSlot}
use Rattle.jb_image.specs.Places.{entry_in, mark_record_at}
use Rattle.jb_image.specs.Reading.{AreSlotsOf, IsLoadedFrom, IsSeenAs, IsSeenWithin}
use Rattle.jb_image.specs.Stands.{HasSlot, mark_record}
use Rattle.jb_image.specs.Tests.{IsWholeSlot}
use Rattle.jb_image.proofs.FileBytes.{reads_on}
use Rattle.jb_image.proofs.Opened.{has_slot_whole}

-- a fact of each place and item, with one item more
pub each_push : {X : Type 0} (P : ℕ → X → Type 0) (xs : List X) (x : X) (k : ℕ) → length xs ≡ k
    → ((j : ℕ) (d : X) → j < length xs → P j (slice_index_or xs j d)) → P k x
    → (j : ℕ) (d : X) → j < length (xs ++ x ∷ []) → P j (slice_index_or (xs ++ x ∷ []) j d)
each_push P xs x k count_is each here j d low = elim (cases_lt j (length xs)) [
  | inl below ↦ subst (P j) (sym (get_or_append_left xs (x ∷ []) d j below)) (each j d below)
  | inr not_below ↦
      let same : j ≡ k = omega (arith, length_push xs x) in
      let Q : ℕ → Type 0 = λ n. P n (slice_index_or (xs ++ x ∷ []) n d) in
      subst Q (sym same) (subst (P k) (sym (get_or_push xs x d k count_is)) here)
]

-- the slots that were seen are those of the index
abbrev pub SeenTold : Files → List SeenSlot → Type 0
SeenTold files slots = (j : ℕ) (d : SeenSlot) → j < length slots → IsSeenAs files (entry_in files j) (slice_index_or slots j d)

-- the headers of k slots are read
pub record AreSeenSoFar (old now : Device) (headers_len k : ℕ) (slots : List SeenSlot) : Type 0 where
  pub kept : OnlyReads old now
  pub quiet : now.faults ≡ old.faults
  pub count_is : length slots ≡ k
  pub within : All (IsSeenWithin headers_len) slots
  pub told : ForSome old.contents (λ files. SeenTold files slots)

-- one header more
pub AreSeenSoFar-next : (old mid new : Device) (headers_len k : ℕ) (slots pushed : List SeenSlot) (slot : SeenSlot)
    → AreSeenSoFar old mid headers_len k slots → OnlyReads mid new → new.faults ≡ mid.faults → pushed ≡ slots ++ slot ∷ []
    → IsSeenWithin headers_len slot → ForSome old.contents (λ files. IsSeenAs files (entry_in files k) slot)
    → AreSeenSoFar old new headers_len (k + 1) pushed
AreSeenSoFar-next old mid new headers_len k slots pushed slot so_far kept quiet pushed_is within told =
    subst (AreSeenSoFar old new headers_len (k + 1)) (sym pushed_is) (record {
      kept = reads_on old mid new so_far.kept kept;
      quiet = quiet ∙ so_far.quiet;
      count_is = length_push slots slot ∙ ap (λ (n : ℕ). n + 1) so_far.count_is;
      within = All-push (IsSeenWithin headers_len) slots slot so_far.within within;
      told = λ files contents_is.
          each_push (λ j s. IsSeenAs files (entry_in files j) s) slots slot k so_far.count_is (so_far.told files contents_is) (told files contents_is);
    })

-- k slots are whole
pub record AreWholeSoFar (old now : Device) (k : ℕ) : Type 0 where
  pub kept : OnlyReads old now
  pub quiet : now.faults ≡ old.faults
  pub told : ForSome old.contents (λ files. (j : ℕ) → j < k → IsWholeSlot files (entry_in files j))

-- what holds below k and at k holds below k + 1
below_next : (P : ℕ → Type 0) (k : ℕ) → ((j : ℕ) → j < k → P j) → P k → (j : ℕ) → j < k + 1 → P j
below_next P k below here j low = elim (cases_lt j k) [
  | inl less ↦ below j less
  | inr not_less ↦
      let same : k ≡ j = omega arith in
      subst P same here
]

-- one slot more, which is whole
pub AreWholeSoFar-with : (old mid new : Device) (k : ℕ) → AreWholeSoFar old mid k → OnlyReads mid new → new.faults ≡ mid.faults
    → ForSome old.contents (λ files. IsWholeSlot files (entry_in files k)) → AreWholeSoFar old new (k + 1)
AreWholeSoFar-with old mid new k so_far kept quiet here = record {
  kept = reads_on old mid new so_far.kept kept;
  quiet = quiet ∙ so_far.quiet;
  told = λ files contents_is. below_next (λ j. IsWholeSlot files (entry_in files j)) k (so_far.told files contents_is) (here files contents_is);
}

-- one slot more, which is loaded
pub AreWholeSoFar-next : (old mid new : Device) (k : ℕ) (slot : LoadedSlot) → AreWholeSoFar old mid k → OnlyReads mid new → new.faults ≡ mid.faults
    → ForSome old.contents (λ files. HasSlot files (entry_in files k) slot) → AreWholeSoFar old new (k + 1)
AreWholeSoFar-next old mid new k slot so_far kept quiet told =
    AreWholeSoFar-with old mid new k so_far kept quiet (λ files contents_is. has_slot_whole files (entry_in files k) slot (told files contents_is))

-- slots are loaded from those that were seen, each from the one at its place
abbrev pub LoadedSoFar : ℕ → List SeenSlot → List LoadedSlot → Type 0
LoadedSoFar texts_len seen slots = (j : ℕ) (e : LoadedSlot) → j < length slots → (d : SeenSlot) → IsLoadedFrom texts_len (slice_index_or seen j d) (slice_index_or slots j e)

-- k slots are loaded
pub record AreLoadedSoFar (old now : Device) (texts_len k : ℕ) (seen : List SeenSlot) (slots : List LoadedSlot) : Type 0 where
  pub whole : AreWholeSoFar old now k
  pub count_is : length slots ≡ k
  pub each : LoadedSoFar texts_len seen slots
  pub named : ForSome old.contents (λ files. AreSlotsOf files slots)

-- one slot more
pub AreLoadedSoFar-next : (old mid new : Device) (texts_len k : ℕ) (seen : List SeenSlot) (slots pushed : List LoadedSlot) (slot : LoadedSlot)
    → AreLoadedSoFar old mid texts_len k seen slots → OnlyReads mid new → new.faults ≡ mid.faults → pushed ≡ slots ++ slot ∷ []
    → ((d : SeenSlot) → IsLoadedFrom texts_len (slice_index_or seen k d) slot) → ForSome old.contents (λ files. HasSlot files (entry_in files k) slot)
    → AreLoadedSoFar old new texts_len (k + 1) seen pushed
AreLoadedSoFar-next old mid new texts_len k seen slots pushed slot so_far kept quiet pushed_is here told =
    subst (AreLoadedSoFar old new texts_len (k + 1) seen) (sym pushed_is) (record {
      whole = AreWholeSoFar-next old mid new k slot so_far.whole kept quiet told;
      count_is = length_push slots slot ∙ ap (λ (n : ℕ). n + 1) so_far.count_is;
      each = each_push (λ j s. (d : SeenSlot) → IsLoadedFrom texts_len (slice_index_or seen j d) s) slots slot k so_far.count_is so_far.each here;
      named = λ files contents_is.
          each_push (λ j s. HasSlot files (entry_in files j) s) slots slot k so_far.count_is (so_far.named files contents_is) (told files contents_is);
    })

-- k marks are read
pub record AreMarksSoFar (old now : Device) (k : ℕ) (marks : List Mark) : Type 0 where
  pub kept : OnlyReads old now
  pub quiet : now.faults ≡ old.faults
  pub count_is : length marks ≡ k
  pub told : ForSome old.contents (λ files. (j : ℕ) (d : Mark) → j < length marks → mark_record (slice_index_or marks j d) ≡ mark_record_at files j)

-- one mark more
pub AreMarksSoFar-next : (old mid new : Device) (k : ℕ) (marks pushed : List Mark) (mark : Mark) → AreMarksSoFar old mid k marks → OnlyReads mid new
    → new.faults ≡ mid.faults → pushed ≡ marks ++ mark ∷ [] → ForSome mid.contents (λ files. mark_record mark ≡ mark_record_at files k)
    → AreMarksSoFar old new (k + 1) pushed
AreMarksSoFar-next old mid new k marks pushed mark so_far kept quiet pushed_is told =
    subst (AreMarksSoFar old new (k + 1)) (sym pushed_is) (record {
      kept = reads_on old mid new so_far.kept kept;
      quiet = quiet ∙ so_far.quiet;
      count_is = length_push marks mark ∙ ap (λ (n : ℕ). n + 1) so_far.count_is;
      told = λ files contents_is.
          each_push (λ j m. mark_record m ≡ mark_record_at files j) marks mark k so_far.count_is (so_far.told files contents_is)
          (told files (so_far.kept.contents ∙ contents_is));
    })
