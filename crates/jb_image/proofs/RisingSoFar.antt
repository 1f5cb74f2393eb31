-- The loading of slots whose headers rise: what is known of those so far.
use Rattle.std.proofs.Common.{◌≡◌, ℕ, ◌+◌, ◌<◌, List, [], ◌∷◌, ◌++◌, length, ap, sym, ◌∙◌, subst, arith}
use Rattle.std.specs.Prelude.{All, AllPairs}
use Rattle.std.specs.Option.{ForSome}
use Rattle.std.proofs.lemmas.List.{length_push}
use Rattle.std.proofs.lemmas.List.Elements.{All-push, All-weaker}
use Rattle.std.proofs.lemmas.List.Quantifiers.{all_pairs_push}
use Rattle.jb_disk.specs.Device.{Device, OnlyReads}
use Rattle.jb_state.specs.declared.loaded.LoadedSlot.{LoadedSlot}
use Rattle.jb_state.specs.Sound.{AreApart, Covers, IsSlotWithin}
use Rattle.jb_image.specs.declared.seen.SeenSlot.{SeenSlot}
use Rattle.jb_image.specs.Places.{entry_in}
use Rattle.jb_image.specs.Reading.{AreSlotsOf, IsEndBehind, IsLoadedFrom, IsSeenWithin, extent_seen}
use Rattle.jb_image.specs.Stands.{HasSlot}
use Rattle.jb_image.proofs.HeaderExtents.{covers_held, within_loaded}
use Rattle.jb_image.proofs.SlotsSoFar.{AreWholeSoFar, AreWholeSoFar-next, each_push}

-- the bytes of the header lie below this place
abbrev pub IsBelow : ℕ → LoadedSlot → Type 0
IsBelow end slot = (i : ℕ) → Covers slot i → i < end

-- k slots are loaded, whose headers rise and end here
pub record AreRisingSoFar (old now : Device) (headers_len texts_len k end : ℕ) (slots : List LoadedSlot) : Type 0 where
  pub whole : AreWholeSoFar old now k
  pub count_is : length slots ≡ k
  pub named : ForSome old.contents (λ files. AreSlotsOf files slots)
  pub within : All (IsSlotWithin headers_len texts_len) slots
  pub apart : AllPairs AreApart slots
  pub below : All (IsBelow end) slots

-- one slot more
pub AreRisingSoFar-next : (old mid new : Device) (headers_len texts_len k end behind : ℕ) (slots pushed : List LoadedSlot) (seen : SeenSlot) (slot : LoadedSlot)
    → AreRisingSoFar old mid headers_len texts_len k end slots → OnlyReads mid new → new.faults ≡ mid.faults → pushed ≡ slots ++ slot ∷ []
    → IsSeenWithin headers_len seen → IsLoadedFrom texts_len seen slot → IsEndBehind (extent_seen seen) end behind
    → ForSome old.contents (λ files. HasSlot files (entry_in files k) slot)
    → AreRisingSoFar old new headers_len texts_len (k + 1) behind pushed
AreRisingSoFar-next old mid new headers_len texts_len k end behind slots pushed seen slot so_far kept quiet pushed_is within from ends told =
    subst (AreRisingSoFar old new headers_len texts_len (k + 1) behind) (sym pushed_is) (record {
      whole = AreWholeSoFar-next old mid new k slot so_far.whole kept quiet told;
      count_is = length_push slots slot ∙ ap (λ (n : ℕ). n + 1) so_far.count_is;
      named = λ files contents_is.
          each_push (λ j s. HasSlot files (entry_in files j) s) slots slot k so_far.count_is (so_far.named files contents_is) (told files contents_is);
      within = All-push (IsSlotWithin headers_len texts_len) slots slot so_far.within (within_loaded headers_len texts_len seen slot within from);
      apart = all_pairs_push AreApart slots slot so_far.apart
          (λ j d low i covers covers'. absurd (omega (arith, so_far.below j d low i covers, ends.begin i (covers_held texts_len seen slot i from covers'))));
      below = All-push (IsBelow behind) slots slot
          (All-weaker (IsBelow end) (IsBelow behind) (λ x low i covers. omega (arith, low i covers, ends.later)) slots so_far.below)
          (λ i covers. ends.below i (covers_held texts_len seen slot i from covers));
    })
