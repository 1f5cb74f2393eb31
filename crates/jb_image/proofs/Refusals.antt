-- From a damaged slot or an overlap to the answer.
use Rattle.std.proofs.Common.{◌≡◌, ℕ, ◌+◌, ◌<◌, Option, Some, None, Result, Ok, Err, ap, sym, ◌∙◌, subst}
use Rattle.std.specs.Prelude.{IfErr, IfNone, IfSome, IsErrAnd}
use Rattle.std.specs.Option.{ForSome}
use Rattle.jb_disk.specs.Files.{Files}
use Rattle.jb_image.specs.declared.error.Damage.{Damage}
use Rattle.jb_image.specs.declared.error.Damage.TheVariants as damaged
use Rattle.jb_image.specs.declared.error.OpenError.{OpenError}
use Rattle.jb_image.specs.declared.error.OpenError.TheVariants as refused
use Rattle.jb_image.specs.declared.error.ReadError.{ReadError}
use Rattle.jb_image.specs.declared.error.ReadError.TheVariants as unread
use Rattle.jb_image.specs.Answers.{IsDamaged, IsFirstDamaged, unopened, refusal_of}
use Rattle.jb_image.specs.Places.{entry_in, fixed_in}
use Rattle.jb_image.specs.Reading.{IsRefusedAmongSlots, IsRefusedBySlot}
use Rattle.jb_image.specs.Tests.{IsWholeSlot, slots_in}

-- what holds anyhow holds where there is none
pub if_none_given : {X P : Type 0} (o : Option X) → P → IfNone o P
if_none_given None given = given
if_none_given (Some x) given = tt

-- what holds where there is none, and there is not one
pub from_if_none : {X P : Type 0} (o : Option X) → IfSome o (λ _. ⊥) → IfNone o P → P
from_if_none None none given = given
from_if_none (Some x) none given = absurd none

-- what holds of one where the disk tells its files
pub if_some_told : {X : Type 0} (o : Option X) (contents : Option Files) (files : Files) (P : Files → X → Type 0) → contents ≡ Some files
    → IfSome o (λ x. ForSome contents (λ told. P told x)) → IfSome o (P files)
if_some_told None contents files P is given = tt
if_some_told (Some x) contents files P is given = given files is

-- the first damaged slot, as its refusal
refused_as : (files : Files) (number : ℕ) (damage : Damage) → IsFirstDamaged files number damage → IsRefusedBySlot files (refusal_of number damage)
refused_as files number damaged.HeaderPlace first = first
refused_as files number damaged.HeaderSignature first = first
refused_as files number damaged.HeaderRevision first = first
refused_as files number (damaged.Subfields at) first = first
refused_as files number damaged.TextPlace first = first

-- the first damaged slot, as a refusal that is the same
pub refused_by_slot : (files : Files) (number : ℕ) (damage : Damage) (error : OpenError) → error ≡ refusal_of number damage
    → IsFirstDamaged files number damage → IsRefusedBySlot files error
refused_by_slot files number damage error error_is first = subst (IsRefusedBySlot files) (sym error_is) (refused_as files number damage first)

-- a damaged slot behind whole ones is the first
pub first_damaged : (files : Files) (base number slot : ℕ) (damage : Damage) → base ≡ (fixed_in files).base → number ≡ base + slot
    → slot < slots_in files → ((k : ℕ) → k < slot → IsWholeSlot files (entry_in files k)) → IsDamaged files (entry_in files slot) damage
    → IsFirstDamaged files number damage
first_damaged files base number slot damage base_is number_is inside lower here = record {
  slot = slot;
  numbered = number_is ∙ ap (λ (n : ℕ). n + slot) base_is;
  inside = inside;
  lower = lower;
  damaged = here;
}

-- a refusal for a slot is one for the slots
pub refused_among_slots : (files : Files) (error : OpenError) → IsRefusedBySlot files error → IsRefusedAmongSlots files error
refused_among_slots files (refused.HeadersOverlap a b) is = absurd is
refused_among_slots files _ is = is

-- a part that is not read is no refusal of a slot
opened_refused : (files : Files) (part : ReadError) → IsRefusedBySlot files (unopened part)
opened_refused files unread.StoreFault = tt
opened_refused files unread.OutOfMemory = tt

-- the same of what is answered then
pub opening_refused : {T : Type 0} (result : Result T OpenError) (contents : Option Files) (part : ReadError) → IsErrAnd result (λ (error : OpenError). error ≡ unopened part)
    → IfErr result (λ (error : OpenError). ForSome contents (λ files. IsRefusedBySlot files error))
opening_refused (Ok value) contents part is = tt
opening_refused (Err error) contents part is = λ files contents_is. subst (IsRefusedBySlot files) (sym is) (opened_refused files part)
