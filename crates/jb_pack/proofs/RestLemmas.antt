-- Steps that copy nothing, and what one copies at most.
use Rattle.std.proofs.Common.{◌≡◌, inl, inr, ℕ, false, zero, suc, ◌+◌, ◌≤◌, nat_lt, List, [], ◌∷◌, ◌++◌, length, take, drop, replicate, refl, sym, ◌∙◌, ap, subst, arith}
use Rattle.std.specs.Prelude.{sum}
use Rattle.std.proofs.lemmas.List.Sums.{sum_by-cons, sum_by-take-le}
use Rattle.jb_limits.specs.declared.limits.TheConstants.{SHADOW_CEILING}
use Rattle.jb_disk.specs.Device.{Device}
use Rattle.jb_state.specs.declared.loaded.Loaded.{Loaded}
use Rattle.jb_state.specs.declared.loaded.LoadedSlot.{LoadedSlot}
use Rattle.jb_pack.specs.Advance.{Copies, CopiesFirst}
use Rattle.jb_pack.specs.Reaching.{IsReach, Starts, StopsFor, leaves_more, most_for, most_of}
use Rattle.jb_pack.specs.Shadow.{Shadow, left, left_first, lefts}
use Rattle.jb_pack.specs.declared.copied.CopiedText.{CopiedText}
use Rattle.jb_pack.specs.declared.reaching.Reach.{Reach}
use Rattle.jb_pack.specs.declared.reaching.Stop.{Stop}
use Rattle.jb_pack.specs.declared.reaching.Stop.TheVariants.{Budget, Ceiling, End}
use Rattle.jb_pack.specs.declared.run.Run.{Run}
use Rattle.jb_pack.proofs.CopiesLemmas.{IsCopying, sum_fewer}
use Rattle.jb_pack.proofs.PackerLemmas.{goes_on, more_is}
use Rattle.jb_pack.proofs.ShadowLemmas.{length-lefts}

-- numbers that are nothing together are as they were, once each of them is nothing
first_zero : (count : ℕ) (numbers : List ℕ) → count ≤ length numbers → sum (take count numbers) ≡ 0 → replicate count 0 ++ drop count numbers ≡ numbers
first_zero zero numbers within none = refl
first_zero (suc k) [] within none = absurd (omega (arith, within))
first_zero (suc k) (n ∷ numbers) within none =
    let parts = sum_by-cons (λ (n : ℕ). n) n (take k numbers) in
    let here : 0 ≡ n = omega (arith, parts, none) in
    λ i. here i ∷ first_zero k numbers (omega (arith, within)) (omega (arith, parts, none)) i

-- nothing is to be copied of the first so many, and nothing is
pub copies_none : (count : ℕ) (slots : List LoadedSlot) (shadow : Shadow) → count ≤ length slots → left_first count shadow slots ≡ 0 → CopiesFirst count slots shadow shadow
copies_none count slots shadow within none = record {
  within = within;
  left = sym (first_zero count (lefts shadow.texts slots) (omega (arith, within, length-lefts shadow.texts slots)) none);
  len = omega (arith, none);
}

-- the stop of copies of which as much is left
stop_alike : (budget count : ℕ) (slots : List LoadedSlot) (a b : Shadow) (stop : Stop) → left_first (count + 1) a slots ≡ left_first (count + 1) b slots → a.len ≡ b.len
    → StopsFor stop count budget slots a → StopsFor stop count budget slots b
stop_alike budget count slots a b End same len stops = stops
stop_alike budget count slots a b Budget same len stops = omega (arith, stops, same)
stop_alike budget count slots a b Ceiling same len stops =
    let fits = stops.0 in
    let full = stops.1 in
    (omega (arith, fits, same), omega (arith, full, same, len))

-- how far they may be copied
pub reach_alike : (budget : ℕ) (slots : List LoadedSlot) (a b : Shadow) (reach : Reach) → lefts a.texts slots ≡ lefts b.texts slots → a.len ≡ b.len
    → IsReach budget slots a reach → IsReach budget slots b reach
reach_alike budget slots a b reach same len is =
    let room = is.room in
    record {
      behind = is.behind ∙ len;
      within = is.within;
      bytes = is.bytes ∙ ap (λ (l : List ℕ). sum (take reach.slots l)) same;
      fits = is.fits;
      room = omega (arith, room, len);
      stops = stop_alike budget reach.slots slots a b reach.stop (ap (λ (l : List ℕ). sum (take (reach.slots + 1) l)) same) len is.stops;
    }

-- where none is copied at most, none is reached, and .NDT stays
none_most : (budget bytes count : ℕ) (slots : List LoadedSlot) (shadow : Shadow) (stop : Stop) → shadow.len + bytes ≤ SHADOW_CEILING → StopsFor stop count budget slots shadow
    → most_for stop budget bytes ≡ 0 → (stop ≡ Ceiling → ⊥) × (bytes ≡ 0)
none_most budget bytes count slots shadow End room stops none = (λ same. cc, none)
none_most budget bytes count slots shadow Budget room stops none = (λ same. cc, none)
none_most budget bytes count slots shadow Ceiling room stops none =
    let fits = stops.0 in
    let full = stops.1 in
    absurd (omega (arith, room, fits, full, none))

module _ (budget : ℕ) (slots : List LoadedSlot) (shadow : Shadow) (reach : Reach) (is : IsReach budget slots shadow reach) where
  -- then the copies stay as they are
  none_first : reach.bytes ≡ 0 → CopiesFirst reach.slots slots shadow shadow
  none_first none =
      let bytes = is.bytes in
      copies_none reach.slots slots shadow is.within (omega (arith, bytes, none))

  -- and that is a step
  pub rests : most_of budget reach ≡ 0 → Copies budget slots shadow shadow
  rests none =
      let both = none_most budget reach.bytes reach.slots slots shadow reach.stop is.room is.stops none in
      inl (goes_on budget slots shadow shadow reach is both.0 (none_first both.1))

  -- whether a text is left after it
  pub rests_more : most_of budget reach ≡ 0 → leaves_more reach.stop ≡ nat_lt 0 (left shadow slots)
  rests_more none =
      let both = none_most budget reach.bytes reach.slots slots shadow reach.stop is.room is.stops none in
      more_is budget slots shadow shadow reach is (none_first both.1)

  -- with nothing left none is copied at most, and none is left behind
  pub nothing_left : left shadow slots ≡ 0 → (most_of budget reach ≡ 0) × (leaves_more reach.stop ≡ false)
  nothing_left none = by_stop reach.stop is.stops
    where
      by_stop : (stop : Stop) → StopsFor stop reach.slots budget slots shadow → (most_for stop budget reach.bytes ≡ 0) × (leaves_more stop ≡ false)
      by_stop End stops =
          let bytes = is.bytes in
          (omega (arith, none, bytes, sum_by-take-le (λ (n : ℕ). n) (lefts shadow.texts slots) reach.slots), refl)
      by_stop Budget stops = absurd (omega (arith, none, stops, sum_by-take-le (λ (n : ℕ). n) (lefts shadow.texts slots) (reach.slots + 1)))
      by_stop Ceiling stops =
          let full = stops.1 in
          let room = is.room in
          absurd (omega (arith, none, full, room, sum_by-take-le (λ (n : ℕ). n) (lefts shadow.texts slots) (reach.slots + 1)))

-- a reach that does not empty .NDT is the most
pub most_here : (budget bytes : ℕ) (stop : Stop) → (stop ≡ Ceiling → ⊥) → bytes ≤ most_for stop budget bytes
most_here budget bytes End other = omega arith
most_here budget bytes Budget other = omega arith
most_here budget bytes Ceiling other = absurd (other refl)

-- and where it does, the budget is
pub most_anew : (budget before bytes : ℕ) (stop : Stop) → stop ≡ Ceiling → bytes ≤ budget → bytes ≤ most_for stop budget before
most_anew budget before bytes stop same fits = subst (λ (s : Stop). bytes ≤ most_for s budget before) (sym same) fits

-- as many bytes as are left are reached, where it starts
pub start_bytes : (budget : ℕ) (slots : List LoadedSlot) (old mid : Shadow) (reach : Reach) → Starts budget slots old mid reach → reach.bytes ≡ left_first reach.slots mid slots
start_bytes budget slots old mid reach (inl on) = on.is.bytes ∙ ap (λ (s : Shadow). left_first reach.slots s slots) (sym on.same)
start_bytes budget slots old mid reach (inr anew) = anew.is.bytes

-- a step that reaches none
pub start_none : (budget : ℕ) (slots : List LoadedSlot) (old mid : Shadow) (reach : Reach) → Starts budget slots old mid reach → reach.slots ≤ length slots → reach.bytes ≡ 0
    → CopiesFirst reach.slots slots mid mid
start_none budget slots old mid reach starts within none =
    let bytes = start_bytes budget slots old mid reach starts in
    copies_none reach.slots slots mid within (omega (arith, bytes, none))

-- how far texts may be copied, as a packer reads it
pub reach_read : (budget len : ℕ) (as_read slots : List LoadedSlot) (texts items : List CopiedText) (shadow : Shadow) (reach : Reach) → as_read ≡ slots → texts ≡ items
    → record { texts = items; len = len } ≡ shadow → IsReach budget as_read (record { texts = texts; len = len }) reach → IsReach budget slots shadow reach
reach_read budget len as_read slots texts items shadow reach slots_are texts_are view is =
    subst (λ (s : Shadow). IsReach budget slots s reach) view
    (subst (λ (l : List CopiedText). IsReach budget slots (record { texts = l; len = len }) reach) texts_are
    (subst (λ (l : List LoadedSlot). IsReach budget l (record { texts = texts; len = len }) reach) slots_are is))

-- where some may be copied, some is left
pub some_left : (budget n : ℕ) (slots : List LoadedSlot) (shadow : Shadow) (reach : Reach) → IsReach budget slots shadow reach → n ≡ most_of budget reach → (n ≡ 0 → ⊥)
    → left shadow slots ≡ 0 → ⊥
some_left budget n slots shadow reach is most some none = some (most ∙ (nothing_left budget slots shadow reach is none).0)

-- the part that is to follow has no more bytes than are left of the slots that are gone through
pub run_size : (loaded : Loaded) (initial : Device) (start : List CopiedText) (len : ℕ) (now : Device) (copies : List CopiedText) (run : Run) (end next k count : ℕ) → k ≤ count
    → IsCopying loaded initial start len now copies run end next k → run.len ≤ sum (take count (lefts start loaded.slots))
run_size loaded initial start len now copies run end next k count few copying =
    let end_is = copying.end_is in
    let next_is = copying.next_is in
    let begun = copying.begun in
    omega (arith, sum_fewer k count (lefts start loaded.slots) few)
