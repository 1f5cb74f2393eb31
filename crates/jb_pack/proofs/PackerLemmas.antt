-- One step of a packer, put together from its parts.
use Rattle.std.proofs.Common.{◌≡◌, ◌≢◌, ◌⊎◌, inl, inr, ℕ, ◌+◌, ◌-◌, ◌≤◌, ◌<◌, nat_lt, lt-ltb, le-ltb, List, [], ◌++◌, Option, length, take, drop, replicate, All, refl, sym, ◌∙◌, ap, subst, arith}
use Rattle.std.specs.Prelude.{Err, Ok, Result, sum}
use Rattle.std.specs.Option.{ForSome}
use Rattle.std.specs.Result.{IsErrAnd}
use Rattle.std.proofs.lemmas.List.{drop_all}
use Rattle.std.proofs.lemmas.List.Elements.{All-append, All-replicate, All-take}
use Rattle.std.proofs.lemmas.List.Folds.{sum_by-replicate}
use Rattle.std.proofs.lemmas.List.Sums.{sum_by-append, sum_by-take-drop, sum_by-take-le}
use Rattle.jb_limits.specs.declared.limits.TheConstants.{SHADOW_CEILING, TEXTS_CEILING}
use Rattle.jb_bytes.specs.Fault.{Rose}
use Rattle.jb_disk.specs.Device.{CountsFaults, Device, RoseIf, Turns}
use Rattle.jb_disk.specs.Files.{Files}
use Rattle.jb_disk.specs.declared.file.FileId.TheVariants.{Jdt, Ndt}
use Rattle.jb_state.specs.declared.loaded.LoadedSlot.{LoadedSlot}
use Rattle.jb_pack.specs.Advance.{Copies, CopiesFirst, CopiesWithin}
use Rattle.jb_pack.specs.Copying.{is_pack_fault}
use Rattle.jb_state.specs.Packed.{texts_size}
use Rattle.jb_pack.specs.Reaching.{IsReach, Starts, StopsFor, leaves_more}
use Rattle.jb_pack.specs.Shadow.{HasCopies, IsBelowCeiling, IsCopyIn, Shadow, left, left_first, lefts, not_copied, nothing_copied}
use Rattle.jb_pack.specs.Touching.{AgreeButShadow, Empties}
use Rattle.jb_pack.specs.declared.copied.CopiedText.{CopiedText}
use Rattle.jb_pack.specs.declared.error.PackError.{PackError}
use Rattle.jb_pack.specs.declared.error.PackError.TheVariants.{StoreFault}
use Rattle.jb_pack.specs.declared.reaching.Reach.{Reach}
use Rattle.jb_pack.specs.declared.reaching.Stop.{Stop}
use Rattle.jb_pack.specs.declared.reaching.Stop.TheVariants.{Budget, Ceiling, End}
use Rattle.jb_pack.proofs.ShadowLemmas.{left-all, length-lefts}
use Rattle.jb_pack.proofs.TouchLemmas.{told_before}

-- copies of which as much is left are copies alike
pub first_alike : (count : ℕ) (slots : List LoadedSlot) (a b new : Shadow) → lefts a.texts slots ≡ lefts b.texts slots → a.len ≡ b.len
    → CopiesFirst count slots a new → CopiesFirst count slots b new
first_alike count slots a b new same len copies = record {
  within = copies.within;
  left = copies.left ∙ ap (λ (l : List ℕ). replicate count 0 ++ drop count l) same;
  len = omega (arith, copies.len, ap (λ (l : List ℕ). sum (take count l)) same);
}

-- nothing is a copy of no bytes
none_in : (texts shadow : List ℕ) → IsCopyIn texts shadow not_copied
none_in texts shadow = record { inside = omega arith; there = omega arith; same = refl }

-- where .NDT is empty and all is forgotten, it has what was copied
pub none_has : (n : ℕ) (files : Files) → files Ndt ≡ [] → HasCopies (record { texts = replicate n not_copied; len = 0 }) files
none_has n files empty = record {
  size = ap length empty;
  each = All-replicate (IsCopyIn (files Jdt) (files Ndt)) n not_copied (none_in (files Jdt) (files Ndt));
}

-- so it is once .NDT was emptied
pub emptied_has : (n : ℕ) (copies : List CopiedText) (len : ℕ) (o after : Option Files) → Turns Empties o after → copies ≡ replicate n not_copied → len ≡ 0
    → ForSome after (HasCopies (record { texts = copies; len = len }))
emptied_has n copies len o after turns forgotten len_is = λ files there.
    let back = told_before Empties o after files turns there in
    let step = back.2 in
    subst (λ (l : List CopiedText). HasCopies (record { texts = l; len = len }) files) (sym forgotten)
    (subst (λ (k : ℕ). HasCopies (record { texts = replicate n not_copied; len = k }) files) (sym len_is) (none_has n files step.shadow))

-- the same of a packer that begins
pub begun_has : (o after : Option Files) → Turns Empties o after → ForSome after (HasCopies nothing_copied)
begun_has o after turns = emptied_has 0 [] 0 o after turns refl refl

-- none ends above the ceiling
pub none_below : (n : ℕ) (copies : List CopiedText) → copies ≡ replicate n not_copied → All IsBelowCeiling copies
none_below n copies forgotten = subst (All IsBelowCeiling) (sym forgotten) (All-replicate IsBelowCeiling n not_copied (omega arith))

-- as many copies as there are slots
pub resized_below : (n m : ℕ) (copies resized : List CopiedText) → resized ≡ take n copies ++ replicate m not_copied → All IsBelowCeiling copies → All IsBelowCeiling resized
resized_below n m copies resized is below =
    subst (All IsBelowCeiling) (sym is)
    (All-append IsBelowCeiling (take n copies) (replicate m not_copied) (All-take IsBelowCeiling n copies below) (All-replicate IsBelowCeiling m not_copied (omega arith)))

-- they stand in .NDT as before
pub resized_has : (n m len : ℕ) (copies resized : List CopiedText) (o : Option Files) → resized ≡ take n copies ++ replicate m not_copied
    → ForSome o (HasCopies (record { texts = copies; len = len })) → ForSome o (HasCopies (record { texts = resized; len = len }))
resized_has n m len copies resized o is has = λ files there.
    let was = has files there in
    record {
      size = was.size;
      each =
          subst (All (IsCopyIn (files Jdt) (files Ndt))) (sym is)
          (All-append (IsCopyIn (files Jdt) (files Ndt)) (take n copies) (replicate m not_copied) (All-take (IsCopyIn (files Jdt) (files Ndt)) n copies was.each)
          (All-replicate (IsCopyIn (files Jdt) (files Ndt)) m not_copied (none_in (files Jdt) (files Ndt))));
    }

-- what is left then
pub left_then : (count : ℕ) (slots : List LoadedSlot) (old new : Shadow) → CopiesFirst count slots old new → left new slots ≡ sum (drop count (lefts old.texts slots))
left_then count slots old new copies =
    let zeros = sum_by-replicate (λ (n : ℕ). n) count 0 in
    omega (arith, ap sum copies.left, sum_by-append (λ (n : ℕ). n) (replicate count 0) (drop count (lefts old.texts slots)))

-- a text is left just where it did not come to the end
pub more_is : (budget : ℕ) (slots : List LoadedSlot) (old new : Shadow) (reach : Reach) → IsReach budget slots old reach → CopiesFirst reach.slots slots old new
    → leaves_more reach.stop ≡ nat_lt 0 (left new slots)
more_is budget slots old new reach is copies = by_stop reach.stop is.stops
  where
    by_stop : (stop : Stop) → StopsFor stop reach.slots budget slots old → leaves_more stop ≡ nat_lt 0 (left new slots)
    by_stop End stops =
        let none : sum (drop reach.slots (lefts old.texts slots)) ≡ 0 = ap sum (drop_all reach.slots (lefts old.texts slots) (omega (arith, stops, length-lefts old.texts slots))) in
        sym (le-ltb 0 (left new slots) (omega (arith, left_then reach.slots slots old new copies)))
    by_stop Budget stops =
        let fits = is.fits in
        let bytes = is.bytes in
        sym (lt-ltb 0 (left new slots) (omega (
          arith,
          left_then reach.slots slots old new copies,
          sum_by-take-drop (λ (n : ℕ). n) (lefts old.texts slots) reach.slots,
          sum_by-take-le (λ (n : ℕ). n) (lefts old.texts slots) (reach.slots + 1),
        )))
    by_stop Ceiling stops =
        let room = is.room in
        let bytes = is.bytes in
        let full = stops.1 in
        sym (lt-ltb 0 (left new slots) (omega (
          arith,
          left_then reach.slots slots old new copies,
          sum_by-take-drop (λ (n : ℕ). n) (lefts old.texts slots) reach.slots,
          sum_by-take-le (λ (n : ℕ). n) (lefts old.texts slots) (reach.slots + 1),
        )))

-- as far as it reaches, where it stops so
within_reach : (budget : ℕ) (slots : List LoadedSlot) (old new : Shadow) (reach : Reach) → IsReach budget slots old reach
    → (reach.slots ≡ length slots) ⊎ (budget < left_first (reach.slots + 1) old slots) → CopiesFirst reach.slots slots old new → CopiesWithin budget slots old new
within_reach budget slots old new reach is stops copies =
    let bytes = is.bytes in
    let fits = is.fits in
    let room = is.room in
    let len = copies.len in
    record { count = reach.slots; copies = copies; fits = omega arith; stops = stops; below = omega arith }

-- why it stops, where the ceiling does not stop it
other_stop : (budget count : ℕ) (slots : List LoadedSlot) (old : Shadow) (stop : Stop) → StopsFor stop count budget slots old → (stop ≡ Ceiling → StopsFor Ceiling count budget slots old → ⊥)
    → (count ≡ length slots) ⊎ (budget < left_first (count + 1) old slots)
other_stop budget count slots old End stops low = inl stops
other_stop budget count slots old Budget stops low = inr stops
other_stop budget count slots old Ceiling stops low = absurd (low refl stops)

-- it goes on
pub goes_on : (budget : ℕ) (slots : List LoadedSlot) (old new : Shadow) (reach : Reach) → IsReach budget slots old reach → (reach.stop ≡ Ceiling → ⊥)
    → CopiesFirst reach.slots slots old new → CopiesWithin budget slots old new
goes_on budget slots old new reach is low copies =
    within_reach budget slots old new reach is (other_stop budget reach.slots slots old reach.stop is.stops (λ same stops. low same)) copies

-- the same of copies of which as much is left
within_alike : (budget : ℕ) (slots : List LoadedSlot) (a b new : Shadow) → lefts a.texts slots ≡ lefts b.texts slots → a.len ≡ b.len → CopiesWithin budget slots a new → CopiesWithin budget slots b new
within_alike budget slots a b new same len within = record {
  count = within.count;
  copies = first_alike within.count slots a b new same len within.copies;
  fits = omega (arith, within.fits, ap (λ (l : List ℕ). sum (take within.count l)) same);
  stops = elim within.stops [
    | inl end ↦ inl end
    | inr over ↦ inr (omega (arith, over, ap (λ (l : List ℕ). sum (take (within.count + 1) l)) same))
  ];
  below = within.below;
}

-- the texts together do not take an empty .NDT past its ceiling
never_full : (count budget : ℕ) (slots : List LoadedSlot) (old : Shadow) → old.len ≡ 0 → lefts old.texts slots ≡ lefts [] slots → texts_size slots ≤ TEXTS_CEILING
    → StopsFor Ceiling count budget slots old → ⊥
never_full count budget slots old empty none fits stops =
    let full = stops.1 in
    omega (
      arith,
      full,
      empty,
      ap (λ (l : List ℕ). sum (take (count + 1) l)) none,
      sum_by-take-le (λ (n : ℕ). n) (lefts [] slots) (count + 1),
      left-all slots,
    )

-- a step, from where it starts and what it copies from there on
pub copies_some : (budget : ℕ) (slots : List LoadedSlot) (was old mid new : Shadow) (reach : Reach) → lefts old.texts slots ≡ lefts was.texts slots → old.len ≡ was.len
    → texts_size slots ≤ TEXTS_CEILING → Starts budget slots old mid reach → CopiesFirst reach.slots slots mid new → Copies budget slots was new
copies_some budget slots was old mid new reach same len fits (inl on) copies =
    let from_old : CopiesFirst reach.slots slots old new = subst (λ (s : Shadow). CopiesFirst reach.slots slots s new) on.same copies in
    inl (within_alike budget slots old was new same len (goes_on budget slots old new reach on.is on.fits from_old))
copies_some budget slots was old mid new reach same len fits (inr anew) copies =
    let stops : StopsFor Ceiling anew.before.slots budget slots old = subst (λ (s : Stop). StopsFor s anew.before.slots budget slots old) anew.full anew.was.stops in
    let bytes = anew.was.bytes in
    let room = anew.was.room in
    let here : left_first anew.before.slots old slots ≡ left_first anew.before.slots was slots = ap (λ (l : List ℕ). sum (take anew.before.slots l)) same in
    let next : left_first (anew.before.slots + 1) old slots ≡ left_first (anew.before.slots + 1) was slots = ap (λ (l : List ℕ). sum (take (anew.before.slots + 1) l)) same in
    let low = stops.0 in
    let full = stops.1 in
    let rest : budget - anew.before.bytes ≡ budget - left_first anew.before.slots was slots = omega arith in
    let again : CopiesWithin (budget - anew.before.bytes) slots mid new =
    within_reach (budget - anew.before.bytes) slots mid new reach anew.is
    (other_stop (budget - anew.before.bytes) reach.slots slots mid reach.stop anew.is.stops
    (λ same stops. never_full reach.slots (budget - anew.before.bytes) slots mid anew.empty anew.none fits stops)) copies in
    inr (record {
      count = anew.before.slots;
      fits = omega arith;
      room = omega arith;
      full = omega arith;
      again = subst (λ (n : ℕ). CopiesWithin n slots nothing_copied new) rest (within_alike (budget - anew.before.bytes) slots mid nothing_copied new anew.none anew.empty again);
    })

-- whether a text is left after a step
pub more_then : (budget : ℕ) (slots : List LoadedSlot) (old mid new : Shadow) (reach : Reach) → Starts budget slots old mid reach → CopiesFirst reach.slots slots mid new
    → leaves_more reach.stop ≡ nat_lt 0 (left new slots)
more_then budget slots old mid new reach (inl on) copies =
    more_is budget slots old new reach on.is (subst (λ (s : Shadow). CopiesFirst reach.slots slots s new) on.same copies)
more_then budget slots old mid new reach (inr anew) copies = more_is (budget - anew.before.bytes) slots mid new reach anew.is copies

-- it copies from there on within .NDT
pub start_room : (budget : ℕ) (slots : List LoadedSlot) (old mid : Shadow) (reach : Reach) → Starts budget slots old mid reach
    → (reach.slots ≤ length slots) × (reach.behind + left_first reach.slots mid slots ≤ SHADOW_CEILING)
start_room budget slots old mid reach (inl on) =
    let bytes = on.is.bytes in
    let room = on.is.room in
    let behind = on.is.behind in
    (on.is.within, subst (λ (s : Shadow). reach.behind + left_first reach.slots s slots ≤ SHADOW_CEILING) (sym on.same) (omega arith))
start_room budget slots old mid reach (inr anew) =
    let bytes = anew.is.bytes in
    let room = anew.is.room in
    let behind = anew.is.behind in
    (anew.is.within, omega arith)

-- a step, from copies of which as much is left
pub copies_alike : (budget : ℕ) (slots : List LoadedSlot) (a b new : Shadow) → lefts a.texts slots ≡ lefts b.texts slots → a.len ≡ b.len → Copies budget slots a new → Copies budget slots b new
copies_alike budget slots a b new same len (inl within) = inl (within_alike budget slots a b new same len within)
copies_alike budget slots a b new same len (inr anew) =
    let here : left_first anew.count a slots ≡ left_first anew.count b slots = ap (λ (l : List ℕ). sum (take anew.count l)) same in
    let next : left_first (anew.count + 1) a slots ≡ left_first (anew.count + 1) b slots = ap (λ (l : List ℕ). sum (take (anew.count + 1) l)) same in
    let fits = anew.fits in
    let room = anew.room in
    let full = anew.full in
    let rest : budget - left_first anew.count a slots ≡ budget - left_first anew.count b slots = omega arith in
    inr (record {
      count = anew.count;
      fits = omega arith;
      room = omega arith;
      full = omega arith;
      again = subst (λ (n : ℕ). CopiesWithin n slots nothing_copied new) rest anew.again;
    })

-- it ends below the ceiling
pub copies_below : (budget : ℕ) (slots : List LoadedSlot) (old new : Shadow) → Copies budget slots old new → new.len ≤ SHADOW_CEILING
copies_below budget slots old new (inl within) = within.below
copies_below budget slots old new (inr anew) = anew.again.below

-- what is told of .JDT stays so
pub texts_kept : (n : ℕ) (old new : Option Files) → ForSome old (λ files. length (files Jdt) ≡ n) → Turns AgreeButShadow old new → ForSome new (λ files. length (files Jdt) ≡ n)
texts_kept n old new size turns = λ files there.
    let back = told_before AgreeButShadow old new files turns there in
    ap length (back.2 Jdt texts_apart) ∙ size back.0 back.1
  where
    texts_apart : Jdt ≢ Ndt
    texts_apart same = cc

-- a fault of the device, handed on
pub fault_counted : {T : Type 0} (old new : Device) (result : Result T PackError) → IsErrAnd result (λ (error : PackError). error ≡ StoreFault) → old.faults ≤ new.faults
    → Rose old.faults new.faults ⊎ ⊥ → CountsFaults is_pack_fault old new result
fault_counted old new (Ok value) is later rose = absurd is
fault_counted old new (Err error) is later (inl rose) = record { quiet = tt; later = later; cause = subst (λ (e : PackError). RoseIf (is_pack_fault e) old.faults new.faults) (sym is) rose }
fault_counted old new (Err error) is later (inr none) = absurd none
