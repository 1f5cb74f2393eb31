use Rattle.std.proofs.Common.{◌≡◌, ◌∙◌, ℕ, All, List, ap, arith, length, refl, subst, sym}
use Rattle.std.specs.Option.{ForSome}
use Rattle.std.specs.Vec.{with_items}
use Rattle.std.proofs.lemmas.List.{with_items_is}
use Rattle.jb_state.specs.declared.loaded.LoadedSlot.{LoadedSlot}
use Rattle.jb_pack.specs.Advance.{Copies}
use Rattle.jb_pack.specs.Shadow.{HasCopies, IsBelowCeiling, Shadow}
use Rattle.jb_pack.specs.declared.copied.CopiedText.{CopiedText}
use Rattle.jb_pack.proofs.PackerLemmas.{copies_alike, fault_counted, resized_below, resized_has}
use Rattle.jb_pack.proofs.RestLemmas.{reach_alike, reach_read, rests, rests_more, some_left}
use Rattle.jb_pack.proofs.ShadowLemmas.{lefts-resized}
use Rattle.jb_pack.proofs.packer.Packer.some.Goals as goal

pub step-requires-clause-each : goal.step-requires-clause-each
step-requires-clause-each g c =
    resized_below _ _ c.self.inside.copies.items c.as_mut_slice.result.now (c.as_mut_slice.ensures.value ∙ c.in_ok-resize.ensures.items) c.self.invariant.0

pub step-requires-clause-has : goal.step-requires-clause-has
step-requires-clause-has g c =
    subst (λ (n : ℕ). ForSome (g.D.Disk.device c.args.disk.now).contents (HasCopies (record { texts = c.as_mut_slice.result.now; len = n }))) (sym c.reach_of-first.ensures.behind)
    (resized_has _ _ c.self.inside.len c.self.inside.copies.items c.as_mut_slice.result.now (g.D.Disk.device c.args.disk.now).contents
    (c.as_mut_slice.ensures.value ∙ c.in_ok-resize.ensures.items)
    (subst (λ (s : Shadow). ForSome (g.D.Disk.device c.args.disk.now).contents (HasCopies s)) (sym c.self.view_is) c.requires.has))

pub invariant_of-self : goal.invariant_of-self
invariant_of-self g c = (subst (All IsBelowCeiling) (sym c.in_err-resize.ensures.items) c.self.invariant.0, c.self.invariant.1)

pub invariant_of-self-in_err-done : goal.invariant_of-self-in_err-done
invariant_of-self-in_err-done g c =
    let same : (with_items c.resize.new.self c.step.new.copies).items ≡ c.step.new.copies =
    with_items_is c.resize.new.self c.step.new.copies (omega (arith, c.step.auto.copies, c.as_mut_slice.ensures.len)) in
    (subst (All IsBelowCeiling) (sym same) c.step.ensures.each, c.self.invariant.1)

pub returns-in_err-done-clause-faults : goal.returns-in_err-done-clause-faults
returns-in_err-done-clause-faults g c =
    let fails = c.in_err-done.ensures.cause in
    fault_counted _ _ _ c.from_residual-in_err-done.ensures.1 fails.later fails.failed

pub invariant_of-self-2 : goal.invariant_of-self-2
invariant_of-self-2 g c =
    let same : (with_items c.resize.new.self c.step.new.copies).items ≡ c.step.new.copies =
    with_items_is c.resize.new.self c.step.new.copies (omega (arith, c.step.auto.copies, c.as_mut_slice.ensures.len)) in
    (subst (All IsBelowCeiling) (sym same) c.step.ensures.each, c.in_ok-done.ensures.below)

pub returns-clause-copies : goal.returns-clause-copies
returns-clause-copies g c =
    let same : (with_items c.resize.new.self c.step.new.copies).items ≡ c.step.new.copies =
    with_items_is c.resize.new.self c.step.new.copies (omega (arith, c.step.auto.copies, c.as_mut_slice.ensures.len)) in
    let inside : Shadow = record { texts = c.self.inside.copies.items; len = c.self.inside.len } in
    let resized : Shadow = record { texts = c.as_mut_slice.result.now; len = c.reach_of-first.result.behind } in
    let here : Copies c.args.budget c.args.loaded.now.slots inside (record { texts = c.step.new.copies; len = c.in_ok-done.done.len }) =
    copies_alike c.args.budget c.args.loaded.now.slots resized inside (record { texts = c.step.new.copies; len = c.in_ok-done.done.len })
    (lefts-resized _ _ c.self.inside.copies.items c.as_mut_slice.result.now c.args.loaded.now.slots (c.as_mut_slice.ensures.value ∙ c.in_ok-resize.ensures.items)
    (ap (λ (l : List LoadedSlot). length l) c.as_slice-slots.ensures))
    c.reach_of-first.ensures.behind c.in_ok-done.ensures.copies in
    subst (λ (l : List CopiedText). Copies c.args.budget c.args.loaded.now.slots c.args.self.now (record { texts = l; len = c.in_ok-done.done.len })) (sym same)
    (subst (λ (s : Shadow). Copies c.args.budget c.args.loaded.now.slots s (record { texts = c.step.new.copies; len = c.in_ok-done.done.len })) c.self.view_is here)

pub returns-clause-has : goal.returns-clause-has
returns-clause-has g c =
    let same : (with_items c.resize.new.self c.step.new.copies).items ≡ c.step.new.copies =
    with_items_is c.resize.new.self c.step.new.copies (omega (arith, c.step.auto.copies, c.as_mut_slice.ensures.len)) in
    subst (λ (l : List CopiedText). ForSome (g.D.Disk.device c.step.new.disk).contents (HasCopies (record { texts = l; len = c.in_ok-done.done.len }))) (sym same)
    c.in_ok-done.ensures.has

pub returns-then-most-eq0-clause-copies : goal.returns-then-most-eq0-clause-copies
returns-then-most-eq0-clause-copies g c =
    let is = reach_read c.args.budget c.self.inside.len c.as_slice-slots.result.now c.args.loaded.now.slots c.as_slice.result.now c.self.inside.copies.items c.args.self.now c.reach_of-first.result
    c.as_slice-slots.ensures c.as_slice.ensures.value c.self.view_is c.reach_of-first.ensures in
    let none = sym c.most_of-most.ensures ∙ c.if-most-eq0.true in
    rests c.args.budget c.args.loaded.now.slots c.args.self.now c.reach_of-first.result is none

pub returns-then-most-eq0-clause-more : goal.returns-then-most-eq0-clause-more
returns-then-most-eq0-clause-more g c =
    let is = reach_read c.args.budget c.self.inside.len c.as_slice-slots.result.now c.args.loaded.now.slots c.as_slice.result.now c.self.inside.copies.items c.args.self.now c.reach_of-first.result
    c.as_slice-slots.ensures c.as_slice.ensures.value c.self.view_is c.reach_of-first.ensures in
    let none = sym c.most_of-most.ensures ∙ c.if-most-eq0.true in
    c.leaves_more.ensures ∙ rests_more c.args.budget c.args.loaded.now.slots c.args.self.now c.reach_of-first.result is none

pub step-requires-clause-first : goal.step-requires-clause-first
step-requires-clause-first g c =
    let same = c.reach_of-first.ensures.behind in
    let inside : Shadow = record { texts = c.self.inside.copies.items; len = c.self.inside.len } in
    let resized : Shadow = record { texts = c.as_mut_slice.result.now; len = c.reach_of-first.result.behind } in
    reach_alike c.args.budget c.args.loaded.now.slots inside resized c.reach_of-first.result
    (sym (lefts-resized _ _ c.self.inside.copies.items c.as_mut_slice.result.now c.args.loaded.now.slots (c.as_mut_slice.ensures.value ∙ c.in_ok-resize.ensures.items)
    (ap (λ (l : List LoadedSlot). length l) c.as_slice-slots.ensures)))
    (sym same)
    (reach_read c.args.budget c.self.inside.len c.as_slice-slots.result.now c.args.loaded.now.slots c.as_slice.result.now c.self.inside.copies.items inside c.reach_of-first.result
    c.as_slice-slots.ensures c.as_slice.ensures.value refl c.reach_of-first.ensures)

pub returns-in_err-done-clause-idle : goal.returns-in_err-done-clause-idle
returns-in_err-done-clause-idle g c =
    let is = reach_read c.args.budget c.self.inside.len c.as_slice-slots.result.now c.args.loaded.now.slots c.as_slice.result.now c.self.inside.copies.items c.args.self.now c.reach_of-first.result
    c.as_slice-slots.ensures c.as_slice.ensures.value c.self.view_is c.reach_of-first.ensures in
    λ none. absurd (some_left c.args.budget c.most_of-most.result c.args.loaded.now.slots c.args.self.now c.reach_of-first.result is c.most_of-most.ensures c.if-most-eq0.false none)

pub returns-clause-idle : goal.returns-clause-idle
returns-clause-idle g c =
    let is = reach_read c.args.budget c.self.inside.len c.as_slice-slots.result.now c.args.loaded.now.slots c.as_slice.result.now c.self.inside.copies.items c.args.self.now c.reach_of-first.result
    c.as_slice-slots.ensures c.as_slice.ensures.value c.self.view_is c.reach_of-first.ensures in
    λ none. absurd (some_left c.args.budget c.most_of-most.result c.args.loaded.now.slots c.args.self.now c.reach_of-first.result is c.most_of-most.ensures c.if-most-eq0.false none)

pub returns-in_err-buffer-clause-idle : goal.returns-in_err-buffer-clause-idle
returns-in_err-buffer-clause-idle g c =
    let is = reach_read c.args.budget c.self.inside.len c.as_slice-slots.result.now c.args.loaded.now.slots c.as_slice.result.now c.self.inside.copies.items c.args.self.now c.reach_of-first.result
    c.as_slice-slots.ensures c.as_slice.ensures.value c.self.view_is c.reach_of-first.ensures in
    λ none. absurd (some_left c.args.budget c.most_of-most.result c.args.loaded.now.slots c.args.self.now c.reach_of-first.result is c.most_of-most.ensures c.if-most-eq0.false none)

pub returns-in_err-resize-clause-idle : goal.returns-in_err-resize-clause-idle
returns-in_err-resize-clause-idle g c =
    let is = reach_read c.args.budget c.self.inside.len c.as_slice-slots.result.now c.args.loaded.now.slots c.as_slice.result.now c.self.inside.copies.items c.args.self.now c.reach_of-first.result
    c.as_slice-slots.ensures c.as_slice.ensures.value c.self.view_is c.reach_of-first.ensures in
    λ none. absurd (some_left c.args.budget c.most_of-most.result c.args.loaded.now.slots c.args.self.now c.reach_of-first.result is c.most_of-most.ensures c.if-most-eq0.false none)
