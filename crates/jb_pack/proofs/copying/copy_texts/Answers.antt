use Rattle.std.proofs.Common.{◌≡◌, ◌∙◌, ℕ, ap, arith, get_or, length, length-take, min, refl, subst, sym}
use Rattle.jb_limits.specs.declared.limits.TheConstants.{TEXTS_CEILING}
use Rattle.jb_pack.specs.Advance.{CopiesFirst}
use Rattle.jb_pack.specs.Shadow.{left_of, not_copied}
use Rattle.jb_pack.proofs.CopiesLemmas.{IsLeft, below_then, copied_all, copied_first, copying_joined, copying_next, copying_none, copying_on, is_left, left_inside, room_then, run_room, run_within, slot_there}
use Rattle.jb_pack.proofs.CopyLemmas.{text_placed, text_run}
use Rattle.jb_pack.proofs.RestLemmas.{run_size}
use Rattle.jb_pack.proofs.ShadowLemmas.{left-no_message}
use Rattle.jb_pack.proofs.TouchLemmas.{fails-as, fails-then, touches-then}
use Rattle.jb_pack.proofs.copying.copy_texts.Goals as goal

pub loop-place-init : goal.loop-place-init
loop-place-init g c =
    copying_none c.args.loaded.now (g.D.Disk.device c.args.disk.now) c.args.copies.now c.args.reach.behind c.requires.told c.requires.has c.requires.slots c.requires.each

pub loop-place-preserved-in_default : goal.loop-place-preserved-in_default
loop-place-preserved-in_default g c =
    let there = slot_there c.args.loaded.now.slots c.as_slice.result.now c.args.reach.slots c.loop-place.place c.index-slots-place.result
    c.as_slice.ensures c.loop-place-test.true c.index-slots-place.is in
    let few = c.requires.some in
    let low = c.loop-place-test.true in
    copying_on c.args.loaded.now (g.D.Disk.device c.args.disk.now) c.args.copies.now c.args.reach.behind (g.D.Disk.device c.loop-place.disk) c.loop-place.copies c.loop-place.run c.loop-place.end c.loop-place.next c.loop-place.place
    (omega (arith, length-take c.args.reach.slots c.as_slice.result.now))
    (ap (left_of (get_or c.loop-place.copies c.loop-place.place not_copied)) there ∙ left-no_message (get_or c.loop-place.copies c.loop-place.place not_copied) c.index-slots-place.result c.in_default.not-Live) c.loop-place.invariant

pub loop-place-preserved-then-left_of-eq0 : goal.loop-place-preserved-then-left_of-eq0
loop-place-preserved-then-left_of-eq0 g c =
    let there = slot_there c.args.loaded.now.slots c.as_slice.result.now c.args.reach.slots c.loop-place.place c.index-slots-place.result
    c.as_slice.ensures c.loop-place-test.true c.index-slots-place.is in
    let few = c.requires.some in
    let low = c.loop-place-test.true in
    copying_on c.args.loaded.now (g.D.Disk.device c.args.disk.now) c.args.copies.now c.args.reach.behind (g.D.Disk.device c.loop-place.disk) c.loop-place.copies c.loop-place.run c.loop-place.end c.loop-place.next c.loop-place.place
    (omega (arith, length-take c.args.reach.slots c.as_slice.result.now))
    (ap (left_of (get_or c.loop-place.copies c.loop-place.place not_copied)) there ∙ sym c.left_of.ensures ∙ c.if-left_of-eq0.true) c.loop-place.invariant

pub overflow_add-next : goal.overflow_add-next
overflow_add-next g c =
    let left : IsLeft c.args.loaded.now c.loop-place.copies c.loop-place.place c.args.reach.slots c.in-Live.message =
    is_left c.args.loaded.now c.loop-place.copies c.as_slice.result.now c.loop-place.place c.args.reach.slots c.index-slots-place.result c.in-Live.message c.left_of.result
    c.as_slice.ensures c.requires.within c.loop-place-test.true c.index-slots-place.is c.in-Live.is c.left_of.ensures c.if-left_of-eq0.false in
    omega (arith, room_then c.args.loaded.now (g.D.Disk.device c.args.disk.now) c.args.copies.now c.args.reach.behind (g.D.Disk.device c.loop-place.disk) c.loop-place.copies c.loop-place.run c.loop-place.end c.loop-place.next c.loop-place.place c.args.reach.slots c.in-Live.message left.low c.requires.some left.live left.all c.requires.room c.loop-place.invariant)

pub joined-requires : goal.joined-requires
joined-requires g c =
    let inside = c.loop-place.invariant.run_is.inside in
    omega arith

pub append-requires-clause-within : goal.append-requires-clause-within
append-requires-clause-within g c =
    run_within c.args.loaded.now (g.D.Disk.device c.args.disk.now) c.args.copies.now c.args.reach.behind (g.D.Disk.device c.loop-place.disk) c.loop-place.copies c.loop-place.run c.loop-place.end c.loop-place.next c.loop-place.place c.loop-place.invariant

pub append-requires-clause-end : goal.append-requires-clause-end
append-requires-clause-end g c =
    λ files there. (c.loop-place.invariant.has files there).sized

pub append-requires-clause-fits : goal.append-requires-clause-fits
append-requires-clause-fits g c =
    let low = c.loop-place-test.true in
    run_room c.args.loaded.now (g.D.Disk.device c.args.disk.now) c.args.copies.now c.args.reach.behind (g.D.Disk.device c.loop-place.disk) c.loop-place.copies c.loop-place.run c.loop-place.end c.loop-place.next c.loop-place.place c.args.reach.slots
    (omega (arith, length-take c.args.reach.slots c.as_slice.result.now)) c.requires.room c.loop-place.invariant

pub append-requires-clause-buffer : goal.append-requires-clause-buffer
append-requires-clause-buffer g c =
    let short = c.loop-place.invariant.run_is.short in
    let long = c.requires.buffer in
    let bytes = c.requires.bytes in
    let same = c.loop-place.auto.buffer in
    let low = c.loop-place-test.true in
    omega (
      arith,
      run_size c.args.loaded.now (g.D.Disk.device c.args.disk.now) c.args.copies.now c.args.reach.behind (g.D.Disk.device c.loop-place.disk) c.loop-place.copies c.loop-place.run c.loop-place.end c.loop-place.next c.loop-place.place c.args.reach.slots
          (omega (arith, length-take c.args.reach.slots c.as_slice.result.now)) c.loop-place.invariant,
    )

pub returns-in_err-end-clause-each : goal.returns-in_err-end-clause-each
returns-in_err-end-clause-each g c =
    let left : IsLeft c.args.loaded.now c.loop-place.copies c.loop-place.place c.args.reach.slots c.in-Live.message =
    is_left c.args.loaded.now c.loop-place.copies c.as_slice.result.now c.loop-place.place c.args.reach.slots c.index-slots-place.result c.in-Live.message c.left_of.result
    c.as_slice.ensures c.requires.within c.loop-place-test.true c.index-slots-place.is c.in-Live.is c.left_of.ensures c.if-left_of-eq0.false in
    below_then c.args.loaded.now (g.D.Disk.device c.args.disk.now) c.args.copies.now c.args.reach.behind (g.D.Disk.device c.loop-place.disk) c.loop-place.copies c.loop-place.run c.loop-place.end c.loop-place.next c.loop-place.place c.args.reach.slots c.in-Live.message left.low c.requires.some left.live left.all c.requires.room c.loop-place.invariant

pub returns-in_err-end-clause-kept : goal.returns-in_err-end-clause-kept
returns-in_err-end-clause-kept g c =
    touches-then (g.D.Disk.device c.args.disk.now) (g.D.Disk.device c.loop-place.disk) (g.D.Disk.device c.append.new.disk) c.loop-place.invariant.touches c.append.ensures.kept

pub returns-in_err-end-clause-cause : goal.returns-in_err-end-clause-cause
returns-in_err-end-clause-cause g c =
    fails-then _ _ _ _ c.loop-place.invariant.counted c.loop-place.invariant.touches (fails-as _ _ _ _ refl c.from_residual.ensures.0 c.in_err-end.ensures.cause)

pub loop-place-preserved-in-Some : goal.loop-place-preserved-in-Some
loop-place-preserved-in-Some g c =
    let left : IsLeft c.args.loaded.now c.loop-place.copies c.loop-place.place c.args.reach.slots c.in-Live.message =
    is_left c.args.loaded.now c.loop-place.copies c.as_slice.result.now c.loop-place.place c.args.reach.slots c.index-slots-place.result c.in-Live.message c.left_of.result
    c.as_slice.ensures c.requires.within c.loop-place-test.true c.index-slots-place.is c.in-Live.is c.left_of.ensures c.if-left_of-eq0.false in
    copying_joined c.args.loaded.now (g.D.Disk.device c.args.disk.now) c.args.copies.now c.args.reach.behind (g.D.Disk.device c.loop-place.disk) c.loop-place.copies c.loop-place.run c.loop-place.end c.loop-place.next c.loop-place.place c.args.reach.slots c.in-Live.message left.low c.requires.some left.live left.all c.requires.room c.loop-place.invariant
    c.in-Some.more c.in-Some.ensures.joined (c.in-Some.ensures.run (min c.args.loaded.now.texts_len TEXTS_CEILING) c.loop-place.invariant.run_is (text_placed c.args.loaded.now.texts_len c.in-Live.message.text_at c.in-Live.message.text_len left.within))
    (left_inside c.args.loaded.now c.loop-place.copies c.loop-place.place c.args.reach.slots c.in-Live.message left)

pub loop-place-preserved : goal.loop-place-preserved
loop-place-preserved g c =
    let left : IsLeft c.args.loaded.now c.loop-place.copies c.loop-place.place c.args.reach.slots c.in-Live.message =
    is_left c.args.loaded.now c.loop-place.copies c.as_slice.result.now c.loop-place.place c.args.reach.slots c.index-slots-place.result c.in-Live.message c.left_of.result
    c.as_slice.ensures c.requires.within c.loop-place-test.true c.index-slots-place.is c.in-Live.is c.left_of.ensures c.if-left_of-eq0.false in
    copying_next c.args.loaded.now (g.D.Disk.device c.args.disk.now) c.args.copies.now c.args.reach.behind (g.D.Disk.device c.loop-place.disk) c.loop-place.copies c.loop-place.run c.loop-place.end c.loop-place.next c.loop-place.place c.args.reach.slots c.in-Live.message left.low c.requires.some left.live left.all c.requires.room c.loop-place.invariant
    (g.D.Disk.device c.append.new.disk) c.in_ok-end.end c.in_ok-end.ensures.told c.in_ok-end.ensures.next c.append.ensures.kept c.in_ok-end.ensures.cause.kept
    (text_run (min c.args.loaded.now.texts_len TEXTS_CEILING) (record { at = c.in-Live.message.text_at; len = c.in-Live.message.text_len }) left.some (text_placed c.args.loaded.now.texts_len c.in-Live.message.text_at c.in-Live.message.text_len left.within))

pub append-requires-2-clause-within : goal.append-requires-2-clause-within
append-requires-2-clause-within g c =
    run_within c.args.loaded.now (g.D.Disk.device c.args.disk.now) c.args.copies.now c.args.reach.behind (g.D.Disk.device c.loop-place.disk) c.loop-place.copies c.loop-place.run c.loop-place.end c.loop-place.next c.loop-place.place c.loop-place.invariant

pub append-requires-2-clause-end : goal.append-requires-2-clause-end
append-requires-2-clause-end g c =
    λ files there. (c.loop-place.invariant.has files there).sized

pub append-requires-2-clause-fits : goal.append-requires-2-clause-fits
append-requires-2-clause-fits g c =
    let low = c.loop-place.auto.place-end in
    run_room c.args.loaded.now (g.D.Disk.device c.args.disk.now) c.args.copies.now c.args.reach.behind (g.D.Disk.device c.loop-place.disk) c.loop-place.copies c.loop-place.run c.loop-place.end c.loop-place.next c.loop-place.place c.args.reach.slots
    (omega (arith, length-take c.args.reach.slots c.as_slice.result.now)) c.requires.room c.loop-place.invariant

pub append-requires-2-clause-buffer : goal.append-requires-2-clause-buffer
append-requires-2-clause-buffer g c =
    let short = c.loop-place.invariant.run_is.short in
    let long = c.requires.buffer in
    let bytes = c.requires.bytes in
    let same = c.loop-place.auto.buffer in
    let low = c.loop-place.auto.place-end in
    omega (
      arith,
      run_size c.args.loaded.now (g.D.Disk.device c.args.disk.now) c.args.copies.now c.args.reach.behind (g.D.Disk.device c.loop-place.disk) c.loop-place.copies c.loop-place.run c.loop-place.end c.loop-place.next c.loop-place.place c.args.reach.slots
          (omega (arith, length-take c.args.reach.slots c.as_slice.result.now)) c.loop-place.invariant,
    )

pub returns-in_err-end-2-clause-each : goal.returns-in_err-end-2-clause-each
returns-in_err-end-2-clause-each g c =
    c.loop-place.invariant.below

pub returns-in_err-end-2-clause-kept : goal.returns-in_err-end-2-clause-kept
returns-in_err-end-2-clause-kept g c =
    touches-then (g.D.Disk.device c.args.disk.now) (g.D.Disk.device c.loop-place.disk) (g.D.Disk.device c.append-2.new.disk) c.loop-place.invariant.touches c.append-2.ensures.kept

pub returns-in_err-end-2-clause-cause : goal.returns-in_err-end-2-clause-cause
returns-in_err-end-2-clause-cause g c =
    fails-then _ _ _ _ c.loop-place.invariant.counted c.loop-place.invariant.touches (fails-as _ _ _ _ refl c.from_residual-in_err-end-2.ensures.0 c.in_err-end-2.ensures.cause)

pub returns-clause-copies : goal.returns-clause-copies
returns-clause-copies g c =
    let past = c.loop-place-test.false in
    let low = c.loop-place.auto.place-end in
    let few = c.requires.some in
    let all : c.loop-place.place ≡ c.args.reach.slots = omega (arith, length-take c.args.reach.slots c.as_slice.result.now, ap length c.as_slice.ensures) in
    subst (λ (n : ℕ). CopiesFirst n c.args.loaded.now.slots (record { texts = c.args.copies.now; len = c.args.reach.behind })
    (record { texts = c.loop-place.copies; len = c.in_ok-end-2.end })) all
    (copied_first c.args.loaded.now (g.D.Disk.device c.args.disk.now) c.args.copies.now c.args.reach.behind (g.D.Disk.device c.loop-place.disk) c.loop-place.copies c.loop-place.run c.loop-place.end c.loop-place.next c.in_ok-end-2.end c.loop-place.place (omega arith) c.loop-place.invariant c.in_ok-end-2.ensures.next)

pub returns-clause-has : goal.returns-clause-has
returns-clause-has g c =
    copied_all c.args.loaded.now (g.D.Disk.device c.args.disk.now) c.args.copies.now c.args.reach.behind (g.D.Disk.device c.loop-place.disk) (g.D.Disk.device c.append-2.new.disk) c.loop-place.copies c.loop-place.run c.loop-place.end c.loop-place.next c.in_ok-end-2.end c.loop-place.place c.loop-place.invariant
    c.in_ok-end-2.ensures.told c.in_ok-end-2.ensures.next

pub returns-clause-each : goal.returns-clause-each
returns-clause-each g c =
    c.loop-place.invariant.below

pub returns-clause-kept : goal.returns-clause-kept
returns-clause-kept g c =
    touches-then (g.D.Disk.device c.args.disk.now) (g.D.Disk.device c.loop-place.disk) (g.D.Disk.device c.append-2.new.disk) c.loop-place.invariant.touches c.append-2.ensures.kept

pub returns-clause-cause : goal.returns-clause-cause
returns-clause-cause g c =
    fails-then _ _ _ _ c.loop-place.invariant.counted c.loop-place.invariant.touches c.in_ok-end-2.ensures.cause
