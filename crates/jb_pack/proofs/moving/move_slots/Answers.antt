use Rattle.std.proofs.Common.{◌≡◌, ◌+◌, ◌<◌, ◌∷◌, ◌∙◌, ℕ, List, ap, arith, drop, get_or, length, subst, sym}
use Rattle.std.proofs.Math.Seq.{drop-length}
use Rattle.jb_state.specs.declared.links.Links.{Links}
use Rattle.jb_state.specs.declared.loaded.LoadedMessage.{LoadedMessage}
use Rattle.jb_state.specs.declared.loaded.LoadedSlot.{LoadedSlot}
use Rattle.jb_state.specs.declared.loaded.LoadedSlot.TheVariants.{Empty, Live}
use Rattle.jb_pack.specs.declared.place.Place.{Place}
use Rattle.jb_pack.proofs.MoveLemmas.{IsMoved, move_live, move_no_message, move_none, moved_all, rest_is}
use Rattle.jb_pack.proofs.moving.move_slots.Goals as goal

pub loop-at-preserved-in_default : goal.loop-at-preserved-in_default
loop-at-preserved-in_default c = λ live are.
    let all : List LoadedSlot = c.args.slots.now in
    let links : List Links = c.args.links.now in
    let now : List LoadedSlot = c.loop-at.slots in
    let place : Place = c.loop-at.place in
    let k : ℕ = c.loop-at.at in
    let slot : LoadedSlot = c.index-as_slice-at.result in
    let was = c.loop-at.invariant live are in
    let low : k < length all = omega (arith, c.loop-at-test.true, ap length c.as_slice-at-end.ensures) in
    let read : slot ≡ get_or now k slot = c.index-as_slice-at.is ∙ ap (λ (l : List LoadedSlot). get_or l k slot) c.as_slice.ensures in
    let here : IsMoved live links c.args.base all now place k (slot ∷ drop (k + 1) all) =
    subst (IsMoved live links c.args.base all now place k) (rest_is live links c.args.base all now place k slot low read was) was in
    subst (λ (l : List LoadedSlot). IsMoved live links c.args.base all l (record place { number = place.number + 1 }) (k + 1) (drop (k + 1) all)) (sym c.set.ensures)
    (move_no_message live links c.args.base all now place k slot (drop (k + 1) all) c.in_default.not-Live here)

pub loop-at-preserved : goal.loop-at-preserved
loop-at-preserved c = λ live are.
    let all : List LoadedSlot = c.args.slots.now in
    let links : List Links = c.args.links.now in
    let now : List LoadedSlot = c.loop-at.slots in
    let place : Place = c.loop-at.place in
    let k : ℕ = c.loop-at.at in
    let slot : LoadedSlot = c.index-as_slice-at.result in
    let message : LoadedMessage = c.in-Live.message in
    let none : Links = record { number = 0; reply_to = 0; first = 0; next = 0 } in
    let was = c.loop-at.invariant live are in
    let low : k < length all = omega (arith, c.loop-at-test.true, ap length c.as_slice-at-end.ensures) in
    let read : slot ≡ get_or now k slot = c.index-as_slice-at.is ∙ ap (λ (l : List LoadedSlot). get_or l k slot) c.as_slice.ensures in
    let rest : List LoadedSlot = drop (k + 1) all in
    let here : IsMoved live links c.args.base all now place k (Live message ∷ rest) =
    subst (IsMoved live links c.args.base all now place k)
    (rest_is live links c.args.base all now place k slot low read was ∙ ap (λ (s : LoadedSlot). s ∷ rest) c.in-Live.is) was in
    move_live live links c.args.base all now c.set_place.new.self place c.behind-next.result k c.linked-head.result message rest none
    (c.set_place.ensures Empty) c.linked-head.ensures c.behind-next.ensures here

pub loop-at-init : goal.loop-at-init
loop-at-init c = λ live are. move_none live c.args.links.now c.args.base c.args.slots.now are

pub returns-clause-moved : goal.returns-clause-moved
returns-clause-moved c = λ live are.
    let all : List LoadedSlot = c.args.slots.now in
    let even : c.loop-at.at ≡ length all = omega (arith, c.loop-at-test.false, c.loop-at.auto.at-end, ap length c.as_slice-at-end.ensures) in
    moved_all live c.args.links.now c.args.base all c.loop-at.slots c.loop-at.place c.loop-at.at
    (subst (IsMoved live c.args.links.now c.args.base all c.loop-at.slots c.loop-at.place c.loop-at.at) (ap (λ (n : ℕ). drop n all) even ∙ drop-length all) (c.loop-at.invariant live are))
