use Rattle.std.proofs.Common.{◌≡◌, ◌∷◌, ◌+◌, ◌-◌, ◌≤◌, ◌∙◌, List, ℕ, drop, length, [], subst, sym, ap, arith, length-drop}
use Rattle.std.proofs.lemmas.List.{append-nil}
use Rattle.jb_limits.specs.declared.limits.TheConstants.{TEXTS_CEILING, MOST_SLOTS}
use Rattle.jb_disk.specs.declared.file.FileId.TheVariants.{Jhr}
use Rattle.jb_state.specs.declared.links.Links.{Links}
use Rattle.jb_state.specs.declared.loaded.LoadedMessage.{LoadedMessage}
use Rattle.jb_state.specs.declared.loaded.LoadedSlot.{LoadedSlot}
use Rattle.jb_state.specs.declared.loaded.LoadedSlot.TheVariants.{Live}
use Rattle.jb_pack.proofs.SlotLemmas.{IsPut, all_put, put_all, from_place, links_are, put_live, put_no_message, put_none, has_place, keeps_then}
use Rattle.jb_image.specs.Records.{IsHeaderReadAgain, message_bytes}
use Rattle.jb_pack.specs.Bytes.{headers_bytes}
use Rattle.jb_pack.specs.Laid.{Lays}
use Rattle.jb_state.specs.Packed.{live_slots, moved, new_base, packed, texts_size}
use Rattle.jb_pack.specs.declared.place.Place.{Place}
use Rattle.jb_pack.proofs.slots.put_slots.Goals as goal

pub loop-slot-init : goal.loop-slot-init
loop-slot-init c =
    rw c.requires.base
    (rw c.requires.slots
    (put_none c.args.loaded.now c.args.links.now c.args.redo.now MOST_SLOTS c.args.index.now c.requires.sound c.requires.links
    (subst (λ (l : List LoadedSlot). texts_size l ≤ TEXTS_CEILING) c.requires.slots c.requires.texts) c.requires.fixed c.requires.index))

pub loop-slot-preserved : goal.loop-slot-preserved
loop-slot-preserved c =
    let k : ℕ = c.loop-slot.slot-index in
    let rest : List LoadedSlot = drop (k + 1) c.args.slots.now in
    let place : Place = c.loop-slot.place in
    let message : LoadedMessage = c.in-Live.message in
    let none : Links = record { number = 0; reply_to = 0; first = 0; next = 0 } in
    let here : IsPut c.args.loaded.now c.args.links.now c.args.redo.now c.loop-slot.redo c.loop-slot.index place k (Live message ∷ rest) =
    subst (IsPut c.args.loaded.now c.args.links.now c.args.redo.now c.loop-slot.redo c.loop-slot.index place k)
    (from_place c.args.slots.now k c.slot-item.result c.loop-slot-test.true c.slot-item.is ∙ ap (λ (s : LoadedSlot). s ∷ rest) c.in-Live.is) c.loop-slot.invariant in
    let links = links_are c.args.loaded.now c.args.links.now c.args.redo.now c.loop-slot.redo c.loop-slot.index place k message rest none here in
    put_live c.args.loaded.now c.args.links.now c.args.redo.now c.loop-slot.redo c.put_message.new.redo c.loop-slot.index c.push_entry-in-loop-slot.new.index
    place c.in_ok-place.place k message rest c.in_ok-push_entry-2.ensures.ok c.in_ok-push_entry-2.ensures.back
    (subst (λ (l : Links). Lays Jhr 1 (message_bytes place.number (moved l place.header_at place.text_at message)) c.loop-slot.redo c.put_message.new.redo) links c.in_ok-place.ensures.lays)
    (subst (λ (l : Links). IsHeaderReadAgain place.number (moved l place.header_at place.text_at message)) links c.in_ok-place.ensures.back)
    c.in_ok-place.ensures.next c.put_message.ensures.kept here

pub loop-slot-preserved-in_default : goal.loop-slot-preserved-in_default
loop-slot-preserved-in_default c =
    let k : ℕ = c.loop-slot.slot-index in
    let rest : List LoadedSlot = drop (k + 1) c.args.slots.now in
    let here : IsPut c.args.loaded.now c.args.links.now c.args.redo.now c.loop-slot.redo c.loop-slot.index c.loop-slot.place k (c.slot-item.result ∷ rest) =
    subst (IsPut c.args.loaded.now c.args.links.now c.args.redo.now c.loop-slot.redo c.loop-slot.index c.loop-slot.place k)
    (from_place c.args.slots.now k c.slot-item.result c.loop-slot-test.true c.slot-item.is) c.loop-slot.invariant in
    put_no_message c.args.loaded.now c.args.links.now c.args.redo.now c.loop-slot.redo c.loop-slot.index c.push_entry.new.index c.loop-slot.place k c.slot-item.result rest
    c.in_default.not-Live c.in_ok-push_entry.ensures.ok c.in_ok-push_entry.ensures.back here

pub returns-in_err-push_entry-clause-kept : goal.returns-in_err-push_entry-clause-kept
returns-in_err-push_entry-clause-kept c = c.loop-slot.invariant.room

pub returns-in_err-push_entry-2-clause-kept : goal.returns-in_err-push_entry-2-clause-kept
returns-in_err-push_entry-2-clause-kept c = c.loop-slot.invariant.room

pub returns-in_err-place-clause-kept : goal.returns-in_err-place-clause-kept
returns-in_err-place-clause-kept c = keeps_then c.args.redo.now c.loop-slot.redo c.put_message.new.redo c.loop-slot.invariant.room c.put_message.ensures.kept

pub put_message-requires : goal.put_message-requires
put_message-requires c =
    let k : ℕ = c.loop-slot.slot-index in
    let rest : List LoadedSlot = drop (k + 1) c.args.slots.now in
    let place : Place = c.loop-slot.place in
    let here : IsPut c.args.loaded.now c.args.links.now c.args.redo.now c.loop-slot.redo c.loop-slot.index place k (Live c.in-Live.message ∷ rest) =
    subst (IsPut c.args.loaded.now c.args.links.now c.args.redo.now c.loop-slot.redo c.loop-slot.index place k)
    (from_place c.args.slots.now k c.slot-item.result c.loop-slot-test.true c.slot-item.is ∙ ap (λ (s : LoadedSlot). s ∷ rest) c.in-Live.is) c.loop-slot.invariant in
    let there = has_place c.args.loaded.now c.args.links.now c.args.redo.now c.loop-slot.redo c.loop-slot.index place k c.in-Live.message rest here in
    let sound = c.requires.sound in
    let kept_len = length-drop (c.args.base - c.args.loaded.now.base) c.args.loaded.now.slots in
    let slots_are : c.args.slots.now ≡ drop (c.args.base - c.args.loaded.now.base) c.args.loaded.now.slots = rw c.requires.base c.requires.slots in
    record {
      few = there.few;
      at = c.loop-slot.invariant.at;
      headers = there.headers;
      texts = there.texts;
      number = omega (arith, there.number, sound.numbers);
      live = omega (arith, c.loop-slot.invariant.few, c.loop-slot-test.true, ap length slots_are, kept_len, sound.few_slots);
    }

-- what stands at the end of the loop
abbrev ended : (c : goal.After-drop-buffer-2)
    → IsPut c.args.loaded.now c.args.links.now c.args.redo.now c.loop-slot.redo c.loop-slot.index c.loop-slot.place (length c.args.slots.now) []
ended c = all_put c.args.loaded.now c.args.links.now c.args.redo.now c.args.slots.now c.loop-slot.redo c.loop-slot.index c.loop-slot.place c.loop-slot.slot-index c.loop-slot-test.false c.loop-slot.auto.slot-index-end c.loop-slot.invariant

pub returns-clause-lays : goal.returns-clause-lays
returns-clause-lays c =
    let all = put_all c.args.loaded.now c.args.links.now c.args.redo.now c.loop-slot.redo c.loop-slot.index c.loop-slot.place (length c.args.slots.now) (ended c) in
    rw c.requires.base
    (subst (λ (n : ℕ). Lays Jhr n (headers_bytes (new_base c.args.loaded.now) (packed c.args.loaded.now).slots) c.args.redo.now c.loop-slot.redo)
    (sym (ap live_slots c.requires.slots)) all.lays)

pub returns-clause-index : goal.returns-clause-index
returns-clause-index c = sym (append-nil c.loop-slot.index) ∙ (ended c).indexed

pub returns-clause-headers_back : goal.returns-clause-headers_back
returns-clause-headers_back c = rw c.requires.base ((ended c).headers_back tt)

pub returns-clause-entries_back : goal.returns-clause-entries_back
returns-clause-entries_back c = (ended c).entries_back tt

pub returns-clause-kept : goal.returns-clause-kept
returns-clause-kept c = (ended c).room
