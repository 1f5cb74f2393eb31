use Rattle.std.proofs.Common.{◌≡◌, ℕ, ◌<◌, length, arith, ◌+◌, ◌-◌, ◌^◌, min, List, map, replicate, ap, ◌∙◌}
use Rattle.jb_state.specs.State.{AreaState}
use Rattle.jb_state.specs.Tight.{headers_together, owned_slot, texts_together}
use Rattle.jb_state.specs.declared.area.Slot.{Slot}
use Rattle.jb_state.specs.declared.mark.Mark.{Mark}
use Rattle.jb_plain.proofs.SmallLaws.{headers_told, small_range, texts_told}
use Rattle.jb_plain.proofs.held.PlainState.of.Goals as goal

-- a state of these parts, with all other numbers 0
abbrev built : ℕ → List Slot → List Mark → ℕ → ℕ → AreaState
built base slots marks headers texts = record {
  created = 0;
  counter = 0;
  active = 0;
  password = 0;
  reserved = replicate 1000 0;
  base = base;
  slots = map owned_slot slots;
  marks = marks;
  headers_len = headers;
  texts_len = texts;
}

pub returns : goal.returns
returns c =
    let area = c.args.area in
    let base : ℕ = area.base in
    let slots : List Slot = area.slots in
    let few : length (map owned_slot slots) < 2 ^ 32 = omega (arith, c.requires.few_slots, c.ranges.slots.fits) in
    let same : c.into_vec-slots.result.items ≡ slots = c.into_vec-slots.ensures in
    let headers : c.headers_length-headers_len.result ≡ 1024 + headers_together (map owned_slot slots) =
    c.headers_length-headers_len.ensures
    ∙ ap (λ (l : List Slot). min (1024 + headers_together (map owned_slot l)) (2 ^ 64 - 1)) (c.deref.ensures.value ∙ same)
    ∙ headers_told (map owned_slot slots) few (small_range (map owned_slot slots) c.requires.each) in
    let texts : c.texts_length-texts_len.result ≡ texts_together (map owned_slot slots) =
    c.texts_length-texts_len.ensures
    ∙ ap (λ (l : List Slot). min (texts_together (map owned_slot l)) (2 ^ 64 - 1)) (c.deref-2.ensures.value ∙ same)
    ∙ texts_told (map owned_slot slots) few (small_range (map owned_slot slots) c.requires.each) in
    ap (λ (l : List Slot). built base l c.into_vec.result.items c.headers_length-headers_len.result c.texts_length-texts_len.result) same
    ∙ ap (λ (m : List Mark). built base slots m c.headers_length-headers_len.result c.texts_length-texts_len.result) c.into_vec.ensures
    ∙ ap (λ (n : ℕ). built base slots area.marks n c.texts_length-texts_len.result) headers
    ∙ ap (built base slots area.marks (1024 + headers_together (map owned_slot slots))) texts
