use Rattle.std.proofs.Common.{◌≡◌, ◌∷◌, ◌+◌, ◌∙◌, List, [], ℕ, drop, get_or, subst, sym, ap, arith}
use Rattle.std.specs.Prelude.{sum}
use Rattle.std.proofs.lemmas.List.{drop_all, get_or_read}
use Rattle.std.proofs.lemmas.List.Elements.{All-head}
use Rattle.jb_state.specs.Sound.{IsSlotWithin}
use Rattle.jb_state.specs.declared.loaded.LoadedMessage.{LoadedMessage}
use Rattle.jb_state.specs.declared.loaded.LoadedSlot.{LoadedSlot}
use Rattle.jb_state.specs.declared.loaded.LoadedSlot.TheVariants.{Empty, Live}
use Rattle.jb_pack.specs.Shadow.{left_of, lefts, not_copied}
use Rattle.jb_pack.specs.declared.copied.CopiedText.{CopiedText}
use Rattle.jb_pack.specs.declared.run.Run.{Run}
use Rattle.jb_pack.proofs.CopyLemmas.{text_run}
use Rattle.jb_pack.proofs.PuttingLemmas.{IsPutting, IsTextRun, is_text_run, put_all, putting_joined, putting_next}
use Rattle.jb_pack.proofs.ShadowLemmas.{left-zero}
use Rattle.jb_pack.proofs.SlotLemmas.{from_place}
use Rattle.jb_pack.proofs.finishing.put_copies.Goals as goal

pub loop-place-preserved-in-Some : goal.loop-place-preserved-in-Some
loop-place-preserved-in-Some c =
    let slots : List LoadedSlot = c.as_slice-slots.result.now in
    let k : ℕ = c.loop-place.place in
    let rest : List LoadedSlot = drop (k + 1) slots in
    let message : LoadedMessage = c.in-Live.message in
    let text : Run = record { at = c.copy_of.result.at; len = message.text_len } in
    let here : IsPutting c.args.loaded.now c.args.copies.now c.args.redo.now c.loop-place.redo c.loop-place.run c.loop-place.end (Live message ∷ rest) =
    subst (IsPutting c.args.loaded.now c.args.copies.now c.args.redo.now c.loop-place.redo c.loop-place.run c.loop-place.end)
    (from_place slots k c.index-slots-place.result c.loop-place-test.true c.index-slots-place.is ∙ ap (λ (s : LoadedSlot). s ∷ rest) c.in-Live.is) c.loop-place.invariant in
    let within = All-head (IsSlotWithin c.args.loaded.now.headers_len c.args.loaded.now.texts_len) (Live message) rest here.within in
    let live : get_or slots k Empty ≡ Live message = sym (get_or_read slots k c.index-slots-place.result c.loop-place-test.true c.index-slots-place.is Empty) ∙ c.in-Live.is in
    let none : left_of (get_or c.args.copies.now k not_copied) (Live message) ≡ 0 =
    ap (left_of (get_or c.args.copies.now k not_copied)) (sym live)
    ∙ left-zero c.args.copies.now slots k c.loop-place-test.true (ap (λ (l : List LoadedSlot). sum (lefts c.args.copies.now l)) c.as_slice-slots.ensures ∙ c.requires.all) in
    let is : IsTextRun c.args.copies.now message text =
    subst (λ (copied : CopiedText). IsTextRun c.args.copies.now message (record { at = copied.at; len = message.text_len })) (sym c.copy_of.ensures)
    (is_text_run c.args.loaded.now.headers_len c.args.loaded.now.texts_len c.args.copies.now k message c.requires.each within none) in
    putting_joined c.args.loaded.now c.args.copies.now c.args.redo.now c.loop-place.redo c.loop-place.run c.loop-place.end message text rest is here
    c.in-Some.more c.in-Some.ensures.joined c.in-Some.ensures.run

pub loop-place-preserved : goal.loop-place-preserved
loop-place-preserved c =
    let slots : List LoadedSlot = c.as_slice-slots.result.now in
    let k : ℕ = c.loop-place.place in
    let rest : List LoadedSlot = drop (k + 1) slots in
    let message : LoadedMessage = c.in-Live.message in
    let text : Run = record { at = c.copy_of.result.at; len = message.text_len } in
    let here : IsPutting c.args.loaded.now c.args.copies.now c.args.redo.now c.loop-place.redo c.loop-place.run c.loop-place.end (Live message ∷ rest) =
    subst (IsPutting c.args.loaded.now c.args.copies.now c.args.redo.now c.loop-place.redo c.loop-place.run c.loop-place.end)
    (from_place slots k c.index-slots-place.result c.loop-place-test.true c.index-slots-place.is ∙ ap (λ (s : LoadedSlot). s ∷ rest) c.in-Live.is) c.loop-place.invariant in
    let within = All-head (IsSlotWithin c.args.loaded.now.headers_len c.args.loaded.now.texts_len) (Live message) rest here.within in
    let live : get_or slots k Empty ≡ Live message = sym (get_or_read slots k c.index-slots-place.result c.loop-place-test.true c.index-slots-place.is Empty) ∙ c.in-Live.is in
    let none : left_of (get_or c.args.copies.now k not_copied) (Live message) ≡ 0 =
    ap (left_of (get_or c.args.copies.now k not_copied)) (sym live)
    ∙ left-zero c.args.copies.now slots k c.loop-place-test.true (ap (λ (l : List LoadedSlot). sum (lefts c.args.copies.now l)) c.as_slice-slots.ensures ∙ c.requires.all) in
    let is : IsTextRun c.args.copies.now message text =
    subst (λ (copied : CopiedText). IsTextRun c.args.copies.now message (record { at = copied.at; len = message.text_len })) (sym c.copy_of.ensures)
    (is_text_run c.args.loaded.now.headers_len c.args.loaded.now.texts_len c.args.copies.now k message c.requires.each within none) in
    putting_next c.args.loaded.now c.args.copies.now c.args.redo.now c.loop-place.redo c.loop-place.run c.loop-place.end message text rest is here
    c.put_copy.new.redo c.in_ok-end.end c.in_ok-end.ensures.lengths c.in_ok-end.ensures.pieces c.in_ok-end.ensures.next c.put_copy.ensures.room
    (λ end placed. text_run end text c.in_default-joined.ensures.other placed)

pub returns-clause-puts : goal.returns-clause-puts
returns-clause-puts c =
    let slots : List LoadedSlot = c.as_slice-slots.result.now in
    let none : drop c.loop-place.place slots ≡ [] = drop_all c.loop-place.place slots (omega arith) in
    put_all c.args.loaded.now c.args.copies.now c.args.redo.now c.loop-place.redo c.put_copy-2.new.redo c.loop-place.run c.loop-place.end
    (subst (IsPutting c.args.loaded.now c.args.copies.now c.args.redo.now c.loop-place.redo c.loop-place.run c.loop-place.end) none c.loop-place.invariant)
    c.in_ok-put_copy.ensures.lengths c.in_ok-put_copy.ensures.pieces c.in_ok-put_copy.ensures.few
