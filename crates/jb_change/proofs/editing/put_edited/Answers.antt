use Rattle.std.proofs.Common.{◌≡◌, ℕ, ◌+◌, ◌*◌, List, length, ap, refl, subst, sym, ◌∙◌, arith}
use Rattle.jb_disk.specs.declared.version.Version.TheVariants.{Two}
use Rattle.jb_disk.specs.declared.file.FileId.TheVariants.{Jdx}
use Rattle.jb_image.proofs.RecordLemmas.{length-entry}
use Rattle.jb_image.specs.Records.{entry_for}
use Rattle.jb_redo.specs.Rules.{AreLegalLengths}
use Rattle.jb_state.specs.Loaded.{with_message_anew}
use Rattle.jb_state.specs.declared.change.Change.TheVariants.{Edited}
use Rattle.jb_state.specs.declared.loaded.Loaded.{Loaded}
use Rattle.jb_state.specs.declared.loaded.LoadedMessage.{LoadedMessage}
use Rattle.jb_state.specs.declared.loaded.LoadedSlot.TheVariants.{Live}
use Rattle.jb_change.specs.Changing.{Puts}
use Rattle.jb_change.specs.Headers.{UpdatesBut}
use Rattle.jb_change.specs.Put.{IsMoved}
use Rattle.jb_change.proofs.AfterLemmas.{anew_is, counted_is, near_record}
use Rattle.jb_change.proofs.EditedLemmas.{left_anew, legal_message_lengths, numbered_anew, size_of_message, updates_anew}
use Rattle.jb_change.proofs.editing.put_edited.Goals as goal

pub returns-clause-makes : goal.returns-clause-makes
returns-clause-makes c =
    let from : Loaded = c.args.loaded.now in
    let place : ℕ = c.args.place in
    let message : LoadedMessage = c.args.message.now in
    let text : List ℕ = c.args.text.now in
    let puts = subst (λ (l : List ℕ). Puts Jdx (8 * place) l c.put_message.new.redo c.put_piece.new.redo) c.entry_bytes.ensures.exact c.put_piece.ensures.puts in
    subst (λ (l : Loaded). UpdatesBut (IsMoved (Edited place message)) c.put_counts.new.redo from l text) (counted_is (with_message_anew place message from) _ c.args.active refl c.requires.active)
    (updates_anew from message text (from.base + place) (anew_is from place message text c.requires.sound c.requires.fits c.requires.text) c.put_message.new.redo c.in_ok-put_message.ensures.lengths c.in_ok-put_message.ensures.pieces
    c.put_piece.new.redo place c.requires.fits.was puts c.requires.fits.here (near_record from place c.requires.fits.was c.requires.sound c.requires.fits.here) c.in_ok-put_message.ensures.back c.in_ok-put_message.ensures.fit c.entry_bytes.ensures.back
    c.put_counts.new.redo _ c.args.active c.put_counts.ensures.makes c.put_counts.ensures.only)

pub returns-clause-numbered : goal.returns-clause-numbered
returns-clause-numbered c =
    let from : Loaded = c.args.loaded.now in
    let place : ℕ = c.args.place in
    let message : LoadedMessage = c.args.message.now in
    let text : List ℕ = c.args.text.now in
    let puts = subst (λ (l : List ℕ). Puts Jdx (8 * place) l c.put_message.new.redo c.put_piece.new.redo) c.entry_bytes.ensures.exact c.put_piece.ensures.puts in
    numbered_anew from message text (from.base + place) (anew_is from place message text c.requires.sound c.requires.fits c.requires.text) c.put_message.new.redo c.in_ok-put_message.ensures.lengths c.in_ok-put_message.ensures.pieces
    c.put_piece.new.redo place c.requires.fits.was puts c.requires.fits.here (near_record from place c.requires.fits.was c.requires.sound c.requires.fits.here) c.in_ok-put_message.ensures.back c.in_ok-put_message.ensures.fit c.entry_bytes.ensures.back
    c.put_counts.new.redo _ c.args.active c.put_counts.ensures.makes c.put_counts.ensures.only

pub returns-clause-leaves : goal.returns-clause-leaves
returns-clause-leaves c =
    let from : Loaded = c.args.loaded.now in
    let place : ℕ = c.args.place in
    let message : LoadedMessage = c.args.message.now in
    let text : List ℕ = c.args.text.now in
    let puts = subst (λ (l : List ℕ). Puts Jdx (8 * place) l c.put_message.new.redo c.put_piece.new.redo) c.entry_bytes.ensures.exact c.put_piece.ensures.puts in
    let left = left_anew from message text (from.base + place) (anew_is from place message text c.requires.sound c.requires.fits c.requires.text) c.put_message.new.redo c.in_ok-put_message.ensures.lengths c.in_ok-put_message.ensures.pieces
    c.put_piece.new.redo place c.requires.fits.was puts c.requires.fits.here (near_record from place c.requires.fits.was c.requires.sound c.requires.fits.here) c.in_ok-put_message.ensures.back c.in_ok-put_message.ensures.fit c.entry_bytes.ensures.back
    c.put_counts.new.redo _ c.args.active c.put_counts.ensures.makes c.put_counts.ensures.only in
    record { bytes = left; index = tt }

pub returns-clause-writable : goal.returns-clause-writable
returns-clause-writable c =
    let from : Loaded = c.args.loaded.now in
    let message : LoadedMessage = c.args.message.now in
    let text : List ℕ = c.args.text.now in
    let fits = c.requires.fits in
    let ends = anew_is from c.args.place message text c.requires.sound fits c.requires.text in
    let first = size_of_message from message text (from.base + c.args.place) ends c.put_message.new.redo c.in_ok-put_message.ensures.lengths c.in_ok-put_message.ensures.pieces in
    let entry : length c.entry_bytes.result ≡ 8 = ap length c.entry_bytes.ensures.exact ∙ length-entry (entry_for (Live message)) in
    record {
      lengths_are = subst (AreLegalLengths Two) (sym (c.put_counts.ensures.lengths ∙ c.put_piece.ensures.puts.lengths ∙ c.in_ok-put_message.ensures.lengths)) (legal_message_lengths from message text ends);
      short = omega (arith, c.put_counts.ensures.size, c.put_piece.ensures.size, first, entry, ends.few_bytes, ends.short_text);
    }
