use Rattle.std.proofs.Common.{◌∙◌, ℕ, List, [], refl, subst, sym}
use Rattle.std.specs.Option.{ForSome}
use Rattle.std.specs.Prelude.{replicate}
use Rattle.std.proofs.lemmas.List.{length-replicate}
use Rattle.jb_limits.specs.declared.limits.TheConstants.{MOST_SLOTS}
use Rattle.jb_image.specs.Stands.{Loads}
use Rattle.jb_state.specs.State.{state_of}
use Rattle.jb_state.specs.declared.loaded.Loaded.{Loaded}
use Rattle.jb_model.specs.declared.reply.Reply.TheVariants.{TextFull}
use Rattle.jb_pack.specs.Finish.{FinishesPack}
use Rattle.jb_pack.specs.Plan.{AnswersPack}
use Rattle.jb_pack.proofs.StateLemmas.{base_packed}
use Rattle.jb_pack.specs.declared.packing.Packing.{Packing}
use Rattle.jb_decide.proofs.CopiesLemmas.{with_copies}
use Rattle.jb_decide.proofs.DecidedLemmas.{same_answer, unchanged_decided}
use Rattle.jb_decide.proofs.PackLemmas.{full_step, not_full, pack_decided, pack_refused, packed_some}
use Rattle.jb_decide.proofs.packing.decide_pack.Goals as goal

pub finish-requires-clause-links : goal.finish-requires-clause-links
finish-requires-clause-links g c = λ texts. c.as_slice.ensures ∙ c.in_ok-links.ensures texts

pub finish-requires-clause-holds : goal.finish-requires-clause-holds
finish-requires-clause-holds g c =
    subst (λ (l : Loaded). ForSome (g.D.Disk.device c.args.disk.now).contents (Loads l)) (sym c.loaded-loaded.ensures) c.requires.holds

pub room_for_pack-requires-clause-base : goal.room_for_pack-requires-clause-base
room_for_pack-requires-clause-base g c = rw (← c.loaded-loaded.ensures) (
    let loaded : Loaded = c.loaded-loaded.result.now in
    let texts : List ℕ = replicate loaded.texts_len 0 in
    (subst (AnswersPack (state_of texts loaded)) c.in-Fits.is (c.in_ok-length.ensures.answer texts (length-replicate loaded.texts_len 0))).base ∙ base_packed texts loaded)

pub returns-in-TextFull-clause-decided : goal.returns-in-TextFull-clause-decided
returns-in-TextFull-clause-decided g c = rw (← c.loaded-loaded.ensures) (λ rules user moment texts contents kept may are.
    let loaded : Loaded = c.loaded-loaded.result.now in
    with_copies rules loaded texts contents _ c.finish.new.redo user moment _ c.unchanged.result
    (unchanged_decided rules loaded texts contents c.finish.new.redo user moment _ _ c.unchanged.result (TextFull c.in-TextFull.length)
    c.unchanged.ensures.reply c.unchanged.ensures.change c.unchanged.ensures.room
    (pack_refused rules loaded user moment (TextFull c.in-TextFull.length) refl kept.sound
    (λ any sized. full_step rules (state_of any loaded) user c.in-TextFull.length may.allowed
    (subst (AnswersPack (state_of any loaded)) c.in-TextFull.is (c.in_ok-length.ensures.answer any sized))))
    (same_answer loaded texts contents (TextFull c.in-TextFull.length) are.sized) are.sized))

pub returns-in_ok-room-in-Fits-clause-decided : goal.returns-in_ok-room-in-Fits-clause-decided
returns-in_ok-room-in-Fits-clause-decided g c =
    let brought = rw (← c.loaded-loaded.ensures) at c.in_ok-room-in-Fits.ensures in
    rw (← c.loaded-loaded.ensures) (λ rules user moment texts contents kept may are.
    let loaded : Loaded = c.loaded-loaded.result.now in
    pack_decided rules loaded texts contents c.args.packer.now c.finish.new.redo user moment c.in-Fits.base c.in-Fits.live c.in-Fits.dropped c.in_ok-links.links c.in_ok-room-in-Fits.room
    may.allowed kept.sound are.sized
    (subst (AnswersPack (state_of texts loaded)) c.in-Fits.is (c.in_ok-length.ensures.answer texts are.sized))
    (subst (λ (p : Packing). FinishesPack c.args.packer.now loaded c.empty.new.redo c.finish.new.redo p) c.in-Fits.is c.in_ok-length.ensures.finishes)
    (c.in_ok-links.ensures []) brought)

pub returns-in-TextFull-clause-changes : goal.returns-in-TextFull-clause-changes
returns-in-TextFull-clause-changes g c =
    let sound = rw (← c.loaded-loaded.ensures) at c.requires.sound in
    rw (← c.loaded-loaded.ensures) (λ fits.
    let loaded : Loaded = c.loaded-loaded.result.now in
    let texts : List ℕ = replicate loaded.texts_len 0 in
    absurd (not_full MOST_SLOTS loaded texts c.in-TextFull.length sound (length-replicate loaded.texts_len 0) fits
    (subst (AnswersPack (state_of texts loaded)) c.in-TextFull.is (c.in_ok-length.ensures.answer texts (length-replicate loaded.texts_len 0)))))

pub returns-in_ok-room-in-Fits-clause-changes : goal.returns-in_ok-room-in-Fits-clause-changes
returns-in_ok-room-in-Fits-clause-changes g c = λ fits. packed_some c.in_ok-links.links c.in-Fits.base
