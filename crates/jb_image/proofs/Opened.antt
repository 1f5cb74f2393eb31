-- What a base that is opened passes.
use Rattle.std.proofs.Common.{ℕ, sym, subst}
use Rattle.jb_disk.specs.Files.{Files}
use Rattle.jb_state.specs.declared.loaded.LoadedMessage.{LoadedMessage}
use Rattle.jb_state.specs.declared.loaded.LoadedSlot.{LoadedSlot}
use Rattle.jb_state.specs.declared.loaded.LoadedSlot.TheVariants.{Empty, Killed, Live}
use Rattle.jb_record.specs.declared.index.IndexRecord.{IndexRecord}
use Rattle.jb_image.specs.Stands.{HasSlot, IsKilledAt, IsLiveIn}
use Rattle.jb_image.specs.Tests.{SlotTest, header_placed, header_signed, header_revised, subfields_placed, subfields_whole, text_placed, PassesAsHeader, IsWholeSlot}

-- a killed header passes all tests
killed_passes : (files : Files) (at : ℕ) → IsKilledAt files at → (test : SlotTest) → PassesAsHeader files at test
killed_passes files at is header_placed = is.header.placed
killed_passes files at is header_signed = is.header.shaped.signed
killed_passes files at is header_revised = is.header.shaped.revision
killed_passes files at is subfields_placed = λ live. absurd (is.deleted live)
killed_passes files at is subfields_whole = λ live. absurd (is.deleted live)
killed_passes files at is text_placed = λ live. absurd (is.deleted live)

-- a live message passes all tests
live_passes : (files : Files) (message : LoadedMessage) → IsLiveIn files message → (test : SlotTest) → PassesAsHeader files message.header_at test
live_passes files message is header_placed = is.header.placed
live_passes files message is header_signed = is.header.shaped.signed
live_passes files message is header_revised = is.header.shaped.revision
live_passes files message is subfields_placed = λ _. (is.live.few_bytes, is.live.placed)
live_passes files message is subfields_whole = λ _. (message.subfields, is.subfields)
live_passes files message is text_placed = λ _. is.live.text

-- a slot that the index names passes all tests
pub has_slot_whole : (files : Files) (entry : IndexRecord) (slot : LoadedSlot) → HasSlot files entry slot → IsWholeSlot files entry
has_slot_whole files entry Empty is test there = absurd (there is)
has_slot_whole files entry (Killed header_at) is test there =
    subst (λ (n : ℕ). PassesAsHeader files n test) (sym is.0) (killed_passes files header_at is.1 test)
has_slot_whole files entry (Live message) is test there =
    subst (λ (n : ℕ). PassesAsHeader files n test) (sym is.1) (live_passes files message is.2 test)
