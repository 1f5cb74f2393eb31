-- A test is the first that fails where those before it are passed.
use Rattle.std.proofs.Common.{◌≡◌, ℕ, ◌+◌, ◌<◌, ◌≤◌, List, length, ap, sym, ◌∙◌, subst, arith}
use Rattle.jb_bytes.specs.Subfields.{IsCutAt, IsSubfieldList}
use Rattle.jb_limits.specs.declared.limits.TheConstants.{MOST_SUBFIELD_BYTES}
use Rattle.jb_disk.specs.Files.{Files}
use Rattle.jb_disk.specs.declared.file.FileId.TheVariants.{Jhr}
use Rattle.jb_state.specs.Sound.{IsWithin}
use Rattle.jb_record.specs.declared.index.IndexRecord.{IndexRecord}
use Rattle.jb_image.specs.declared.error.Damage.{Damage}
use Rattle.jb_image.specs.declared.error.Damage.TheVariants as damaged
use Rattle.jb_image.specs.declared.seen.SeenMessage.{SeenMessage}
use Rattle.jb_image.specs.Answers.{IsDamaged}
use Rattle.jb_image.specs.Places.{bytes_at, header_in, subfields_in}
use Rattle.jb_image.specs.Reading.{IsCutBy, IsSeenLive}
use Rattle.jb_image.specs.Stands.{HasHeader}
use Rattle.jb_image.specs.Tests.{SlotTest, header_placed, header_signed, header_revised, subfields_placed, subfields_whole, text_placed, slot_rank, PassesAsHeader, PassesAsSlot, IsUndeleted}

-- the tests of a slot of which the rank is below this one, each from its own premise
pub earlier_in_slot : (files : Files) (entry : IndexRecord) (rank : ℕ)
    → (0 < rank → PassesAsHeader files entry.offset header_placed) → (1 < rank → PassesAsHeader files entry.offset header_signed)
    → (2 < rank → PassesAsHeader files entry.offset header_revised) → (3 < rank → PassesAsHeader files entry.offset subfields_placed)
    → (4 < rank → PassesAsHeader files entry.offset subfields_whole) → (5 < rank → PassesAsHeader files entry.offset text_placed)
    → (other : SlotTest) → slot_rank other < rank → PassesAsSlot files entry other
earlier_in_slot files entry rank a b c d e f header_placed low there = a low
earlier_in_slot files entry rank a b c d e f header_signed low there = b low
earlier_in_slot files entry rank a b c d e f header_revised low there = c low
earlier_in_slot files entry rank a b c d e f subfields_placed low there = d low
earlier_in_slot files entry rank a b c d e f subfields_whole low there = e low
earlier_in_slot files entry rank a b c d e f text_placed low there = f low

-- what was seen of a live message, at its place in the files
pub seen_live : (files : Files) (entry : IndexRecord) (message : SeenMessage) → IsSeenLive files entry message
    → IsUndeleted (header_in files entry.offset) × ((header_in files entry.offset).subfields ≡ message.header.subfields) × HasHeader files entry.offset
seen_live files entry message is =
    let at = is.at in
    let same : message.header ≡ header_in files entry.offset = is.same ∙ ap (header_in files) at in
    (subst IsUndeleted same is.live, ap (λ (h : _). h.subfields) (sym same), subst (HasHeader files) at is.header)

-- the bytes of its subfields
pub seen_bytes : (files : Files) (entry : IndexRecord) (message : SeenMessage) → IsSeenLive files entry message
    → bytes_at (message.header_at + 76) message.header.subfields (files Jhr) ≡ subfields_in files entry.offset
seen_bytes files entry message is =
    let same : message.header.subfields ≡ (header_in files entry.offset).subfields = sym (seen_live files entry message is).1 in
    ap (λ (n : ℕ). bytes_at (n + 76) message.header.subfields (files Jhr)) is.at ∙ ap (λ (n : ℕ). bytes_at (entry.offset + 76) n (files Jhr)) same

-- it passes the test of the place of its subfields
pub seen_placed : (files : Files) (entry : IndexRecord) (message : SeenMessage) → IsSeenLive files entry message
    → PassesAsHeader files entry.offset subfields_placed
seen_placed files entry message is live =
    let same = (seen_live files entry message is).1 in (
      subst (λ (n : ℕ). n ≤ MOST_SUBFIELD_BYTES) (sym same) is.few_bytes,
      subst (λ (n : ℕ). IsWithin (length (files Jhr)) entry.offset (76 + n)) (sym same) (subst (λ (n : ℕ). IsWithin (length (files Jhr)) n (76 + message.header.subfields)) is.at is.placed),
    )

-- the subfields of a live message are cut
pub fails_subfields_whole : (files : Files) (entry : IndexRecord) (message : SeenMessage) (damage : Damage) → IsSeenLive files entry message
    → IsCutBy (bytes_at (message.header_at + 76) message.header.subfields (files Jhr)) damage → IsDamaged files entry damage
fails_subfields_whole files entry message (damaged.Subfields at) is cut =
    let header = (seen_live files entry message is).2 in
    let bytes_is = seen_bytes files entry message is in (
      record {
        earlier = earlier_in_slot files entry 4 (λ _. header.placed) (λ _. header.shaped.signed) (λ _. header.shaped.revision)
            (λ _. seen_placed files entry message is) (λ low. absurd (omega arith)) (λ low. absurd (omega arith));
        fails = λ passes.
            let whole = passes is.there (seen_live files entry message is).0 in
            cut.1 whole.0 (subst (IsSubfieldList whole.0) (sym bytes_is) whole.1);
      },
      subst (λ (bytes : List ℕ). IsCutAt bytes at) bytes_is cut.0,
    )
fails_subfields_whole files entry message _ is cut = absurd cut
