-- What is backed up of files that hold an area, and to what it opens.
use Rattle.std.proofs.Common.{◌≡◌, inl, inr, ℕ, ◌+◌, ◌*◌, ◌<◌, ◌≤◌, List, [], ◌∷◌, length, take, drop, map, ap, refl, sym, ◌∙◌, subst, arith, length-take}
use Rattle.std.specs.Prelude.{min, slice_index, slice_index_or}
use Rattle.std.specs.Option.{ForSome}
use Rattle.std.proofs.lemmas.List.{same_lists, places, ext_get_or, get_or-map, length-map}
use Rattle.jb_bytes.specs.Subfields.{IsSubfieldList}
use Rattle.jb_limits.specs.declared.limits.TheConstants.{HEADERS_CEILING, INDEX_CEILING, LASTREAD_CEILING, MOST_SLOTS, TEXTS_CEILING}
use Rattle.jb_disk.proofs.FileLemmas.{leaves_map}
use Rattle.jb_disk.proofs.RunLemmas.{runs-weaken}
use Rattle.jb_disk.specs.Device.{Device}
use Rattle.jb_disk.specs.FileLaws.{same_files}
use Rattle.jb_disk.specs.Files.{Files}
use Rattle.jb_disk.specs.Runs.{LeavesOnly, Shows}
use Rattle.jb_disk.specs.declared.file.FileId.TheVariants.{Jhr, Jdt, Jdx, Jlr}
use Rattle.jb_record.specs.Fields.{signature}
use Rattle.jb_record.specs.Fixed.{IsFixedHeader, fixed_header_of}
use Rattle.jb_record.specs.Index.{index_record_of}
use Rattle.jb_record.specs.Lastread.{lastread_record_of}
use Rattle.jb_record.specs.Message.{IsMessageHeader, message_header_of}
use Rattle.jb_record.specs.declared.index.IndexRecord.{IndexRecord}
use Rattle.jb_record.specs.declared.message.MessageHeader.{MessageHeader}
use Rattle.jb_state.specs.Sound.{IsTextWithin, IsWithin}
use Rattle.jb_state.specs.State.{AreaState, SlotState, live_message, no_message, slot_state, state_of}
use Rattle.jb_state.specs.declared.loaded.Loaded.{Loaded}
use Rattle.jb_state.specs.declared.loaded.LoadedMessage.{LoadedMessage}
use Rattle.jb_state.specs.declared.loaded.LoadedSlot.{LoadedSlot}
use Rattle.jb_state.specs.declared.loaded.LoadedSlot.TheVariants.{Empty, Killed, Live}
use Rattle.jb_image.specs.Places.{bytes_at, entry_in, header_in}
use Rattle.jb_image.specs.Stands.{HasHeader, HasSlot, IsDeleted, IsLiveHeader, IsLiveIn, Loads, head_of}
use Rattle.jb_backup.specs.Target.{IsBackupOf, IsSame, backed_up, capped}
use Rattle.jb_decide.specs.Holds.{Holds}
use Rattle.jb_area.specs.Area.{IsResting}
use Rattle.jb_area.specs.Backups.{BackupsOpen, IsBackup, OpensToState, capped_state}
use Rattle.jb_area.specs.declared.area.OpenArea.{OpenArea}

-- bytes that lie below the ceiling
front_bytes : (most at len : ℕ) (bytes : List ℕ) → at + len ≤ most → bytes_at at len (take most bytes) ≡ bytes_at at len bytes
front_bytes most at len bytes low = same_lists _ _ (grind (arith, places)) (λ k d h. grind (arith, places))

-- no more bytes than the ceiling
all_bytes : (most : ℕ) (bytes : List ℕ) → length bytes ≤ most → take most bytes ≡ bytes
all_bytes most bytes low = same_lists _ _ (grind (arith, places)) (λ k d h. grind (arith, places))

-- signed headers begin with the first byte of the signature
signed_first : (bytes : List ℕ) → take 4 (bytes_at 0 1024 bytes) ≡ signature → (74 ∷ drop 1 bytes) ≡ bytes
signed_first [] signed = let none : 0 ≡ 4 = ap length signed in absurd (omega (arith, none))
signed_first (byte ∷ rest) signed = ap (λ (n : ℕ). n ∷ rest) (sym (ap (λ (l : List ℕ). slice_index l 0) signed))

-- the backup of headers is all of them up to the ceiling, the signature too
backed_headers : (files : Files) → IsFixedHeader (bytes_at 0 1024 (files Jhr)) → backed_up files Jhr ≡ take HEADERS_CEILING (files Jhr)
unfolding capped
backed_headers files header =
    signed_first (take HEADERS_CEILING (files Jhr)) (ap (take 4) (front_bytes HEADERS_CEILING 0 1024 (files Jhr) (omega arith)) ∙ header.signed)

backed_texts : (files : Files) → backed_up files Jdt ≡ take TEXTS_CEILING (files Jdt)
unfolding capped
backed_texts files = refl

backed_index : (files : Files) → length (files Jdx) ≤ INDEX_CEILING → backed_up files Jdx ≡ files Jdx
unfolding capped
backed_index files low = all_bytes INDEX_CEILING (files Jdx) low

backed_marks : (files : Files) → length (files Jlr) ≤ LASTREAD_CEILING → backed_up files Jlr ≡ files Jlr
unfolding capped
backed_marks files low = all_bytes LASTREAD_CEILING (files Jlr) low

-- the area as it is loaded from its backup
abbrev capped_loaded : Loaded → Loaded
capped_loaded loaded = record loaded { headers_len = min loaded.headers_len HEADERS_CEILING; texts_len = min loaded.texts_len TEXTS_CEILING }

-- of other files, whose headers and texts are those of these up to their ceilings
module _ (files other : Files) (jhr : other Jhr ≡ take HEADERS_CEILING (files Jhr)) (jdt : other Jdt ≡ take TEXTS_CEILING (files Jdt)) where
  -- bytes of the headers that lie below the ceiling
  headers_at : (at len : ℕ) → at + len ≤ HEADERS_CEILING → bytes_at at len (other Jhr) ≡ bytes_at at len (files Jhr)
  headers_at at len low = ap (bytes_at at len) jhr ∙ front_bytes HEADERS_CEILING at len (files Jhr) low

  -- each header lies there
  within_capped : (at len : ℕ) → IsWithin (length (files Jhr)) at len → IsWithin (length (other Jhr)) at len
  within_capped at len is =
      let size = ap length jhr in
      record { after = is.after; inside = omega (arith, size, length-take HEADERS_CEILING (files Jhr), is.inside, is.below); below = is.below }

  -- and so does each text
  text_capped : (at len : ℕ) → IsTextWithin (length (files Jdt)) at len → IsTextWithin (length (other Jdt)) at len
  text_capped at len is = record {
    short = is.short;
    placed = elim is.placed [
      | inl none ↦ inl none
      | inr there ↦
          let size = ap length jdt in
          inr (omega (arith, size, length-take TEXTS_CEILING (files Jdt), there.0, there.1), there.1)
    ];
  }

  header_same : (at : ℕ) → IsWithin (length (files Jhr)) at 76 → header_in other at ≡ header_in files at
  header_same at is = ap message_header_of (headers_at at 76 is.below)

  header_capped : (at : ℕ) → HasHeader files at → HasHeader other at
  header_capped at has = record { placed = within_capped at 76 has.placed; shaped = subst IsMessageHeader (sym (headers_at at 76 has.placed.below)) has.shaped }

  live_header : (at : ℕ) (header : MessageHeader) → IsLiveHeader (length (files Jhr)) (length (files Jdt)) at header → IsLiveHeader (length (other Jhr)) (length (other Jdt)) at header
  live_header at header is = record {
    live = is.live;
    few_bytes = is.few_bytes;
    placed = within_capped at (76 + header.subfields) is.placed;
    text = text_capped header.offset header.text_len is.text;
  }

  subfields_same : (at : ℕ) (header : MessageHeader) → header_in other at ≡ header → IsWithin (length (files Jhr)) at (76 + header.subfields)
      → bytes_at (at + 76) (header_in other at).subfields (other Jhr) ≡ bytes_at (at + 76) header.subfields (files Jhr)
  subfields_same at header same is =
      ap (λ (h : MessageHeader). bytes_at (at + 76) h.subfields (other Jhr)) same ∙ headers_at (at + 76) header.subfields (omega (arith, is.below))

  live_capped : (message : LoadedMessage) → IsLiveIn files message → IsLiveIn other message
  live_capped message is =
      let at = message.header_at in
      let same : header_in other at ≡ header_in files at = header_same at is.header.placed in
      record {
        header = header_capped at is.header;
        live = subst (IsLiveHeader (length (other Jhr)) (length (other Jdt)) at) (sym same) (live_header at (header_in files at) is.live);
        subfields = subst (IsSubfieldList message.subfields) (sym (subfields_same at (header_in files at) same is.live.placed)) is.subfields;
        head = is.head ∙ ap head_of (sym same);
        text_at = is.text_at ∙ ap (λ (h : MessageHeader). h.offset) (sym same);
        text_len = is.text_len ∙ ap (λ (h : MessageHeader). h.text_len) (sym same);
      }

  slot_capped : (entry : IndexRecord) (slot : LoadedSlot) → HasSlot files entry slot → HasSlot other entry slot
  slot_capped entry Empty has = has
  slot_capped entry (Killed header_at) has =
      (has.0, record { header = header_capped header_at has.1.header; deleted = subst IsDeleted (sym (header_same header_at has.1.header.placed)) has.1.deleted })
  slot_capped entry (Live message) has = (has.0, has.1, live_capped message has.2)

  -- with the same index and the same marks they hold the area
  loads_capped : (loaded : Loaded) → other Jdx ≡ files Jdx → other Jlr ≡ files Jlr → Loads loaded files → Loads (capped_loaded loaded) other
  loads_capped loaded jdx jlr loads =
      let first = headers_at 0 1024 (omega arith) in
      let headers_size = ap length jhr in
      let texts_size = ap length jdt in
      record {
        header = subst IsFixedHeader (sym first) loads.header;
        fixed = loads.fixed ∙ ap fixed_header_of (sym first);
        base = loads.base;
        numbers = loads.numbers;
        index = ap length jdx ∙ loads.index;
        slots = λ k d low. subst (λ (e : IndexRecord). HasSlot other e (slice_index_or loaded.slots k d))
            (ap (λ (b : List ℕ). index_record_of (bytes_at (8 * k) 8 b)) (sym jdx))
            (slot_capped (entry_in files k) (slice_index_or loaded.slots k d) (loads.slots k d low));
        apart = loads.apart;
        lastread = ap length jlr ∙ loads.lastread;
        marks = λ k d low. loads.marks k d low ∙ ap (λ (b : List ℕ). lastread_record_of (bytes_at (16 * k) 16 b)) (sym jlr);
        few_marks = loads.few_marks;
        headers_len = omega (arith, headers_size, length-take HEADERS_CEILING (files Jhr), loads.headers_len);
        texts_len = omega (arith, texts_size, length-take TEXTS_CEILING (files Jdt), loads.texts_len);
      }

-- the text of a live message lies below the ceiling
text_same : (texts : List ℕ) (at len : ℕ) → IsTextWithin (length texts) at len → bytes_at at len (take TEXTS_CEILING texts) ≡ bytes_at at len texts
text_same texts at len is = elim is.placed [
  | inl none ↦ ap (λ (n : ℕ). bytes_at at n (take TEXTS_CEILING texts)) none ∙ ap (λ (n : ℕ). bytes_at at n texts) (sym none)
  | inr there ↦ front_bytes TEXTS_CEILING at len texts there.1
]

slot_same : (files : Files) (entry : IndexRecord) (slot : LoadedSlot) → HasSlot files entry slot → slot_state (files Jdt) slot ≡ slot_state (take TEXTS_CEILING (files Jdt)) slot
slot_same files entry Empty has = refl
slot_same files entry (Killed header_at) has = refl
slot_same files entry (Live message) has =
    let is = has.2 in
    let placed : IsTextWithin (length (files Jdt)) message.text_at message.text_len =
    subst (λ (n : ℕ). IsTextWithin (length (files Jdt)) n message.text_len) (sym is.text_at)
    (subst (λ (n : ℕ). IsTextWithin (length (files Jdt)) (header_in files message.header_at).offset n) (sym is.text_len) is.live.text) in
    ap (λ (t : List ℕ). live_message (record { owner = message.owner; head = message.head; subfields = message.subfields; text = t }))
    (sym (text_same (files Jdt) message.text_at message.text_len placed))

-- so the area has the same slots by the texts of its backup
slots_same : (files : Files) (loaded : Loaded) → Loads loaded files → map (slot_state (files Jdt)) loaded.slots ≡ map (slot_state (take TEXTS_CEILING (files Jdt))) loaded.slots
slots_same files loaded loads =
    let own = slot_state (files Jdt) in
    let kept = slot_state (take TEXTS_CEILING (files Jdt)) in
    ext_get_or no_message (map own loaded.slots) (map kept loaded.slots) (length-map loaded.slots own ∙ sym (length-map loaded.slots kept)) (λ k low.
    let there : k < length loaded.slots = omega (arith, low, length-map loaded.slots own) in
    get_or-map own loaded.slots k Empty no_message there
    ∙ slot_same files (entry_in files k) (slice_index_or loaded.slots k Empty) (loads.slots k Empty there)
    ∙ sym (get_or-map kept loaded.slots k Empty no_message there))

-- and the same state but for the lengths
state_same : (files : Files) (loaded : Loaded) → Loads loaded files → capped_state (state_of (files Jdt) loaded) ≡ state_of (take TEXTS_CEILING (files Jdt)) (capped_loaded loaded)
state_same files loaded loads = ap (λ (s : List SlotState). record (capped_state (state_of (files Jdt) loaded)) { slots = s }) (slots_same files loaded loads)

-- what is backed up holds that area
backed_holds : (loaded : Loaded) (texts : List ℕ) (files : Files) → Holds loaded texts files → length loaded.slots ≤ MOST_SLOTS → Holds (capped_loaded loaded) (take TEXTS_CEILING (files Jdt)) (backed_up files)
backed_holds loaded texts files holds few =
    let loads = holds.loads in
    record {
      loads = loads_capped files (backed_up files) (backed_headers files loads.header) (backed_texts files) loaded
          (backed_index files (omega (arith, loads.index, few))) (backed_marks files (omega (arith, loads.lastread, loads.few_marks))) loads;
      texts_are = backed_texts files;
    }

-- and opens to its state
pub backups_open_so : BackupsOpen
backups_open_so loaded texts files holds few = record {
  journal = refl;
  loaded = capped_loaded loaded;
  texts = take TEXTS_CEILING (files Jdt);
  opens = record { after = backed_up files; replays = inl ((λ gate. let longer = gate.longer in absurd (omega (arith, longer))), refl); holds = backed_holds loaded texts files holds few };
  same = ap (λ (t : List ℕ). capped_state (state_of t loaded)) (sym holds.texts_are) ∙ state_same files loaded holds.loads;
}

-- files that are the same open to the same
pub same_opens : (state : AreaState) (good files : Files) → IsSame good files → OpensToState state good → OpensToState state files
same_opens state good files same opens = subst (OpensToState state) (sym (same_files files good same)) opens

-- the backup of files that hold an area is one of its state
pub backup_of : (loaded : Loaded) (texts : List ℕ) (source files : Files) → Holds loaded texts source → length loaded.slots ≤ MOST_SLOTS → IsBackupOf (backed_up source) files → IsBackup (state_of texts loaded) files
backup_of loaded texts source files holds few (inl refused) = inl refused
backup_of loaded texts source files holds few (inr same) =
    inr (same_opens (capped_state (state_of texts loaded)) (backed_up source) files same (backups_open_so loaded texts source holds few))

module _ {D : Type 0} (shown : D → Device) (area : OpenArea D) (texts : List ℕ) (resting : IsResting shown area texts) where
  -- the files of a resting area hold it
  pub rest_holds : ForSome (shown area.disk).contents (Holds area.held texts)
  rest_holds = λ files there. (resting.kept.settled.rests files there).holds

  -- and it has no more slots than any may have
  pub rest_few : length area.held.slots ≤ MOST_SLOTS
  rest_few = omega (arith, resting.kept.ruled.sound.few_slots, resting.kept.ruled.few_slots)

  -- a target that shows its backup opens to its state, as it is read and after a crash
  pub rest_same : (target : Device) → ForSome (shown area.disk).contents (λ files. Shows (IsSame (backed_up files)) target)
      → ForSome (shown area.disk).contents (λ _. Shows (OpensToState (capped_state (state_of texts area.held))) target)
  rest_same target whole = λ files there.
      let shows = whole files there in
      let state = capped_state (state_of texts area.held) in
      let opens : (held : Files) → IsSame (backed_up files) held → OpensToState state held =
      λ held same. same_opens state (backed_up files) held same (backups_open_so area.held texts files (rest_holds files there) rest_few) in
      record { read = λ held is. opens held (shows.read held is); left = leaves_map (IsSame (backed_up files)) (OpensToState state) target.moments opens shows.left }

  -- and of one that a crash leaves refused or as its backup, it leaves a backup of its state
  pub rest_backup : (old new : Device) → ForSome (shown area.disk).contents (λ files. LeavesOnly old new (IsBackupOf (backed_up files)))
      → ForSome (shown area.disk).contents (λ _. LeavesOnly old new (IsBackup (state_of texts area.held)))
  rest_backup old new crash = λ files there.
      let leaves = crash files there in
      let state = state_of texts area.held in
      let each : (left : Files) → IsBackupOf (backed_up files) left → IsBackup state left = λ left is. backup_of area.held texts files left (rest_holds files there) rest_few is in
      record {
        first = leaves_map (IsBackupOf (backed_up files)) (IsBackup state) old.moments each leaves.first;
        run = runs-weaken (IsBackupOf (backed_up files)) (IsBackup state) each old.moments new.moments leaves.run;
      }
