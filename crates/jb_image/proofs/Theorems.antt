-- Files stand for at most one state, and an area that opens is not refused.
use Rattle.std.proofs.Common.{◌≡◌, inl, inr, ℕ, ◌+◌, ◌<◌, ◌≤◌, List, length, map, ap, sym, ◌∙◌, refl, subst, arith, length-take}
use Rattle.std.specs.Prelude.{slice_index_or, bit_and}
use Rattle.std.proofs.lemmas.List.{ext_get_or, get_or-map, length-map}
use Rattle.std.proofs.lemmas.List.FromFn.{get_or-map-range_with_len, length-map-range_with_len}
use Rattle.jb_bytes.specs.Subfields.{IsSubfieldList, subfield_bytes}
use Rattle.jb_disk.specs.Files.{Files}
use Rattle.jb_disk.specs.declared.file.FileId.TheVariants.{Jhr, Jdt}
use Rattle.jb_state.specs.Sound.{Covers}
use Rattle.jb_state.specs.State.{slot_state, state_of}
use Rattle.jb_state.specs.declared.loaded.Loaded.{Loaded}
use Rattle.jb_state.specs.declared.loaded.LoadedMessage.{LoadedMessage}
use Rattle.jb_state.specs.declared.loaded.LoadedSlot.{LoadedSlot}
use Rattle.jb_state.specs.declared.loaded.LoadedSlot.TheVariants.{Empty, Killed, Live}
use Rattle.jb_state.specs.declared.mark.Mark.{Mark}
use Rattle.jb_record.specs.declared.fixed.FixedHeader.{FixedHeader}
use Rattle.jb_record.specs.declared.index.IndexRecord.{IndexRecord}
use Rattle.jb_record.specs.declared.lastread.MarkRecord.{MarkRecord}
use Rattle.jb_record.specs.declared.message.MessageHeader.{MessageHeader}
use Rattle.jb_subfield.proofs.Spelling.{one_list}
use Rattle.jb_image.specs.declared.error.Damage.{Damage}
use Rattle.jb_image.specs.declared.error.Damage.TheVariants as damaged
use Rattle.jb_image.specs.declared.error.OpenError.TheVariants as refused
use Rattle.jb_image.specs.Answers.{AreFirstOverlap, FailsAsFiles, IsDamaged, IsFirstDamaged, OpensTo}
use Rattle.jb_image.specs.Laws.{HasOneStateAtMost, IsNotRefusedWhereOpen}
use Rattle.jb_image.specs.Extents.{HoldsByte}
use Rattle.jb_image.specs.Overlaps.{extent_in, extents_in}
use Rattle.jb_image.specs.declared.extent.Extent.{Extent}
use Rattle.jb_image.specs.Places.{bytes_at, entry_in, header_in}
use Rattle.jb_image.specs.Stands.{HasSlot, IsDeleted, IsLiveIn, Loads, fixed_of, head_of, mark_record}
use Rattle.jb_image.specs.Tests.{FileTest, long_enough, signed, based, index_whole, marks_whole, few_slots, numbers_left, PassesAsFiles, header_placed, header_signed, header_revised, subfields_placed, subfields_whole, text_placed, IsUndeleted, IsWholeSlot, slots_in}
use Rattle.jb_image.proofs.FileBytes.{length-bytes_at}
use Rattle.jb_image.proofs.HeaderExtents.{extent_empty, extent_full, extent_killed, extent_live}
use Rattle.jb_image.proofs.Opened.{has_slot_whole}

-- the bytes of a live message's subfields are as many as its header says
subfields_len : (files : Files) (message : LoadedMessage) → IsLiveIn files message → length (subfield_bytes message.subfields) ≡ (header_in files message.header_at).subfields
subfields_len files message live =
    let spelled = ap length live.subfields.spelled in
    let inside = live.live.placed.inside in
    spelled ∙ length-bytes_at (message.header_at + 76) _ (files Jhr) (omega arith)

-- messages of equal parts are one in a state
same_live : (texts : List ℕ) (one other : LoadedMessage) → one.owner ≡ other.owner → one.head ≡ other.head → one.subfields ≡ other.subfields
    → one.text_at ≡ other.text_at → one.text_len ≡ other.text_len → slot_state texts (Live one) ≡ slot_state texts (Live other)
same_live texts one other owner head subfields text_at text_len = cc

-- two live messages at one place of the files are one
live_once : (files : Files) (one other : LoadedMessage) → one.owner ≡ other.owner → one.header_at ≡ other.header_at → IsLiveIn files one → IsLiveIn files other
    → slot_state (files Jdt) (Live one) ≡ slot_state (files Jdt) (Live other)
live_once files one other owner at live live' =
    let header : header_in files one.header_at ≡ header_in files other.header_at = ap (header_in files) at in
    let bytes : bytes_at (one.header_at + 76) (header_in files one.header_at).subfields (files Jhr) ≡ bytes_at (other.header_at + 76) (header_in files other.header_at).subfields (files Jhr) =
    ap (λ (n : ℕ). bytes_at (n + 76) (header_in files n).subfields (files Jhr)) at in
    same_live (files Jdt) one other owner (live.head ∙ ap head_of header ∙ sym live'.head)
    (one_list _ one.subfields other.subfields (subst (IsSubfieldList one.subfields) bytes live.subfields) live'.subfields)
    (live.text_at ∙ ap (λ (h : MessageHeader). h.offset) header ∙ sym live'.text_at)
    (live.text_len ∙ ap (λ (h : MessageHeader). h.text_len) header ∙ sym live'.text_len)

-- an empty slot has no header, and a killed one is not live
slot_once : (files : Files) (entry : IndexRecord) (one other : LoadedSlot) → HasSlot files entry one → HasSlot files entry other
    → slot_state (files Jdt) one ≡ slot_state (files Jdt) other
slot_once files entry Empty Empty is is' = refl
slot_once files entry Empty (Killed header_at) is is' = absurd (omega (arith, is, is'.0, is'.1.header.placed.below))
slot_once files entry Empty (Live message) is is' = absurd (omega (arith, is, is'.1, is'.2.header.placed.below))
slot_once files entry (Killed header_at) Empty is is' = absurd (omega (arith, is', is.0, is.1.header.placed.below))
slot_once files entry (Killed header_at) (Killed other_at) is is' = refl
slot_once files entry (Killed header_at) (Live message) is is' =
    let at : message.header_at ≡ header_at = sym is'.1 ∙ is.0 in
    absurd (is.1.deleted (subst (λ (n : ℕ). bit_and (header_in files n).attribute 2147483648 ≡ 0) at is'.2.live.live))
slot_once files entry (Live message) Empty is is' = absurd (omega (arith, is', is.1, is.2.header.placed.below))
slot_once files entry (Live message) (Killed header_at) is is' =
    let at : message.header_at ≡ header_at = sym is.1 ∙ is'.0 in
    absurd (is'.1.deleted (subst (λ (n : ℕ). bit_and (header_in files n).attribute 2147483648 ≡ 0) at is.2.live.live))
slot_once files entry (Live one) (Live other) is is' = live_once files one other (sym is.0 ∙ is'.0) (sym is.1 ∙ is'.1) is.2 is'.2

-- a mark of these parts
made : ℕ → ℕ → ℕ → ℕ → Mark
made user_crc user_id last high = record { user_crc = user_crc; user_id = user_id; last = last; high = high }

-- a mark is settled by its record
mark_once : (one other : Mark) → mark_record one ≡ mark_record other → one ≡ other
unfolding made
mark_once one other same =
    ap (λ (n : ℕ). made n one.user_id one.last one.high) (ap (λ (r : MarkRecord). r.user_crc) same)
    ∙ ap (λ (n : ℕ). made other.user_crc n one.last one.high) (ap (λ (r : MarkRecord). r.user_id) same)
    ∙ ap (λ (n : ℕ). made other.user_crc other.user_id n one.high) (ap (λ (r : MarkRecord). r.last) same)
    ∙ ap (λ (n : ℕ). made other.user_crc other.user_id other.last n) (ap (λ (r : MarkRecord). r.high) same)

-- lists of which each place is settled
once_listed : {X Y : Type 0} (f : X → Y) (one other : List X) (x : X) → length one ≡ length other
    → ((k : ℕ) → k < length one → f (slice_index_or one k x) ≡ f (slice_index_or other k x)) → map f one ≡ map f other
once_listed f one other x size each =
    ext_get_or (f x) (map f one) (map f other) (length-map one f ∙ size ∙ sym (length-map other f)) (λ k low.
    let low' : k < length one = omega (arith, length-map one f) in
    let low'' : k < length other = omega arith in
    get_or-map f one k x (f x) low' ∙ each k low' ∙ sym (get_or-map f other k x (f x) low''))

-- files hold one area, as a state
loads_once : (files : Files) (one other : Loaded) → Loads one files → Loads other files → state_of (files Jdt) one ≡ state_of (files Jdt) other
loads_once files one other loads loads' =
    let fixed : fixed_of one ≡ fixed_of other = loads.fixed ∙ sym loads'.fixed in
    let created = ap (λ (f : FixedHeader). f.created) fixed in
    let counter = ap (λ (f : FixedHeader). f.counter) fixed in
    let active = ap (λ (f : FixedHeader). f.active) fixed in
    let password = ap (λ (f : FixedHeader). f.password) fixed in
    let reserved = ap (λ (f : FixedHeader). f.reserved) fixed in
    let base = ap (λ (f : FixedHeader). f.base) fixed in
    let index = loads.index in
    let index' = loads'.index in
    let size : length one.slots ≡ length other.slots = omega arith in
    let slots : map (slot_state (files Jdt)) one.slots ≡ map (slot_state (files Jdt)) other.slots =
    once_listed (slot_state (files Jdt)) one.slots other.slots Empty size
    (λ k low. slot_once files (entry_in files k) _ _ (loads.slots k Empty low) (loads'.slots k Empty (omega arith))) in
    let marks_size = loads.lastread in
    let marks_size' = loads'.lastread in
    let many : length one.marks ≡ length other.marks = omega arith in
    let d : Mark = record { user_crc = 0; user_id = 0; last = 0; high = 0 } in
    let marks : one.marks ≡ other.marks =
    ext_get_or d one.marks other.marks many (λ k low. mark_once _ _ (loads.marks k d low ∙ sym (loads'.marks k d (omega arith)))) in
    let headers_len : one.headers_len ≡ other.headers_len = loads.headers_len ∙ sym loads'.headers_len in
    let texts_len : one.texts_len ≡ other.texts_len = loads.texts_len ∙ sym loads'.texts_len in
    cc

-- files stand for at most one state
pub one_state : HasOneStateAtMost
one_state limit files one other stands stands' = stands.same ∙ loads_once files stands.loaded stands'.loaded stands.loads stands'.loads ∙ sym stands'.same

-- an area that opens passes the tests of the files
opened_passes : (limit : ℕ) (files : Files) (loaded : Loaded) → OpensTo limit files loaded → (test : FileTest) → PassesAsFiles limit files test
opened_passes limit files loaded opens long_enough =
    let size = opens.loads.header.size in
    omega (arith, length-take 1024 (files Jhr))
opened_passes limit files loaded opens signed = opens.loads.header.signed
opened_passes limit files loaded opens based = subst (λ (n : ℕ). 1 ≤ n) (ap (λ (f : FixedHeader). f.base) opens.loads.fixed) opens.loads.base
opened_passes limit files loaded opens index_whole = omega (arith, opens.loads.index)
opened_passes limit files loaded opens marks_whole = (omega (arith, opens.loads.lastread), omega (arith, opens.loads.lastread, opens.loads.few_marks))
opened_passes limit files loaded opens few_slots = omega (arith, opens.loads.index, opens.few_slots)
opened_passes limit files loaded opens numbers_left =
    let base_is = ap (λ (f : FixedHeader). f.base) opens.loads.fixed in
    omega (arith, opens.loads.index, opens.loads.numbers)

-- it has no damaged slot
pub opened_undamaged : (files : Files) (entry : IndexRecord) (damage : Damage) → IsWholeSlot files entry → IsDamaged files entry damage → ⊥
opened_undamaged files entry damaged.HeaderPlace whole (inl first) = first.fails (whole header_placed)
opened_undamaged files entry damaged.HeaderPlace whole (inr first) = first.fails (whole subfields_placed)
opened_undamaged files entry damaged.HeaderSignature whole first = first.fails (whole header_signed)
opened_undamaged files entry damaged.HeaderRevision whole first = first.fails (whole header_revised)
opened_undamaged files entry (damaged.Subfields at) whole first = first.0.fails (whole subfields_whole)
opened_undamaged files entry damaged.TextPlace whole first = first.fails (whole text_placed)

-- its slots are whole
opened_whole : (limit : ℕ) (files : Files) (loaded : Loaded) → OpensTo limit files loaded → (k : ℕ) → k < slots_in files → IsWholeSlot files (entry_in files k)
opened_whole limit files loaded opens k low =
    let index = opens.loads.index in
    has_slot_whole files (entry_in files k) (slice_index_or loaded.slots k Empty) (opens.loads.slots k Empty (omega arith))

-- a byte of a header's extent in the files is covered by the slot
covers_held : (files : Files) (entry : IndexRecord) (slot : LoadedSlot) (i : ℕ) → HasSlot files entry slot → HoldsByte (extent_in files entry) i → Covers slot i
covers_held files entry Empty i is held =
    let none = subst (λ (e : Extent). HoldsByte e i) (extent_empty entry.offset _ _ is) held in
    absurd (omega (arith, none.0, none.1))
covers_held files entry (Killed header_at) i is held =
    let killed = subst (λ (n : ℕ). IsDeleted (header_in files n)) (sym is.0) is.1.deleted in
    let extent_is = extent_killed (header_in files entry.offset) killed in
    let some = subst (λ (e : Extent). HoldsByte e i) (extent_full entry.offset _ _ (λ empty. absurd (omega (arith, empty, is.0, is.1.header.placed.below)))) held in
    (omega (arith, is.0, some.0), omega (arith, is.0, some.1))
covers_held files entry (Live message) i is held =
    let live = subst (λ (n : ℕ). IsUndeleted (header_in files n)) (sym is.1) is.2.live.live in
    let extent_is = extent_live (header_in files entry.offset) live in
    let fields : length (subfield_bytes message.subfields) ≡ (header_in files entry.offset).subfields =
    subfields_len files message is.2 ∙ ap (λ (n : ℕ). (header_in files n).subfields) (sym is.1) in
    let some = subst (λ (e : Extent). HoldsByte e i) (extent_full entry.offset _ _ (λ empty. absurd (omega (arith, empty, is.1, is.2.header.placed.below)))) held in
    (omega (arith, is.1, some.0), omega (arith, is.1, some.1))

-- the extent at a place is that of the header which the index names there
extent_there : (files : Files) (k : ℕ) (d : Extent) → k < slots_in files → slice_index_or (extents_in files) k d ≡ extent_in files (entry_in files k)
extent_there files k d low = get_or-map-range_with_len (λ n. extent_in files (entry_in files n)) 0 (slots_in files) k k d low (omega arith)

-- its headers do not overlap
opened_apart : (limit : ℕ) (files : Files) (loaded : Loaded) (a b : ℕ) → OpensTo limit files loaded → AreFirstOverlap files a b → ⊥
opened_apart limit files loaded a b opens first =
    let d : Extent = record { start = 0; len = 0 } in
    let one = first.overlap.one in
    let other = first.overlap.other in
    let index = opens.loads.index in
    let order = first.first.before in
    let low : other < slots_in files = omega (arith, first.first.placed, length-map-range_with_len (λ n. extent_in files (entry_in files n)) 0 (slots_in files)) in
    let inside : other < length loaded.slots = omega arith in
    let shared = first.first.shared d in
    opens.loads.apart one other Empty order inside shared.0
    (covers_held files (entry_in files one) _ shared.0 (opens.loads.slots one Empty (omega arith))
    (subst (λ (e : Extent). HoldsByte e shared.0) (extent_there files one d (omega arith)) shared.1))
    (covers_held files (entry_in files other) _ shared.0 (opens.loads.slots other Empty inside)
    (subst (λ (e : Extent). HoldsByte e shared.0) (extent_there files other d low) shared.2))

-- a first damaged slot is damaged
opened_slots : (limit : ℕ) (files : Files) (loaded : Loaded) (number : ℕ) (damage : Damage) → OpensTo limit files loaded → IsFirstDamaged files number damage → ⊥
opened_slots limit files loaded number damage opens first =
    opened_undamaged files (entry_in files first.slot) damage (opened_whole limit files loaded opens first.slot first.inside) first.damaged

-- a test of the files that fails is not passed
opened_files : (limit : ℕ) (files : Files) (loaded : Loaded) (test : FileTest) → OpensTo limit files loaded → FailsAsFiles limit files test → ⊥
opened_files limit files loaded test opens first = first.fails (opened_passes limit files loaded opens test)

-- files that open to an area are not refused for what they hold
pub not_refused_where_open : IsNotRefusedWhereOpen
not_refused_where_open limit files loaded refused.ShortHeader opens is = absurd (opened_files limit files loaded _ opens is)
not_refused_where_open limit files loaded refused.BadSignature opens is = absurd (opened_files limit files loaded _ opens is)
not_refused_where_open limit files loaded refused.BaseZero opens is = absurd (opened_files limit files loaded _ opens is)
not_refused_where_open limit files loaded refused.IndexLength opens is = absurd (opened_files limit files loaded _ opens is)
not_refused_where_open limit files loaded refused.LastreadLength opens is = absurd (opened_files limit files loaded _ opens is)
not_refused_where_open limit files loaded refused.TooManySlots opens is = absurd (opened_files limit files loaded _ opens is)
not_refused_where_open limit files loaded refused.NumberRange opens is = absurd (opened_files limit files loaded _ opens is)
not_refused_where_open limit files loaded (refused.HeaderPlace number) opens is = absurd (opened_slots limit files loaded _ _ opens is.1)
not_refused_where_open limit files loaded (refused.HeaderSignature number) opens is = absurd (opened_slots limit files loaded _ _ opens is.1)
not_refused_where_open limit files loaded (refused.HeaderRevision number) opens is = absurd (opened_slots limit files loaded _ _ opens is.1)
not_refused_where_open limit files loaded (refused.Subfields number at) opens is = absurd (opened_slots limit files loaded _ _ opens is.1)
not_refused_where_open limit files loaded (refused.TextPlace number) opens is = absurd (opened_slots limit files loaded _ _ opens is.1)
not_refused_where_open limit files loaded (refused.HeadersOverlap a b) opens is = absurd (opened_apart limit files loaded a b opens is.1)
not_refused_where_open limit files loaded refused.StoreFault opens is = tt
not_refused_where_open limit files loaded refused.OutOfMemory opens is = tt
