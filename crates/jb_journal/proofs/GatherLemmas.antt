-- Bytes gathered, and written at once.
use Rattle.std.proofs.Common.{◌≡◌, inl, inr, ℕ, ◌+◌, ◌≤◌, List, [], ◌++◌, length, refl, sym, ◌∙◌, ap, subst, arith, length-append, Result, Ok, OnOk, Option, Some, None}
use Rattle.std.specs.Prelude.{IsErr}
use Rattle.std.specs.Option.{option_map}
use Rattle.std.proofs.lemmas.Bool.{cases_lt}
use Rattle.jb_disk.specs.declared.file.FileId.{FileId}
use Rattle.jb_disk.specs.declared.piece.Piece.{Piece}
use Rattle.jb_disk.specs.Device.{Device, Tears, FailsBy, IsPast, TellsAnImage, and_then}
use Rattle.jb_disk.specs.Files.{Files, InFile, written}
use Rattle.jb_disk.specs.Images.{torn, with_image}
use Rattle.jb_disk.specs.Steps.{Torn}
use Rattle.jb_disk.proofs.RunLemmas.{keeps-refl, keeps-then, keeps-write}
use Rattle.jb_redo.specs.OnTheWay.{IsOnTheWay}
use Rattle.jb_journal.specs.Pending.{Pending, told_with, drained, StandsInFile, IsBehindHead, IsFrom, Flushes, Gathers}
use Rattle.jb_journal.specs.Stages.{KeepsHead}
use Rattle.jb_journal.specs.Writing.{Reaches}
use Rattle.jb_journal.proofs.ComingLemmas.{come_none, come_on, come_wrote}
use Rattle.jb_journal.proofs.CopyLemmas.{way_write}
use Rattle.jb_journal.proofs.Touching.{untouched_torn}
use Rattle.jb_journal.proofs.Told.{fails_here, fails_then, fails_as, none_done, on_ok, option_map-twice, option_map-same, option_map-id, written-twice, written-nil, length-written, Reaches-written}

-- where nothing is on its way, what is told is so
pub seen-none : (file : FileId) (at : ℕ) (contents : Option Files) → option_map (written file at []) contents ≡ contents
seen-none file at contents = option_map-id (written file at []) contents (λ files is. written-nil file at files)

-- what is on its way changes no length
pub reaches-back : (pending : Pending) (contents : Option Files) (f : FileId) (end : ℕ) → StandsInFile pending contents → Reaches (told_with pending contents) f end → Reaches contents f end
reaches-back pending None f end held reaches = λ files told. absurd (cc)
reaches-back pending (Some old) f end held reaches = λ files told.
    let same : old ≡ files = cc in
    let size : length (written pending.file pending.at pending.bytes old f) ≡ length (old f) = length-written pending.file f pending.at pending.bytes old (held old refl) in
    let low : end ≤ length (written pending.file pending.at pending.bytes old f) = reaches (written pending.file pending.at pending.bytes old) refl in
    subst (λ (x : Files). end ≤ length (x f)) same (omega (arith, size, low))

-- no call is made
still : {T E : Type 0} (device : Device) (value : T) → FailsBy {T = T} {E = E} ⊥ device device (Ok value)
still device value = record { kept = refl; later = omega arith; failed = tt; refused = λ never. absurd never; alike = refl }

-- nothing is written where nothing is on its way
pub flushed_none : {T E : Type 0} (was : Pending) (device : Device) (value : T) → was.bytes ≡ [] → Flushes {T = T} {E = E} was device (drained was) device (Ok value)
flushed_none was device value none = record {
  told = sym (seen-none was.file was.at device.contents) ∙ ap (λ (l : List ℕ). option_map (written was.file was.at l) device.contents) (sym none);
  none = refl;
  head = λ head start. keeps-refl (KeepsHead start) device;
  way = λ lengths pieces start from. keeps-refl (IsOnTheWay lengths pieces start) device;
  come = come_none device.moments;
  cause = still device value;
}

-- it is written by one call
pub flushed : {T E : Type 0} (was : Pending) (old new : Device) (result : Result T E) → StandsInFile was old.contents → TellsAnImage new → Tears was.file was.at (length was.bytes) old new result
    → OnOk result (new.contents ≡ told_with was old.contents) → OnOk result (new.moments ≡ and_then (with_image was.file (torn was.at (length was.bytes))) old.moments) → FailsBy (IsPast old.contents was.file (was.at + length was.bytes)) old new result → Flushes was old (drained was) new result
flushed was old new result held tells tears done moments cause = record {
  told = done;
  none = refl;
  head = λ head start. keeps-write (KeepsHead start) was.file was.at was.bytes old new result tells tears done cause
      (λ before after is step. untouched_torn start before after was.at (length was.bytes) head.behind is (subst (λ (f : FileId). InFile f (Torn was.at (length was.bytes)) before after) head.file step));
  way = λ lengths pieces start from. way_write lengths pieces start was.file was.at was.bytes old new result tells tears done cause from;
  come = on_ok result _ _ (come_wrote was.file was.at (length was.bytes) old.moments new.moments) moments;
  cause = fails_here old.contents was.file (was.at + length was.bytes) old new result held cause;
}

-- the same, taken behind what is gathered
gathers_behind : {T E : Type 0} (bytes : List ℕ) (was : Pending) (device : Device) (value : T) → StandsInFile was device.contents
    → Reaches (told_with was device.contents) was.file (was.at + length was.bytes + length bytes)
    → Gathers {T = T} {E = E} was.file (was.at + length was.bytes) bytes was device (record { file = was.file; at = was.at; bytes = was.bytes ++ bytes }) device (Ok value)
gathers_behind bytes was device value held room =
    let back = reaches-back was device.contents was.file (was.at + length was.bytes + length bytes) held room in
    record {
      told = sym (option_map-twice _ _ device.contents ∙ option_map-same _ _ device.contents (λ files is. written-twice was.file was.at was.bytes bytes files (back files is)));
      held = λ files is. omega (arith, back files is, length-append was.bytes bytes);
      head = λ head jnl behind. (record { file = head.file; behind = head.behind }, λ start. keeps-refl (KeepsHead start) device);
      way = λ lengths pieces start from written. (
        λ i over under. elim (cases_lt i (was.at + length was.bytes)) [
          | inl low ↦ from i over low
          | inr high ↦ written i high (omega (arith, under, length-append was.bytes bytes))
        ],
        keeps-refl (IsOnTheWay lengths pieces start) device,
      );
      come = come_none device.moments;
      cause = still device value;
    }

-- they are taken behind what is gathered
pub gathers_taken : {T E : Type 0} (file : FileId) (at : ℕ) (bytes : List ℕ) (was now : Pending) (device : Device) (value : T) → was.file ≡ file → was.at + length was.bytes ≡ at
    → now ≡ record { file = was.file; at = was.at; bytes = was.bytes ++ bytes } → StandsInFile was device.contents → Reaches (told_with was device.contents) file (at + length bytes)
    → Gathers {T = T} {E = E} file at bytes was device now device (Ok value)
gathers_taken {T} {E} file at bytes was now device value file_is at_is now_is held room =
    let more : Pending = record { file = was.file; at = was.at; bytes = was.bytes ++ bytes } in
    subst (λ (p : Pending). Gathers {T = T} {E = E} file at bytes was device p device (Ok value)) (sym now_is)
    (subst (λ (f : FileId). Gathers {T = T} {E = E} f at bytes was device more device (Ok value)) file_is
    (subst (λ (n : ℕ). Gathers {T = T} {E = E} was.file n bytes was device more device (Ok value)) at_is
    (gathers_behind {T = T} {E = E} bytes was device value held (subst (λ (n : ℕ). Reaches (told_with was device.contents) was.file (n + length bytes)) (sym at_is)
    (subst (λ (f : FileId). Reaches (told_with was device.contents) f (at + length bytes)) (sym file_is) room)))))

-- no place is on its way where nothing is
pub none_from : (start : Files) (pieces : List Piece) (was now : Pending) → now ≡ drained was → IsFrom start pieces now
none_from start pieces was now is = subst (IsFrom start pieces) (sym is) (λ i over under. absurd (omega (arith, over, under)))

-- what was gathered could not be written
pub gathers_failed : {T E U F : Type 0} (file : FileId) (at : ℕ) (bytes : List ℕ) (was : Pending) (old : Device) (now : Pending) (new : Device) (first : Result T E) (result : Result U F)
    → Flushes was old now new first → IsErr first → IsErr result → Gathers file at bytes was old now new result
gathers_failed file at bytes was old now new first result flush fails err = record {
  told = none_done result _ err;
  held = none_done result _ err;
  head = λ head jnl behind. (subst IsBehindHead (sym flush.none) (record { file = head.file; behind = head.behind }), flush.head head);
  way = λ lengths pieces start from written. (none_from start pieces was now flush.none, flush.way lengths pieces start from);
  come = none_done result _ err;
  cause = fails_as old new first result fails err flush.cause;
}

-- the room of bytes once what was gathered is written
pub room_then : {T E : Type 0} (was : Pending) (old : Device) (mid_pending : Pending) (mid : Device) (value : T) (file : FileId) (end : ℕ) → Flushes {T = T} {E = E} was old mid_pending mid (Ok value)
    → Reaches (told_with was old.contents) file end → Reaches mid.contents file end
room_then was old mid_pending mid value file end flush room = subst (λ (o : Option Files). Reaches o file end) (sym flush.told) room

-- it is written, and then they are
pub gathers_at_once : {T E U F : Type 0} (file : FileId) (at : ℕ) (bytes : List ℕ) (was : Pending) (old : Device) (mid_pending : Pending) (mid : Device) (now : Pending) (new : Device) (value : U) (result : Result T E)
    → Flushes {T = U} {E = F} was old mid_pending mid (Ok value) → now ≡ record { file = file; at = at; bytes = [] } → Reaches (told_with was old.contents) file (at + length bytes) → TellsAnImage new
    → Tears file at (length bytes) mid new result → OnOk result (new.contents ≡ option_map (written file at bytes) mid.contents)
    → OnOk result (new.moments ≡ and_then (with_image file (torn at (length bytes))) mid.moments) → FailsBy (IsPast mid.contents file (at + length bytes)) mid new result
    → Gathers file at bytes was old now new result
gathers_at_once file at bytes was old mid_pending mid now new value result flush now_is room tells tears done moments cause =
    let room_is = room_then was old mid_pending mid value file (at + length bytes) flush room in
    subst (λ (p : Pending). Gathers file at bytes was old p new result) (sym now_is) (record {
      told = on_ok result _ _ (λ done. seen-none file at new.contents ∙ done ∙ ap (option_map (written file at bytes)) flush.told) done;
      held = on_ok result _ _ (λ done. Reaches-written mid.contents new.contents file file at (at + 0) bytes done room_is (λ files is. omega (arith, room_is files is))) done;
      head = λ head jnl behind. (
        record { file = jnl; behind = behind },
        λ start. keeps-then (KeepsHead start) old mid new (flush.head head start)
            (keeps-write (KeepsHead start) file at bytes mid new result tells tears done cause
            (λ before after is step. untouched_torn start before after at (length bytes) behind is (subst (λ (f : FileId). InFile f (Torn at (length bytes)) before after) jnl step))),
      );
      way = λ lengths pieces start from covers. (
        λ i over under. absurd (omega (arith, over, under)),
        keeps-then (IsOnTheWay lengths pieces start) old mid new (flush.way lengths pieces start from)
            (way_write lengths pieces start file at bytes mid new result tells tears done cause covers),
      );
      come = on_ok result _ _ (λ is. come_on [] [] old.moments mid.moments new.moments flush.come (come_wrote file at (length bytes) mid.moments new.moments is)) moments;
      cause = fails_then old mid new result flush.cause.kept flush.cause.alike (fails_here mid.contents file (at + length bytes) mid new result room_is cause);
    })

-- it is written, and they are gathered
pub gathers_anew : {T E U F : Type 0} (file : FileId) (at : ℕ) (bytes : List ℕ) (was : Pending) (old : Device) (mid_pending : Pending) (mid : Device) (now : Pending) (value : U) (done : T)
    → Flushes {T = U} {E = F} was old mid_pending mid (Ok value) → now ≡ record { file = file; at = at; bytes = bytes } → Reaches (told_with was old.contents) file (at + length bytes)
    → Gathers {T = T} {E = E} file at bytes was old now mid (Ok done)
gathers_anew {T} {E} file at bytes was old mid_pending mid now value done flush now_is room =
    subst (λ (p : Pending). Gathers {T = T} {E = E} file at bytes was old p mid (Ok done)) (sym now_is) (record {
      told = ap (option_map (written file at bytes)) flush.told;
      held = room_then was old mid_pending mid value file (at + length bytes) flush room;
      head = λ head jnl behind. (record { file = jnl; behind = behind }, flush.head head);
      way = λ lengths pieces start from covers. (covers, flush.way lengths pieces start from);
      come = flush.come;
      cause = record { kept = flush.cause.kept; later = flush.cause.later; failed = tt; refused = λ never. absurd never; alike = flush.cause.alike };
    })
