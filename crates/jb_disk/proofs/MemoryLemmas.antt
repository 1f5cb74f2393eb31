-- What each call of a disk in memory does to what it tells.
use Rattle.std.specs.declared.alloc.Global.{Global}
use Rattle.std.proofs.Common.{Vec, ◌≡◌, ◌≢◌, inl, inr, ℕ, ◌+◌, ◌≤◌, List, [], ◌∷◌, ◌++◌, length, refl, sym, ◌∙◌, ap, subst, true, false, Bool, le-leb, arith, ◌<◌, Option, Some, None, Result, Ok, Err, not}
use Rattle.std.specs.Option.{option_map}
use Rattle.jb_bytes.specs.Fault.{Rose}
use Rattle.std.specs.Prelude.{◌⊎◌, IsErr, OnOk, OnErr, reverse, nat_le, if◌then◌else◌, ◌&&◌}
use Rattle.std.proofs.lemmas.Result.{on_ok_weaker, on_err_weaker}
use Rattle.jb_disk.specs.declared.file.FileId.{FileId}
use Rattle.jb_disk.specs.declared.call.Call.{Call}
use Rattle.jb_disk.specs.declared.call.Call.TheVariants.{NoChange, Wrote, Resized, Synced}
use Rattle.jb_disk.specs.Files.{Files, with_file, overwritten, written, InFile, IsResized}
use Rattle.jb_disk.specs.Device.{Device, Turns, Tears, Resizes, Syncs, OnlyReads, FailsBy, IsPast, and_then}
use Rattle.jb_disk.specs.Images.{Images, just_synced, torn, cut, with_image}
use Rattle.jb_disk.specs.Memory.{of_length, contents_after, images_after, earlier_after, files_of_list, device_after, Recording, memory_device, IsQuiet}
use Rattle.jb_disk.specs.FileLaws.{same_file, with_file-here, with_file-other, InFile-with, length-of_length}
use Rattle.jb_disk.specs.ImageLaws.{get-of_length}
use Rattle.jb_disk.specs.MemoryLaws.{newest}

-- false is not true
not_true : false ≡ true → ⊥
not_true is = cc

-- no other file reads otherwise after a write that was done or not
others-wrote : (b : Bool) (f : FileId) (at : ℕ) (bytes : List ℕ) (files : Files) (other : FileId) → other ≢ f → (if b then written f at bytes files else files) other ≡ files other
others-wrote true f at bytes files other apart = with_file-other f other _ files apart
others-wrote false f at bytes files other apart = refl

-- some moment is one
some-moment : (now : Images) (earlier : List Images) → (now ∷ earlier) ≡ [] → ⊥
some-moment now earlier none = cc

-- a disk that tells images is no steady one
tells-images : {T E : Type 0} (result : Result T E) (now : Images) (earlier : List Images) (P : Type 0) → OnErr result ((now ∷ earlier) ≡ [] → P)
tells-images (Ok value) now earlier P = tt
tells-images (Err error) now earlier P = λ none. absurd (some-moment now earlier none)

-- a write that is noted
tears-noted : {T E : Type 0} (result : Result T E) (first : Files) (f : FileId) (at : ℕ) (bytes : Vec ℕ Global) (done : Bool) (calls : List Call) (m n : ℕ)
    → Tears f at (length bytes.items) (device_after first calls m) (device_after first (Wrote f at bytes done ∷ calls) n) result
tears-noted result first f at bytes done calls m n = record {
  tried = record { others = others-wrote _ f at bytes.items (contents_after first calls); steady = tells-images result (images_after first calls) _ _ };
  moments = inr refl;
}

-- the same, of the disk
pub tears : {T E : Type 0} (result : Result T E) (disk : Recording) (first : List (List ℕ)) (failing : List ℕ) (old new : List Call) (m n : ℕ) (f : FileId) (at : ℕ) (bytes : Vec ℕ Global) (len : ℕ) (done : Bool)
    → record { first = first; calls = old; faults = m; failing = failing } ≡ disk → length bytes.items ≡ len → new ≡ old ++ Wrote f at bytes done ∷ []
    → Tears f at len (memory_device disk) (memory_device (record { first = first; calls = new; faults = n; failing = failing })) result
tears result disk first failing old new m n f at bytes len done view_is size is =
    subst (λ (was : Recording). Tears f at len (memory_device was) (memory_device (record { first = first; calls = new; faults = n; failing = failing })) result) view_is
    (subst (λ (k : ℕ). Tears f at k (device_after (files_of_list first) (reverse old) m) (device_after (files_of_list first) (reverse new) n) result) size
    (subst (λ (calls : List Call). Tears f at (length bytes.items) (device_after (files_of_list first) (reverse old) m) (device_after (files_of_list first) calls n) result) (sym (newest old (Wrote f at bytes done) new is))
    (tears-noted result (files_of_list first) f at bytes done (reverse old) m n)))

-- what is read after a change of one file's bytes
present-with : (f : FileId) (bytes : List ℕ) (before present after : Files) → ((file : FileId) → before file ≡ present file) → after f ≡ bytes → ((other : FileId) → other ≢ f → after other ≡ before other)
    → (file : FileId) → after file ≡ with_file f bytes present file
present-with f bytes before present after was here others file = elim (same_file file f) [
  | inl same ↦ ap after same ∙ here ∙ sym (with_file-here f bytes present) ∙ ap (with_file f bytes present) (sym same)
  | inr other ↦ others file other ∙ was file ∙ sym (with_file-other f file bytes present other)
]

-- a write that was noted as done was done
written-done : (f : FileId) (at : ℕ) (bytes : List ℕ) (files : Files) (b : Bool) → b ≡ true → (if b then written f at bytes files else files) ≡ written f at bytes files
written-done f at bytes files true is = refl
written-done f at bytes files false is = absurd (not_true is)

-- what is read after a write
pub present-wrote : (first : Files) (f : FileId) (at : ℕ) (bytes : Vec ℕ Global) (done : Bool) (old new : List Call) (before after : Files) → new ≡ old ++ Wrote f at bytes done ∷ [] → done ≡ true
    → ((file : FileId) → before file ≡ contents_after first (reverse old) file) → at + length bytes.items ≤ length (before f)
    → after f ≡ overwritten at bytes.items (before f) → ((other : FileId) → other ≢ f → after other ≡ before other)
    → (file : FileId) → after file ≡ contents_after first (reverse new) file
present-wrote first f at bytes done old new before after is so was within here others file =
    let present = contents_after first (reverse old) in
    let reaches : at + length bytes.items ≤ length (present f) = subst (λ (l : List ℕ). at + length bytes.items ≤ length l) (was f) within in
    let both : (done && nat_le (at + length bytes.items) (length (present f))) ≡ true = rw (so, le-leb _ _ reaches) refl in
    let told : contents_after first (Wrote f at bytes done ∷ reverse old) ≡ written f at bytes.items present = written-done f at bytes.items present _ both in
    present-with f (overwritten at bytes.items (present f)) before present after was (here ∙ ap (overwritten at bytes.items) (was f)) others file
    ∙ sym (ap (λ (files : Files). files file) (ap (contents_after first) (newest old (Wrote f at bytes done) new is) ∙ told))

-- a clause on success, from what it says
on_ok : {T E : Type 0} (result : Result T E) (P : Type 0) → P → OnOk result P
on_ok (Ok value) P p = p
on_ok (Err error) P p = tt

-- a file that was cut or grown
resized-of_length : (len : ℕ) (old : List ℕ) → IsResized len old (of_length len old)
resized-of_length len old = record { size = length-of_length len old; same = λ i within low. get-of_length len old i low within }

-- a change of length that is noted as done
resizes-noted : {T E : Type 0} (result : Result T E) (first : Files) (f : FileId) (len : ℕ) (calls : List Call) (m n : ℕ)
    → Resizes f len (device_after first calls m) (device_after first (Resized f len true ∷ calls) n) result
resizes-noted result first f len calls m n =
    let files = contents_after first calls in
    record {
      done = on_ok result _ (InFile-with f (of_length len (files f)) files (IsResized len) (resized-of_length len (files f)));
      tried = record { others = λ other apart. with_file-other f other _ files apart; steady = tells-images result (images_after first calls) _ _ };
      moments = inr refl;
    }

-- the same, of the disk
pub resizes : {T E : Type 0} (result : Result T E) (disk : Recording) (first : List (List ℕ)) (failing : List ℕ) (old new : List Call) (m n : ℕ) (f : FileId) (len : ℕ) (done : Bool)
    → record { first = first; calls = old; faults = m; failing = failing } ≡ disk → done ≡ true → new ≡ old ++ Resized f len done ∷ []
    → Resizes f len (memory_device disk) (memory_device (record { first = first; calls = new; faults = n; failing = failing })) result
resizes result disk first failing old new m n f len done view_is so is =
    let noted : new ≡ old ++ Resized f len true ∷ [] = subst (λ (b : Bool). new ≡ old ++ Resized f len b ∷ []) so is in
    subst (λ (was : Recording). Resizes f len (memory_device was) (memory_device (record { first = first; calls = new; faults = n; failing = failing })) result) view_is
    (subst (λ (calls : List Call). Resizes f len (device_after (files_of_list first) (reverse old) m) (device_after (files_of_list first) calls n) result) (sym (newest old (Resized f len true) new noted))
    (resizes-noted result (files_of_list first) f len (reverse old) m n))

-- nothing reads otherwise
others-same : (f : FileId) (contents : Option Files) → Turns (λ before now. (other : FileId) → other ≢ f → now other ≡ before other) contents contents
others-same f None = tt
others-same f (Some files) = λ other apart. refl

-- a sync that came to nothing, as the device is told
syncs-none : {T E : Type 0} (error : E) (device : Device) (n : ℕ) (f : FileId)
    → Syncs {T = T} f device (record { faults = n; contents = device.contents; moments = device.moments }) (Err error)
syncs-none error device n f = record { kept = tt; done = tt; tried = record { others = others-same f device.contents; steady = λ none. refl }; failed = refl }

-- what a crash may leave after a sync that is noted
images-synced : (first : Files) (f : FileId) (calls : List Call) (files : Files) → Some (contents_after first calls) ≡ Some files
    → with_image f (λ _. just_synced (contents_after first calls f)) (images_after first calls) ∷ images_after first calls ∷ earlier_after first calls
    ≡ and_then (with_image f (λ _. just_synced (files f))) (images_after first calls ∷ earlier_after first calls)
images-synced first f calls files told =
    let same : contents_after first calls ≡ files = cc in
    ap (λ (read : Files). and_then (with_image f (λ _. just_synced (read f))) (images_after first calls ∷ earlier_after first calls)) same

-- a sync that is noted, or in its place that there was a call, or nothing
syncs-noted : {T E : Type 0} (result : Result T E) (first : Files) (f : FileId) (calls now : List Call) (m n : ℕ)
    → OnOk result (now ≡ Synced f ∷ calls) → OnErr result ((now ≡ calls) ⊎ (now ≡ NoChange ∷ calls)) → Syncs f (device_after first calls m) (device_after first now n) result
syncs-noted {T = T} {E = E} (Ok value) first f calls now m n done failed =
    subst (λ (l : List Call). Syncs {T = T} {E = E} f (device_after first calls m) (device_after first l n) (Ok value)) (sym done)
    (record { kept = refl; done = λ files told. images-synced first f calls files told; tried = record { others = λ other apart. refl; steady = tt }; failed = tt })
syncs-noted {T = T} {E = E} (Err error) first f calls now m n done failed = elim failed [
  | inl same ↦ subst (λ (l : List Call). Syncs {T = T} {E = E} f (device_after first calls m) (device_after first l n) (Err error)) (sym same) (syncs-none error (device_after first calls m) n f)
  | inr tried ↦ subst (λ (l : List Call). Syncs {T = T} {E = E} f (device_after first calls m) (device_after first l n) (Err error)) (sym tried) (syncs-none error (device_after first calls m) n f)
]

-- a call of which there is at most a note that it was made, with the newest first
quiet-newest : (old now : List Call) → IsQuiet old now → (reverse now ≡ reverse old) ⊎ (reverse now ≡ NoChange ∷ reverse old)
quiet-newest old now quiet = elim quiet [
  | inl same ↦ inl (ap reverse same)
  | inr tried ↦ inr (newest old NoChange now tried)
]

-- the same, of the disk
pub syncs : {T E : Type 0} (result : Result T E) (disk : Recording) (first : List (List ℕ)) (failing : List ℕ) (old now : List Call) (m n : ℕ) (f : FileId)
    → record { first = first; calls = old; faults = m; failing = failing } ≡ disk → OnOk result (now ≡ old ++ Synced f ∷ []) → OnErr result (IsQuiet old now)
    → Syncs f (memory_device disk) (memory_device (record { first = first; calls = now; faults = n; failing = failing })) result
syncs result disk first failing old now m n f view_is done failed =
    subst (λ (was : Recording). Syncs f (memory_device was) (memory_device (record { first = first; calls = now; faults = n; failing = failing })) result) view_is
    (syncs-noted result (files_of_list first) f (reverse old) (reverse now) m n
    (on_ok_weaker result (newest old (Synced f) now) done)
    (on_err_weaker result (quiet-newest old now) failed))

-- what is read after a change of length
pub present-resized : (first : Files) (f : FileId) (len : ℕ) (done : Bool) (old new : List Call) (before after : Files) → new ≡ old ++ Resized f len done ∷ [] → done ≡ true
    → ((file : FileId) → before file ≡ contents_after first (reverse old) file) → after f ≡ of_length len (before f) → ((other : FileId) → other ≢ f → after other ≡ before other)
    → (file : FileId) → after file ≡ contents_after first (reverse new) file
present-resized first f len done old new before after is so was here others file =
    let present = contents_after first (reverse old) in
    let told : contents_after first (Resized f len done ∷ reverse old) ≡ with_file f (of_length len (present f)) present =
    subst (λ (b : Bool). contents_after first (Resized f len b ∷ reverse old) ≡ with_file f (of_length len (present f)) present) (sym so) refl in
    present-with f (of_length len (present f)) before present after was (here ∙ ap (of_length len) (was f)) others file
    ∙ sym (ap (λ (files : Files). files file) (ap (contents_after first) (newest old (Resized f len done) new is) ∙ told))

-- what is read after a change of length that found no memory
pub present-kept : (first : Files) (f : FileId) (old now : List Call) (before after : Files) → now ≡ old → ((file : FileId) → before file ≡ contents_after first (reverse old) file)
    → after f ≡ before f → ((other : FileId) → other ≢ f → after other ≡ before other) → (file : FileId) → after file ≡ contents_after first (reverse now) file
present-kept first f old now before after is was here others file =
    let kept : after file ≡ before file = elim (same_file file f) [
      | inl same ↦ ap after same ∙ here ∙ ap before (sym same)
      | inr other ↦ others file other
    ] in
    kept ∙ was file ∙ sym (ap (λ (calls : List Call). contents_after first (reverse calls) file) is)

-- a file of another length is a change of length that was done
pub resized-so : (f : FileId) (len : ℕ) (old new : Files) → new f ≡ of_length len (old f) → ((other : FileId) → other ≢ f → new other ≡ old other) → InFile f (IsResized len) old new
resized-so f len old new here others = record { here = subst (IsResized len (old f)) (sym here) (resized-of_length len (old f)); others = others }

-- a range that ends within a file is not past its end
pub within-not-past : (disk : Recording) (first : List (List ℕ)) (failing : List ℕ) (old : List Call) (m : ℕ) (present : Files) (f : FileId) (end : ℕ)
    → record { first = first; calls = old; faults = m; failing = failing } ≡ disk → ((file : FileId) → present file ≡ contents_after (files_of_list first) (reverse old) file)
    → end ≤ length (present f) → IsPast (memory_device disk).contents f end → ⊥
within-not-past disk first failing old m present f end view_is was within past =
    let there : length (contents_after (files_of_list first) (reverse old) f) < end = subst (λ (d : Recording). length (contents_after (files_of_list d.first) (reverse d.calls) f) < end) (sym view_is) past in
    omega (arith, ap length (was f))

-- a call that was done has no cause to fail
pub done-fails-by : {T E : Type 0} (value : T) (past : Type 0) (disk : Recording) (first : List (List ℕ)) (failing : List ℕ) (old new : List Call) (m n : ℕ)
    → record { first = first; calls = old; faults = m; failing = failing } ≡ disk → n ≡ m → (past → ⊥)
    → FailsBy {T = T} {E = E} past (memory_device disk) (memory_device (record { first = first; calls = new; faults = n; failing = failing })) (Ok value)
done-fails-by value past disk first failing old new m n view_is same not_past =
    let faults : n ≡ disk.faults = same ∙ ap (λ (d : Recording). d.faults) view_is in
    record { kept = faults; later = omega arith; failed = tt; refused = λ passed. absurd (not_past passed); alike = refl }

-- what is read after a write that was done
pub wrote-contents : (disk : Recording) (first : List (List ℕ)) (failing : List ℕ) (old new : List Call) (m n : ℕ) (f : FileId) (at : ℕ) (copy : Vec ℕ Global) (bytes : List ℕ) (done : Bool) (present : Files)
    → record { first = first; calls = old; faults = m; failing = failing } ≡ disk → new ≡ old ++ Wrote f at copy done ∷ [] → done ≡ true → copy.items ≡ bytes
    → ((file : FileId) → present file ≡ contents_after (files_of_list first) (reverse old) file) → at + length bytes ≤ length (present f)
    → (memory_device (record { first = first; calls = new; faults = n; failing = failing })).contents ≡ option_map (written f at bytes) (memory_device disk).contents
wrote-contents disk first failing old new m n f at copy bytes done present view_is is so same was within =
    let before = contents_after (files_of_list first) (reverse old) in
    let fits : at + length copy.items ≤ length (before f) = omega (arith, ap length (was f), ap length same) in
    let both : (done && nat_le (at + length copy.items) (length (before f))) ≡ true = ap (λ (b : Bool). b && nat_le (at + length copy.items) (length (before f))) so ∙ le-leb _ _ fits in
    let told : contents_after (files_of_list first) (Wrote f at copy done ∷ reverse old) ≡ written f at bytes before =
    written-done f at copy.items before _ both ∙ ap (λ (l : List ℕ). written f at l before) same in
    ap (λ (calls : List Call). Some (contents_after (files_of_list first) calls)) (newest old (Wrote f at copy done) new is) ∙ ap (λ (files : Files). Some files) told
    ∙ ap (λ (d : Recording). Some (written f at bytes (contents_after (files_of_list d.first) (reverse d.calls)))) view_is

-- what a crash may leave after a write that was noted
pub wrote-moments : (disk : Recording) (first : List (List ℕ)) (failing : List ℕ) (old new : List Call) (m n : ℕ) (f : FileId) (at : ℕ) (copy : Vec ℕ Global) (len : ℕ) (done : Bool)
    → record { first = first; calls = old; faults = m; failing = failing } ≡ disk → new ≡ old ++ Wrote f at copy done ∷ [] → length copy.items ≡ len
    → (memory_device (record { first = first; calls = new; faults = n; failing = failing })).moments ≡ and_then (with_image f (torn at len)) (memory_device disk).moments
wrote-moments disk first failing old new m n f at copy len done view_is is size =
    let after = λ (calls : List Call). images_after (files_of_list first) calls ∷ earlier_after (files_of_list first) calls in
    ap after (newest old (Wrote f at copy done) new is)
    ∙ ap (λ (k : ℕ). and_then (with_image f (torn at k)) (after (reverse old))) size
    ∙ ap (λ (d : Recording). and_then (with_image f (torn at len)) (memory_device d).moments) view_is

-- what a crash may leave after a change of length that was noted
pub resized-moments : (disk : Recording) (first : List (List ℕ)) (failing : List ℕ) (old new : List Call) (m n : ℕ) (f : FileId) (len : ℕ) (done : Bool)
    → record { first = first; calls = old; faults = m; failing = failing } ≡ disk → new ≡ old ++ Resized f len done ∷ []
    → (memory_device (record { first = first; calls = new; faults = n; failing = failing })).moments ≡ and_then (with_image f (cut len)) (memory_device disk).moments
resized-moments disk first failing old new m n f len done view_is is =
    ap (λ (calls : List Call). images_after (files_of_list first) calls ∷ earlier_after (files_of_list first) calls) (newest old (Resized f len done) new is)
    ∙ ap (λ (d : Recording). and_then (with_image f (cut len)) (memory_device d).moments) view_is

-- a call of which there is at most a note that it was made changes nothing of what is told
pub reads-quiet : (disk : Recording) (first : List (List ℕ)) (failing : List ℕ) (old new : List Call) (m n : ℕ)
    → record { first = first; calls = old; faults = m; failing = failing } ≡ disk → IsQuiet old new
    → OnlyReads (memory_device disk) (memory_device (record { first = first; calls = new; faults = n; failing = failing }))
reads-quiet disk first failing old new m n view_is quiet =
    let told : device_after (files_of_list first) (reverse new) n ≡ device_after (files_of_list first) (reverse old) n = elim (quiet-newest old new quiet) [
      | inl same ↦ ap (λ (calls : List Call). device_after (files_of_list first) calls n) same
      | inr tried ↦ ap (λ (calls : List Call). device_after (files_of_list first) calls n) tried
    ] in
    record {
      contents = ap (λ (d : Device). d.contents) told ∙ ap (λ (d : Recording). (memory_device d).contents) view_is;
      moments = ap (λ (d : Device). d.moments) told ∙ ap (λ (d : Recording). (memory_device d).moments) view_is;
    }

-- a refusal of a call that did not pass an end, with a fault as its cause
pub failed-fails-by : {T E : Type 0} (result : Result T E) (past : Type 0) (disk : Recording) (first : List (List ℕ)) (failing : List ℕ) (old new : List Call) (m n : ℕ)
    → record { first = first; calls = old; faults = m; failing = failing } ≡ disk → IsErr result → Rose m n → m ≤ n → (past → ⊥)
    → FailsBy past (memory_device disk) (memory_device (record { first = first; calls = new; faults = n; failing = failing })) result
failed-fails-by (Ok value) past disk first failing old new m n view_is fails rose later not_past = absurd (not_true fails)
failed-fails-by (Err error) past disk first failing old new m n view_is fails rose later not_past =
    let before : m ≡ disk.faults = ap (λ (d : Recording). d.faults) view_is in
    record { kept = tt; later = subst (λ (k : ℕ). k ≤ n) before later; failed = inl (subst (λ (k : ℕ). Rose k n) before rose); refused = λ passed. absurd (not_past passed); alike = refl }

-- what is read after a call that was refused, whether it is kept or not
contents-refused : (first : Files) (call : Call) (fails : Bool) (old new : List Call) → (fails ≡ true → contents_after first (call ∷ reverse old) ≡ contents_after first (reverse old))
    → (new ≡ old) ⊎ ((fails ≡ true) × (new ≡ old ++ call ∷ [])) → contents_after first (reverse new) ≡ contents_after first (reverse old)
contents-refused first call fails old new nothing kept = elim kept [
  | inl same ↦ ap (λ (calls : List Call). contents_after first (reverse calls)) same
  | inr tried ↦ ap (contents_after first) (newest old call new tried.1) ∙ nothing tried.0
]

-- a write that fails changes nothing of what is read
wrote-not : (first : Files) (f : FileId) (at : ℕ) (bytes : Vec ℕ Global) (calls : List Call) (fails : Bool) → fails ≡ true
    → contents_after first (Wrote f at bytes (not fails) ∷ calls) ≡ contents_after first calls
wrote-not first f at bytes calls true is = refl
wrote-not first f at bytes calls false is = absurd (not_true is)

-- nor does a change of length
resized-not : (first : Files) (f : FileId) (len : ℕ) (calls : List Call) (fails : Bool) → fails ≡ true
    → contents_after first (Resized f len (not fails) ∷ calls) ≡ contents_after first calls
resized-not first f len calls true is = refl
resized-not first f len calls false is = absurd (not_true is)

-- what is read after a call of which there is at most a note that it was made
pub present-quiet : (first : Files) (old new : List Call) (present : Files) → ((file : FileId) → present file ≡ contents_after first (reverse old) file) → IsQuiet old new
    → (file : FileId) → present file ≡ contents_after first (reverse new) file
present-quiet first old new present was quiet file = elim (quiet-newest old new quiet) [
  | inl same ↦ was file ∙ sym (ap (λ (calls : List Call). contents_after first calls file) same)
  | inr tried ↦ was file ∙ sym (ap (λ (calls : List Call). contents_after first calls file) tried)
]

-- a call past an end is refused, and counts nothing
pub past-fails-by : {T E : Type 0} (error : E) (disk : Recording) (first : List (List ℕ)) (failing : List ℕ) (old new : List Call) (m : ℕ) (present : Files) (f : FileId) (end : ℕ)
    → record { first = first; calls = old; faults = m; failing = failing } ≡ disk → ((file : FileId) → present file ≡ contents_after (files_of_list first) (reverse old) file)
    → length (present f) < end
    → FailsBy {T = T} (IsPast (memory_device disk).contents f end) (memory_device disk) (memory_device (record { first = first; calls = new; faults = m; failing = failing })) (Err error)
past-fails-by error disk first failing old new m present f end view_is was past =
    let same : m ≡ disk.faults = ap (λ (d : Recording). d.faults) view_is in
    let there : length (contents_after (files_of_list first) (reverse old) f) < end = omega (arith, ap length (was f), past) in
    record {
      kept = tt;
      later = omega arith;
      failed = inr (subst (λ (d : Recording). length (contents_after (files_of_list d.first) (reverse d.calls) f) < end) view_is there);
      refused = λ _. (refl, same);
      alike = refl;
    }

-- what is read after a sync, done or not
pub present-synced : {T E : Type 0} (result : Result T E) (first : Files) (f : FileId) (old new : List Call) (present : Files) → ((file : FileId) → present file ≡ contents_after first (reverse old) file)
    → OnOk result (new ≡ old ++ Synced f ∷ []) → OnErr result (IsQuiet old new) → (file : FileId) → present file ≡ contents_after first (reverse new) file
present-synced (Ok value) first f old new present was done failed file = was file ∙ sym (ap (λ (calls : List Call). contents_after first calls file) (newest old (Synced f) new done))
present-synced (Err error) first f old new present was done failed file = present-quiet first old new present was failed file

-- a call with no end to pass, by what it counted
pub counted-fails-by : {T E : Type 0} (result : Result T E) (disk : Recording) (first : List (List ℕ)) (failing : List ℕ) (old new : List Call) (m n : ℕ)
    → record { first = first; calls = old; faults = m; failing = failing } ≡ disk → OnOk result (n ≡ m) → OnErr result (Rose m n) → m ≤ n
    → FailsBy ⊥ (memory_device disk) (memory_device (record { first = first; calls = new; faults = n; failing = failing })) result
counted-fails-by (Ok value) disk first failing old new m n view_is quiet rose later = done-fails-by value ⊥ disk first failing old new m n view_is quiet (λ never. never)
counted-fails-by (Err error) disk first failing old new m n view_is quiet rose later = failed-fails-by (Err error) ⊥ disk first failing old new m n view_is refl rose later (λ never. never)

-- a write that was refused
module _ (first : List (List ℕ)) (f : FileId) (at : ℕ) (bytes : Vec ℕ Global) (fails : Bool) (old new : List Call)
    (kept : (new ≡ old) ⊎ ((fails ≡ true) × (new ≡ old ++ Wrote f at bytes (not fails) ∷ []))) where
  -- nothing is read otherwise
  read-unwritten : contents_after (files_of_list first) (reverse new) ≡ contents_after (files_of_list first) (reverse old)
  read-unwritten = contents-refused (files_of_list first) (Wrote f at bytes (not fails)) fails old new (wrote-not (files_of_list first) f at bytes (reverse old) fails) kept

  -- the files in memory are as they were
  pub present-unwritten : (present : Files) → ((file : FileId) → present file ≡ contents_after (files_of_list first) (reverse old) file)
      → (file : FileId) → present file ≡ contents_after (files_of_list first) (reverse new) file
  present-unwritten present was file = was file ∙ sym (ap (λ (files : Files). files file) read-unwritten)

  -- and a crash may leave what it might before, or any bytes in the range
  pub tears-unwritten : {T E : Type 0} (result : Result T E) (disk : Recording) (failing : List ℕ) (len m n : ℕ)
      → record { first = first; calls = old; faults = m; failing = failing } ≡ disk → length bytes.items ≡ len → IsErr result
      → Tears f at len (memory_device disk) (memory_device (record { first = first; calls = new; faults = n; failing = failing })) result
  tears-unwritten (Ok value) disk failing len m n view_is size fault = absurd (not_true fault)
  tears-unwritten {T = T} {E = E} (Err error) disk failing len m n view_is size fault =
      let after = λ (calls : List Call). images_after (files_of_list first) calls ∷ earlier_after (files_of_list first) calls in
      subst (λ (was : Recording). Tears {T = T} {E = E} f at len (memory_device was) (memory_device (record { first = first; calls = new; faults = n; failing = failing })) (Err error)) view_is
      (subst (λ (k : ℕ). Tears {T = T} {E = E} f at k (device_after (files_of_list first) (reverse old) m) (device_after (files_of_list first) (reverse new) n) (Err error)) size
      (record {
        tried = record {
          others = λ other apart. ap (λ (files : Files). files other) read-unwritten;
          steady = λ none. absurd (some-moment (images_after (files_of_list first) (reverse old)) _ none);
        };
        moments = elim kept [
          | inl same ↦ inl (ap (λ (calls : List Call). after (reverse calls)) same)
          | inr tried ↦ inr (ap after (newest old (Wrote f at bytes (not fails)) new tried.1))
        ];
      }))

-- a write that was refused, on a disk that was only read
pub tears-not : {T E : Type 0} (error : E) (f : FileId) (at len : ℕ) (old new : Device) → OnlyReads old new → Tears {T = T} f at len old new (Err error)
tears-not error f at len old new only = record {
  tried = record {
    others = subst (Turns (λ before now. (other : FileId) → other ≢ f → now other ≡ before other) old.contents) (sym only.contents) (others-same f old.contents);
    steady = λ none. only.contents;
  };
  moments = inl only.moments;
}

-- a change of length that was refused
module _ (first : List (List ℕ)) (f : FileId) (len : ℕ) (fails : Bool) (old new : List Call)
    (kept : (new ≡ old) ⊎ ((fails ≡ true) × (new ≡ old ++ Resized f len (not fails) ∷ []))) where
  -- nothing is read otherwise
  read-unresized : contents_after (files_of_list first) (reverse new) ≡ contents_after (files_of_list first) (reverse old)
  read-unresized = contents-refused (files_of_list first) (Resized f len (not fails)) fails old new (resized-not (files_of_list first) f len (reverse old) fails) kept

  -- the files in memory are as they were
  pub present-unresized : (present : Files) → ((file : FileId) → present file ≡ contents_after (files_of_list first) (reverse old) file)
      → (file : FileId) → present file ≡ contents_after (files_of_list first) (reverse new) file
  present-unresized present was file = was file ∙ sym (ap (λ (files : Files). files file) read-unresized)

  -- and a crash may leave what it might before, or what the change allows
  pub resizes-not : {T E : Type 0} (result : Result T E) (disk : Recording) (failing : List ℕ) (m n : ℕ)
      → record { first = first; calls = old; faults = m; failing = failing } ≡ disk → IsErr result
      → Resizes f len (memory_device disk) (memory_device (record { first = first; calls = new; faults = n; failing = failing })) result
  resizes-not (Ok value) disk failing m n view_is fault = absurd (not_true fault)
  resizes-not {T = T} {E = E} (Err error) disk failing m n view_is fault =
      let after = λ (calls : List Call). images_after (files_of_list first) calls ∷ earlier_after (files_of_list first) calls in
      subst (λ (was : Recording). Resizes {T = T} {E = E} f len (memory_device was) (memory_device (record { first = first; calls = new; faults = n; failing = failing })) (Err error)) view_is
      (record {
        done = tt;
        tried = record {
          others = λ other apart. ap (λ (files : Files). files other) read-unresized;
          steady = λ none. absurd (some-moment (images_after (files_of_list first) (reverse old)) _ none);
        };
        moments = elim kept [
          | inl same ↦ inl (ap (λ (calls : List Call). after (reverse calls)) same)
          | inr tried ↦ inr (ap after (newest old (Resized f len (not fails)) new tried.1))
        ];
      })
