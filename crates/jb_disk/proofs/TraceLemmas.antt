-- What is kept of one file after one call more.
use Rattle.std.specs.declared.alloc.Global.{Global}
use Rattle.std.proofs.Common.{Vec, ◌≡◌, ◌≢◌, ℕ, ◌+◌, ◌<◌, List, [], ◌∷◌, ◌++◌, length, refl, sym, ◌∙◌, ap, subst, true, false, Bool}
use Rattle.std.proofs.Common.{take, get_or, add-one}
use Rattle.std.proofs.Math.Seq.{take-suc}
use Rattle.std.specs.Prelude.{reverse, nat_le, if◌then◌else◌, ◌&&◌}
use Rattle.jb_disk.specs.declared.file.FileId.{FileId}
use Rattle.jb_disk.specs.declared.call.Call.{Call}
use Rattle.jb_disk.specs.declared.call.Call.TheVariants.{Wrote, Resized}
use Rattle.jb_disk.specs.declared.trace.Trace.{Trace}
use Rattle.jb_disk.specs.Files.{Files, file_number, with_file, overwritten}
use Rattle.jb_disk.specs.Images.{Unsynced, just_synced, torn, cut}
use Rattle.jb_disk.specs.Memory.{of_length, contents_after, images_after}
use Rattle.jb_disk.specs.FileLaws.{number-injective, with_file-here, with_file-other}
use Rattle.jb_disk.specs.MemoryLaws.{newest}
use Rattle.jb_disk.specs.ImageLaws.{with_image-here, with_image-other}
use Rattle.jb_disk.specs.Trace.{IsTrace, FollowsCall, HasFollowed}

-- the file that may be replaced
replaced-here : (b : Bool) (f : FileId) (bytes : List ℕ) (files : Files) → (if b then with_file f bytes files else files) f ≡ (if b then bytes else files f)
replaced-here true f bytes files = with_file-here f bytes files
replaced-here false f bytes files = refl

-- the files that may not
replaced-other : (b : Bool) (f g : FileId) (bytes : List ℕ) (files : Files) → g ≢ f → (if b then with_file f bytes files else files) g ≡ files g
replaced-other true f g bytes files ne = with_file-other f g bytes files ne
replaced-other false f g bytes files ne = refl

-- a write to this file
pub follows-wrote : (f other : FileId) (at : ℕ) (bytes : Vec ℕ Global) (done : Bool) (old new : Trace) → file_number f ≡ file_number other
    → ((u : Unsynced) (was : List ℕ) → IsTrace u was old → IsTrace (torn at (length bytes.items) u) (if done && nat_le (at + length bytes.items) (length was) then overwritten at bytes.items was else was) new)
    → FollowsCall f (Wrote other at bytes done) old new
follows-wrote f other at bytes done old new is step = subst (λ (g : FileId). FollowsCall g (Wrote other at bytes done) old new) (sym (number-injective f other is)) (λ first earlier was.
    subst (λ (u : Unsynced). IsTrace u (contents_after first (Wrote other at bytes done ∷ earlier) other) new) (sym (with_image-here other (torn at (length bytes.items)) (images_after first earlier)))
    (subst (λ (l : List ℕ). IsTrace (torn at (length bytes.items) (images_after first earlier other)) l new) (sym (replaced-here _ other (overwritten at bytes.items (contents_after first earlier other)) (contents_after first earlier)))
    (step (images_after first earlier other) (contents_after first earlier other) was)))

-- a write to another file
pub follows-other : (f other : FileId) (at : ℕ) (bytes : Vec ℕ Global) (done : Bool) (trace : Trace) → file_number f ≢ file_number other → FollowsCall f (Wrote other at bytes done) trace trace
follows-other f other at bytes done trace apart = λ first earlier was.
    let ne : f ≢ other = λ is. apart (ap file_number is) in
    subst (λ (u : Unsynced). IsTrace u (contents_after first (Wrote other at bytes done ∷ earlier) f) trace) (sym (with_image-other other f (torn at (length bytes.items)) (images_after first earlier) ne))
    (subst (λ (l : List ℕ). IsTrace (images_after first earlier f) l trace) (sym (replaced-other _ other f (overwritten at bytes.items (contents_after first earlier other)) (contents_after first earlier) ne)) was)

-- a change of this file's length
pub follows-resized : (f other : FileId) (len : ℕ) (done : Bool) (old new : Trace) → file_number f ≡ file_number other
    → ((u : Unsynced) (was : List ℕ) → IsTrace u was old → IsTrace (cut len u) (if done then of_length len was else was) new)
    → FollowsCall f (Resized other len done) old new
follows-resized f other len done old new is step = subst (λ (g : FileId). FollowsCall g (Resized other len done) old new) (sym (number-injective f other is)) (λ first earlier was.
    subst (λ (u : Unsynced). IsTrace u (contents_after first (Resized other len done ∷ earlier) other) new) (sym (with_image-here other (cut len) (images_after first earlier)))
    (subst (λ (l : List ℕ). IsTrace (cut len (images_after first earlier other)) l new) (sym (replaced-here done other (of_length len (contents_after first earlier other)) (contents_after first earlier)))
    (step (images_after first earlier other) (contents_after first earlier other) was)))

-- before any call
pub followed-first : (f : FileId) (bytes : List ℕ) (trace : Trace) → IsTrace (just_synced bytes) bytes trace → HasFollowed f bytes [] trace
followed-first f bytes trace was = λ first is. subst (λ (l : List ℕ). IsTrace (just_synced l) l trace) (sym is) was

-- after one call more of a list
pub followed-more : (f : FileId) (bytes : List ℕ) (calls : List Call) (k : ℕ) (call : Call) (old new : Trace) → k < length calls → call ≡ get_or calls k call
    → HasFollowed f bytes (take k calls) old → FollowsCall f call old new → HasFollowed f bytes (take (k + 1) calls) new
followed-more f bytes calls k call old new low is was step = λ first same.
    let more : take (k + 1) calls ≡ take k calls ++ call ∷ [] =
    ap (λ (n : ℕ). take n calls) (add-one k) ∙ take-suc calls k call low ∙ ap (λ (x : Call). take k calls ++ x ∷ []) (sym is) in
    subst (λ (l : List Call). IsTrace (images_after first l f) (contents_after first l f) new) (sym (newest (take k calls) call (take (k + 1) calls) more))
    (step first (reverse (take k calls)) (was first same))
