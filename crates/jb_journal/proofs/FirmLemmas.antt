-- From which moment on a crash leaves what was synced.
use Rattle.std.proofs.Common.{◌≡◌, ℕ, ◌+◌, ◌≤◌, List, [], ◌∷◌, ◌++◌, length, refl, ap, sym, ◌∙◌, subst, arith, append_assoc, length-append, Option, Some, None, Result, Ok, Err}
use Rattle.std.specs.Prelude.{OnOk}
use Rattle.jb_disk.specs.declared.file.FileId.{FileId}
use Rattle.jb_disk.specs.Files.{Files}
use Rattle.jb_disk.specs.Images.{Images, just_synced, with_image}
use Rattle.jb_disk.specs.Device.{Device, Syncs, TellsAnImage, and_then}
use Rattle.jb_disk.specs.Runs.{LeavesNow, Runs}
use Rattle.jb_disk.proofs.RunLemmas.{runs-then, runs-weaken, runs-refl}
use Rattle.jb_journal.specs.Recover.{FirmSince}
use Rattle.jb_journal.specs.Writing.{Adds}

-- no moment has come
pub adds_none : (old new : List Images) → new ≡ old → Adds 0 old new
adds_none old new same = record { added = []; since = same; few = omega arith }

-- a moment more, or none where none is told
adds_one : (change : Images → Images) (old new : List Images) → new ≡ and_then change old → Adds 1 old new
adds_one change [] new more = record { added = []; since = more; few = omega arith }
adds_one change (now ∷ earlier) new more = record { added = change now ∷ []; since = more; few = omega arith }

-- a sync that was done or not
pub adds_sync : {T E : Type 0} (f : FileId) (old new : Device) (result : Result T E) → TellsAnImage old → TellsAnImage new → Syncs f old new result → Adds 1 old.moments new.moments
adds_sync f old new (Err error) tells_old tells_new syncs = record { added = []; since = syncs.failed; few = omega arith }
adds_sync f old new (Ok value) tells_old tells_new syncs = by_contents old.contents refl
  where
    by_contents : (contents : Option Files) → old.contents ≡ contents → Adds 1 old.moments new.moments
    by_contents None none = record { added = []; since = tells_new.both (syncs.kept ∙ none) ∙ sym (tells_old.both none); few = omega arith }
    by_contents (Some files) some = adds_one (with_image f (λ _. just_synced (files f))) old.moments new.moments (syncs.done files some)

-- one call after another
pub adds_then : (m n : ℕ) (a b c : List Images) → Adds m a b → Adds n b c → Adds (m + n) a c
adds_then m n a b c first second =
    let size = length-append second.added first.added in
    let one = first.few in
    let two = second.few in
    record {
      added = second.added ++ first.added;
      since = second.since ∙ ap (λ (l : List Images). second.added ++ l) first.since ∙ sym (append_assoc second.added first.added a);
      few = omega (arith, size, one, two);
    }

-- a greater bound
pub adds_more : (m n : ℕ) (a b : List Images) → m ≤ n → Adds m a b → Adds n a b
adds_more m n a b more adds =
    let one = adds.few in
    record { added = adds.added; since = adds.since; few = omega (arith, one, more) }

-- while the first syncs are made
pub firm_syncing : (P : Files → Type 0) (old new : List Images) → Adds 5 old new → FirmSince P old new
firm_syncing P old new adds =
    let few = adds.few in
    record { syncing = adds.added; firm = []; since = adds.since; few = omega (arith, few); only = tt }

-- with the last one it is so
pub firm_synced : (P : Files → Type 0) (old mid new : List Images) → Adds 5 old mid → Adds 1 mid new → LeavesNow P new → FirmSince P old new
firm_synced P old mid new first last left = by_added last.added last.since last.few
  where
    by_added : (added : List Images) → new ≡ added ++ mid → length added ≤ 1 → FirmSince P old new
    by_added [] since few = let short = first.few in record { syncing = first.added; firm = []; since = since ∙ first.since; few = omega (arith, short); only = tt }
    by_added (now ∷ []) since few =
        let short = first.few in
        record {
          syncing = first.added;
          firm = now ∷ [];
          since = since ∙ ap (λ (l : List Images). now ∷ l) first.since;
          few = omega (arith, short);
          only = (subst (LeavesNow P) since left, tt);
        }
    by_added (now ∷ (next ∷ more)) since few = absurd (omega (arith, few))

-- and goes on so
pub firm_then : (P : Files → Type 0) (a b c : List Images) → FirmSince P a b → Runs P b c → FirmSince P a c
firm_then P a b c firm run =
    let start = firm.syncing ++ a in
    let all : Runs P start c = runs-then P start b c (record { later = firm.firm; since = firm.since; only = firm.only }) run in
    record { syncing = firm.syncing; firm = all.later; since = all.since; few = firm.few; only = all.only }

-- a weaker property
pub firm_weaken : (P Q : Files → Type 0) → ((files : Files) → P files → Q files) → (a b : List Images) → FirmSince P a b → FirmSince Q a b
firm_weaken P Q weaker a b firm =
    let start = firm.syncing ++ a in
    let all : Runs Q start b = runs-weaken P Q weaker start b (record { later = firm.firm; since = firm.since; only = firm.only }) in
    record { syncing = firm.syncing; firm = all.later; since = all.since; few = firm.few; only = all.only }

-- the same moments
pub firm_same : (P : Files → Type 0) (a b c : List Images) → c ≡ b → FirmSince P a b → FirmSince P a c
firm_same P a b c same firm = firm_then P a b c firm (runs-refl P b c same)

-- whether the last one was done or not
pub firm_last : {T E : Type 0} (P : Files → Type 0) (f : FileId) (old : List Images) (mid new : Device) (result : Result T E) → Adds 5 old mid.moments → TellsAnImage mid → TellsAnImage new → Syncs f mid new result
    → OnOk result (LeavesNow P new.moments) → FirmSince P old new.moments
firm_last P f old mid new (Ok value) first tells_mid tells_new syncs left = firm_synced P old mid.moments new.moments first (adds_sync f mid new (Ok value) tells_mid tells_new syncs) left
firm_last P f old mid new (Err error) first tells_mid tells_new syncs left = firm_same P old mid.moments new.moments syncs.failed (firm_syncing P old mid.moments first)
