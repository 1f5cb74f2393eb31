-- What the layer above may cite of a backup.
use Rattle.std.proofs.Common.{◌≡◌, ◌⊎◌, inl, inr, ℕ, ◌≤◌, ◌<◌, List, [], ◌∷◌, length, take, drop, sym, ap, ◌∙◌, subst, arith}
use Rattle.std.specs.Prelude.{slice_index}
use Rattle.std.proofs.lemmas.List.{same_lists, places}
use Rattle.std.specs.Option.{ForSome}
use Rattle.jb_disk.specs.declared.file.FileId.{FileId}
use Rattle.jb_disk.specs.declared.file.FileId.TheVariants.{Jhr, Jdt, Jdx, Jlr, Jnl, Ndt}
use Rattle.jb_disk.specs.Device.{Device}
use Rattle.jb_disk.specs.Files.{Files, ceiling_of, file_number}
use Rattle.jb_disk.specs.Images.{Images}
use Rattle.jb_disk.specs.Runs.{LeavesNow, LeavesOnly, Runs}
use Rattle.jb_disk.proofs.FileLemmas.{leaves_map}
use Rattle.jb_disk.proofs.RunLemmas.{runs-then, runs-weaken}
use Rattle.jb_backup.specs.Begin.{BeginsAs, LeavesSince}
use Rattle.jb_backup.specs.Target.{AreEmpty, IsRefusedBase, IsTiny, IsUnsigned, backed_up, capped}

-- no more bytes than it may have
take-all : (most : ℕ) (l : List ℕ) → length l ≤ most → take most l ≡ l
take-all most l low = same_lists (take most l) l (grind (arith, places)) (λ k d under. grind (arith, places))

capped-all : (f : FileId) (l : List ℕ) → length l ≤ ceiling_of f → capped f l ≡ l
unfolding capped
capped-all f l low = take-all (ceiling_of f) l low

-- bytes that begin with this one
headed : (n : ℕ) (l : List ℕ) → 1 ≤ length l → slice_index l 0 ≡ n → (n ∷ drop 1 l) ≡ l
headed n [] some first = absurd (omega arith)
headed n (byte ∷ rest) some first = ap (λ (m : ℕ). m ∷ rest) (sym first)

-- signed files of a base, no longer than they may be, are their own backup
pub backed_up_same : (files : Files) → 1 ≤ length (files Jhr) → slice_index (files Jhr) 0 ≡ 74 → ((f : FileId) → length (files f) ≤ ceiling_of f) → (f : FileId) → file_number f < 4 → backed_up files f ≡ files f
backed_up_same files some signed low Jhr base = ap (λ (l : List ℕ). 74 ∷ drop 1 l) (capped-all Jhr (files Jhr) (low Jhr)) ∙ headed 74 (files Jhr) some signed
backed_up_same files some signed low Jdt base = capped-all Jdt (files Jdt) (low Jdt)
backed_up_same files some signed low Jdx base = capped-all Jdx (files Jdx) (low Jdx)
backed_up_same files some signed low Jlr base = capped-all Jlr (files Jlr) (low Jlr)
backed_up_same files some signed low Jnl base = absurd (omega arith)
backed_up_same files some signed low Ndt base = absurd (omega arith)

-- a target of one byte at most is refused
pub tiny_refused : (files : Files) → IsTiny files → IsRefusedBase files
tiny_refused files is = record { journal = is.journal; headers = inl is.short }

-- so is one that is unsigned
pub unsigned_refused : (files : Files) → IsUnsigned files → IsRefusedBase files
unsigned_refused files is = record { journal = is.journal; headers = inr is.first }

-- a target is begun as one of which more holds
pub begins_weaken : (P Q : Files → Type 0) → ((files : Files) → P files → Q files) → (old new : Device) → BeginsAs P old new → BeginsAs Q old new
begins_weaken P Q weaker old new begins = record { found = begins.found; before = begins.before; since = by_since begins.since; full = begins.full }
  where
    by_since : (new.moments ≡ begins.found) ⊎ LeavesSince P begins.found new.moments → (new.moments ≡ begins.found) ⊎ LeavesSince Q begins.found new.moments
    by_since (inl same) = inl same
    by_since (inr since) = inr (record { first = leaves_map P Q begins.found weaker since.first; run = runs-weaken P Q weaker begins.found new.moments since.run })

-- a target that was begun empty, and what is done with it then
pub begins_then : (P : Files → Type 0) (old mid new : Device) → ForSome old.contents AreEmpty → BeginsAs P old mid → LeavesOnly mid new P → BeginsAs P old new
begins_then P old mid new empty begins next = record {
  found = begins.found;
  before = begins.before;
  since = inr (by_since begins.since);
  full = λ files there filled. absurd (filled (empty files there));
}
  where
    by_since : (mid.moments ≡ begins.found) ⊎ LeavesSince P begins.found mid.moments → LeavesSince P begins.found new.moments
    by_since (inl same) = record { first = subst (LeavesNow P) same next.first; run = subst (λ (l : List Images). Runs P l new.moments) same next.run }
    by_since (inr since) = record { first = since.first; run = runs-then P begins.found mid.moments new.moments since.run next.run }
