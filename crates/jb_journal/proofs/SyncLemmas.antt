-- What is known of what a crash leaves, from call to call.
use Rattle.std.proofs.Common.{◌≡◌, List, [], ◌∷◌, sym, ◌∙◌, subst, arith, Some}
use Rattle.jb_disk.specs.declared.file.FileId.{FileId}
use Rattle.jb_disk.specs.declared.file.FileId.TheVariants.{Jhr, Jdt, Jdx, Jlr, Jnl, Ndt}
use Rattle.jb_disk.specs.Files.{Files}
use Rattle.jb_disk.specs.Images.{Images}
use Rattle.jb_disk.specs.Device.{Device, OnlyReads}
use Rattle.jb_disk.specs.Runs.{LeavesNow, Shows, IsAllSynced}
use Rattle.jb_journal.specs.Filing.{AgreeBelow}
use Rattle.jb_disk.proofs.FileLemmas.{leaves_map, only_told}

-- a weaker property of what is shown
pub shows_map : (P Q : Files → Type 0) (device : Device) → ((files : Files) → P files → Q files) → Shows P device → Shows Q device
shows_map P Q device weaker all = record { read = λ files there. weaker files (all.read files there); left = leaves_map P Q device.moments weaker all.left }

-- one file of what is shown
pub held : (file : FileId) (final : Files) (device : Device) → device.contents ≡ Some final → LeavesNow (λ left. left file ≡ final file) device.moments → Shows (λ left. left file ≡ final file) device
held file final device there left = record { read = only_told device.contents final (λ files. files file ≡ final file) there (λ i. final file); left = left }

-- the four files of the base
pub four_files : (final : Files) (moments : List Images) → LeavesNow (λ left. left Jhr ≡ final Jhr) moments → LeavesNow (λ left. left Jdt ≡ final Jdt) moments
    → LeavesNow (λ left. left Jdx ≡ final Jdx) moments → LeavesNow (λ left. left Jlr ≡ final Jlr) moments → LeavesNow (AgreeBelow 4 final) moments
four_files final [] a b c d = tt
four_files final (now ∷ earlier) a b c d = λ files image. by_file files (a files image) (b files image) (c files image) (d files image)
  where
    by_file : (files : Files) → files Jhr ≡ final Jhr → files Jdt ≡ final Jdt → files Jdx ≡ final Jdx → files Jlr ≡ final Jlr → AgreeBelow 4 final files
    by_file files a b c d Jhr low = a
    by_file files a b c d Jdt low = b
    by_file files a b c d Jdx low = c
    by_file files a b c d Jlr low = d
    by_file files a b c d Jnl low = absurd (omega (arith, low))
    by_file files a b c d Ndt low = absurd (omega (arith, low))

-- a call that only reads leaves all synced
pub synced_same : (old new : Device) → OnlyReads old new → IsAllSynced old → IsAllSynced new
synced_same old new same synced = λ final there. subst (LeavesNow (λ left. left ≡ final)) (sym same.moments) (synced final (sym same.contents ∙ there))
