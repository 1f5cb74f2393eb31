-- The change that makes a base, and the files beside it.
use Rattle.std.proofs.Common.{◌≡◌, ◌≢◌, ℕ, ◌<◌, ap, ◌∙◌, arith}
use Rattle.jb_decide.proofs.AgreeLemmas.{loads_agree}
use Rattle.jb_change.specs.NewBase.{AreEmpty, AreNew, MakesBase, new_loaded}
use Rattle.jb_disk.specs.RedoView.{RedoView}
use Rattle.jb_disk.specs.Files.{Files, file_number}
use Rattle.jb_disk.specs.declared.file.FileId.{FileId}
use Rattle.jb_disk.specs.declared.file.FileId.TheVariants.{Jhr, Jdt, Jdx, Jlr, Jnl}
use Rattle.jb_journal.specs.Commit.{AgreeButJournal, IsPlain, IsReady}
use Rattle.jb_redo.specs.Changes.{IsWritable}

-- a file of a base is not the journal
no_journal : (file : FileId) → file_number file < 4 → file ≢ Jnl
no_journal file low is = let four : file_number file ≡ 4 = ap file_number is in omega (arith, low, four)

-- files that are the same but for the journal are new too
pub new_beside : (moment : ℕ) (base files : Files) → AreNew moment base → AgreeButJournal files base → AreNew moment files
new_beside moment base files new same =
    let there : (file : FileId) → file_number file < 4 → files file ≡ base file = λ file low. same file (no_journal file low) in
    record {
      headers = there Jhr (omega arith) ∙ new.headers;
      others = λ file low ne. there file low ∙ new.others file low ne;
      loads = loads_agree files base (there Jhr (omega arith)) (there Jdt (omega arith)) (there Jdx (omega arith)) (there Jlr (omega arith)) (new_loaded moment) new.loads;
    }

-- and so are empty ones
pub empty_beside : (base files : Files) → AreEmpty base → AgreeButJournal files base → AreEmpty files
empty_beside base files empty same file low = same file (no_journal file low) ∙ empty file low

module _ (moment : ℕ) (change : RedoView) (makes : MakesBase moment change) where
  -- it fits the journal
  pub base_writable : IsWritable change
  base_writable = record { lengths_are = makes.lengths; short = omega (arith, makes.size) }

  -- empty files are ready for it, behind a closed gate
  pub base_ready : (files : Files) → AreEmpty files → IsPlain files → IsReady 1 change files
  base_ready files empty plain = record { numbered = omega arith; legal = makes.brings.legal files empty; grown = makes.brings.grown files empty; plain = plain }
