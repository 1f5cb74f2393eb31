-- What is known of the failed syncs of some files, after a change of one.
use Rattle.std.proofs.Common.{ℕ, Bool, false, List, ◌∙◌, ap, slice_index_or, slice_set}
use Rattle.std.proofs.lemmas.List.{map-set, get_or-set_other}
use Rattle.jb_files.specs.declared.real.RealFile.{RealFile}
use Rattle.jb_files.specs.Failures.{OthersStay, failures}

-- a file in the place of another leaves what is known of the others
pub others-set : (files : List RealFile) (n : ℕ) (file : RealFile) → OthersStay n files (slice_set files n file)
others-set files n file = λ other apart. ap (λ (known : List Bool). slice_index_or known other false) (map-set _ files n file) ∙ get_or-set_other (failures files) n other _ false apart
