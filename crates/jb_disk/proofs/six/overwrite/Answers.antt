use Rattle.std.proofs.Common.{arith, rules}
use Rattle.std.proofs.lemmas.List.{same_lists, places}
use Rattle.jb_disk.specs.Files.{overwritten}
use Rattle.jb_disk.proofs.six.overwrite.Goals as goal

pub returns : goal.returns
unfolding overwritten
returns c = same_lists _ _ (search (rules, places)) (λ k d h. grind (arith, places))
