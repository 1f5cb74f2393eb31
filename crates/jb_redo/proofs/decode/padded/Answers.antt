use Rattle.std.proofs.Common.{arith}
use Rattle.std.proofs.lemmas.List.{places}
use Rattle.jb_redo.proofs.decode.padded.Goals as goal

pub returns : goal.returns
returns c = λ k low. grind (arith, places)
