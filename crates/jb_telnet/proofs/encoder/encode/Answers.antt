use Rattle.std.proofs.Common.{◌≡◌, ℕ, List, [], map, flat_map, sym, subst, arith}
use Rattle.std.proofs.lemmas.Grind.{common_steps}
use Rattle.jb_telnet.specs.declared.event.Event.TheVariants.{Byte}
use Rattle.jb_telnet.specs.Units.{doubled, CutsInto}
use Rattle.jb_telnet.proofs.Cuts.{cuts_doubled}
use Rattle.jb_telnet.proofs.encoder.encode.Goals as goal

pub returns-clause-fits : goal.returns-clause-fits
returns-clause-fits c =
    let whole : c.from.result ≡ flat_map doubled c.args.bytes.now = grind (arith, common_steps) in
    let P : List ℕ → Type 0 = λ sent. CutsInto sent (map Byte c.args.bytes.now) [] in
    subst P (sym whole) (cuts_doubled c.args.bytes.now)
