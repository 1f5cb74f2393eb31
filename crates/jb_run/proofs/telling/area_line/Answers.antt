use Rattle.std.proofs.lemmas.Str.{IsUtf8-from_ascii}
use Rattle.jb_run.proofs.Naming.{printed_ascii}
use Rattle.jb_run.proofs.telling.area_line.Goals as goal

pub unreachable-requires : goal.unreachable-requires
unreachable-requires c = c.in_default.ensures.cases.0 (IsUtf8-from_ascii c.args.name.now (printed_ascii c.args.name.now c.requires.printed))
