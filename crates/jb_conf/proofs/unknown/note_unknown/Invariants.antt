use Rattle.std.proofs.Common.{◌≡◌, ◌++◌}
use Rattle.toml.specs.View.{members_view, table_view}
use Rattle.jb_conf.specs.Unknown.{unknown_in}
use Rattle.jb_conf.proofs.unknown.note_unknown.Given as goal

abbrev pub invariant-loop-key : goal.invariant-loop-key
invariant-loop-key l = l.unknown ++ unknown_in l.sort l.place (members_view l.key-iterator) ≡ l.initial.unknown ++ unknown_in l.sort l.place (table_view l.table)
