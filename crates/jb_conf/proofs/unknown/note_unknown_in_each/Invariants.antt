use Rattle.std.proofs.Common.{◌≡◌, ◌+◌, ◌++◌, drop}
use Rattle.jb_conf.specs.Tables.{tables_view}
use Rattle.jb_conf.specs.Unknown.{unknown_in_each}
use Rattle.jb_conf.proofs.unknown.note_unknown_in_each.Given as goal

abbrev pub invariant-loop-value : goal.invariant-loop-value
invariant-loop-value l = record {
  counted : l.place ≡ l.value-index + 1;
  rest : l.unknown ++ unknown_in_each l.sort l.place (tables_view (drop l.value-index l.values)) ≡ l.initial.unknown ++ unknown_in_each l.sort 1 (tables_view l.values);
}
