use Rattle.std.proofs.Common.{◌≡◌, ◌≤◌, [], length, drop}
use Rattle.jb_conf.specs.Areas.{areas_fault, areas_of, slots_of}
use Rattle.jb_conf.specs.Tables.{tables_view}
use Rattle.jb_conf.proofs.reading.areas_of.Given as goal

abbrev pub invariant-loop-value : goal.invariant-loop-value
invariant-loop-value l = record {
  fault : areas_fault l.address [] (tables_view l.values) ≡ areas_fault l.address l.areas (tables_view (drop l.value-index l.values));
  made : areas_of l.address [] (tables_view l.values) ≡ areas_of l.address l.areas (tables_view (drop l.value-index l.values));
  counted : length l.areas ≡ l.value-index;
  sum : l.together ≡ slots_of l.areas;
  room : l.together ≤ 4200000;
}
