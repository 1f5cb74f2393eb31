use Rattle.std.proofs.Common.{◌≡◌, [], length, drop}
use Rattle.jb_conf.specs.Tables.{tables_view}
use Rattle.jb_conf.specs.Users.{users_fault, users_of}
use Rattle.jb_conf.proofs.reading.users_of.Given as goal

abbrev pub invariant-loop-value : goal.invariant-loop-value
invariant-loop-value l = record {
  fault : users_fault [] (tables_view l.values) ≡ users_fault l.users (tables_view (drop l.value-index l.values));
  made : users_of [] (tables_view l.values) ≡ users_of l.users (tables_view (drop l.value-index l.values));
  counted : length l.users ≡ l.value-index;
}
