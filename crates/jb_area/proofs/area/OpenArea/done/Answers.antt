use Rattle.std.proofs.Common.{refl}
use Rattle.jb_area.proofs.StartLemmas.{err_not_ok}
use Rattle.jb_area.proofs.area.OpenArea.done.Goals as goal

pub returns-in-Ok : goal.returns-in-Ok
returns-in-Ok g c = record {
  done = c.in-Ok.ensures.ends.done;
  made = c.in-Ok.ensures.ends.made;
  idle = λ none. (refl, (c.finish.ensures.ends.idle none).1);
  fault = tt;
  doubt = tt;
  opens = tt;
  loaded = tt;
  counted = c.in-Ok.ensures.ends.counted;
  spent = tt;
  faults = record { quiet = c.in-Ok.ensures.ends.faults.quiet; later = c.finish.ensures.ends.faults.later; cause = tt };
  alike = c.finish.ensures.ends.alike;
  crash = c.finish.ensures.ends.crash;
  room = c.finish.ensures.ends.room;
  rules = c.finish.ensures.ends.rules;
  copies = c.in-Ok.ensures.ends.copies;
  kept = tt;
  packs = c.in-Ok.ensures.ends.packs;
  unpacked = tt;
  packed = c.in-Ok.ensures.ends.packed;
}

pub returns-in-Err : goal.returns-in-Err
returns-in-Err g c = record {
  done = tt;
  made = tt;
  idle = λ none. absurd (err_not_ok c.finish.result _ c.in-Err.is (c.finish.ensures.ends.idle none).0);
  fault = refl;
  doubt = c.in-Err.ensures.ends.doubt;
  opens = c.in-Err.ensures.ends.opens;
  loaded = c.in-Err.ensures.ends.loaded;
  counted = tt;
  spent = c.in-Err.ensures.ends.spent;
  faults = record { quiet = tt; later = c.finish.ensures.ends.faults.later; cause = c.in-Err.ensures.ends.faults.cause };
  alike = c.finish.ensures.ends.alike;
  crash = c.finish.ensures.ends.crash;
  room = c.finish.ensures.ends.room;
  rules = c.finish.ensures.ends.rules;
  copies = tt;
  kept = c.in-Err.ensures.ends.kept;
  packs = tt;
  unpacked = c.in-Err.ensures.ends.unpacked;
  packed = tt;
}
