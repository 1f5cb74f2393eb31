use Rattle.std.proofs.Common.{ℕ, List, refl, subst}
use Rattle.jb_area.specs.Holds.{IsAtRest}
use Rattle.jb_area.proofs.StartLemmas.{some_texts}
use Rattle.jb_area.proofs.area.OpenArea.from_loaded.Goals as goal

pub returns-clause-rests : goal.returns-clause-rests
returns-clause-rests g c = rw c.in-Ok.ensures (λ texts are. record {
  stage = refl;
  small = refl;
  kept = record {
    ruled = record {
      few_slots = c.requires.few_slots;
      address = c.requires.address;
      sound = c.requires.sound;
      sized = are.sized;
      room = c.in-Ok-small_redo.ensures;
    };
    settled = record {
      rests = λ files there. subst (λ (t : List ℕ). IsAtRest c.args.loaded t files) (are.told files there) (c.requires.rests files there);
      synced = c.requires.synced;
    };
    copies = λ files there. tt;
  };
})

pub returns-clause-rest : goal.returns-clause-rest
returns-clause-rest g c =
    let has = some_texts c.args.loaded (g.D.Disk.device c.args.disk).contents c.requires.rests in
    record { texts = has.0; rests = returns-clause-rests g c has.0 has.1 }
