use Rattle.std.proofs.Common.{◌∙◌, arith, sym, ap, subst}
use Rattle.jb_area_open.proofs.OpeningLemmas.{open_at}
use Rattle.jb_area_open.specs.Opening.{IsRecovered, KeepsOpening, OpensFirmly}
use Rattle.jb_disk.specs.Device.{Device}
use Rattle.jb_state.specs.declared.loaded.Loaded.{Loaded}
use Rattle.jb_area_open.proofs.opening.open_area.Goals as goal

pub returns-in-Ok-from_loaded-clause-rests : goal.returns-in-Ok-from_loaded-clause-rests
returns-in-Ok-from_loaded-clause-rests g c = λ texts are.
    let same = c.in-Ok-from_loaded.ensures.device in
    let loaded = c.in-Ok-from_loaded.ensures.loaded in
    c.in-Ok-from_loaded.ensures.rests texts (record {
      sized = are.sized ∙ ap (λ (l : Loaded). l.texts_len) loaded;
      told = λ files is. are.told files (ap (λ (d : Device). d.contents) same ∙ is);
    })

pub returns-in-Ok-from_loaded-clause-recovered : goal.returns-in-Ok-from_loaded-clause-recovered
returns-in-Ok-from_loaded-clause-recovered g c = λ was there.
    subst (IsRecovered was) (sym c.in-Ok-from_loaded.ensures.device) (c.in-Ok.ensures.recovered was there)

pub returns-in-Ok-from_loaded-clause-crash : goal.returns-in-Ok-from_loaded-clause-crash
returns-in-Ok-from_loaded-clause-crash g c =
    subst (KeepsOpening (g.D.Disk.device c.args.disk)) (sym c.in-Ok-from_loaded.ensures.device) c.load.ensures.crash

pub returns-in-Err-from_loaded-clause-refused : goal.returns-in-Err-from_loaded-clause-refused
returns-in-Err-from_loaded-clause-refused g c = λ other. record {
  recovered = λ was there. subst (IsRecovered was) (sym (ap g.D.Disk.device c.in-Err-from_loaded.ensures.back)) (c.in-Ok.ensures.recovered was there);
  refused = λ files is. tt;
}

pub returns-in-Err-from_loaded-clause-crash : goal.returns-in-Err-from_loaded-clause-crash
returns-in-Err-from_loaded-clause-crash g c =
    subst (KeepsOpening (g.D.Disk.device c.args.disk)) (sym (ap g.D.Disk.device c.in-Err-from_loaded.ensures.back)) c.load.ensures.crash

pub returns-in-Ok-from_loaded-clause-opened : goal.returns-in-Ok-from_loaded-clause-opened
returns-in-Ok-from_loaded-clause-opened g c =
    let same = c.in-Ok-from_loaded.ensures.device in
    let loaded = c.in-Ok-from_loaded.ensures.loaded in
    open_at g.D.Disk.device (g.D.Disk.device c.args.disk) c.in-Ok-from_loaded.area
    (λ was there. subst (IsRecovered was) (sym same) (c.in-Ok.ensures.recovered was there))
    (λ files is. ap (λ (l : Loaded). l.texts_len) loaded ∙ (c.in-Ok.ensures.rests files (sym (ap (λ (d : Device). d.contents) same) ∙ is)).holds.loads.texts_len)
    (λ texts are. c.in-Ok-from_loaded.ensures.rests texts (record {
      sized = are.sized ∙ ap (λ (l : Loaded). l.texts_len) loaded;
      told = λ files is. are.told files (ap (λ (d : Device). d.contents) same ∙ is);
    }))

pub returns-in-Ok-from_loaded-clause-firm : goal.returns-in-Ok-from_loaded-clause-firm
returns-in-Ok-from_loaded-clause-firm g c =
    subst (OpensFirmly (g.D.Disk.device c.args.disk)) (sym c.in-Ok-from_loaded.ensures.device) c.load.ensures.firm

pub returns-in-Err-from_loaded-clause-firm : goal.returns-in-Err-from_loaded-clause-firm
returns-in-Err-from_loaded-clause-firm g c =
    subst (OpensFirmly (g.D.Disk.device c.args.disk)) (sym (ap g.D.Disk.device c.in-Err-from_loaded.ensures.back)) c.load.ensures.firm

pub returns-in-Ok-from_loaded-clause-faults : goal.returns-in-Ok-from_loaded-clause-faults
returns-in-Ok-from_loaded-clause-faults g c =
    let same = ap (λ (d : Device). d.faults) c.in-Ok-from_loaded.ensures.device in
    record { quiet = same ∙ c.in-Ok.ensures.faults.quiet; later = omega (arith, same, c.load.ensures.faults.later); cause = tt }

pub returns-in-Err-from_loaded-clause-faults : goal.returns-in-Err-from_loaded-clause-faults
returns-in-Err-from_loaded-clause-faults g c =
    let same = ap (λ (d : Device). d.faults) (ap g.D.Disk.device c.in-Err-from_loaded.ensures.back) in
    record { quiet = tt; later = omega (arith, same, c.load.ensures.faults.later); cause = same ∙ c.in-Ok.ensures.faults.quiet }

pub returns-in-Err-clause-faults : goal.returns-in-Err-clause-faults
returns-in-Err-clause-faults g c = record { quiet = tt; later = c.load.ensures.faults.later; cause = c.in-Err.ensures.faults.cause }
