use Rattle.std.proofs.Common.{◌∙◌, ap, arith, refl, sym, subst}
use Rattle.std.specs.Prelude.{Result, Err, IfErr}
use Rattle.std.proofs.lemmas.Result.{err_from_is_err_and}
use Rattle.jb_area_open.proofs.OpeningLemmas.{preparing_firm, preparing_keeps, reading_firm, reading_keeps, recovery_firm, recovered_prepared, recovered_read, recovered_so, recovery_keeps, rests_prepared}
use Rattle.jb_area_open.proofs.RefusalLemmas.{refused_counts, refused_journal, refused_files, refused_fault, rose_journal}
use Rattle.jb_area_open.specs.Opening.{Refuses}
use Rattle.jb_area_open.specs.declared.error.OpeningError.{OpeningError}
use Rattle.jb_state.specs.declared.loaded.Loaded.{Loaded}
use Rattle.jb_area_open.proofs.loading.load.Goals as goal

pub returns-in_err-recover-clause-refused : goal.returns-in_err-recover-clause-refused
returns-in_err-recover-clause-refused g c =
    let before = g.D.Disk.device c.args.disk.now in
    let after = g.D.Disk.device c.recover.new.disk in
    let p = err_from_is_err_and c.from_residual.result c.from_residual.ensures.1 in
    let is = p.1 ∙ ap (λ (e : OpeningError). Err e) p.2 in
    subst (λ (r : Result Loaded OpeningError). IfErr r (Refuses c.args.slots before after)) (sym is)
    (refused_journal c.args.slots before after c.in_err-recover.field-0.0 c.in_err-recover.ensures.refused)

pub returns-in_err-recover-clause-crash : goal.returns-in_err-recover-clause-crash
returns-in_err-recover-clause-crash g c = recovery_keeps (g.D.Disk.device c.args.disk.now) (g.D.Disk.device c.recover.new.disk) c.recover.ensures.crash

pub returns-in_err-loaded-clause-refused : goal.returns-in_err-loaded-clause-refused
returns-in_err-loaded-clause-refused g c =
    let before = g.D.Disk.device c.args.disk.now in
    let mid = g.D.Disk.device c.recover.new.disk in
    let after = g.D.Disk.device c.decode.new.disk in
    let p = err_from_is_err_and c.from_residual-in_err-loaded.result c.from_residual-in_err-loaded.ensures.1 in
    let is = p.1 ∙ ap (λ (e : OpeningError). Err e) p.2 in
    subst (λ (r : Result Loaded OpeningError). IfErr r (Refuses c.args.slots before after)) (sym is)
    (refused_files c.args.slots before mid after c.in_err-loaded.field-0.0
    (recovered_so before mid c.in_ok-recover.field-0 c.in_ok-recover.ensures.found c.in_ok-recover.ensures.done c.in_ok-recover.ensures.closed c.in_ok-recover.ensures.durable c.in_ok-recover.ensures.told)
    c.decode.ensures.kept c.in_err-loaded.ensures.answer)

pub returns-in_err-loaded-clause-crash : goal.returns-in_err-loaded-clause-crash
returns-in_err-loaded-clause-crash g c =
    let before = g.D.Disk.device c.args.disk.now in
    let mid = g.D.Disk.device c.recover.new.disk in
    reading_keeps before mid (g.D.Disk.device c.decode.new.disk) c.decode.ensures.kept (recovery_keeps before mid c.recover.ensures.crash)

pub prepare-requires : goal.prepare-requires
prepare-requires g c = λ files is. c.in_ok-recover.ensures.closed files (sym c.decode.ensures.kept.contents ∙ is)

pub returns-in_err-prepare-clause-refused : goal.returns-in_err-prepare-clause-refused
returns-in_err-prepare-clause-refused g c =
    let before = g.D.Disk.device c.args.disk.now in
    let after = g.D.Disk.device c.prepare.new.disk in
    let p = err_from_is_err_and c.from_residual-in_err-prepare.result c.from_residual-in_err-prepare.ensures.1 in
    let is = p.1 ∙ ap (λ (e : OpeningError). Err e) p.2 in
    subst (λ (r : Result Loaded OpeningError). IfErr r (Refuses c.args.slots before after)) (sym is) (refused_fault c.args.slots before after)

pub returns-in_err-prepare-clause-crash : goal.returns-in_err-prepare-clause-crash
returns-in_err-prepare-clause-crash g c =
    let before = g.D.Disk.device c.args.disk.now in
    let mid = g.D.Disk.device c.recover.new.disk in
    let read = g.D.Disk.device c.decode.new.disk in
    let after = g.D.Disk.device c.prepare.new.disk in
    let recovered = recovered_so before mid c.in_ok-recover.field-0 c.in_ok-recover.ensures.found c.in_ok-recover.ensures.done c.in_ok-recover.ensures.closed c.in_ok-recover.ensures.durable c.in_ok-recover.ensures.told in
    preparing_keeps before read after (g.met.D.Disk.told c.args.disk.now) (reading_keeps before mid read c.decode.ensures.kept (recovery_keeps before mid c.recover.ensures.crash))
    (recovered_read before mid read c.decode.ensures.kept recovered)
    (λ was there safe now now_is. c.in_ok-recover.ensures.done was there safe now (sym c.decode.ensures.kept.contents ∙ now_is)) c.prepare.ensures.crash

pub returns-clause-rests : goal.returns-clause-rests
returns-clause-rests g c =
    let mid = g.D.Disk.device c.recover.new.disk in
    let read = g.D.Disk.device c.decode.new.disk in
    rests_prepared c.in_ok-loaded.loaded read.contents (g.D.Disk.device c.prepare.new.disk).contents
    (λ files is. c.in_ok-recover.ensures.closed files (sym c.decode.ensures.kept.contents ∙ is))
    (λ files is. (c.in_ok-loaded.ensures.answer files (sym c.decode.ensures.kept.contents ∙ is)).loads) c.in_ok-prepare.ensures.made

pub returns-clause-recovered : goal.returns-clause-recovered
returns-clause-recovered g c =
    let before = g.D.Disk.device c.args.disk.now in
    let mid = g.D.Disk.device c.recover.new.disk in
    let read = g.D.Disk.device c.decode.new.disk in
    let recovered = recovered_so before mid c.in_ok-recover.field-0 c.in_ok-recover.ensures.found c.in_ok-recover.ensures.done c.in_ok-recover.ensures.closed c.in_ok-recover.ensures.durable c.in_ok-recover.ensures.told in
    recovered_prepared before read (g.D.Disk.device c.prepare.new.disk) c.in_ok-prepare.ensures.made c.in_ok-prepare.ensures.durable (recovered_read before mid read c.decode.ensures.kept recovered)

pub returns-clause-crash : goal.returns-clause-crash
returns-clause-crash g c =
    let before = g.D.Disk.device c.args.disk.now in
    let mid = g.D.Disk.device c.recover.new.disk in
    let read = g.D.Disk.device c.decode.new.disk in
    let after = g.D.Disk.device c.prepare.new.disk in
    let recovered = recovered_so before mid c.in_ok-recover.field-0 c.in_ok-recover.ensures.found c.in_ok-recover.ensures.done c.in_ok-recover.ensures.closed c.in_ok-recover.ensures.durable c.in_ok-recover.ensures.told in
    preparing_keeps before read after (g.met.D.Disk.told c.args.disk.now) (reading_keeps before mid read c.decode.ensures.kept (recovery_keeps before mid c.recover.ensures.crash))
    (recovered_read before mid read c.decode.ensures.kept recovered)
    (λ was there safe now now_is. c.in_ok-recover.ensures.done was there safe now (sym c.decode.ensures.kept.contents ∙ now_is)) c.prepare.ensures.crash

pub returns-in_err-recover-clause-firm : goal.returns-in_err-recover-clause-firm
returns-in_err-recover-clause-firm g c = recovery_firm (g.D.Disk.device c.args.disk.now) (g.D.Disk.device c.recover.new.disk) c.recover.ensures.firm

pub returns-in_err-loaded-clause-firm : goal.returns-in_err-loaded-clause-firm
returns-in_err-loaded-clause-firm g c =
    let before = g.D.Disk.device c.args.disk.now in
    let mid = g.D.Disk.device c.recover.new.disk in
    reading_firm before mid (g.D.Disk.device c.decode.new.disk) c.decode.ensures.kept (recovery_firm before mid c.recover.ensures.firm)

pub returns-in_err-prepare-clause-firm : goal.returns-in_err-prepare-clause-firm
returns-in_err-prepare-clause-firm g c =
    let before = g.D.Disk.device c.args.disk.now in
    let mid = g.D.Disk.device c.recover.new.disk in
    let read = g.D.Disk.device c.decode.new.disk in
    let recovered = recovered_so before mid c.in_ok-recover.field-0 c.in_ok-recover.ensures.found c.in_ok-recover.ensures.done c.in_ok-recover.ensures.closed c.in_ok-recover.ensures.durable c.in_ok-recover.ensures.told in
    preparing_firm before read (g.D.Disk.device c.prepare.new.disk) (reading_firm before mid read c.decode.ensures.kept (recovery_firm before mid c.recover.ensures.firm))
    (recovered_read before mid read c.decode.ensures.kept recovered)
    (λ was there safe now now_is. c.in_ok-recover.ensures.done was there safe now (sym c.decode.ensures.kept.contents ∙ now_is)) c.prepare.ensures.crash

pub returns-clause-firm : goal.returns-clause-firm
returns-clause-firm g c =
    let before = g.D.Disk.device c.args.disk.now in
    let mid = g.D.Disk.device c.recover.new.disk in
    let read = g.D.Disk.device c.decode.new.disk in
    let recovered = recovered_so before mid c.in_ok-recover.field-0 c.in_ok-recover.ensures.found c.in_ok-recover.ensures.done c.in_ok-recover.ensures.closed c.in_ok-recover.ensures.durable c.in_ok-recover.ensures.told in
    preparing_firm before read (g.D.Disk.device c.prepare.new.disk) (reading_firm before mid read c.decode.ensures.kept (recovery_firm before mid c.recover.ensures.firm))
    (recovered_read before mid read c.decode.ensures.kept recovered)
    (λ was there safe now now_is. c.in_ok-recover.ensures.done was there safe now (sym c.decode.ensures.kept.contents ∙ now_is)) c.prepare.ensures.crash

pub returns-in_err-recover-clause-faults : goal.returns-in_err-recover-clause-faults
returns-in_err-recover-clause-faults g c =
    let before = g.D.Disk.device c.args.disk.now in
    let p = err_from_is_err_and c.from_residual.result c.from_residual.ensures.1 in
    refused_counts before before (g.D.Disk.device c.recover.new.disk) _ c.from_residual.result (p.1 ∙ ap (λ (e : OpeningError). Err e) p.2) refl c.recover.ensures.faults.later
    (rose_journal c.in_err-recover.field-0.0 _ _ c.in_err-recover.ensures.faults.cause)

pub returns-in_err-loaded-clause-faults : goal.returns-in_err-loaded-clause-faults
returns-in_err-loaded-clause-faults g c =
    let p = err_from_is_err_and c.from_residual-in_err-loaded.result c.from_residual-in_err-loaded.ensures.1 in
    refused_counts (g.D.Disk.device c.args.disk.now) (g.D.Disk.device c.recover.new.disk) (g.D.Disk.device c.decode.new.disk) _ c.from_residual-in_err-loaded.result (p.1 ∙ ap (λ (e : OpeningError). Err e) p.2)
    c.in_ok-recover.ensures.faults.quiet c.decode.ensures.faults.later c.in_err-loaded.ensures.faults.cause

pub returns-in_err-prepare-clause-faults : goal.returns-in_err-prepare-clause-faults
returns-in_err-prepare-clause-faults g c =
    let p = err_from_is_err_and c.from_residual-in_err-prepare.result c.from_residual-in_err-prepare.ensures.1 in
    refused_counts (g.D.Disk.device c.args.disk.now) (g.D.Disk.device c.decode.new.disk) (g.D.Disk.device c.prepare.new.disk) _ c.from_residual-in_err-prepare.result (p.1 ∙ ap (λ (e : OpeningError). Err e) p.2)
    (c.in_ok-loaded.ensures.faults.quiet ∙ c.in_ok-recover.ensures.faults.quiet) c.prepare.ensures.faults.later c.in_err-prepare.ensures.faults.cause

pub returns-clause-faults : goal.returns-clause-faults
returns-clause-faults g c = record {
  quiet = c.in_ok-prepare.ensures.faults.quiet ∙ c.in_ok-loaded.ensures.faults.quiet ∙ c.in_ok-recover.ensures.faults.quiet;
  later = omega (arith, c.recover.ensures.faults.later, c.decode.ensures.faults.later, c.prepare.ensures.faults.later);
  cause = tt;
}
