use Rattle.std.proofs.Common.{◌≡◌, inl, [], ◌∷◌, ◌∙◌, ap}
use Rattle.std.specs.Option.{option_map}
use Rattle.jb_disk.specs.declared.file.FileId.TheVariants.{Jnl}
use Rattle.jb_disk.specs.Files.{Files, written}
use Rattle.jb_disk.specs.Runs.{Shows}
use Rattle.jb_disk.proofs.RunLemmas.{runs-then, runs-weaken, stays_silent}
use Rattle.jb_journal.specs.Commit.{ReplaysTo}
use Rattle.jb_redo.specs.Changes.{changed}
use Rattle.jb_journal.specs.Stages.{IsGoing, IsClosing}
use Rattle.jb_journal.proofs.ComingLemmas.{syncs_closed}
use Rattle.jb_journal.proofs.Told.{on_ok, on_ok_both, option_map-twice}
use Rattle.jb_journal.proofs.SyncLemmas.{shows_map}
use Rattle.jb_journal.proofs.OpenedLemmas.{going_legal, going_replays, legal_two}
use Rattle.jb_journal.proofs.WriteAndClose.{shows_is, told_is, closing_gate, closing_run, closing_synced, gate_room}
use Rattle.jb_journal.proofs.committing.write_and_close.Goals as goal

pub write_files-requires-clause-room : goal.write_files-requires-clause-room
write_files-requires-clause-room g c = λ now there. let under = c.requires.going now there in going_legal c.args.redo.now under.from under.is under.two now under.way

pub returns-in_err-write_files-clause-late : goal.returns-in_err-write_files-clause-late
returns-in_err-write_files-clause-late g c = λ from is two shows.
    shows_map (IsGoing c.args.redo.now from) (IsClosing c.args.redo.now from) _ (λ files way. inl way) ((c.write_files.ensures.keeps from (legal_two c.args.redo.now from is two)).shows shows)

pub returns-in_err-write_files-clause-run : goal.returns-in_err-write_files-clause-run
returns-in_err-write_files-clause-run g c = λ from is two shows.
    runs-weaken (IsGoing c.args.redo.now from) (ReplaysTo (changed c.args.redo.now from)) (going_replays c.args.redo.now from is) _ _ ((c.write_files.ensures.keeps from (legal_two c.args.redo.now from is two)).run shows)

pub set_gate-requires : goal.set_gate-requires
set_gate-requires g c = gate_room c.args.redo.now _ _ (stays_silent _ _ c.write_files.ensures.cause.alike) c.requires.going (λ from is two way. c.in_ok-write_files.ensures.told from (legal_two c.args.redo.now from is two) is.grown way)

pub returns-clause-done : goal.returns-clause-done
returns-clause-done g c = on_ok c.set_gate.result _ _ (λ told. λ from is two shows.
    told ∙ ap (option_map (written Jnl 0 (0 ∷ []))) (c.in_ok-write_files.ensures.told from (legal_two c.args.redo.now from is two) is.grown shows.read)
    ∙ option_map-twice (λ (files : Files). changed c.args.redo.now from) (written Jnl 0 (0 ∷ [])) _) c.set_gate.ensures.told

pub returns-clause-synced : goal.returns-clause-synced
returns-clause-synced g c = on_ok_both c.set_gate.result _ _ _ (λ told durable. λ from is two shows.
    let mid = g.D.Disk.device c.write_files.new.disk in
    let mid_is = c.in_ok-write_files.ensures.told from (legal_two c.args.redo.now from is two) is.grown shows.read in
    let done : Shows (λ files. files ≡ changed c.args.redo.now from) mid =
    shows_is mid (changed c.args.redo.now from) (g.met.D.Disk.told c.write_files.new.disk) (told_is _ _ (changed c.args.redo.now from) mid_is) (c.in_ok-write_files.ensures.durable from (legal_two c.args.redo.now from is two) shows) in
    closing_synced c.args.redo.now from is mid (g.D.Disk.device c.set_gate.new.disk) (g.met.D.Disk.told c.write_files.new.disk) done (c.set_gate.ensures.keeps (changed c.args.redo.now from)) _ mid_is told durable)
    c.set_gate.ensures.told c.set_gate.ensures.durable

pub returns-clause-late : goal.returns-clause-late
returns-clause-late g c = λ from is two shows.
    let mid = g.D.Disk.device c.write_files.new.disk in
    let mid_is = c.in_ok-write_files.ensures.told from (legal_two c.args.redo.now from is two) is.grown shows.read in
    let done : Shows (λ files. files ≡ changed c.args.redo.now from) mid =
    shows_is mid (changed c.args.redo.now from) (g.met.D.Disk.told c.write_files.new.disk) (told_is _ _ (changed c.args.redo.now from) mid_is) (c.in_ok-write_files.ensures.durable from (legal_two c.args.redo.now from is two) shows) in
    closing_gate c.args.redo.now from is mid (g.D.Disk.device c.set_gate.new.disk) (g.met.D.Disk.told c.write_files.new.disk) done (c.set_gate.ensures.keeps (changed c.args.redo.now from))

pub returns-clause-run : goal.returns-clause-run
returns-clause-run g c = λ from is two shows.
    let mid = g.D.Disk.device c.write_files.new.disk in
    let mid_is = c.in_ok-write_files.ensures.told from (legal_two c.args.redo.now from is two) is.grown shows.read in
    let done : Shows (λ files. files ≡ changed c.args.redo.now from) mid =
    shows_is mid (changed c.args.redo.now from) (g.met.D.Disk.told c.write_files.new.disk) (told_is _ _ (changed c.args.redo.now from) mid_is) (c.in_ok-write_files.ensures.durable from (legal_two c.args.redo.now from is two) shows) in
    runs-then (ReplaysTo (changed c.args.redo.now from)) _ _ _
    (runs-weaken (IsGoing c.args.redo.now from) (ReplaysTo (changed c.args.redo.now from)) (going_replays c.args.redo.now from is) _ _ ((c.write_files.ensures.keeps from (legal_two c.args.redo.now from is two)).run shows))
    (closing_run c.args.redo.now from is mid (g.D.Disk.device c.set_gate.new.disk) (g.met.D.Disk.told c.write_files.new.disk) done (c.set_gate.ensures.keeps (changed c.args.redo.now from)))

pub returns-clause-come : goal.returns-clause-come
returns-clause-come g c = on_ok c.set_gate.result _ _ (syncs_closed c.args.redo.now.lengths c.args.redo.now.lengths c.args.redo.now.pieces _ _ _ c.in_ok-write_files.ensures.come) c.set_gate.ensures.come
