use Rattle.std.proofs.Common.{◌∙◌, ap, refl, List, ℕ}
use Rattle.jb_journal.specs.Pending.{Pending}
use Rattle.jb_journal.proofs.GatherLemmas.{gathers_taken, gathers_at_once}
use Rattle.jb_journal.proofs.gathering.Gathering.put.Goals as goal

pub returns-then-takes : goal.returns-then-takes
returns-then-takes g c = gathers_taken c.args.file c.args.at c.args.bytes.now c.args.self.now c.append.new.self _ _ (c.if-takes.ensures.here refl).0 (c.if-takes.ensures.here refl).1 c.append.ensures c.requires.held c.requires.room

pub returns-then-bytes-gt-MOST_BYTES : goal.returns-then-bytes-gt-MOST_BYTES
returns-then-bytes-gt-MOST_BYTES g c =
    let none = ap (λ (p : Pending). p.bytes) (c.self.view_is ∙ c.in_ok-flush.ensures.none) in
    gathers_at_once c.args.file c.args.at c.args.bytes.now c.args.self.now _ _ _ _ _ _ _ c.in_ok-flush.ensures (ap (λ (l : List ℕ). record { file = c.args.file; at = c.args.at; bytes = l }) none)
    c.requires.room (g.met.D.Disk.told c.write_at.new.self) c.write_at.ensures.changed c.write_at.ensures.ok c.write_at.ensures.crash c.write_at.ensures.cause
