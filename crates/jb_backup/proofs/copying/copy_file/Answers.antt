use Rattle.std.proofs.Common.{◌≡◌, ◌∙◌, arith}
use Rattle.jb_disk.proofs.RunLemmas.{keeps-then, keeps-sync}
use Rattle.jb_backup.specs.Target.{IsUnsigned}
use Rattle.jb_backup.proofs.CopyLemmas.{end_of, shows_copied}
use Rattle.jb_backup.proofs.TargetLemmas.{cut_unsigned, cut_others, others_then, sync_others}
use Rattle.jb_backup.proofs.copying.copy_file.Goals as goal

pub returns-in_err-set_len-clause-unsigned : goal.returns-in_err-set_len-clause-unsigned
returns-in_err-set_len-clause-unsigned g c =
    cut_unsigned c.args.file c.args.from c.max-end.result _ _ _ (g.met.E.Disk.told c.args.onto.now) (g.met.E.Disk.told c.set_len.new.self) c.requires.file (omega (arith, c.max-end.ensures)) c.set_len.ensures.changed

pub returns-in_err-set_len-clause-others : goal.returns-in_err-set_len-clause-others
returns-in_err-set_len-clause-others g c = cut_others c.args.file c.max-end.result _ _ _ (g.met.E.Disk.told c.args.onto.now) (g.met.E.Disk.told c.set_len.new.self) c.set_len.ensures.changed

pub returns-in_err-copy_range-clause-unsigned : goal.returns-in_err-copy_range-clause-unsigned
returns-in_err-copy_range-clause-unsigned g c = keeps-then IsUnsigned _ _ _
    (cut_unsigned c.args.file c.args.from c.max-end.result _ _ _ (g.met.E.Disk.told c.args.onto.now) (g.met.E.Disk.told c.set_len.new.self) c.requires.file (omega (arith, c.max-end.ensures)) c.set_len.ensures.changed)
    c.copy_range.ensures.unsigned

pub returns-in_err-copy_range-clause-others : goal.returns-in_err-copy_range-clause-others
returns-in_err-copy_range-clause-others g c = others_then c.args.file _ _ _
    (cut_others c.args.file c.max-end.result _ _ _ (g.met.E.Disk.told c.args.onto.now) (g.met.E.Disk.told c.set_len.new.self) c.set_len.ensures.changed) c.copy_range.ensures.others

pub returns-in_err-sync-clause-unsigned : goal.returns-in_err-sync-clause-unsigned
returns-in_err-sync-clause-unsigned g c = keeps-then IsUnsigned _ _ _ (keeps-then IsUnsigned _ _ _
    (cut_unsigned c.args.file c.args.from c.max-end.result _ _ _ (g.met.E.Disk.told c.args.onto.now) (g.met.E.Disk.told c.set_len.new.self) c.requires.file (omega (arith, c.max-end.ensures)) c.set_len.ensures.changed)
    c.copy_range.ensures.unsigned)
    (keeps-sync IsUnsigned c.args.file _ _ _ (g.met.E.Disk.told c.copy_range.new.onto) (g.met.E.Disk.told c.sync.new.self) c.sync.ensures.changed)

pub returns-in_err-sync-clause-others : goal.returns-in_err-sync-clause-others
returns-in_err-sync-clause-others g c = others_then c.args.file _ _ _ (others_then c.args.file _ _ _
    (cut_others c.args.file c.max-end.result _ _ _ (g.met.E.Disk.told c.args.onto.now) (g.met.E.Disk.told c.set_len.new.self) c.set_len.ensures.changed) c.copy_range.ensures.others)
    (sync_others c.args.file _ _ _ (g.met.E.Disk.told c.copy_range.new.onto) (g.met.E.Disk.told c.sync.new.self) c.sync.ensures.changed)

pub returns-clause-whole : goal.returns-clause-whole
returns-clause-whole g c = λ files there least good.
    let len = c.in-Ok.ensures.found files there in
    let end : c.max-end.result ≡ end_of c.args.file c.args.from files = omega (arith, len, c.ceiling.ensures, c.min.ensures, c.max-end.ensures) in
    shows_copied c.args.file least c.args.from c.max-end.result files _ _ (g.E.Disk.device c.copy_range.new.onto) (g.E.Disk.device c.sync.new.self) c.requires.file end (g.met.E.Disk.told c.sync.new.self) c.requires.front good
    c.in_ok-set_len.ensures.changed.done (c.in_ok-copy_range.ensures.told files (c.in-Ok.ensures.kept.contents ∙ there)) c.in_ok-sync.ensures.changed.kept c.in_ok-sync.ensures.changed.done

pub returns-clause-unsigned : goal.returns-clause-unsigned
returns-clause-unsigned g c = keeps-then IsUnsigned _ _ _ (keeps-then IsUnsigned _ _ _
    (cut_unsigned c.args.file c.args.from c.max-end.result _ _ _ (g.met.E.Disk.told c.args.onto.now) (g.met.E.Disk.told c.set_len.new.self) c.requires.file (omega (arith, c.max-end.ensures)) c.set_len.ensures.changed)
    c.copy_range.ensures.unsigned)
    (keeps-sync IsUnsigned c.args.file _ _ _ (g.met.E.Disk.told c.copy_range.new.onto) (g.met.E.Disk.told c.sync.new.self) c.sync.ensures.changed)

pub returns-clause-others : goal.returns-clause-others
returns-clause-others g c = others_then c.args.file _ _ _ (others_then c.args.file _ _ _
    (cut_others c.args.file c.max-end.result _ _ _ (g.met.E.Disk.told c.args.onto.now) (g.met.E.Disk.told c.set_len.new.self) c.set_len.ensures.changed) c.copy_range.ensures.others)
    (sync_others c.args.file _ _ _ (g.met.E.Disk.told c.copy_range.new.onto) (g.met.E.Disk.told c.sync.new.self) c.sync.ensures.changed)
