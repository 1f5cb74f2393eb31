use Rattle.std.proofs.Common.{rules, ◌≡◌, ◌*◌, ◌∙◌, ℕ, ap, subst, arith}
use Rattle.jb_disk.specs.declared.file.FileId.TheVariants.{Jlr}
use Rattle.jb_record.specs.Lastread.{lastread_record_of}
use Rattle.jb_change.specs.Changing.{Puts}
use Rattle.jb_change.proofs.AreaLemmas.{mark_makes, mark_only}
use Rattle.jb_change.proofs.area.put_mark.Goals as goal

pub returns-clause-makes : goal.returns-clause-makes
returns-clause-makes c =
    let turned : c.args.place * 16 ≡ 16 * c.args.place = omega arith in
    mark_makes c.args.place c.args.mark.now c.mark_bytes.result c.args.redo.now c.put_piece.new.redo c.requires.fits (search rules) (ap lastread_record_of c.mark_bytes.ensures.exact ∙ c.mark_bytes.ensures.back)
    (subst (λ (n : ℕ). Puts Jlr n c.mark_bytes.result c.args.redo.now c.put_piece.new.redo) turned c.put_piece.ensures.puts)

pub returns-clause-only : goal.returns-clause-only
returns-clause-only c =
    let turned : c.args.place * 16 ≡ 16 * c.args.place = omega arith in
    mark_only c.args.place c.mark_bytes.result c.args.redo.now c.put_piece.new.redo (search rules)
    (subst (λ (n : ℕ). Puts Jlr n c.mark_bytes.result c.args.redo.now c.put_piece.new.redo) turned c.put_piece.ensures.puts)
