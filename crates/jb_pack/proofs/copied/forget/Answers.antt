use Rattle.std.proofs.Common.{◌∙◌, arith, length, replicate, sym}
use Rattle.std.proofs.lemmas.List.{get_or-replicate, get_or_default, length-replicate, same_lists}
use Rattle.jb_pack.specs.Shadow.{not_copied}
use Rattle.jb_pack.proofs.copied.forget.Goals as goal

pub returns : goal.returns
returns c =
    let size = length-replicate (length c.args.copies.now) not_copied in
    same_lists c.loop-copied.copies (replicate (length c.args.copies.now) not_copied) (omega arith) (λ k d low.
    get_or_default c.loop-copied.copies k d not_copied low
    ∙ c.loop-copied.invariant k (omega arith)
    ∙ sym (get_or-replicate (length c.args.copies.now) k not_copied d (omega arith)))
