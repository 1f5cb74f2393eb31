use Rattle.std.proofs.Common.{◌≡◌, ◌+◌, ◌++◌, ◌∙◌, ap, arith}
use Rattle.jb_image.specs.Places.{bytes_at}
use Rattle.jb_pack.proofs.CopyLemmas.{bytes-more}
use Rattle.jb_pack.proofs.run.joined.Goals as goal

pub returns-clause-joined : goal.returns-clause-joined
returns-clause-joined c =
    let at_is : c.args.run.at + c.args.run.len ≡ c.args.next.at = omega arith in
    record {
      size = omega arith;
      bytes = λ file.
          bytes-more c.args.run.at c.args.run.len c.args.next.len file
          ∙ ap (λ n. bytes_at c.args.run.at c.args.run.len file ++ bytes_at n c.args.next.len file) at_is;
    }
