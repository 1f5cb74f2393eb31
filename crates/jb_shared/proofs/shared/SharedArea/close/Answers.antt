use Rattle.std.proofs.Common.{All, List, ◌∙◌, subst}
use mathlib.Core.List.{IsPrefix}
use Rattle.jb_publish.specs.Fronts.{book_of, known_list}
use Rattle.jb_shared.specs.Areas.{passes_of}
use Rattle.jb_shared.specs.Passes.{PassView}
use Rattle.jb_shared.proofs.ClosingLemmas.{all_known, all_paired, closes, missing_known, same_pair}
use Rattle.jb_shared.proofs.shared.SharedArea.close.Goals as goal

pub end-requires : goal.end-requires
end-requires g c =
    let passes = c.args.passes.items in
    record {
      pair = c.longest_shown-longest.ensures.pair ∙ same_pair g.D.Disk.device (book_of c.args.self.origin) passes c.in-Ok.state (all_paired c.args.self passes c.requires.ours) c.in-Ok.ensures.whole;
    }

pub returns-in-Ok-clause-all : goal.returns-in-Ok-clause-all
returns-in-Ok-clause-all g c = all_known c.args.passes.items (passes_of c.args.self) c.in-Ok.ensures.all

pub returns-in-Ok-clause-closed : goal.returns-in-Ok-clause-closed
returns-in-Ok-clause-closed g c =
    let passes = c.args.passes.items in
    let longest = known_list c.longest_shown-longest.result in
    closes g.D.Disk.device (book_of c.args.self.origin) passes c.in-Ok.state c.end.result longest (all_paired c.args.self passes c.requires.ours) c.in-Ok.ensures.whole
    (subst (λ (l : List PassView). All (λ (pass : PassView). IsPrefix pass.known.shown longest) l) c.as_slice.ensures.value c.longest_shown-longest.ensures.begins) c.end.ensures.begins c.end.ensures.area

pub returns-in-Err-clause-missing : goal.returns-in-Err-clause-missing
returns-in-Err-clause-missing g c = missing_known c.args.passes.items (passes_of c.args.self) c.in-Err.node c.in-Err.ensures.missing
