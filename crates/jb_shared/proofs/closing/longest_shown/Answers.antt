use Rattle.std.proofs.Common.{All, List, subst, ◌∙◌}
use Rattle.std.proofs.lemmas.List.{take_all}
use mathlib.Core.List.{IsPrefix}
use Rattle.jb_model.specs.declared.entry.Entry.{Entry}
use Rattle.jb_publish.specs.Fronts.{known_list}
use Rattle.jb_shared.specs.Passes.{PassView}
use Rattle.jb_shared.proofs.ClosingLemmas.{shown_more}
use Rattle.jb_shared.proofs.closing.longest_shown.Goals as goal

pub loop-pass-preserved : goal.loop-pass-preserved
loop-pass-preserved c =
    let at = c.loop-pass in
    let next = known_list c.longer-longest.result in
    record {
      pair = c.longer-longest.ensures.pair ∙ at.invariant.pair;
      begins =
          shown_more c.args.passes.now at.pass-index c.pass-item.result (known_list at.longest) next c.loop-pass-test.true c.pass-item.is c.longer-longest.ensures.one
          (subst (λ (l : List Entry). IsPrefix l next) c.shown.ensures.list c.longer-longest.ensures.other) at.invariant.begins;
    }

pub returns-clause-begins : goal.returns-clause-begins
returns-clause-begins c =
    let at = c.loop-pass in
    subst (λ (l : List PassView). All (λ (pass : PassView). IsPrefix pass.known.shown (known_list at.longest)) l) (take_all at.pass-index c.args.passes.now c.loop-pass-test.false) at.invariant.begins
