use Rattle.std.proofs.Common.{ap, rules, tests}
use Rattle.std.specs.Prelude.{nat_le, not}
use Rattle.std.proofs.lemmas.Iterator.{YieldsList-from_slice}
use Rattle.std.proofs.lemmas.Iterator.Search.{any_from_yields_List}
use Rattle.jb_state.specs.declared.summary.Summary.{Summary}
use Rattle.jb_news_talk.proofs.telling.has_none.Goals as goal

pub returns : goal.returns
returns c =
    ap not (any_from_yields_List (λ (one : Summary). nat_le one.number c.args.last) _ _ _ c.any.ensures.ran (YieldsList-from_slice c.args.messages.now cc)
    (λ x b q k. search (rules, tests)))
