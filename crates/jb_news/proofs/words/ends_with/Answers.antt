use Rattle.std.proofs.Common.{◌∙◌, ap, sym}
use Rattle.jb_news.specs.Words.{ends_with}
use Rattle.jb_news.proofs.WordLemmas.{ends_last}
use Rattle.jb_news.proofs.words.ends_with.Goals as goal

pub returns-in-Some : goal.returns-in-Some
returns-in-Some c =
    sym (ends_last c.args.byte c.in-Some.last.now c.in-Some.field-0-1.now) ∙ ap (ends_with c.args.byte) (sym c.in-Some.ensures.cases.0)
