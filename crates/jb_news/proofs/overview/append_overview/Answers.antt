use Rattle.std.proofs.Common.{◌≡◌, ℕ, ◌++◌, List, ap, ◌∙◌}
use Rattle.jb_state.specs.Short.{kept_of}
use Rattle.jb_news.specs.Overview.{first_fields, last_fields}
use Rattle.jb_news.proofs.Growing.{longer}
use Rattle.jb_news.proofs.overview.append_overview.Goals as goal

pub returns : goal.returns
returns c =
    let text = c.args.text.now in
    let summary = c.args.summary.now in
    let subject = kept_of 72 summary.subject in
    let from = kept_of 36 summary.from in
    let one : c.append_first_fields.new.text ≡ text ++ first_fields summary.number subject from =
    c.in_ok-append_first_fields.ensures ∙ ap (λ (l : List ℕ). text ++ first_fields summary.number l c.as_slice-2.result.now) c.as_slice.ensures
    ∙ ap (λ (l : List ℕ). text ++ first_fields summary.number subject l) c.as_slice-2.ensures in
    longer text c.append_first_fields.new.text c.append_last_fields.new.text (first_fields summary.number subject from)
    (last_fields c.args.area summary.number summary.written summary.parent) c.in_ok-append_last_fields.ensures one
