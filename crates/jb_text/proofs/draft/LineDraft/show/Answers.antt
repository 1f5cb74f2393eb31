use Rattle.std.proofs.Common.{ap, take, map, ◌∙◌}
use Rattle.std.proofs.lemmas.List.{take-map}
use Rattle.jb_text.specs.Shown.{shown_byte}
use Rattle.jb_text.proofs.draft.LineDraft.show.Goals as goal

pub returns : goal.returns
returns c =
    let inside = c.self.inside in
    ap (take inside.len) c.show_each.ensures ∙ take-map shown_byte inside.len inside.room ∙ ap (map shown_byte) c.self.view_is
