use Rattle.std.proofs.Common.{◌∙◌, ◌++◌, List, ap, map}
use Rattle.std.specs.Prelude.{codes}
use Rattle.jb_state.specs.Live.{live_count}
use Rattle.jb_state.specs.State.{slot_state}
use Rattle.jb_state.specs.declared.loaded.LoadedSlot.{LoadedSlot}
use Rattle.jb_tool.proofs.LoadUnreadLemmas.{three_behind}
use Rattle.jb_tool.specs.LoadSummary.{answer_count, figure_line}
use Rattle.jb_tool.proofs.summary.append_messages.Goals as goal
use Rattle.jb_journal.proofs.Told.{on_ok}

pub returns : goal.returns
returns c = on_ok c.append_figure-3.result _ _ (λ third texts.
    let live = c.count_live.ensures texts ∙ ap (λ (l : List LoadedSlot). live_count (map (slot_state texts) l)) c.as_slice-slots.ensures in
    let linked = c.count_answers.ensures texts ∙ ap (λ (l : List LoadedSlot). answer_count (map (slot_state texts) l)) c.as_slice-slots.ensures in
    three_behind c.args.text.now (figure_line (codes "live") c.count_live.result) (figure_line (codes "linked") c.count_answers.result) (figure_line (codes "unread") c.args.unread)
    c.append_figure.new.text c.append_figure-2.new.text c.append_figure-3.new.text c.in_ok-append_figure.ensures c.in_ok-append_figure-2.ensures third
    ∙ (λ i. c.args.text.now ++ (figure_line (codes "live") (live i) ++ figure_line (codes "linked") (linked i) ++ figure_line (codes "unread") c.args.unread))) c.append_figure-3.ensures
