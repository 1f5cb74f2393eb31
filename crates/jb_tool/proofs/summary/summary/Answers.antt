use Rattle.std.proofs.Common.{◌∙◌, ◌++◌, ℕ, ap}
use Rattle.jb_base.specs.declared.area.AreaRules.{AreaRules}
use Rattle.jb_base.specs.declared.user.User.{User}
use Rattle.jb_state.specs.State.{state_of}
use Rattle.jb_state.specs.Visible.{unread_by}
use Rattle.std.specs.Prelude.{length}
use Rattle.jb_tool.specs.LoadRuns.{run_at}
use Rattle.jb_tool.specs.LoadSummary.{done_lines, file_lines, slot_lines}
use Rattle.jb_tool.specs.Workload.{load_rules}
use Rattle.jb_tool.proofs.LoadUnreadLemmas.{three_parts}
use Rattle.jb_tool.proofs.summary.summary.Goals as goal

pub returns : goal.returns
returns c = λ texts.
    let area = state_of texts c.args.loaded.now in
    let count : AreaRules → User → ℕ = λ rules user. length (unread_by rules user area) in
    let unread = c.in_ok-unread.ensures texts ∙ ap (λ (r : AreaRules). count r c.args.user.now) c.requires.rules ∙ ap (λ (u : User). count load_rules u) c.requires.user in
    three_parts (done_lines (run_at area c.args.counts.now)) (slot_lines area.slots c.in_ok-unread.unread) (file_lines area)
    c.new-text.result c.append_done.new.text c.append_messages.new.text c.append_files.new.text
    c.new-text.ensures (c.in_ok-append_done.ensures area) (c.in_ok-append_messages.ensures texts) (c.in_ok-append_files.ensures texts)
    ∙ ap (λ (n : ℕ). done_lines (run_at area c.args.counts.now) ++ slot_lines area.slots n ++ file_lines area) unread
