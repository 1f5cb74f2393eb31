use Rattle.std.proofs.Common.{ap, ◌∙◌}
use Rattle.jb_tool.proofs.LoadEndLemmas.{summary_is}
use Rattle.jb_tool.specs.LoadRuns.{run_at}
use Rattle.jb_tool.specs.LoadSummary.{run_summary}
use Rattle.jb_tool.specs.Workload.{first_run, load_run}
use Rattle.jb_state.specs.State.{state_of}
use Rattle.jb_state.specs.declared.loaded.Loaded.{Loaded}
use Rattle.jb_tool.proofs.loading.fill.Goals as goal

pub returns-clause-filled : goal.returns-clause-filled
returns-clause-filled g c = λ tells start.
    let counts = c.run_all.new.counts in
    let at = c.in_ok-run_all.ensures.done tells first_run (record { rests = start; posts = c.new-counts.ensures.posts; reads = c.new-counts.ensures.reads; kills = c.new-counts.ensures.kills }) in
    record {
      text_is = summary_is g.D.Disk.device c.run_all.new.area counts (load_run c.args.seed c.args.count) c.in_ok-text.text at
          (λ texts. c.in_ok-text.ensures texts ∙ ap (λ (l : Loaded). run_summary (run_at (state_of texts l) counts)) c.loaded.ensures);
      rests = at.rests;
      rules = c.in_ok-run_all.ensures.ready.rules;
    }
