use Rattle.std.proofs.Common.{◌≡◌, ◌<◌, inl, inr, length, arith, rules}
use Rattle.jb_index.proofs.ThreadLemmas.{root_known, root_unknown, root_with, root_without, roots_length, stands_before}
use Rattle.jb_index.proofs.threads.root_at.Goals as goal
use Rattle.jb_index.proofs.threads.root_at.Goals.{then-summary-eq0-via-then-summary-eq0, then-summary-eq0-via-else-summary-eq0+then-summary}

pub returns-then-summary-eq0 : goal.returns-then-summary-eq0
returns-then-summary-eq0 c =
    root_without c.args.summaries.now.items c.args.place c.index-summary.result.now c.requires.rising c.requires.place c.index-summary.ensures
    (elim c.then-summary-eq0.branch [
      | then-summary-eq0-via-then-summary-eq0 w ↦ inl w.if-summary-eq0.true
      | then-summary-eq0-via-else-summary-eq0+then-summary w ↦ inr w.if-summary.true
    ])

pub bounds-roots-at : goal.bounds-roots-at
bounds-roots-at c =
    let before : c.in-Some.at < c.args.place = stands_before c.args.summaries.now.items c.args.place c.in-Some.at c.index-summary.result.now.parent c.index-summary.result.now
    c.requires.rising c.requires.place c.index-summary.ensures c.in-Some.ensures.0 c.in-Some.ensures.1 c.if-summary.false in
    let long : length c.args.roots.now ≡ c.args.place = roots_length c.args.summaries.now.items c.args.roots.now c.args.place c.requires.roots (omega arith) in
    omega arith

pub offset_bounds-roots-at : goal.offset_bounds-roots-at
offset_bounds-roots-at c =
    let before : c.in-Some.at < c.args.place = stands_before c.args.summaries.now.items c.args.place c.in-Some.at c.index-summary.result.now.parent c.index-summary.result.now
    c.requires.rising c.requires.place c.index-summary.ensures c.in-Some.ensures.0 c.in-Some.ensures.1 c.if-summary.false in
    let long : length c.args.roots.now ≡ c.args.place = roots_length c.args.summaries.now.items c.args.roots.now c.args.place c.requires.roots (omega arith) in
    let inside : c.in-Some.at < length c.args.roots.now = omega arith in
    search rules

pub returns-in-Some : goal.returns-in-Some
returns-in-Some c =
    let before : c.in-Some.at < c.args.place = stands_before c.args.summaries.now.items c.args.place c.in-Some.at c.index-summary.result.now.parent c.index-summary.result.now
    c.requires.rising c.requires.place c.index-summary.ensures c.in-Some.ensures.0 c.in-Some.ensures.1 c.if-summary.false in
    root_with c.args.summaries.now.items c.args.place _ c.index-summary.result.now c.requires.rising c.requires.place c.index-summary.ensures c.if-summary-eq0.false c.if-summary.false
    (root_known c.args.summaries.now.items c.args.roots.now c.args.place c.in-Some.at c.index-summary.result.now.parent 0 c.requires.roots before (omega arith) c.in-Some.ensures.1)

pub returns-in-None : goal.returns-in-None
returns-in-None c =
    root_with c.args.summaries.now.items c.args.place _ c.index-summary.result.now c.requires.rising c.requires.place c.index-summary.ensures c.if-summary-eq0.false c.if-summary.false
    (root_unknown c.args.summaries.now.items c.index-summary.result.now.parent c.in-None.ensures)
