use Rattle.std.proofs.Common.{◌≡◌, ◌+◌, ◌<◌, ℕ, [], length, take, sym, subst, arith}
use Rattle.std.specs.Prelude.{slice_index_or}
use Rattle.std.proofs.lemmas.List.{length-take-le}
use Rattle.jb_host.specs.Desk.{Desk}
use Rattle.jb_run.specs.All.{ClosesAll}
use Rattle.jb_run.specs.Rows.{lists_of}
use Rattle.jb_run.proofs.CloseLemmas.{AreFirst, ClosesFrom, all_first, closes_begin, closes_end, closes_next, column_closed, fewer_first}
use Rattle.jb_run.proofs.RowLemmas.{length-lists_of}
use Rattle.jb_run.proofs.closing.close_areas.Goals as goal

-- none is closed yet
pub loop-doubtful-init : goal.loop-doubtful-init
loop-doubtful-init g c =
    let shared = c.args.shared in
    let nodes = lists_of shared.nodes.items in
    record {
      whole = c.requires.whole;
      within = omega arith;
      passes = all_first nodes (length shared.areas.items) (λ n here. c.requires.whole.passes n (omega (arith, here, length-lists_of shared.nodes.items)));
      closes = closes_begin (take (length shared.areas.items) c.args.areas.now) nodes (length shared.areas.items) (g.H.Host.desk c.args.host.now)
          (length-take-le (length shared.areas.items) c.args.areas.now c.requires.within);
    }

-- the last is closed
pub loop-doubtful-preserved : goal.loop-doubtful-preserved
loop-doubtful-preserved g c =
    let at = c.loop-doubtful in
    let areas = c.args.areas.now in
    let closed = c.in-Some.ensures.closed in
    let left = c.close_last.new.shared in
    let n = length c.args.shared.areas.items in
    let k = length left.areas.items in
    let all = lists_of c.args.shared.nodes.items in
    let more = lists_of at.shared.nodes.items in
    let fewer = lists_of left.nodes.items in
    let old = g.H.Host.desk c.args.host.now in
    let mid = g.H.Host.desk at.host in
    let first : AreFirst (k + 1) all more = subst (λ (m : ℕ). AreFirst m all more) closed.count at.invariant.passes in
    let before : ClosesFrom (k + 1) (take n areas) all old mid at.is_doubtful = subst (λ (m : ℕ). ClosesFrom m (take n areas) all old mid at.is_doubtful) closed.count at.invariant.closes in
    let long : (m : ℕ) → m < length fewer → length (slice_index_or fewer m []) ≡ k = λ m here. c.in-Some.ensures.whole.passes m (omega (arith, here, length-lists_of left.nodes.items)) in
    record {
      whole = c.in-Some.ensures.whole;
      within = omega (arith, closed.count, at.invariant.within);
      passes = fewer_first all more fewer closed.row k first closed.passes long;
      closes = closes_next areas all n k old mid (g.H.Host.desk c.close_last.new.host) at.is_doubtful c.in-Some.doubtful closed.after
          c.requires.within (omega (arith, closed.count, at.invariant.within)) c.requires.areas.places closed.back
          (column_closed all more fewer closed.row k c.in-Some.doubtful closed.after first closed.passes long closed.ends) before;
    }

-- all are closed
pub returns : goal.returns
returns g c =
    let at = c.loop-doubtful in
    let some = take (length c.args.shared.areas.items) c.args.areas.now in
    let all = lists_of c.args.shared.nodes.items in
    let old = g.H.Host.desk c.args.host.now in
    let none = c.in_default.ensures.none in
    subst (λ (new : Desk). ClosesAll some all old new at.is_doubtful) (sym none.1)
    (closes_end some all old (g.H.Host.desk at.host) at.is_doubtful
    (subst (λ (m : ℕ). ClosesFrom m some all old (g.H.Host.desk at.host) at.is_doubtful) none.0 at.invariant.closes))
