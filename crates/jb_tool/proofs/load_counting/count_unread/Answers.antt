use Rattle.std.proofs.Common.{◌≤◌, inl, inr, arith, length}
use Rattle.jb_tool.proofs.LoadUnreadLemmas.{unread_none, unread_some}
use Rattle.jb_tool.proofs.load_counting.count_unread.Goals as goal

pub returns-in-Some : goal.returns-in-Some
returns-in-Some c = λ texts.
    let found = c.in-Some.ensures.lookup.0 in
    unread_some c.args.rules.now c.args.user.now c.in_ok-last.last texts c.args.loaded.now c.slots_read.result c.count_seen.result c.as_slice.result.now c.in-Some.behind.now
    (c.in_ok-last.ensures texts) c.slots_read.ensures c.as_slice.ensures found.0 found.2 (c.count_seen.ensures texts)

pub returns-in-None : goal.returns-in-None
returns-in-None c = λ texts.
    let short : length c.as_slice.result.now ≤ c.slots_read.result = elim c.in-None.ensures.lookup.0 [
      | inl past ↦ omega (arith, past)
      | inr none ↦ omega (arith, none)
    ] in
    unread_none c.args.rules.now c.args.user.now c.in_ok-last.last texts c.args.loaded.now c.slots_read.result c.as_slice.result.now
    (c.in_ok-last.ensures texts) c.slots_read.ensures c.as_slice.ensures short
