use Rattle.std.proofs.Common.{subst, List, map}
use Rattle.jb_state.specs.Live.{live_from}
use Rattle.jb_state.specs.State.{slot_state}
use Rattle.jb_state.specs.declared.loaded.LoadedSlot.{LoadedSlot}
use Rattle.jb_tool.specs.Check.{HaveReadableIds}
use Rattle.jb_tool.proofs.checking.checked.Goals as goal

pub returns : goal.returns
returns c = λ texts.
    let loaded = c.args.loaded.now in
    record {
      msgids = c.in_ok-msgids.msgids;
      counted = subst (λ (l : List LoadedSlot). HaveReadableIds (live_from loaded.base (map (slot_state texts) l)) c.in_ok-msgids.msgids) c.as_slice.ensures (c.in_ok-msgids.ensures texts loaded.base);
      linked = c.in_ok-linked.linked;
      linked_is = c.in_ok-linked.ensures texts;
      same = c.in_ok-text.ensures texts;
    }
