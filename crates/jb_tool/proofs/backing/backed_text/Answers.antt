use Rattle.std.proofs.Common.{◌∙◌, List, ap, map}
use Rattle.jb_state.specs.Live.{live_count}
use Rattle.jb_state.specs.State.{slot_state}
use Rattle.jb_state.specs.declared.loaded.LoadedSlot.{LoadedSlot}
use Rattle.jb_tool.proofs.BackingLemmas.{backed_line_is}
use Rattle.jb_tool.proofs.backing.backed_text.Goals as goal

pub returns : goal.returns
returns c = λ texts. backed_line_is _ _ _ _ c.in_ok-append_count.ensures c.new-text.ensures
    (c.count_live.ensures texts ∙ ap (λ (l : List LoadedSlot). live_count (map (slot_state texts) l)) c.as_slice.ensures)
