use Rattle.std.proofs.Common.{List, ◌∙◌, ap}
use Rattle.std.specs.Prelude.{map, []}
use Rattle.jb_state.specs.Live.{live_count}
use Rattle.jb_state.specs.State.{slot_state}
use Rattle.jb_state.specs.declared.loaded.LoadedSlot.{LoadedSlot}
use Rattle.jb_held.proofs.held.HeldArea.of.Goals as goal

pub invariant_of-result : goal.invariant_of-result
invariant_of-result c = record {
  live = c.count_live-live.ensures ∙ ap (λ (l : List LoadedSlot). live_count (map (slot_state []) l)) c.as_slice.ensures;
  marks = c.in_ok-mark_index.ensures.index;
  mark_room = c.in_ok-mark_index.ensures.room;
  replies = c.in_ok-replies.ensures.index;
  reply_room = c.in_ok-replies.ensures.room;
}
