-- How an index of marks is kept.
use Rattle.std.specs.Prelude.{◌≤◌, length, vec_capacity}
use Rattle.jb_limits.specs.declared.limits.TheConstants.{MOST_MARKS}
use Rattle.jb_marks.specs.declared.index.MarkIndex.TheInside.{Inside}
use Rattle.jb_marks.specs.Store.{MarkOrder}

-- the places and the room that are kept so
abbrev pub order_of : Inside → MarkOrder
order_of kept = record { order = kept.order.items; room = vec_capacity kept.order }

-- no area has more marks
abbrev pub AreFew : Inside → Type 0
AreFew kept = length kept.order.items ≤ MOST_MARKS
