-- What is kept of the copies of texts, by what is pending; and the record of a pack.
use Rattle.std.proofs.Common.{◌≡◌, ◌+◌, ◌*◌, ◌≤◌, length, Option, None, Result, Ok, Err, OnErr, OnOk, refl, subst}
use Rattle.jb_disk.specs.RedoView.{RedoView}
use Rattle.jb_state.specs.declared.change.Change.{Change}
use Rattle.jb_state.specs.declared.change.Change.TheVariants.{Nothing, Posted, Headed, Edited, Killed, Relinked, Marked, Packed}
use Rattle.jb_state.specs.declared.loaded.Loaded.{Loaded}
use Rattle.jb_pack.specs.Shadow.{Shadow}
use Rattle.jb_redo.specs.Changes.{record_size}
use Rattle.jb_model.specs.declared.reply.Reply.{Reply}
use Rattle.jb_decide.specs.Decided.{HasShortRecord}
use Rattle.jb_decide.specs.Packs.{IsPacked}
use Rattle.jb_decide.specs.Telling.{IsPacking, IsToldBy}
use Rattle.jb_area.specs.Area.{copied_after}

-- where no pack is pending the copies stay
pub copies_stay : (change : Change) (copies : Option Shadow) → (IsPacking change → ⊥) → copied_after change copies ≡ copies
copies_stay Nothing copies none = refl
copies_stay (Posted message neighbour) copies none = refl
copies_stay (Headed at) copies none = refl
copies_stay (Edited place message) copies none = refl
copies_stay (Killed place) copies none = refl
copies_stay (Relinked plan) copies none = refl
copies_stay (Marked place mark) copies none = refl
copies_stay (Packed plan base) copies none = absurd (none tt)

-- where one is they are dropped
pub copies_drop : (change : Change) (copies : Option Shadow) → IsPacking change → copied_after change copies ≡ None
copies_drop Nothing copies packing = absurd packing
copies_drop (Posted message neighbour) copies packing = absurd packing
copies_drop (Headed at) copies packing = absurd packing
copies_drop (Edited place message) copies packing = absurd packing
copies_drop (Killed place) copies packing = absurd packing
copies_drop (Relinked plan) copies packing = absurd packing
copies_drop (Marked place mark) copies packing = absurd packing
copies_drop (Packed plan base) copies packing = refl

-- and its record is short
pub short_record : (change : Change) (redo : RedoView) (to : Loaded) → IsPacking change → HasShortRecord change redo to
    → 16 + record_size redo ≤ 4096 + 3 * (to.headers_len + 8 * length to.slots)
short_record Nothing redo to packing short = absurd packing
short_record (Posted message neighbour) redo to packing short = absurd packing
short_record (Headed at) redo to packing short = absurd packing
short_record (Edited place message) redo to packing short = absurd packing
short_record (Killed place) redo to packing short = absurd packing
short_record (Relinked plan) redo to packing short = absurd packing
short_record (Marked place mark) redo to packing short = absurd packing
short_record (Packed plan base) redo to packing short = short

-- a reply that says that the area was packed tells of a pack
pub packing_told : (reply : Reply) (change : Change) → IsToldBy reply change → IsPacked reply → IsPacking change
packing_told reply change told packed = subst (λ (r : Reply). IsToldBy r change) packed.is told

-- what follows whatever is answered
pub on_either : {T E : Type 0} (result : Result T E) (P Q R : Type 0) → OnOk result P → OnErr result Q → (P → R) → (Q → R) → R
on_either (Ok value) P Q R done failed first second = first done
on_either (Err error) P Q R done failed first second = second failed
