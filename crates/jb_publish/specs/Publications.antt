-- What contracts see of the writer's end.
use Rattle.std.specs.Prelude.{List, [], ◌∷◌, ◌++◌, Option, fold}
use Rattle.left_right.specs.Sides.{view}
use Rattle.left_right.specs.declared.Absorb as Copying
use Rattle.jb_publish.specs.declared.meaning.Absorbs as Changing
use Rattle.jb_publish.specs.declared.edition.Edition.{Edition}
use Rattle.jb_publish.specs.declared.known.PairMark.{PairMark}
use Rattle.jb_publish.specs.declared.ends.Shower.{Shower}

-- which pair it is of, the list that was published, the changes that no look sees yet, and the value that looks see
pub record Publication (T K O E : Type 0) : Type 0 where
  pub mark : Option (PairMark O)
  pub list : List E
  pub queued : List K
  pub value : T

-- what the writer publishes
abbrev pub publication_of : {T K O E S : Type 0} {a : Changing.Ghosts T K} {g : Copying.Ghosts (Edition T E) (Unit {0}) S} → Shower T K O E S a g → Publication T K O E
publication_of s = record { mark = (view s.writer.desk.place).mark; list = s.front.seen.log; queued = s.queued.items; value = s.writer.desk.shown.value.value }

module _ {T K O E : Type 0} where
  -- with one change more in the queue
  abbrev pub queued_with : Publication T K O E → K → Publication T K O E
  queued_with p change = record { mark = p.mark; list = p.list; queued = p.queued ++ change ∷ []; value = p.value }

  -- with all that was queued shown, as this list
  abbrev pub shown_with : (T → K → T) → Publication T K O E → List E → Publication T K O E
  shown_with changed p list = record { mark = p.mark; list = list; queued = []; value = fold changed p.value p.queued }
