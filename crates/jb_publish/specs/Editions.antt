-- A copy of the value, and what it takes in.
use Rattle.std.specs.Prelude.{Bool, Option, Some, None, if◌then◌else◌}
use Rattle.jb_publish.specs.declared.front.Front.{Front}
use Rattle.jb_publish.specs.declared.edition.Edition.{Edition}

module _ {T E : Type 0} where
  -- a value with the front of the list that it stands for
  abbrev pub edition : T → Front E → Bool → Edition T E
  edition value front begun = record { value = value; front = front; begun = begun }

  -- what `left_right` knows that the two copies have in common: the value, until the pair has its mark
  abbrev pub in_common : Edition T E → Option T
  in_common x = if x.begun then None else Some x.value
