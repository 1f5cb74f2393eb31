-- The console of the real host.
use Rattle.std.specs.Prelude.{Option, Some, None, IsSome}
use Rattle.std.specs.Option.{option_map}

-- a value that is there is there when it is seen otherwise
pub still_there : {A B : Type 0} (f : A → B) (o : Option A) → IsSome o → IsSome (option_map f o)
still_there f None there = there
still_there f (Some x) there = there
