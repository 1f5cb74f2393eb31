-- Why a call of an open area is not done.
use Rattle.std.specs.Prelude.{Bool, true, false}
use Rattle.jb_decide.specs.declared.error.AreaError.{AreaError}
use Rattle.jb_decide.specs.declared.error.AreaError.TheVariants.{StoreFault, OutOfMemory}
use Rattle.jb_pack.specs.declared.error.PackError.{PackError}
use Rattle.jb_pack.specs.declared.error.PackError.TheVariants as pack_error

-- which refusals are faults of the store
abbrev pub is_area_fault : AreaError → Bool
is_area_fault StoreFault = true
is_area_fault OutOfMemory = false

-- why an area is not packed, as why the call is not done
abbrev pub area_error : PackError → AreaError
area_error pack_error.StoreFault = StoreFault
area_error pack_error.OutOfMemory = OutOfMemory
