-- What is said where a shared area has no reply.
use Rattle.std.specs.Prelude.{ℕ, List, codes}
use Rattle.jb_state.specs.declared.look.SharedFault.{SharedFault}
use Rattle.jb_state.specs.declared.look.SharedFault.TheVariants.{StoreFault, RunSpent, Barred}

-- the line of a fault, without its end
abbrev pub fault_text : SharedFault → List ℕ
fault_text StoreFault = codes "Store fault: the change is in doubt."
fault_text RunSpent = codes "History full."
fault_text Barred = codes "Index not open, try again."
