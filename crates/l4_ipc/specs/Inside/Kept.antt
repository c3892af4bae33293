-- What a contract sees of the kernel, and the kernel's invariant (this profile's own).
use Rattle.l4_ipc.specs.declared.kernel.Kernel.TheInside.{Inside}
use Rattle.l4_ipc.specs.Machine.{Machine, machine}
use Rattle.l4_ipc.specs.SpacePages.{FitIn}
use Rattle.l4_ipc.specs.Inside.Sound.{IsSound}

abbrev pub seen : Inside → Machine
seen a = machine a.size a.threads a.forest

pub record IsKept (a : Inside) : Type 0 where
  pub sound : IsSound (seen a)
  pub fits : FitIn a.size a.forest
