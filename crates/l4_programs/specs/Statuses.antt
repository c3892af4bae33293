-- The exit statuses of a program that stopped (this profile's own).
use Rattle.std.specs.Prelude.{ℕ}
use Rattle.l4_text.specs.declared.faults.RunFault.{RunFault}
use Rattle.l4_text.specs.declared.faults.RunFault.TheVariants.{Read, Write, Memory}

-- after a run that stopped: 3 where a stream failed, 4 for want of memory
abbrev pub run_status : RunFault → ℕ
run_status Read = 3
run_status Write = 3
run_status Memory = 4
