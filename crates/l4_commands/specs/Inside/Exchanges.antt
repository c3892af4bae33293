-- What stands in the place of a line's call.
use Rattle.std.specs.Prelude.{Bool, true, false}
use Rattle.l4_ipc.specs.declared.calls.Call.{Call}
use Rattle.l4_ipc.specs.declared.calls.Call.TheVariants.{Ipc, Fault, Unmap, Control}

-- whether the call is an Ipc
abbrev pub is_ipc : Call → Bool
is_ipc (Ipc ipc) = true
is_ipc (Fault fault) = false
is_ipc (Unmap unmap) = false
is_ipc (Control control) = false
