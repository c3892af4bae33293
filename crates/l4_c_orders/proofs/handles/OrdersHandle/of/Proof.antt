-- `of` keeps the pointer.
use Rattle.l4_c_orders.specs.contracts.handles.OrdersHandle.of.Key.{name}
use Rattle.l4_c_orders.proofs.handles.OrdersHandle.of.Statement.{statement}
use Rattle.l4_c_orders.proofs.handles.OrdersHandle.of.Code.{unfolded}
use Rattle.l4_c_orders.proofs.Forms.{search}
use Rattle.l4_c_values.proofs.Handles.Of.{makes_of}

pub of_spec : {M : Type 1} → statement M
of_spec 𝓤 𝓛 𝓜 𝓡 wired = makes_of search 𝓛 𝓜 𝓡 name (unfolded 𝓤 𝓛.H 𝓜 𝓡 wired)
