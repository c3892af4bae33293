-- `empty` makes a null pointer.
use Rattle.l4_c_orders.specs.contracts.handles.OrdersHandle.empty.Key.{name}
use Rattle.l4_c_orders.proofs.handles.OrdersHandle.empty.Statement.{statement}
use Rattle.l4_c_orders.proofs.handles.OrdersHandle.empty.Code.{unfolded}
use Rattle.l4_c_orders.proofs.Forms.{search}
use Rattle.l4_c_values.proofs.Handles.Empty.{makes_empty}

pub empty_spec : {M : Type 1} → statement M
empty_spec 𝓤 𝓛 𝓜 𝓡 wired = makes_empty search 𝓛 𝓜 𝓡 name (unfolded 𝓤 𝓛.H 𝓜 𝓡 wired)
