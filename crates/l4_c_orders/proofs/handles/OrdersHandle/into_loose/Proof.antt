-- `into_loose` tests the pointer, and has the box where there is one.
use Rattle.l4_c_orders.specs.contracts.handles.OrdersHandle.into_loose.Key.{name}
use Rattle.l4_c_orders.proofs.handles.OrdersHandle.into_loose.Statement.{statement}
use Rattle.l4_c_orders.proofs.handles.OrdersHandle.into_loose.Code.{unfolded}
use Rattle.l4_c_orders.proofs.Forms.{search}
use Rattle.l4_c_values.proofs.Handles.IntoLoose.{makes_into_loose}

pub into_loose_spec : {M : Type 1} → statement M
into_loose_spec 𝓤 𝓛 𝓜 𝓡 wired = makes_into_loose search 𝓛 𝓜 𝓡 name (unfolded 𝓤 𝓛.H 𝓜 𝓡 wired)
