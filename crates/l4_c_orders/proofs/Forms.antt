-- The form of the handle.
use Rattle.std.proofs.Common.{refl}
use Rattle.l4_c_values.proofs.Handles.{Form}
use Rattle.l4_outcomes.specs.contracts.searched.Searched as Searched
use Rattle.l4_c_orders.specs.contracts.handles.OrdersHandle as OrdersHandle

abbrev pub search : Form
search = record {
  Held = Searched.the_row;
  name = OrdersHandle.struct.name;
  Denot = OrdersHandle.the_row.Denot;
  hidden = λ d. d.hidden;
  value = λ d. d.value;
  make = λ p x. record { hidden = p; value = x };
  eta = λ d. refl;
  hides = λ p x. refl;
  holds = λ p x. refl;
  codes = OrdersHandle.the_codes;
}
