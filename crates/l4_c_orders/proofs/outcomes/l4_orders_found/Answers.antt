use Rattle.std.proofs.Common.{◌≡◌, Option, sym, subst}
use Rattle.l4_c_orders.specs.Found.{found_result, TellsFound}
use Rattle.l4_outcomes.specs.declared.searched.Searched.{Searched}
use Rattle.l4_c_orders.proofs.outcomes.l4_orders_found.Goals as goal

pub returns-clause-told : goal.returns-clause-told
returns-clause-told c =
    subst (λ (old : Option Searched). TellsFound old c.found_told-told.result) (sym c.in-Some.ensures.taken)
    (subst (λ (s : Searched). c.found_told-told.result ≡ found_result s.explored) c.deref.ensures c.found_told-told.ensures)
