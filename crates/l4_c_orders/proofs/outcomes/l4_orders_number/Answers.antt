use Rattle.std.proofs.Common.{Option, sym, subst}
use Rattle.l4_c_orders.specs.Found.{WritesNumber, TellsNumber}
use Rattle.l4_outcomes.specs.declared.searched.Searched.{Searched}
use Rattle.l4_c_orders.proofs.outcomes.l4_orders_number.Goals as goal

pub returns-clause-told : goal.returns-clause-told
returns-clause-told c =
    let r = c.write_number-told.result in let out = c.write_number-told.new.out in
    subst (λ (old : Option Searched). TellsNumber old c.args.out.now r out) (sym c.in-Some.ensures.taken)
    (subst (λ (s : Searched). WritesNumber s c.args.out.now r out) c.deref.ensures c.write_number-told.ensures)
