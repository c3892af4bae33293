use Rattle.std.proofs.Common.{Option, sym, subst}
use Rattle.l4_c_orders.specs.Found.{WritesBroken, TellsBroken}
use Rattle.l4_outcomes.specs.declared.searched.Searched.{Searched}
use Rattle.l4_c_orders.proofs.outcomes.l4_orders_broken.Goals as goal

pub returns-clause-told : goal.returns-clause-told
returns-clause-told c =
    let r = c.write_broken-told.result in let out = c.write_broken-told.new.out in
    subst (λ (old : Option Searched). TellsBroken old c.args.outcome c.args.out.now r out) (sym c.in-Some.ensures.taken)
    (subst (λ (s : Searched). WritesBroken s c.args.outcome c.args.out.now r out) c.deref.ensures c.write_broken-told.ensures)
