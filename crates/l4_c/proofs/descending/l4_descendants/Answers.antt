use Rattle.std.proofs.Common.{Option, sym, subst}
use Rattle.l4_ipc.specs.Machine.{Machine}
use Rattle.l4_c_queries.specs.Descended.{ListsDescendants, TellsDescendants}
use Rattle.l4_c.proofs.descending.l4_descendants.Goals as goal

pub returns-clause-told : goal.returns-clause-told
returns-clause-told c =
    subst (λ (old : Option Machine). TellsDescendants old c.args.space c.args.page c.args.out.now c.list_descendants-told.result c.list_descendants-told.new.out) (sym c.in-Some.ensures.taken)
    (subst (λ (m : Machine). ListsDescendants m c.args.space c.args.page c.args.out.now c.list_descendants-told.result c.list_descendants-told.new.out) c.deref.ensures c.list_descendants-told.ensures)
