use Rattle.std.proofs.Common.{sym, subst, ◌∙◌}
use Rattle.l4_c_queries.specs.Descended.{ListsDescendants}
use Rattle.l4_c_queries.specs.declared.descending.CountResult.{CountResult}
use Rattle.l4_c_queries.proofs.Below.{told_below}
use Rattle.l4_c_queries.proofs.descending.list_descendants.Goals as goal

pub returns-in-Ok : goal.returns-in-Ok
returns-in-Ok c =
    subst (λ (r : CountResult). ListsDescendants c.args.kernel.now c.args.space c.args.page c.args.out.now r c.write_places.new.out) (sym c.counted.ensures)
    (told_below c.args.kernel.now c.args.space c.args.page c.in-Ok.places.items c.as_slice.result.now c.len.result c.args.out.now c.write_places.new.out
    c.in-Ok.ensures c.as_slice.ensures.value (c.len.ensures ∙ c.in-Ok.places.ok.0) c.write_places.ensures)
