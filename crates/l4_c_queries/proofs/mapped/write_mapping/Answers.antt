use Rattle.std.proofs.Common.{[], ◌∷◌, List, sym, ap, ◌∙◌}
use Rattle.l4_c_queries.specs.Placed.{placed_behind}
use Rattle.l4_c_queries.specs.declared.mapped.MappedResult.{MappedResult}
use Rattle.l4_c_queries.proofs.Placing.{placed_one}
use Rattle.l4_c_queries.proofs.Mapping.{one_there}
use Rattle.l4_c_queries.proofs.mapped.write_mapping.Goals as goal

pub returns-then-at-out : goal.returns-then-at-out
returns-then-at-out c =
    placed_one c.args.out.now c.mapped_told.result c.args.at c.if-at-out.true
    ∙ ap (λ (rs : List MappedResult). placed_behind c.args.at rs c.args.out.now)
    (ap (λ (r : MappedResult). r ∷ []) c.mapped_told.ensures ∙ sym (one_there c.args.kernel.now.mappings c.args.space c.args.page c.mapping.result c.in-Some.mapping c.in-Some.is (sym c.mapping.ensures)))
