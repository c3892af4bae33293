use Rattle.l4_c_queries.proofs.Mapping.{lists_mappings}
use Rattle.l4_c_queries.proofs.mapped.list_mappings.Goals as goal

pub returns : goal.returns
returns c = lists_mappings _ _ _ _ _ _ _ c.write_mappings-count.ensures c.counted.ensures
