use Rattle.std.proofs.Common.{◌∙◌}
use Rattle.l4_record.proofs.Choice.{none_is, some_is}
use Rattle.l4_c_queries.proofs.Found.{traced_chain, traced_none}
use Rattle.l4_c_queries.proofs.tracing.trace.Goals as goal

pub returns-in-Ok-Some : goal.returns-in-Ok-Some
returns-in-Ok-Some c =
    let found = c.in-Ok-Some.ensures in
    traced_chain c.args.lock.now c.args.place c.in-Ok-Some.links.items c.as_slice.result.now c.len.result c.chain_told.result c.args.out.now c.write_links.new.out
    (found.0, found.1, some_is _ _ _ _ c.in-Ok-Some.field-0-is found.2) c.as_slice.ensures.value (c.len.ensures ∙ c.in-Ok-Some.links.ok.0) c.chain_told.ensures c.write_links.ensures

pub returns-in-Ok-None : goal.returns-in-Ok-None
returns-in-Ok-None c =
    let found = c.in-Ok-None.ensures in
    traced_none c.args.lock.now c.args.place c.no_chain.result c.args.out.now (found.0, found.1, none_is _ _ _ c.in-Ok-None.field-0-is found.2) c.no_chain.ensures
