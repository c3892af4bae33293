use Rattle.l4_servers.proofs.Kept.{no_table_from, next_table_from}
use Rattle.l4_servers.proofs.servers.Servers.next_table.Goals as goal

pub returns-in_default : goal.returns-in_default
returns-in_default c =
    no_table_from c.args.self.now _ c.self.inside.tables _ c.args.from c.range-tables.result c.self.view_is (c.range-tables.ensures.in_range tt) c.in_default.ensures.steps.0

pub returns : goal.returns
returns c =
    next_table_from c.args.self.now _ c.self.inside.tables _ c.args.from c.in-Some.thread.now c.in-Some.table.now c.range-tables.result _ c.self.view_is (c.range-tables.ensures.in_range tt) c.in-Some.ensures.steps
