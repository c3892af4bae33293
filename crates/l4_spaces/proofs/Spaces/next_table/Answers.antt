use Rattle.std.proofs.Common.{arith}
use Rattle.l4_spaces.proofs.Rows.{row_was}
use Rattle.l4_spaces.proofs.Showing.{found, table_in, at_here}
use Rattle.l4_spaces.proofs.Spaces.next_table.Goals as goal

pub returns-in_default-next_table : goal.returns-in_default-next_table
returns-in_default-next_table c other le lt here = grind (arith, found, c.in-Some.ensures.at.tables c.index.result.now, c.in_default-next_table.ensures other le lt)

pub returns : goal.returns
returns c =
    table_in c.self.inside.spaces.items c.args.self.now c.args.space c.args.page c.args.end c.index.result.now.1.items c.in-Some-next_table.high c.index-2.result.now c.self.view_is
    (at_here c.self.inside.spaces.items c.args.space c.in-Some.at c.index.result.now c.in-Some.ensures.at c.index.ensures) (grind arith) c.in-Some-next_table.ensures
    (row_was c.index.result.now.1.items c.in-Some-next_table.high c.index-2.result.now c.in-Some-next_table.ensures.within c.index-2.ensures)
