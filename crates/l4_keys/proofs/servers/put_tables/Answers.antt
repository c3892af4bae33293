use Rattle.l4_keys.specs.Keys.{has_table, AreOfTable}
use Rattle.l4_keys.proofs.Listing.{begun}
use Rattle.l4_keys.proofs.Writing.{on_ok, table_more, tables_end}
use Rattle.l4_keys.proofs.servers.put_tables.Goals as goal

pub loop-thread-init : goal.loop-thread-init
loop-thread-init c = begun (has_table c.args.servers.now) (AreOfTable c.args.servers.now) c.args.out.now.items

pub loop-thread-preserved : goal.loop-thread-preserved
loop-thread-preserved c =
    table_more c.args.servers.now c.args.out.now.items c.loop-thread.from c.in-Some.thread _ c.in-Some.table.now c.loop-thread.out.items c.put.new.out.items _
    c.loop-thread.invariant c.in-Some.ensures c.in_ok-put.ensures c.in_ok-put_table.ensures c.in-Some-checked_add.ensures.1

pub returns : goal.returns
returns c =
    on_ok c.put-2.result (tables_end c.args.servers.now c.args.out.now.items c.loop-thread.out.items c.put-2.new.out.items c.loop-thread.from c.loop-thread.invariant c.in_default.ensures) c.put-2.ensures
