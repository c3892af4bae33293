use Rattle.std.proofs.Common.{◌-◌, length, codes, decimal}
use Rattle.l4_graphs.specs.Drawing.{nodes_text}
use Rattle.l4_graphs.proofs.Placing.{started}
use Rattle.l4_graphs.proofs.graphs.put_states.Goals as goal

pub returns : goal.returns
returns c =
    started c.put_nodes.result c.args.out.now.items (codes "start [shape=point];\nstart -> ") (decimal (length c.args.seen.now - c.args.start)) (codes ";\n") (nodes_text c.args.plan.now c.args.seen.now) c.extend_from_slice.new.self.items
    c.put_state.new.out.items c.extend_from_slice-2.new.self.items c.put_nodes.new.out.items c.in_ok-extend_from_slice.ensures.items c.in_ok-put_state.ensures c.in_ok-extend_from_slice-2.ensures.items c.put_nodes.ensures
