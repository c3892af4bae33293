use Rattle.std.proofs.Common.{◌≡◌, ◌++◌, flat_map, take}
use Rattle.l4_graphs.specs.Drawing.{edge_text}
use Rattle.l4_graphs.proofs.graphs.put_edges.Given as goal

abbrev pub invariant-loop-edge : goal.invariant-loop-edge
invariant-loop-edge l = l.out.items ≡ l.initial.out.items ++ flat_map (edge_text l.plan l.count l.place) (take l.edge-index l.edges)
