use Rattle.std.proofs.Common.{sym, ◌∙◌, arith}
use Rattle.l4_links.proofs.Leaves.{empty_run, next_descends, some_node}
use Rattle.l4_links.proofs.Leaves.{next_there}
use Rattle.l4_links.proofs.walks.is_leaf.Goals as goal

pub returns-in-Some-deeper-clause-no : goal.returns-in-Some-deeper-clause-no
returns-in-Some-deeper-clause-no c = grind (arith, next_descends)

pub returns-clause-yes : goal.returns-clause-yes
returns-clause-yes c = grind (arith, some_node, empty_run)

pub deeper-requires : goal.deeper-requires
deeper-requires c = λ key is. next_there c.args.nodes.now.slots c.requires.forest.0 c.args.key key c.in-Some.node c.requires.forest.1 (sym c.node_of.ensures ∙ c.in-Some.is) is
