use Rattle.std.proofs.Common.{◌≡◌, map, take}
use Rattle.l4_c_values.specs.Linked.{link_given}
use Rattle.l4_c_queries.proofs.tracing.links_of.Given as goal

abbrev pub invariant-loop-link : goal.invariant-loop-link
invariant-loop-link l = l.links.items ≡ map link_given (take l.link-index l.given)
