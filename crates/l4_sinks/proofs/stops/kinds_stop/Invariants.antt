use Rattle.std.proofs.Common.{◌≡◌, ◌+◌, drop}
use Rattle.l4_text.specs.Tokens.{tokens_of}
use Rattle.l4_sinks.specs.Stops.{kinds_stop}
use Rattle.l4_sinks.proofs.stops.kinds_stop.Given as goal

abbrev pub invariant-loop-kind : goal.invariant-loop-kind
invariant-loop-kind l =
    (l.number ≡ 2 + l.kind-index)
    × (kinds_stop l.size l.names 2 l.kinds l.last (tokens_of l.line) ≡ kinds_stop l.size l.names l.number (drop l.kind-index l.kinds) l.last (tokens_of l.rest))
