use Rattle.std.proofs.Common.{◌≡◌, ◌+◌, drop}
use Rattle.l4_text.specs.Tokens.{tokens_of}
use Rattle.l4_step_lines.specs.Stops.{kinds_stop}
use Rattle.l4_step_lines.proofs.stops.kinds_stop.Given as goal

abbrev pub invariant-loop-kind : goal.invariant-loop-kind
invariant-loop-kind l =
    (l.number ≡ l.first + l.kind-index)
    × (kinds_stop l.first l.kinds l.words (tokens_of l.line) ≡ kinds_stop l.number (drop l.kind-index l.kinds) l.words (tokens_of l.rest))
