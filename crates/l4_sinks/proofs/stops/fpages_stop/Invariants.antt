use Rattle.std.proofs.Common.{◌≡◌, ◌+◌, ◌-◌, ◌≤◌}
use Rattle.l4_text.specs.Tokens.{tokens_of}
use Rattle.l4_sinks.specs.Stops.{fpages_stop}
use Rattle.l4_sinks.proofs.stops.fpages_stop.Given as goal

abbrev pub invariant-loop-count : goal.invariant-loop-count
invariant-loop-count l =
    (l.left ≤ 64 - l.count)
    × (fpages_stop l.size l.names l.symbolic l.counted l.first 64 (tokens_of l.line) ≡ fpages_stop l.size l.names l.is_any l.left (l.first + l.count) (64 - l.count) (tokens_of l.rest))
