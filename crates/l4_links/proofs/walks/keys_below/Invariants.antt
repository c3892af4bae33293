use Rattle.std.proofs.Common.{◌≡◌, length}
use Rattle.l4_links.proofs.Cutting.{HasPassed}
use Rattle.l4_links.proofs.walks.keys_below.Given as goal

abbrev pub invariant-loop : goal.invariant-loop
invariant-loop l = HasPassed l.nodes.slots l.top l.depth l.at l.keys.items × (length l.keys.items ≡ l.counter)
