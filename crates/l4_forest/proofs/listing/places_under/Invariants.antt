use Rattle.std.proofs.Common.{◌≡◌, map, take}
use Rattle.l4_forest.specs.Inside.Listed.{place_under}
use Rattle.l4_forest.proofs.listing.places_under.Given as goal

abbrev pub invariant-loop-key : goal.invariant-loop-key
invariant-loop-key l = l.places.items ≡ map (place_under l.links.entries) (take l.key-index l.keys)
