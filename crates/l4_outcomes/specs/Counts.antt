-- How a search ended, in numbers (this profile's own).
use Rattle.std.specs.Prelude.{ℕ, min, length, Result, Ok, Err}
use Rattle.l4_naturals.specs.Numerals.{most_u64}
use Rattle.l4_merges.specs.declared.exploring.Explored.{Explored}
use Rattle.l4_merges.specs.declared.exploring.GaveUp.{GaveUp}
use Rattle.l4_merges.specs.declared.exploring.GaveUp.TheVariants.{Bound, Memory, Full}
use Rattle.l4_outcomes.specs.declared.counts.SearchCounts.{SearchCounts}

-- every order was followed; or the search visited as many states as it may, memory ran out, or the history of an order is full
abbrev pub end_number : Result (Unit {0}) GaveUp → ℕ
end_number (Ok u) = 1
end_number (Err Bound) = 2
end_number (Err Memory) = 3
end_number (Err Full) = 4

-- the number of orders, at most 2^64 - 1, or 0 if not every order was followed
abbrev pub counted_orders : Result (Unit {0}) GaveUp → ℕ → ℕ
counted_orders (Ok u) orders = min orders most_u64
counted_orders (Err why) orders = 0

abbrev pub counts_of : Explored → SearchCounts
counts_of e = record { ended = end_number e.ended; outcomes = length e.found.items; orders = counted_orders e.ended e.orders; states = e.states }
