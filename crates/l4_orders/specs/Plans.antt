-- The lines of a plan (this profile's own).
use Rattle.std.specs.Prelude.{ℕ, ◌+◌, Bool, false, List, [], ◌∷◌, Option, Some, option_and_then, length, replicate, slice_get, slice_index, slice_set}
use Rattle.std.specs.Option.{option_map_or}
use Rattle.l4_orders.specs.declared.plans.Block.{Block}
use Rattle.l4_orders.specs.declared.plans.Plan.{Plan}
use Rattle.l4_orders.specs.declared.plans.PlanLine.{PlanLine}

-- the thread of the block at this place, and a line of the block
abbrev pub line_in : List Block → ℕ → ℕ → Option (ℕ × List ℕ)
line_in blocks place line =
    option_and_then (λ block. option_and_then (λ one. Some (block.thread, one.bytes.items)) (slice_get block.lines.items line)) (slice_get blocks place)

-- the thread at this place and its next line, if the threads have executed this many lines each
abbrev pub next_of : List Block → List ℕ → ℕ → Option (ℕ × List ℕ)
next_of blocks gone place = option_and_then (λ count. line_in blocks place count) (slice_get gone place)

-- the next line of the thread at this place
abbrev pub line_at : List Block → List ℕ → ℕ → Option PlanLine
line_at blocks gone place =
    option_and_then (λ count. option_and_then (λ block. slice_get block.lines.items count) (slice_get blocks place)) (slice_get gone place)

-- the thread at this place has executed one more line
abbrev pub gone_with : List ℕ → ℕ → List ℕ
gone_with gone place = slice_set gone place (slice_index gone place + 1)

-- each of these turns in order executes a line
abbrev pub gone_after : List ℕ → List ℕ → List ℕ
gone_after gone [] = gone
gone_after gone (place ∷ order) = gone_after (gone_with gone place) order

-- no thread has executed any of its lines
abbrev pub none_gone : Plan → List ℕ
none_gone plan = replicate (length plan.blocks.items) 0

-- the lines at this place end waits
abbrev pub cancels_at : List Block → ℕ → Bool
cancels_at blocks place = option_map_or (λ block. block.cancels) (slice_get blocks place) false
