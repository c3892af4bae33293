-- The lines of a plan's file, as they are read one after another.
use Rattle.std.specs.Prelude.{◌≡◌, ℕ, ◌+◌, List, [], length, filter, Option, Result, Ok, Err}
use Rattle.l4_fpage.specs.declared.sizes.PageSize.{PageSize}
use Rattle.l4_text.specs.declared.faults.RunFault.TheVariants.{Read, Write, Memory}
use Rattle.l4_orders.specs.declared.parts.LineFault.{LineFault}
use Rattle.l4_orders.specs.declared.parts.PlanFault.{PlanFault}
use Rattle.l4_orders.specs.declared.parts.PlanFault.TheVariants.{Stopped, Malformed, NoUnordered}
use Rattle.l4_orders.specs.Files.{ReadsFirst, ReadsAll, FailsNext}
use Rattle.l4_orders.specs.Reading.{Parts}

-- the first lines are parts of a plan, and the next one is not
abbrev pub FailsFirst : PageSize → Option (List ℕ) → Option (List ℕ) → ℕ → LineFault → Type 0
FailsFirst size old new number fault = (a : ReadsFirst size old new) × (number ≡ 1 + length a.lines) × FailsNext size new a.parts number a.later fault

abbrev pub ReadsLines : PageSize → Option (List ℕ) → Option (List ℕ) → Parts → Result (Unit {0}) PlanFault → Type 0
ReadsLines size old new last (Ok u) = (a : ReadsAll size old new) × (last ≡ a.parts)
ReadsLines size old new last (Err (Malformed number fault)) = FailsFirst size old new number fault
ReadsLines size old new last (Err NoUnordered) = ⊥
ReadsLines size old new last (Err (Stopped Read)) = (a : ReadsFirst size old new) × (filter (λ line. line.whole) a.later ≡ [])
ReadsLines size old new last (Err (Stopped Write)) = ⊥
ReadsLines size old new last (Err (Stopped Memory)) = ReadsFirst size old new
