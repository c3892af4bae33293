-- Why an entry does not continue a legal history (this profile's own).
use Rattle.std.specs.Prelude.{ℕ, ◌≡◌, ◌≢◌, ◌⊎◌, ⊤, List, [], ◌∷◌, Option, Some}
use Rattle.l4_ipc.specs.Machine.{Machine}
use Rattle.l4_ipc.specs.Steps.{IsNext, IsIdle}
use Rattle.l4_ipc.specs.declared.steps.Step.{Step}
use Rattle.l4_ipc.specs.declared.steps.Step.TheVariants.{Start, Transfer, Expire, Cancel}
use Rattle.l4_record.specs.declared.entries.Entry.{Entry}
use Rattle.l4_record.specs.declared.faults.ReplayFault.TheVariants.{NoMemory, OtherAnswer as Otherwise}
use Rattle.l4_record.specs.Replays.{FailsAt}
use Rattle.l4_saved.specs.declared.following.HistoryFault.{HistoryFault}
use Rattle.l4_saved.specs.declared.following.HistoryFault.TheVariants.{Memory, Write, NotNext, OtherAnswer}

-- a step that the environment takes: it is never the next one
abbrev pub IsNeverNext : Step → Type 0
IsNeverNext (Start n call) = ⊤
IsNeverNext (Transfer s r) = ⊥
IsNeverNext (Expire n) = ⊥
IsNeverNext (Cancel n cause) = ⊤

-- no step is enabled, or the next step is another one
abbrev pub IsNotNext : Machine → Step → Type 0
IsNotNext m step = IsIdle m ⊎ ((next : Step) × IsNext m next × (next ≢ step))

-- the step of this seat does not continue a legal history, whose last entry has the seat `last`
abbrev pub IsNotSeated : Machine → Option ℕ → ℕ → Step → Type 0
IsNotSeated m last seat (Start n call) = seat ≢ n
IsNotSeated m last seat (Transfer s r) = (last ≢ Some seat) ⊎ IsNotNext m (Transfer s r)
IsNotSeated m last seat (Expire n) = (last ≢ Some seat) ⊎ IsNotNext m (Expire n)
IsNotSeated m last seat (Cancel n cause) = seat ≢ 0

-- the seat of the last entry
abbrev pub seat_after : Option ℕ → List Entry → Option ℕ
seat_after last [] = last
seat_after last (entry ∷ entries) = seat_after (Some entry.seat) entries

-- why the entry with this number does not continue a legal history
abbrev pub Fails : ℕ → Machine → Option ℕ → Entry → HistoryFault → Type 0
Fails number m last entry (NotNext n) = (n ≡ number) × IsNotSeated m last entry.seat entry.step
Fails number m last entry (OtherAnswer n) = (after : Machine) × FailsAt number m entry after (Otherwise n)
Fails number m last entry Memory = (after : Machine) × FailsAt number m entry after NoMemory
Fails number m last entry Write = ⊥
