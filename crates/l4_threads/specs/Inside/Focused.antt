-- Which threads may take part in a transfer or expire, as the table remembers it. (this profile's own)
use Rattle.std.specs.Prelude.{◌≡◌, ℕ, ◌==◌, ◌||◌, Bool, true, false, if◌then◌else◌, Option}
use Rattle.std.specs.Option.{option_map, option_map_or}
use Rattle.l4_threads.specs.declared.focus.Focus.{Focus}
use Rattle.l4_threads.specs.declared.focus.Focus.TheVariants.{Nobody, One, Anybody}
use Rattle.l4_threads.specs.declared.State.{State}
use Rattle.l4_threads.specs.Enabled.{offers_to, expires}
use Rattle.l4_threads.specs.Inside.Entries.{Entries, found}

-- the thread may take part in a transfer, or expire
abbrev pub may_act : Focus → ℕ → Bool
may_act Nobody n = false
may_act (One m) n = n == m
may_act Anybody n = true

-- once the thread n waits
abbrev pub with_waiting : Focus → ℕ → Focus
with_waiting Nobody n = One n
with_waiting (One m) n = if m == n then One m else Anybody
with_waiting Anybody n = Anybody

-- once the thread n runs
abbrev pub with_running : Focus → ℕ → Focus
with_running Nobody n = Nobody
with_running (One m) n = if m == n then Nobody else One m
with_running Anybody n = Anybody

-- what the thread of this number does
abbrev pub state_in : Entries → ℕ → Option State
state_in es n = option_map (λ thread. thread.state) (found es n)

-- in each offer a thread takes part that may act, and each thread that waits with a timeout of zero may act
pub record IsFocused (es : Entries) (focus : Focus) : Type 0 where
  pub offers : (s r : ℕ) → offers_to (state_in es s) (state_in es r) s r ≡ true → (may_act focus s || may_act focus r) ≡ true
  pub zero : (n : ℕ) → option_map_or expires (state_in es n) false ≡ true → may_act focus n ≡ true
