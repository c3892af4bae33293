-- A script whose lines are answered one after another.
use Rattle.std.specs.Prelude.{ℕ, ◌≡◌}
use Rattle.l4_fpage.specs.declared.sizes.PageSize.{PageSize}
use Rattle.l4_ipc.specs.Machine.{Machine, IsBoot}
use Rattle.l4_shell.specs.Sessions.{State, state, first_state}
use Rattle.l4_shell.specs.declared.by_lines.ScriptRun.{ScriptRun}

-- the state after the lines that were answered
abbrev pub state_of : ScriptRun → State
state_of run = state run.script.session.kernel run.script.session.servers run.script.names

-- the same state, in which the number of entries was not printed yet
abbrev pub unread : State → State
unread s = record s { session = record s.session { seen = 0 } }

-- no line was answered, and the machine is as it boots
abbrev pub IsFirst : ℕ → PageSize → ScriptRun → Type 0
IsFirst frames size run = (boot : Machine) × IsBoot frames boot × (boot.size ≡ size) × (state_of run ≡ first_state frames boot)
