-- States of a script that its history does not tell apart (this profile's own).
use Rattle.std.specs.Prelude.{◌≡◌, ℕ, List, Option, Result}
use Rattle.l4_threads.specs.Threads.{IsConsistent}
use Rattle.l4_answers.specs.Reports.{Report}
use Rattle.l4_commands.specs.Requests.{Unread}
use Rattle.l4_commands.specs.declared.requests.Request.{Request}
use Rattle.l4_shell.specs.Lacking.{LacksNothing}
use Rattle.l4_shell.specs.Sessions.{Session, State, AnswersLine}

-- The sessions have the same machine, servers and seats. Their histories, and the counts that were reported last, may differ.
pub record AreAlike (a b : Session) : Type 0 where
  pub machine : a.machine ≡ b.machine
  pub servers : a.servers ≡ b.servers
  pub numbers : a.numbers ≡ b.numbers

-- A line is answered in two states that are alike and have the same names. No answer says that memory ran out or that the history is full.
-- Then the states after the line are alike and have the same names.
abbrev pub LeadsToOne : Type 0
LeadsToOne =
    (s t : State) (line : ℕ) (asked : Result (Option Request) Unread) (told other : List Report) (new also : State)
    → AreAlike s.session t.session → s.names ≡ t.names → IsConsistent s.session.machine.threads
    → AnswersLine s line asked told new → AnswersLine t line asked other also → LacksNothing told → LacksNothing other
    → AreAlike new.session also.session × (new.names ≡ also.names)
