-- The page size that a script uses (this profile's own).
use Rattle.std.specs.Prelude.{◌≡◌, ℕ, Bool, List}
use Rattle.l4_fpage.specs.declared.sizes.PageSize.{PageSize}
use Rattle.l4_ipc.specs.Machine.{Machine}
use Rattle.l4_servers.specs.Servers.{Servers, regions_of}
use Rattle.l4_answers.specs.Reports.{Report}
use Rattle.l4_text.specs.Grammar.{TextLine}
use Rattle.l4_shell.specs.Sessions.{Session, State, first_session, AnswersLines}

-- sigma0's table and each thread's table of regions use this page size
pub record GoBy (size : PageSize) (s : Servers) : Type 0 where
  pub owners : s.owners.size ≡ size
  pub regions : (thread : ℕ) → (regions_of s thread).size ≡ size

-- the machine and the servers use this page size
pub record HasSize (size : PageSize) (s : Session) : Type 0 where
  pub machine : s.machine.size ≡ size
  pub servers : GoBy size s.servers

-- the first session has the machine's page size, and answering lines does not change the page size of a session
abbrev pub SizeStays : Type 0
SizeStays =
    ((frames : ℕ) (boot : Machine) → HasSize boot.size (first_session frames boot))
    × ((hands_out : Bool) (size : PageSize) (old : State) (number : ℕ) (lines : List TextLine) (told : List Report) (new : State)
    → AnswersLines hands_out old number lines told new → HasSize size old.session → HasSize size new.session)
