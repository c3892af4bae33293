-- What it means that a list of steps and queries with another kernel's answers agrees (this profile's own).
use Rattle.std.specs.Prelude.{ℕ, ◌≡◌, ◌+◌, ◌⊎◌, Bool, true, List, [], ◌∷◌, Option, Some, None, IfSome, Result, Ok, Err, if◌then◌else◌}
use Rattle.std.specs.Io.KnownBytes.{Consumes, IsAtEnd}
use Rattle.l4_answers.specs.Lines.{later_lines}
use Rattle.l4_fpage.specs.declared.sizes.PageSize.{PageSize}
use Rattle.l4_ipc.specs.Machine.{Machine, IsBoot}
use Rattle.l4_text.specs.Grammar.{TextLine, lines_of, is_silent}
use Rattle.l4_step_lines.specs.declared.requests.Request.{Request}
use Rattle.l4_step_lines.specs.declared.running.Fault.{Fault}
use Rattle.l4_step_lines.specs.Lists.{asked_of, Answers}
use Rattle.l4_judging.specs.declared.judging.Wanted.{Wanted}
use Rattle.l4_judging.specs.Judging.{said_in, has_said}
use Rattle.l4_judging.specs.Requests.{requests_text}

-- the answers above the first request of these lines; a line is an answer, or silent, or has a request
abbrev pub said_then : Option (List ℕ) → Bool → List (List ℕ) → List (List ℕ)
said_then (Some said) silent rest = said ∷ rest
said_then None silent rest = if silent then rest else []

abbrev pub said_above : List TextLine → List (List ℕ)
said_above [] = []
said_above (line ∷ lines) = said_then (said_in line.bytes) (is_silent line.bytes) (said_above lines)

-- answers are the lines of this text, one by one; `?` stands for any line
abbrev pub SaysLines : List ℕ → List (List ℕ) → Type 0
SaysLines text [] = text ≡ []
SaysLines text (said ∷ answers) = (has_said text said ≡ true) × SaysLines (later_lines text) answers

-- the answers to a request are the lines of this text; or there are none, where that is accepted
abbrev pub SaysText : Bool → List ℕ → List (List ℕ) → Type 0
SaysText partial text said = SaysLines text said ⊎ ((partial ≡ true) × (said ≡ []))

-- a line requests nothing, or the machine does what it requests, and these are its answers
abbrev pub IsAnswered : Bool → Machine → Result (Option Request) Fault → List (List ℕ) → Machine → Type 0
IsAnswered partial old (Ok None) said new = new ≡ old
IsAnswered partial old (Ok (Some request)) said new = (text : List ℕ) × Answers old request text new × SaysText partial text said
IsAnswered partial old (Err fault) said new = ⊥

-- the machine does what these lines request, one after another, and the answers below each request are the machine's; the first line has this
-- number
abbrev pub AreAnswered : Bool → Machine → ℕ → List TextLine → Machine → Type 0
AreAnswered partial old number [] new = new ≡ old
AreAnswered partial old number (line ∷ lines) new =
    (between : Machine) × IsAnswered partial old (asked_of number line) (said_above lines) between × AreAnswered partial between (number + 1) lines new

-- A LIST AGREES with what is wanted, for a machine with so many frames of this size as it boots: its requests are those that are wanted, if any
-- are given, and each has the machine's answers.
pub record Agrees (frames : ℕ) (size : PageSize) (wanted : Wanted) (lines : List TextLine) : Type 0 where
  pub boot : Machine
  pub boots : IsBoot frames boot
  pub sized : boot.size ≡ size
  pub last : Machine
  pub above : said_above lines ≡ []
  pub answered : AreAnswered wanted.partial boot 1 lines last
  pub requests : IfSome wanted.requests (λ requests. requests ≡ requests_text lines)

-- all of a stream was read, and it agrees
abbrev pub AllAgrees : ℕ → PageSize → Wanted → Option (List ℕ) → Option (List ℕ) → Type 0
AllAgrees frames size wanted old new = (read : List ℕ) × Consumes old new read × IsAtEnd new × Agrees frames size wanted (lines_of read)
