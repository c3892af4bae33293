-- The requests of a list of steps and queries (this profile's own).
use Rattle.std.specs.Prelude.{ℕ, ◌≡◌, ◌+◌, ◌⊎◌, List, [], ◌∷◌, ◌++◌, length, filter, Option, Result, Ok, Err, if◌then◌else◌}
use Rattle.std.specs.List.{flat_map}
use Rattle.std.specs.Io.KnownBytes.{Consumes, IsAtEnd}
use Rattle.l4_answers.specs.Replies.{newline}
use Rattle.l4_text.specs.Grammar.{TextLine, lines_of, ending_of, is_silent}
use Rattle.l4_text.specs.declared.lines.Ending.TheVariants.{Whole, Long as TooLong, Cut as IsCut}
use Rattle.l4_text.specs.declared.faults.RunFault.TheVariants.{Read, Write, Memory}
use Rattle.l4_step_lines.specs.declared.running.Fault.{Fault}
use Rattle.l4_step_lines.specs.declared.running.Fault.TheVariants.{Stopped, Cut, Long, Unread}

-- the request of a line with its newline; comments, answers and lines without a token have none
abbrev pub request_text : List ℕ → List ℕ
request_text line = if is_silent line then [] else line ++ newline

-- the requests of these lines
abbrev pub requests_text : List TextLine → List ℕ
requests_text lines = flat_map (λ line. request_text line.bytes) lines

-- each line ends with a newline, and is not too long
abbrev pub AreWhole : List TextLine → Type 0
AreWhole [] = Unit {0}
AreWhole (line ∷ lines) = (ending_of line ≡ Whole) × AreWhole lines

-- of the lines that were read the first are whole
pub record ReadsWhole (old new : Option (List ℕ)) : Type 0 where
  pub read : List ℕ
  pub from : Consumes old new read
  pub lines : List TextLine
  pub later : List TextLine
  pub parts : lines_of read ≡ lines ++ later
  pub whole : AreWhole lines

-- the first of these lines, which has this number, is cut, and the input ends with it; or it is too long
abbrev pub FailsAt : ℕ → List TextLine → Option (List ℕ) → Fault → Type 0
FailsAt number [] new fault = ⊥
FailsAt number (line ∷ lines) new fault =
    ((ending_of line ≡ IsCut) × IsAtEnd new × (fault ≡ Cut number)) ⊎ ((ending_of line ≡ TooLong) × (fault ≡ Long number))

-- The requests of all lines of a stream; or its first line that is cut or too long; or a read failed, or memory ran out.
abbrev pub ReadsRequests : Option (List ℕ) → Option (List ℕ) → Result (List ℕ) Fault → Type 0
ReadsRequests old new (Ok requests) = (r : ReadsWhole old new) × (r.later ≡ []) × IsAtEnd new × (requests ≡ requests_text r.lines)
ReadsRequests old new (Err (Stopped Read)) = (r : ReadsWhole old new) × (filter (λ line. line.whole) r.later ≡ [])
ReadsRequests old new (Err (Stopped Write)) = ⊥
ReadsRequests old new (Err (Stopped Memory)) = ReadsWhole old new
ReadsRequests old new (Err fault) = (r : ReadsWhole old new) × FailsAt (1 + length r.lines) r.later new fault
