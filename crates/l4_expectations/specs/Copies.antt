-- A copy of a script that expects all answers (this profile's own).
use Rattle.std.specs.Prelude.{ℕ, ◌≡◌, ◌+◌, ◌⊎◌, Bool, true, false, List, [], ◌∷◌, ◌++◌, length, filter, codes, Option, Some, None, is_some, Result, Ok, Err}
use Rattle.std.specs.List.{All, flat_map}
use Rattle.std.specs.Io.KnownBytes.{Consumes, IsAtEnd}
use Rattle.l4_fpage.specs.declared.sizes.PageSize.{PageSize}
use Rattle.l4_ipc.specs.Machine.{Machine, IsBoot}
use Rattle.l4_text.specs.Grammar.{TextLine, lines_of, is_silent, ending_of}
use Rattle.l4_text.specs.declared.lines.Ending.{Ending}
use Rattle.l4_text.specs.declared.lines.Ending.TheVariants.{Whole, Long as TooLong, Cut as IsCut}
use Rattle.l4_text.specs.declared.faults.RunFault.TheVariants.{Read, Write, Memory}
use Rattle.l4_shell.specs.Sessions.{State, first_state}
use Rattle.l4_expectations.specs.declared.copying.Copied.{Copied}
use Rattle.l4_expectations.specs.declared.outcomes.Failure.{Failure}
use Rattle.l4_expectations.specs.declared.outcomes.Failure.TheVariants.{NoExpectations, Malformed, Stopped}
use Rattle.l4_expectations.specs.declared.outcomes.Fault.TheVariants.{Cut, Long, NoAnswer, NoLine, AfterRest}
use Rattle.l4_expectations.specs.Expectations.{is_marked, expected_in, is_rest, HasAnswers}
use Rattle.l4_expectations.specs.Tests.{EndsInput, Passes, ExpectsNothing}

-- THE LINES OF A COPY

-- a line as an expectation
abbrev pub expecting : TextLine → List ℕ
expecting answer = codes "#= " ++ (answer.bytes ++ 10 ∷ [])

-- expectations of all lines of this text
abbrev pub expecting_all : List ℕ → List ℕ
expecting_all text = flat_map expecting (lines_of text)

-- What a copy has for a line, which is the next one of the copy and has this number there: an expectation is left out, and any other line stays.
-- Below a line that has answers, the copy expects all of them. The last number is that of the lines that the copy has more.
abbrev pub CopiesBy : Bool → Bool → State → ℕ → List ℕ → List ℕ → ℕ → State → Type 0
CopiesBy true true old number line copy count new = (copy ≡ []) × (count ≡ 0) × (new ≡ old)
CopiesBy true false old number line copy count new = (copy ≡ line ++ 10 ∷ []) × (count ≡ 1) × (new ≡ old)
CopiesBy false marked old number line copy count new =
    (text : List ℕ) × HasAnswers old number line text new
    × (copy ≡ (line ++ 10 ∷ []) ++ expecting_all text) × (count ≡ 1 + length (lines_of text))

abbrev pub CopiesLine : State → ℕ → List ℕ → List ℕ → ℕ → State → Type 0
CopiesLine old number line copy count new = CopiesBy (is_silent line) (is_marked line) old number line copy count new

-- the same of lines, one after another
abbrev pub CopiesLines : State → ℕ → List TextLine → List ℕ → ℕ → State → Type 0
CopiesLines old number [] copy count new = (copy ≡ []) × (count ≡ 0) × (new ≡ old)
CopiesLines old number (line ∷ lines) copy count new =
    (first : List ℕ) × (rest : List ℕ) × (some : ℕ) × (more : ℕ) × (between : State)
    × CopiesLine old number line.bytes first some between × CopiesLines between (number + some) lines rest more new × (copy ≡ first ++ rest) × (count ≡ some + more)

-- MALFORMED LINES

-- none of these lines has answers
abbrev pub NoneAnswered : List TextLine → Type 0
NoneAnswered lines = All (λ line. is_silent line.bytes ≡ true) lines

-- `..` is expected of the last of these lines that has answers
pub record RestExpected (lines : List TextLine) : Type 0 where
  pub before : List TextLine
  pub rest : TextLine
  pub below : List TextLine
  pub parts : lines ≡ before ++ rest ∷ below
  pub silent : All (λ line. is_silent line.bytes ≡ true) (rest ∷ below)
  pub answer : List ℕ
  pub expects : expected_in rest.bytes ≡ Some answer
  pub is : is_rest answer ≡ true

-- why the line with this number cannot be part of a test, after these lines
abbrev pub IsMalformed : List TextLine → ℕ → Ending → List ℕ → Failure → Type 0
IsMalformed before number ending line (Malformed n Cut) = (n ≡ number) × (ending ≡ IsCut)
IsMalformed before number ending line (Malformed n Long) = (n ≡ number) × (ending ≡ TooLong)
IsMalformed before number ending line (Malformed n NoAnswer) = (n ≡ number) × (ending ≡ Whole) × (is_marked line ≡ true) × (expected_in line ≡ None)
IsMalformed before number ending line (Malformed n NoLine) = (n ≡ number) × (ending ≡ Whole) × (is_some (expected_in line) ≡ true) × NoneAnswered before
IsMalformed before number ending line (Malformed n AfterRest) = (n ≡ number) × (ending ≡ Whole) × (is_some (expected_in line) ≡ true) × RestExpected before
IsMalformed before number ending line failure = ⊥

-- the same of the first of these lines
abbrev pub FailsAtFirst : List TextLine → ℕ → List TextLine → Failure → Type 0
FailsAtFirst before number [] failure = ⊥
FailsAtFirst before number (line ∷ later) failure = IsMalformed before number (ending_of line) line.bytes failure

-- A COPY

-- the first lines of what was read were copied, and these follow
pub record CopiesFirst (frames : ℕ) (size : PageSize) (old new : Option (List ℕ)) : Type 0 where
  pub read : List ℕ
  pub from : Consumes old new read
  pub lines : List TextLine
  pub later : List TextLine
  pub parts : lines_of read ≡ lines ++ later
  pub whole : All (λ line. ending_of line ≡ Whole) lines
  pub boot : Machine
  pub boots : IsBoot frames boot
  pub sized : boot.size ≡ size
  pub copy : List ℕ
  pub count : ℕ
  pub last : State
  pub copies : CopiesLines (first_state frames boot) 1 lines copy count last

-- all lines of what was read, to the end of the input, were copied, and the copy passes
pub record IsCopy (frames : ℕ) (size : PageSize) (old new : Option (List ℕ)) (copied : Copied) : Type 0 where
  pub first : CopiesFirst frames size old new
  pub all : first.lines ≡ lines_of first.read
  pub ended : IsAtEnd new
  pub copy_is : copied.text.items ≡ first.copy
  pub left : Option (List ℕ)
  pub passes : Passes false frames size (Some copied.text.items) left copied.size

-- all lines of what was read, to the end of the input, were copied, and the copy expects nothing
pub record HasNoAnswers (frames : ℕ) (size : PageSize) (old new : Option (List ℕ)) : Type 0 where
  pub first : CopiesFirst frames size old new
  pub all : first.lines ≡ lines_of first.read
  pub ended : IsAtEnd new
  pub left : Option (List ℕ)
  pub none : ExpectsNothing false frames size (Some first.copy) left

-- A COPY OF A SCRIPT, or why there is none: the first line that cannot be part of a test, or because no line has answers, or because a read failed,
-- or because memory ran out, which can happen at the start, at any line, and in the test of the copy.
abbrev pub CopiesScript : ℕ → PageSize → Option (List ℕ) → Option (List ℕ) → Result Copied Failure → Type 0
CopiesScript frames size old new (Ok copied) = IsCopy frames size old new copied
CopiesScript frames size old new (Err NoExpectations) = HasNoAnswers frames size old new
CopiesScript frames size old new (Err (Stopped Read)) = (a : CopiesFirst frames size old new) × (filter (λ line. line.whole) a.later ≡ [])
CopiesScript frames size old new (Err (Stopped Write)) = ⊥
CopiesScript frames size old new (Err (Stopped Memory)) = (new ≡ old) ⊎ CopiesFirst frames size old new
CopiesScript frames size old new (Err failure) =
    (a : CopiesFirst frames size old new) × FailsAtFirst a.lines (1 + length a.lines) a.later failure × EndsInput a.later new
