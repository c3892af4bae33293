-- A test of a script: whether its answers are the expected ones, and if not, the first difference (this profile's own).
use Rattle.std.specs.Prelude.{ℕ, ◌≡◌, ◌+◌, ◌==◌, ◌<◌, ◌⊎◌, ◌||◌, Bool, true, false, not, List, [], ◌∷◌, ◌++◌, length, filter, Option, Some, None, is_some, Result, Ok, Err}
use Rattle.std.specs.List.{All}
use Rattle.std.specs.Io.KnownBytes.{Consumes, IsAtEnd}
use Rattle.l4_fpage.specs.declared.sizes.PageSize.{PageSize}
use Rattle.l4_ipc.specs.Machine.{Machine, IsBoot}
use Rattle.l4_answers.specs.Reports.{Report}
use Rattle.l4_answers.specs.Lines.{first_line, is_next}
use Rattle.l4_text.specs.Grammar.{TextLine, lines_of, is_silent, ending_of}
use Rattle.l4_commands.specs.Requests.{asked_of}
use Rattle.l4_shell.specs.Sessions.{State, first_state, AnswersLine}
use Rattle.l4_sinks.specs.Texts.{AreAnswerTexts}
use Rattle.l4_text.specs.declared.lines.Ending.{Ending}
use Rattle.l4_text.specs.declared.lines.Ending.TheVariants.{Whole, Long as TooLong, Cut as IsCut}
use Rattle.l4_text.specs.declared.faults.RunFault.TheVariants.{Read, Write, Memory}
use Rattle.l4_expectations.specs.declared.due.Due.{Due}
use Rattle.l4_expectations.specs.declared.due.Stage.{Stage}
use Rattle.l4_expectations.specs.declared.due.Stage.TheVariants.{Untouched, Begun, Rest}
use Rattle.l4_expectations.specs.declared.outcomes.Difference.{Difference}
use Rattle.l4_expectations.specs.declared.outcomes.Failure.{Failure}
use Rattle.l4_expectations.specs.declared.outcomes.Failure.TheVariants.{Differs, Refused, NoExpectations, Malformed, Stopped}
use Rattle.l4_expectations.specs.declared.outcomes.Fault.TheVariants.{Cut, Long, NoAnswer, NoLine, AfterRest}
use Rattle.l4_expectations.specs.declared.outcomes.Passed.{Passed}
use Rattle.l4_expectations.specs.declared.outcomes.UnexpectedRefusal.{UnexpectedRefusal}
use Rattle.l4_expectations.specs.Expectations.{is_marked, expected_in, is_rest, expected_by, expected_below, lines_text, rest as rest_mark, refusal_in, NeedNone, AreAsExpected}

-- HOW FAR A LINE'S ANSWERS WERE COMPARED

-- none of them, or the first ones, or `..` stands for the others; what is left is the text of those that were not compared
abbrev pub HasCompared : Stage → List (List ℕ) → List ℕ → List ℕ → Type 0
HasCompared Untouched expected text left = (expected ≡ []) × (left ≡ text)
HasCompared Begun expected text left = (0 < length expected) × (text ≡ lines_text expected ++ left)
HasCompared Rest expected text left = (first : List (List ℕ)) × (expected ≡ first ++ rest_mark ∷ []) × (text ≡ lines_text first ++ left)

-- The last of these lines that is neither empty nor a comment was answered. The lines before it were answered as expected, and the
-- expectations below it agree with its answers as far as they go.
pub record Compares (lenient : Bool) (first : State) (lines : List TextLine) (due : Due) (last : State) : Type 0 where
  pub before : List TextLine
  pub between : State
  pub line : TextLine
  pub below : List TextLine
  pub parts : lines ≡ before ++ line ∷ below
  pub expected : AreAsExpected lenient first 1 before between
  pub above : expected_below before ≡ []
  pub number : due.number ≡ 1 + length before
  pub told : List Report
  pub text : List ℕ
  pub answers : AnswersLine between due.number (asked_of between.session.machine.size between.names line) told last
  pub is_text : AreAnswerTexts None told text
  pub asks : is_silent line.bytes ≡ false
  pub readable : is_marked line.bytes ≡ is_some (expected_in line.bytes)
  pub silent : All (λ l. is_silent l.bytes ≡ true) below
  pub whole : All (λ l. ending_of l ≡ Whole) below
  pub all_readable : All (λ l. is_marked l.bytes ≡ is_some (expected_in l.bytes)) below
  pub compared : HasCompared due.stage (expected_below below) text due.left

-- all of these lines are empty or comments, and none expects an answer
pub record AreSilent (first : State) (lines : List TextLine) (last : State) : Type 0 where
  pub silent : All (λ l. is_silent l.bytes ≡ true) lines
  pub all_readable : All (λ l. is_marked l.bytes ≡ is_some (expected_in l.bytes)) lines
  pub none_expected : expected_below lines ≡ []
  pub same : last ≡ first

-- these lines agree as far as they go
abbrev pub AgreesSoFar : Bool → State → List TextLine → Option Due → State → Type 0
AgreesSoFar lenient first lines None last = AreSilent first lines last
AgreesSoFar lenient first lines (Some due) last = Compares lenient first lines due last

-- THE FIRST DIFFERENCE

-- the line's number, and both answers
abbrev pub Differ : ℕ → List ℕ → List ℕ → Difference → Type 0
Differ number expected found difference =
    (difference.line ≡ number) × (difference.expected.items ≡ expected) × (difference.found.items ≡ found)

-- The answer that the line with this number expects is not the next one. If none is left, nothing was found.
abbrev pub IsWrong : Due → ℕ → List ℕ → Difference → Type 0
IsWrong due number answer difference =
    (is_rest answer ≡ false) × (is_next answer due.left ≡ false) × Differ number answer (first_line due.left) difference

-- `..` stands for all answers that are left
abbrev pub is_ended : Stage → Bool
is_ended Untouched = false
is_ended Begun = false
is_ended Rest = true

-- the answers that are left need not be expected one by one: nothing is expected of the line, or `..` is
abbrev pub allows_more : Stage → Bool
allows_more Untouched = true
allows_more Begun = false
allows_more Rest = true

-- what is left agrees with what is expected: no answer is left, or those that are left need no expectation
abbrev pub IsClosedBy : Bool → Bool → List ℕ → Type 0
IsClosedBy lenient true left = NeedNone lenient left
IsClosedBy lenient false left = (length left == 0) ≡ true

abbrev pub IsClosed : Bool → Option Due → Type 0
IsClosed lenient None = Unit {0}
IsClosed lenient (Some due) = IsClosedBy lenient (allows_more due.stage) due.left

-- more answers are left than were expected of a line, whose number is reported
abbrev pub IsSurplus : Option Due → Difference → Type 0
IsSurplus None difference = ⊥
IsSurplus (Some due) difference = (allows_more due.stage ≡ false) × ((length due.left == 0) ≡ false) × Differ due.number [] (first_line due.left) difference

-- a refusal is left that no expectation states; the line's number and the first such refusal are reported
abbrev pub IsUnexpected : Bool → Option Due → UnexpectedRefusal → Type 0
IsUnexpected lenient None refusal = ⊥
IsUnexpected lenient (Some due) refusal =
    (lenient ≡ false) × (allows_more due.stage ≡ true) × (refusal.line ≡ due.number) × (refusal_in due.left ≡ Some refusal.answer.items)

-- the expectation in the line with this number differs
abbrev pub DiffersAt : Option Due → ℕ → Option (List ℕ) → Difference → Type 0
DiffersAt (Some due) number (Some answer) difference = IsWrong due number answer difference
DiffersAt due number answer difference = ⊥

-- WHY A LINE IS NO PART OF A TEST

abbrev pub AfterAny : Option Due → Type 0
AfterAny None = ⊥
AfterAny (Some due) = is_ended due.stage ≡ true

-- Why a test fails at the line with this number and ending: an expectation that differs; or a command before which more answers are left, or
-- a refusal that is not expected; or the line is malformed
abbrev pub FailsAt : Bool → Option Due → ℕ → Ending → List ℕ → Failure → Type 0
FailsAt lenient due number ending bytes (Differs difference) =
    (ending ≡ Whole) × (DiffersAt due number (expected_in bytes) difference ⊎ ((is_silent bytes ≡ false) × IsSurplus due difference))
FailsAt lenient due number ending bytes (Refused refusal) = (ending ≡ Whole) × (is_silent bytes ≡ false) × IsUnexpected lenient due refusal
FailsAt lenient due number ending bytes NoExpectations = ⊥
FailsAt lenient due number ending bytes (Malformed n Cut) = (n ≡ number) × (ending ≡ IsCut)
FailsAt lenient due number ending bytes (Malformed n Long) = (n ≡ number) × (ending ≡ TooLong)
FailsAt lenient due number ending bytes (Malformed n NoAnswer) = (n ≡ number) × (ending ≡ Whole) × (is_marked bytes ≡ true) × (expected_in bytes ≡ None)
FailsAt lenient due number ending bytes (Malformed n NoLine) = (n ≡ number) × (ending ≡ Whole) × (is_some (expected_in bytes) ≡ true) × (due ≡ None)
FailsAt lenient due number ending bytes (Malformed n AfterRest) = (n ≡ number) × (ending ≡ Whole) × (is_some (expected_in bytes) ≡ true) × AfterAny due
FailsAt lenient due number ending bytes (Stopped fault) = ⊥

-- the same at the next of these lines, or at the end
abbrev pub FailsNext : Bool → Option Due → ℕ → List TextLine → Failure → Type 0
FailsNext lenient due number [] (Differs difference) = IsSurplus due difference
FailsNext lenient due number [] (Refused refusal) = IsUnexpected lenient due refusal
FailsNext lenient due number [] failure = ⊥
FailsNext lenient due number (line ∷ later) failure = FailsAt lenient due number (ending_of line) line.bytes failure

-- A TEST

-- the input ended, if no line follows, or a line that does not end with a newline
abbrev pub EndsInput : List TextLine → Option (List ℕ) → Type 0
EndsInput [] new = IsAtEnd new
EndsInput (line ∷ later) new = ending_of line ≡ IsCut → IsAtEnd new

-- all lines that were read, to the end of the input, were answered as expected, from a kernel as it boots
pub record AllAgree (lenient : Bool) (frames : ℕ) (size : PageSize) (old new : Option (List ℕ)) : Type 0 where
  pub read : List ℕ
  pub from : Consumes old new read
  pub ended : IsAtEnd new
  pub whole : All (λ line. ending_of line ≡ Whole) (lines_of read)
  pub boot : Machine
  pub boots : IsBoot frames boot
  pub sized : boot.size ≡ size
  pub last : State
  pub expected : AreAsExpected lenient (first_state frames boot) 1 (lines_of read) last
  pub top : expected_below (lines_of read) ≡ []

-- the script expects answers, apart from `..`, or the test is lenient
abbrev pub is_test : Bool → ℕ → Bool
is_test lenient expectations = lenient || not (expectations == 0)

-- A SCRIPT PASSES
pub record Passes (lenient : Bool) (frames : ℕ) (size : PageSize) (old new : Option (List ℕ)) (passed : Passed) : Type 0 where
  pub all : AllAgree lenient frames size old new
  pub lines : passed.lines ≡ length (lines_of all.read)
  pub expectations : passed.expectations ≡ length (expected_by (lines_of all.read))
  pub some : is_test lenient passed.expectations ≡ true

-- it would pass, but expects no answer, apart from `..`
pub record ExpectsNothing (lenient : Bool) (frames : ℕ) (size : PageSize) (old new : Option (List ℕ)) : Type 0 where
  pub all : AllAgree lenient frames size old new
  pub strict : lenient ≡ false
  pub none : length (expected_by (lines_of all.read)) ≡ 0

-- of the lines that were read, the first ones agree as far as they go, and these follow
pub record AgreesFirst (lenient : Bool) (frames : ℕ) (size : PageSize) (old new : Option (List ℕ)) : Type 0 where
  pub read : List ℕ
  pub from : Consumes old new read
  pub lines : List TextLine
  pub later : List TextLine
  pub parts : lines_of read ≡ lines ++ later
  pub whole : All (λ line. ending_of line ≡ Whole) lines
  pub boot : Machine
  pub boots : IsBoot frames boot
  pub sized : boot.size ≡ size
  pub last : State
  pub due : Option Due
  pub agrees : AgreesSoFar lenient (first_state frames boot) lines due last

-- Whether a script passes, or why it fails: at the first line that does not agree, or at the end of the input, or because a read failed, or
-- because memory ran out, which can happen at the start and at any line.
abbrev pub Tests : Bool → ℕ → PageSize → Option (List ℕ) → Option (List ℕ) → Result Passed Failure → Type 0
Tests lenient frames size old new (Ok passed) = Passes lenient frames size old new passed
Tests lenient frames size old new (Err NoExpectations) = ExpectsNothing lenient frames size old new
Tests lenient frames size old new (Err (Stopped Read)) = (a : AgreesFirst lenient frames size old new) × (filter (λ line. line.whole) a.later ≡ [])
Tests lenient frames size old new (Err (Stopped Write)) = ⊥
Tests lenient frames size old new (Err (Stopped Memory)) = (new ≡ old) ⊎ AgreesFirst lenient frames size old new
Tests lenient frames size old new (Err failure) =
    (a : AgreesFirst lenient frames size old new) × FailsNext lenient a.due (1 + length a.lines) a.later failure × EndsInput a.later new
