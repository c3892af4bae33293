-- What parts of a test do with one line.
use Rattle.std.specs.Prelude.{ℕ, ◌≡◌, ◌+◌, ◌⊎◌, Bool, true, false, List, [], ◌++◌, length, filter, Option, Some, None, Result, Ok, Err}
use Rattle.std.specs.List.{All}
use Rattle.std.specs.Io.KnownBytes.{Consumes, IsAtEnd}
use Rattle.l4_answers.specs.Lines.{first_line, later_lines, is_next}
use Rattle.l4_text.specs.Grammar.{TextLine, lines_of, is_silent, ending_of}
use Rattle.l4_shell.specs.Sessions.{State}
use Rattle.l4_text.specs.declared.lines.Ending.{Ending}
use Rattle.l4_text.specs.declared.lines.Ending.TheVariants.{Whole}
use Rattle.l4_text.specs.declared.faults.RunFault.TheVariants.{Read, Write, Memory}
use Rattle.l4_expectations.specs.declared.due.Due.{Due}
use Rattle.l4_expectations.specs.declared.due.Stage.TheVariants.{Untouched, Begun, Rest}
use Rattle.l4_expectations.specs.declared.outcomes.Failure.{Failure}
use Rattle.l4_expectations.specs.declared.outcomes.Failure.TheVariants.{Differs, Refused, NoExpectations, Malformed, Stopped}
use Rattle.l4_expectations.specs.declared.outcomes.Passed.{Passed}
use Rattle.l4_expectations.specs.declared.testing.Tested.{Tested}
use Rattle.l4_expectations.specs.Expectations.{is_marked, expected_in, is_rest, compared_by, expected_by, expected_below, refusal_in, HasAnswers, AreAsExpected}
use Rattle.l4_expectations.specs.declared.outcomes.Fault.TheVariants.{NoLine, AfterRest}
use Rattle.l4_expectations.specs.Tests.{AgreesSoFar, Differ, EndsInput, FailsAt, FailsNext, IsClosed, IsWrong, is_ended, is_test}

-- an answer was the next one, or stood for all, and was taken
abbrev pub Takes : Due → List ℕ → Due → Bool → Type 0
Takes old answer new true =
    (new.number ≡ old.number)
    × (((is_rest answer ≡ true) × (new.left ≡ old.left) × (new.stage ≡ Rest)) ⊎ ((is_next answer old.left ≡ true) × (new.left ≡ later_lines old.left) × (new.stage ≡ Begun)))
Takes old answer new false = (new ≡ old) × (is_rest answer ≡ false) × (is_next answer old.left ≡ false)

-- this difference, or there was no memory to keep it
abbrev pub Reports : ℕ → List ℕ → List ℕ → Failure → Type 0
Reports number expected found (Differs difference) = Differ number expected found difference
Reports number expected found (Stopped fault) = fault ≡ Memory
Reports number expected found failure = ⊥

-- this refusal, or there was no memory to keep it
abbrev pub ReportsRefusal : ℕ → List ℕ → Failure → Type 0
ReportsRefusal number answer (Refused refusal) = (refusal.line ≡ number) × (refusal.answer.items ≡ answer)
ReportsRefusal number answer (Stopped fault) = fault ≡ Memory
ReportsRefusal number answer failure = ⊥

-- the first refusal among these lines is the first one of those that are left, or there is none
abbrev pub FindsRefusal : List ℕ → List ℕ → Bool → Type 0
FindsRefusal old new true = refusal_in old ≡ Some (first_line new)
FindsRefusal old new false = refusal_in old ≡ None

-- why something fails, unless there was no memory
abbrev pub Fails : (Failure → Type 0) → Failure → Type 0
Fails why (Differs difference) = why (Differs difference)
Fails why (Refused refusal) = why (Refused refusal)
Fails why NoExpectations = why NoExpectations
Fails why (Malformed n fault) = why (Malformed n fault)
Fails why (Stopped fault) = fault ≡ Memory

-- the answers that are left agree with what is expected, or the first one that does not is reported
abbrev pub Closes : Bool → Option Due → Result (Unit {0}) Failure → Type 0
Closes lenient due (Ok u) = IsClosed lenient due
Closes lenient due (Err failure) = Fails (FailsNext lenient due 0 []) failure

-- an expected answer was compared, and agrees
pub record Compared (old : Tested) (answer : List ℕ) (new : Tested) : Type 0 where
  pub before : Due
  pub after : Due
  pub was : old.due ≡ Some before
  pub is : new.due ≡ Some after
  pub not_ended : is_ended before.stage ≡ false
  pub takes : Takes before answer after true
  pub counted : new.expectations ≡ old.expectations + length (compared_by (Some answer))
  pub lenient : new.lenient ≡ old.lenient

-- why an expected answer fails
abbrev pub ExpectationFails : Option Due → ℕ → List ℕ → Failure → Type 0
ExpectationFails None number answer (Malformed n NoLine) = n ≡ number
ExpectationFails (Some due) number answer (Malformed n AfterRest) = (n ≡ number) × (is_ended due.stage ≡ true)
ExpectationFails (Some due) number answer (Differs difference) = IsWrong due number answer difference
ExpectationFails due number answer failure = ⊥

abbrev pub ComparesAnswer : Tested → ℕ → List ℕ → Tested → Result (Unit {0}) Failure → Type 0
ComparesAnswer old number answer new (Ok u) = Compared old answer new
ComparesAnswer old number answer new (Err failure) = Fails (ExpectationFails old.due number answer) failure

-- a line was answered, after the answers of the line above it were compared
pub record Goes (m : State) (old : Tested) (number : ℕ) (line : List ℕ) (n : State) (new : Tested) : Type 0 where
  pub closed : IsClosed old.lenient old.due
  pub text : List ℕ
  pub answered : HasAnswers m number line text n
  pub due_is : new.due ≡ Some (record { number = number; left = text; stage = Untouched })
  pub same : new.expectations ≡ old.expectations
  pub lenient : new.lenient ≡ old.lenient

abbrev pub AnswersNext : State → Tested → ℕ → List ℕ → State → Tested → Result (Unit {0}) Failure → Type 0
AnswersNext m old number line n new (Ok u) = Goes m old number line n new
AnswersNext m old number line n new (Err failure) = Fails (FailsNext old.lenient old.due 0 []) failure

-- a line was tested: it was answered, or it is silent and expects an answer or doesn't
abbrev pub GoesBy : State → Tested → ℕ → List ℕ → Bool → Bool → Option (List ℕ) → State → Tested → Type 0
GoesBy m old number line false marked expected n new = Goes m old number line n new
GoesBy m old number line true false expected n new = (new ≡ old) × (n ≡ m)
GoesBy m old number line true true (Some answer) n new = Compared old answer new × (n ≡ m)
GoesBy m old number line true true None n new = ⊥

abbrev pub TestsLine : State → Tested → ℕ → List ℕ → State → Tested → Result (Unit {0}) Failure → Type 0
TestsLine m old number line n new (Ok u) = GoesBy m old number line (is_silent line) (is_marked line) (expected_in line) n new
TestsLine m old number line n new (Err failure) = Fails (FailsAt old.lenient old.due number Whole line) failure

-- the ending of a line is that of a line of a test, or not
abbrev pub EndsWhole : ℕ → Ending → List ℕ → Result (Unit {0}) Failure → Type 0
EndsWhole number ending bytes (Ok u) = ending ≡ Whole
EndsWhole number ending bytes (Err failure) = (lenient : Bool) (due : Option Due) → FailsAt lenient due number ending bytes failure

-- why the end of a script fails
abbrev pub EndFails : Tested → Failure → Type 0
EndFails tested NoExpectations = IsClosed tested.lenient tested.due × (is_test tested.lenient tested.expectations ≡ false)
EndFails tested failure = FailsNext tested.lenient tested.due 0 [] failure

abbrev pub TestsEnd : Tested → ℕ → Result Passed Failure → Type 0
TestsEnd tested lines (Ok passed) =
    IsClosed tested.lenient tested.due × (passed.lines ≡ lines) × (passed.expectations ≡ tested.expectations) × (is_test tested.lenient tested.expectations ≡ true)
TestsEnd tested lines (Err failure) = Fails (EndFails tested) failure

-- nothing was tested
pub record IsFirst (tested : Tested) : Type 0 where
  pub due : tested.due ≡ None
  pub expectations : tested.expectations ≡ 0

-- of the lines that were read the first agree as far as they go
pub record AgreesSome (lenient : Bool) (first : State) (old new : Option (List ℕ)) : Type 0 where
  pub read : List ℕ
  pub from : Consumes old new read
  pub lines : List TextLine
  pub later : List TextLine
  pub parts : lines_of read ≡ lines ++ later
  pub whole : All (λ line. ending_of line ≡ Whole) lines
  pub last : State
  pub due : Option Due
  pub agrees : AgreesSoFar lenient first lines due last

-- all lines were answered as expected
pub record AllAsExpected (lenient : Bool) (first : State) (old new : Option (List ℕ)) : Type 0 where
  pub read : List ℕ
  pub from : Consumes old new read
  pub ended : IsAtEnd new
  pub whole : All (λ line. ending_of line ≡ Whole) (lines_of read)
  pub last : State
  pub expected : AreAsExpected lenient first 1 (lines_of read) last
  pub top : expected_below (lines_of read) ≡ []

-- and their numbers
pub record PassesAll (lenient : Bool) (first : State) (old new : Option (List ℕ)) (passed : Passed) : Type 0 where
  pub all : AllAsExpected lenient first old new
  pub lines : passed.lines ≡ length (lines_of all.read)
  pub expectations : passed.expectations ≡ length (expected_by (lines_of all.read))
  pub some : is_test lenient passed.expectations ≡ true

-- but no answer was compared
pub record NothingExpected (lenient : Bool) (first : State) (old new : Option (List ℕ)) : Type 0 where
  pub all : AllAsExpected lenient first old new
  pub strict : lenient ≡ false
  pub none : length (expected_by (lines_of all.read)) ≡ 0

-- why the first line that does not agree, or the end, fails
pub record FailsSome (lenient : Bool) (first : State) (old new : Option (List ℕ)) (failure : Failure) : Type 0 where
  pub some : AgreesSome lenient first old new
  pub fails : FailsNext lenient some.due (1 + length some.lines) some.later failure
  pub ended : EndsInput some.later new

abbrev pub TestsLines : Bool → State → Option (List ℕ) → Option (List ℕ) → Result Passed Failure → Type 0
TestsLines lenient first old new (Ok passed) = PassesAll lenient first old new passed
TestsLines lenient first old new (Err NoExpectations) = NothingExpected lenient first old new
TestsLines lenient first old new (Err (Stopped Read)) = (a : AgreesSome lenient first old new) × (filter (λ line. line.whole) a.later ≡ [])
TestsLines lenient first old new (Err (Stopped Write)) = ⊥
TestsLines lenient first old new (Err (Stopped Memory)) = AgreesSome lenient first old new
TestsLines lenient first old new (Err (Differs difference)) = FailsSome lenient first old new (Differs difference)
TestsLines lenient first old new (Err (Refused refusal)) = FailsSome lenient first old new (Refused refusal)
TestsLines lenient first old new (Err (Malformed n fault)) = FailsSome lenient first old new (Malformed n fault)
