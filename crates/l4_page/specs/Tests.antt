-- The results of tests of scripts (this profile's own).
use Rattle.std.specs.Prelude.{◌≡◌, ◌⊎◌, ℕ, Bool, List, [], ◌++◌, length, Some, Result, Ok, Err, codes}
use Rattle.l4_fpage.specs.declared.sizes.PageSize.{PageSize}
use Rattle.l4_refusals.specs.Texts.{spelled}
use Rattle.l4_expectations.specs.Tests.{Tests}
use Rattle.l4_expectations.specs.declared.outcomes.Failure.{Failure}
use Rattle.l4_expectations.specs.declared.outcomes.Failure.TheVariants.{Differs, Refused, NoExpectations, Malformed, Stopped}
use Rattle.l4_expectations.specs.declared.outcomes.Fault.{Fault}
use Rattle.l4_expectations.specs.declared.outcomes.Fault.TheVariants.{Cut, Long, NoAnswer, NoLine, AfterRest}
use Rattle.l4_expectations.specs.declared.outcomes.Passed.{Passed}
use Rattle.l4_page.specs.declared.testing.TestTold.{TestTold}
use Rattle.l4_page.specs.Told.{placed}

abbrev pub no_test : ℕ → TestTold
no_test refusal = record { refusal = refusal; end = 0; line = 0; expectations = 0; expected = 0; found = 0 }

abbrev pub ended : ℕ → ℕ → ℕ → ℕ → ℕ → TestTold
ended end line expectations expected found = record { refusal = 0; end = end; line = line; expectations = expectations; expected = expected; found = found }

abbrev pub fault_number : Fault → ℕ
fault_number Cut = 4
fault_number Long = 5
fault_number NoAnswer = 6
fault_number NoLine = 7
fault_number AfterRest = 8

-- the test cannot be made, and nothing is written
abbrev pub TestsNothing : List ℕ → List ℕ → List ℕ → TestTold → Type 0
TestsNothing code old new told = (told ≡ no_test (spelled code)) × (new ≡ old)

-- What a test found: the number of lines and of expected answers, if all answers are as expected. Otherwise why not, with the number of the
-- line, and then the answers that differ, or the refusal that is not expected, are written.
abbrev pub IsToldOf : Result Passed Failure → List ℕ → List ℕ → TestTold → Type 0
IsToldOf (Ok passed) old new told = (told ≡ ended 0 passed.lines passed.expectations 0 0) × (new ≡ old)
IsToldOf (Err (Differs d)) old new told =
    (told ≡ ended 1 d.line 0 (length d.expected.items) (length d.found.items)) × (new ≡ placed (d.expected.items ++ d.found.items) old)
IsToldOf (Err (Refused r)) old new told = (told ≡ ended 2 r.line 0 0 (length r.answer.items)) × (new ≡ placed r.answer.items old)
IsToldOf (Err NoExpectations) old new told = (told ≡ ended 3 0 0 0 0) × (new ≡ old)
IsToldOf (Err (Malformed line fault)) old new told = (told ≡ ended (fault_number fault) line 0 0 0) × (new ≡ old)
IsToldOf (Err (Stopped fault)) old new told = TestsNothing (codes "NoMemory") old new told

-- THE RESULT OF A TEST, lenient or not; or memory ran out
abbrev pub TellsTest : ℕ → PageSize → Bool → List ℕ → List ℕ → List ℕ → TestTold → Type 0
TellsTest frames size lenient script old new told =
    ((rest : List ℕ) × (tested : Result Passed Failure) × Tests lenient frames size (Some script) (Some rest) tested × IsToldOf tested old new told)
    ⊎ TestsNothing (codes "NoMemory") old new told
