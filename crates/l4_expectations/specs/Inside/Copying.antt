-- What parts of a copy do.
use Rattle.std.specs.Prelude.{ℕ, ◌≡◌, ◌+◌, ◌≤◌, Bool, true, false, List, [], ◌∷◌, ◌++◌, length, filter, Option, Some, None, is_some, Result, Ok, Err}
use Rattle.std.specs.List.{All}
use Rattle.std.specs.Io.KnownBytes.{Consumes, IsAtEnd}
use Rattle.l4_text.specs.Grammar.{TextLine, lines_of, is_silent, ending_of}
use Rattle.l4_text.specs.declared.lines.Ending.TheVariants.{Whole}
use Rattle.l4_text.specs.declared.faults.RunFault.TheVariants.{Read, Write, Memory}
use Rattle.l4_shell.specs.Sessions.{State}
use Rattle.l4_expectations.specs.Copies.{expecting_all, CopiesLine, CopiesLines, FailsAtFirst}
use Rattle.l4_expectations.specs.Expectations.{is_marked, expected_in, is_rest, HasAnswers}
use Rattle.l4_expectations.specs.Tests.{EndsInput}
use Rattle.l4_expectations.specs.declared.copying.Above.{Above}
use Rattle.l4_expectations.specs.declared.copying.Above.TheVariants.{Nothing, Answers, Rest}
use Rattle.l4_expectations.specs.declared.copying.Copying.{Copying}
use Rattle.l4_expectations.specs.declared.outcomes.Failure.{Failure}
use Rattle.l4_expectations.specs.declared.outcomes.Failure.TheVariants.{Differs, Refused, NoExpectations, Malformed, Stopped}
use Rattle.l4_expectations.specs.declared.outcomes.Fault.TheVariants.{NoAnswer, NoLine, AfterRest}

-- no line is counted without a byte of it
abbrev pub IsFew : Copying → Type 0
IsFew copying = copying.lines ≤ length copying.text.items

abbrev pub IsMemory : Failure → Type 0
IsMemory (Differs difference) = ⊥
IsMemory (Refused refusal) = ⊥
IsMemory NoExpectations = ⊥
IsMemory (Malformed n fault) = ⊥
IsMemory (Stopped fault) = fault ≡ Memory

-- this text was added, with this number of lines
pub record Added (old : Copying) (text : List ℕ) (count : ℕ) (new : Copying) : Type 0 where
  pub text_is : new.text.items ≡ old.text.items ++ text
  pub lines_are : new.lines ≡ old.lines + count
  pub above_is : new.above ≡ old.above
  pub few : IsFew new

abbrev pub Adds : Copying → List ℕ → ℕ → Copying → Bool → Type 0
Adds old text count new true = Added old text count new
Adds old text count new false = Unit {0}

-- a line was added with its answers
pub record AddedAnswered (m : State) (old : Copying) (line : List ℕ) (n : State) (new : Copying) : Type 0 where
  pub text : List ℕ
  pub answers : HasAnswers m (old.lines + 1) line text n
  pub text_is : new.text.items ≡ old.text.items ++ ((line ++ 10 ∷ []) ++ expecting_all text)
  pub lines_are : new.lines ≡ old.lines + (1 + length (lines_of text))
  pub above_is : new.above ≡ Answers
  pub few : IsFew new

abbrev pub AddsAnswered : State → Copying → List ℕ → State → Copying → Bool → Type 0
AddsAnswered m old line n new true = AddedAnswered m old line n new
AddsAnswered m old line n new false = Unit {0}

-- what an expectation is about that comes after one
abbrev pub above_after : Bool → Above
above_after false = Answers
above_after true = Rest

-- an expectation was left out
pub record IsLeftOut (old : Copying) (line : List ℕ) (new : Copying) : Type 0 where
  pub answer : List ℕ
  pub expects : expected_in line ≡ Some answer
  pub was : old.above ≡ Answers
  pub same : new ≡ record old { above = above_after (is_rest answer) }

-- why an expectation is malformed
abbrev pub NotLeftOut : Above → ℕ → List ℕ → Failure → Type 0
NotLeftOut above number line (Malformed n NoAnswer) = (n ≡ number) × (expected_in line ≡ None)
NotLeftOut above number line (Malformed n NoLine) = (n ≡ number) × (is_some (expected_in line) ≡ true) × (above ≡ Nothing)
NotLeftOut above number line (Malformed n AfterRest) = (n ≡ number) × (is_some (expected_in line) ≡ true) × (above ≡ Rest)
NotLeftOut above number line failure = ⊥

-- what an expectation is about that comes after a line
abbrev pub GoesAbove : Bool → Bool → Above → Option (List ℕ) → Above → Type 0
GoesAbove false marked above expected after = after ≡ Answers
GoesAbove true false above expected after = after ≡ above
GoesAbove true true above None after = ⊥
GoesAbove true true above (Some answer) after = (above ≡ Answers) × (after ≡ above_after (is_rest answer))

-- a line was copied
pub record CopiesNext (m : State) (old : Copying) (line : List ℕ) (n : State) (new : Copying) : Type 0 where
  pub copy : List ℕ
  pub count : ℕ
  pub copies : CopiesLine m (old.lines + 1) line copy count n
  pub text_is : new.text.items ≡ old.text.items ++ copy
  pub lines_are : new.lines ≡ old.lines + count
  pub above_is : GoesAbove (is_silent line) (is_marked line) old.above (expected_in line) new.above
  pub few : IsFew new

-- why a line was not copied
abbrev pub FailsToCopy : Above → ℕ → List ℕ → Failure → Type 0
FailsToCopy above number line (Differs difference) = ⊥
FailsToCopy above number line (Refused refusal) = ⊥
FailsToCopy above number line NoExpectations = ⊥
FailsToCopy above number line (Malformed n fault) = (is_marked line ≡ true) × NotLeftOut above number line (Malformed n fault)
FailsToCopy above number line (Stopped fault) = fault ≡ Memory

-- nothing was copied
pub record IsNothing (copying : Copying) : Type 0 where
  pub text : copying.text.items ≡ []
  pub lines : copying.lines ≡ 0
  pub above : copying.above ≡ Nothing

-- the first lines of what was read were copied
pub record CopiesSome (first : State) (old new : Option (List ℕ)) : Type 0 where
  pub read : List ℕ
  pub from : Consumes old new read
  pub lines : List TextLine
  pub later : List TextLine
  pub parts : lines_of read ≡ lines ++ later
  pub whole : All (λ line. ending_of line ≡ Whole) lines
  pub copy : List ℕ
  pub count : ℕ
  pub last : State
  pub copies : CopiesLines first 1 lines copy count last

-- all lines were copied, or why not
abbrev pub CopiesAll : State → Option (List ℕ) → Option (List ℕ) → Copying → Result (Unit {0}) Failure → Type 0
CopiesAll first old new copying (Ok done) = (s : CopiesSome first old new) × (s.lines ≡ lines_of s.read) × IsAtEnd new × (copying.text.items ≡ s.copy)
CopiesAll first old new copying (Err (Stopped Read)) = (s : CopiesSome first old new) × (filter (λ line. line.whole) s.later ≡ [])
CopiesAll first old new copying (Err (Stopped Write)) = ⊥
CopiesAll first old new copying (Err (Stopped Memory)) = CopiesSome first old new
CopiesAll first old new copying (Err (Differs difference)) = ⊥
CopiesAll first old new copying (Err (Refused refusal)) = ⊥
CopiesAll first old new copying (Err NoExpectations) = ⊥
CopiesAll first old new copying (Err (Malformed n fault)) =
    (s : CopiesSome first old new) × FailsAtFirst s.lines (1 + length s.lines) s.later (Malformed n fault) × EndsInput s.later new

-- what a failure of the test of a copy becomes: the copy expects nothing, or there was no memory
abbrev pub FailsCopy : Failure → Failure → Type 0
FailsCopy NoExpectations result = result ≡ NoExpectations
FailsCopy failure result = IsMemory result
