-- The answers that a script expects of its lines, in comments below them (this profile's own).
use Rattle.std.specs.Prelude.{ℕ, ◌≡◌, ◌+◌, ◌==◌, ◌&&◌, ◌⊎◌, Bool, true, false, not, List, [], ◌∷◌, ◌++◌, length, drop, codes, bytes_eq, Option, Some, None, is_some, if◌then◌else◌}
use Rattle.std.specs.List.{flat_map, list_any}
use Rattle.l4_answers.specs.Reports.{Report}
use Rattle.l4_text.specs.Grammar.{TextLine, lines_of, is_silent}
use Rattle.l4_text.specs.Tokens.{tokens_of}
use Rattle.l4_text.specs.declared.lines.Ending.TheVariants.{Whole}
use Rattle.l4_commands.specs.Requests.{asked_at, asked_of}
use Rattle.l4_shell.specs.Sessions.{State, AnswersLine}
use Rattle.l4_sinks.specs.Texts.{AreAnswerTexts}

-- EXPECTATIONS

-- the line begins with `#=`
abbrev pub is_marked : List ℕ → Bool
is_marked (first ∷ second ∷ bytes) = first == 35 && second == 61
is_marked bytes = false

-- an answer after a space
abbrev pub answer_in : List ℕ → Option (List ℕ)
answer_in [] = None
answer_in (space ∷ answer) = if space == 32 && not (length answer == 0) then Some answer else None

-- the answer after `#= `
abbrev pub expected_in : List ℕ → Option (List ℕ)
expected_in bytes = if is_marked bytes then answer_in (drop 2 bytes) else None

-- stands for any further answers
abbrev pub rest : List ℕ
rest = codes ".."

abbrev pub is_rest : List ℕ → Bool
is_rest answer = bytes_eq answer rest

abbrev pub one : Option (List ℕ) → List (List ℕ)
one None = []
one (Some answer) = answer ∷ []

-- the answers that an expectation compares with those of the line: `..` compares none
abbrev pub compared_by : Option (List ℕ) → List (List ℕ)
compared_by None = []
compared_by (Some answer) = if is_rest answer then [] else answer ∷ []

-- all answers that lines expect and compare
abbrev pub expected_by : List TextLine → List (List ℕ)
expected_by lines = flat_map (λ line. compared_by (expected_in line.bytes)) lines

-- THE ANSWERS EXPECTED OF A LINE: those in the lines below it, up to the next line that is neither empty nor a comment
abbrev pub expected_below : List TextLine → List (List ℕ)
expected_below [] = []
expected_below (line ∷ lines) = if is_silent line.bytes then (one (expected_in line.bytes) ++ expected_below lines) else []

-- REFUSALS

-- The answer refuses a line, or a call of a served thread: it is `line L refused CODE`, or `N refused CODE`. No other answer has this token.
abbrev pub is_refusal : List ℕ → Bool
is_refusal answer = list_any (λ token. bytes_eq token (codes "refused")) (tokens_of answer)

-- the first of these lines that is a refusal
abbrev pub refusal_of : List TextLine → Option (List ℕ)
refusal_of [] = None
refusal_of (line ∷ lines) = if is_refusal line.bytes then Some line.bytes else refusal_of lines

-- the first refusal among the answers in this text
abbrev pub refusal_in : List ℕ → Option (List ℕ)
refusal_in text = refusal_of (lines_of text)

-- AGREEMENT

-- answers, each in a line
abbrev pub lines_text : List (List ℕ) → List ℕ
lines_text answers = flat_map (λ answer. answer ++ 10 ∷ []) answers

-- these answers need no expectation: none of them is a refusal, or the test is lenient
abbrev pub NeedNone : Bool → List ℕ → Type 0
NeedNone true text = Unit {0}
NeedNone false text = refusal_in text ≡ None

-- `..` is expected last; the text begins with the answers expected before it, and the others need no expectation
abbrev pub Begins : Bool → List (List ℕ) → List ℕ → Type 0
Begins lenient expected text =
    (first : List (List ℕ)) × (more : List ℕ) × (expected ≡ first ++ rest ∷ []) × (text ≡ lines_text first ++ more) × NeedNone lenient more

-- nothing is expected and the answers need no expectation, or exactly the answers in this text are expected, or the first of them
abbrev pub Agrees : Bool → List (List ℕ) → List ℕ → Type 0
Agrees lenient expected text = ((expected ≡ []) × NeedNone lenient text) ⊎ ((text ≡ lines_text expected) ⊎ Begins lenient expected text)

-- the line was answered as the line with this number, and this is the text of its answers
abbrev pub HasAnswers : State → ℕ → List ℕ → List ℕ → State → Type 0
HasAnswers old number line text new = (told : List Report) × AnswersLine old number (asked_at old.session.machine.size old.names Whole line) told new × AreAnswerTexts None told text

-- The line with this number was answered, and its answers, as `l4 run` writes them, agree with those expected below it. A line that begins
-- with `#=` has an answer behind that.
pub record IsAsExpected (lenient : Bool) (old : State) (number : ℕ) (line : TextLine) (below : List TextLine) (new : State) : Type 0 where
  pub told : List Report
  pub text : List ℕ
  pub answers : AnswersLine old number (asked_of old.session.machine.size old.names line) told new
  pub is_text : AreAnswerTexts None told text
  pub agrees : is_silent line.bytes ≡ false → Agrees lenient (expected_below below) text
  pub readable : is_marked line.bytes ≡ is_some (expected_in line.bytes)

-- lines, of which the first has this number, were answered as expected, one after another
abbrev pub AreAsExpected : Bool → State → ℕ → List TextLine → State → Type 0
AreAsExpected lenient old number [] new = new ≡ old
AreAsExpected lenient old number (line ∷ lines) new =
    (between : State) × IsAsExpected lenient old number line lines between × AreAsExpected lenient between (number + 1) lines new
