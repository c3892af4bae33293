-- The answer of the kernel in a handle to a step or query, and that of another kernel compared with it (this profile's own).
use Rattle.std.specs.Prelude.{ℕ, ◌≡◌, ◌⊎◌, List, length, codes, Option, None, Some, Result, Ok, Err}
use Rattle.l4_ipc.specs.Machine.{Machine}
use Rattle.l4_judging.specs.declared.watching.Judgement.{Judgement}
use Rattle.l4_judging.specs.declared.watching.Unjudged.{Unjudged}
use Rattle.l4_judging.specs.declared.watching.Unjudged.TheVariants.{Unread, Memory}
use Rattle.l4_judging.specs.Watching.{Executes, HasNoAnswer, JudgesStep}
use Rattle.l4_refusals.specs.Texts.{spelled}
use Rattle.l4_c.specs.Judged.{expected_of, judge_result, unjudged_result}
use Rattle.l4_c.specs.declared.judgements.JudgeResult.{JudgeResult}
use Rattle.l4_c_queries.specs.declared.descending.CountResult.{CountResult}
use Rattle.l4_c_texts.specs.Written.{written}

-- the result, and the array to which the kernel's line is written; it is unchanged if nothing was compared
abbrev pub TellsJudged : Result Judgement Unjudged → List ℕ → JudgeResult → List ℕ → Type 0
TellsJudged (Ok judgement) old r new = (r ≡ judge_result judgement) × (new ≡ written (expected_of judgement.difference) old)
TellsJudged (Err Unread) old r new = (r ≡ unjudged_result (spelled (codes "B5"))) × (new ≡ old)
TellsJudged (Err Memory) old r new = (r ≡ unjudged_result (spelled (codes "NoMemory"))) × (new ≡ old)

-- the kernel executes what the line asks for, and the other kernel's answer is compared with its answer
abbrev pub JudgesFor : Machine → List ℕ → List ℕ → List ℕ → JudgeResult → List ℕ → Machine → Type 0
JudgesFor m line found old r written n = (judged : Result Judgement Unjudged) × JudgesStep m line found judged n × TellsJudged judged old r written

-- the same for the kernel in a handle; an empty handle is refused (B1)
abbrev pub Judges : Option Machine → List ℕ → List ℕ → List ℕ → JudgeResult → List ℕ → Option Machine → Type 0
Judges None line found old r written new = (r ≡ unjudged_result (spelled (codes "B1"))) × (written ≡ old) × (new ≡ None)
Judges (Some m) line found old r written new = (n : Machine) × JudgesFor m line found old r written n × (new ≡ Some n)

-- the code of the reason why there is no answer
abbrev pub unanswered_code : Unjudged → ℕ
unanswered_code Unread = spelled (codes "B5")
unanswered_code Memory = spelled (codes "NoMemory")

-- the text is written as far as there is room, and all its bytes are counted
abbrev pub WritesAnswer : List ℕ → List ℕ → CountResult → List ℕ → Type 0
WritesAnswer text old r new = (r ≡ record { refusal = 0; count = length text }) × (new ≡ written text old)

-- The kernel executes what the line asks for, and the lines of its answer are written. Or there is no answer, and nothing is written.
abbrev pub ExecutesFor : Machine → List ℕ → List ℕ → CountResult → List ℕ → Machine → Type 0
ExecutesFor m line old r new n =
    ((text : List ℕ) × Executes m line text n × WritesAnswer text old r new)
    ⊎ ((why : Unjudged) × HasNoAnswer m line why n × (r ≡ record { refusal = unanswered_code why; count = 0 }) × (new ≡ old))

-- the same for the kernel in a handle; an empty handle is refused (B1)
abbrev pub ExecutesLine : Option Machine → List ℕ → List ℕ → CountResult → List ℕ → Option Machine → Type 0
ExecutesLine None line old r written new = (r ≡ record { refusal = spelled (codes "B1"); count = 0 }) × (written ≡ old) × (new ≡ None)
ExecutesLine (Some m) line old r written new = (n : Machine) × ExecutesFor m line old r written n × (new ≡ Some n)
