-- Another kernel's answer to one step or question, compared with the machine's (this profile's own).
use Rattle.std.specs.Prelude.{ℕ, ◌≡◌, ◌+◌, ◌==◌, List, [], ◌∷◌, length, map, Option, Some, None, option_map, MatchOption, Result, Ok, Err, if◌then◌else◌}
use Rattle.l4_ipc.specs.Machine.{Machine}
use Rattle.l4_ipc.specs.Steps.{IsNext, IsIdle}
use Rattle.l4_text.specs.Tokens.{tokens_of}
use Rattle.l4_step_lines.specs.declared.requests.Request.{Request}
use Rattle.l4_judging.specs.declared.watching.Difference.{Difference}
use Rattle.l4_judging.specs.declared.watching.Judgement.{Judgement}
use Rattle.l4_judging.specs.declared.watching.Unjudged.{Unjudged}
use Rattle.l4_judging.specs.declared.watching.Unjudged.TheVariants.{Unread, Memory}
use Rattle.l4_text.specs.Grammar.{lines_of}
use Rattle.l4_step_lines.specs.Lists.{Answers}
use Rattle.l4_step_lines.specs.Requests.{request_of}
use Rattle.l4_answers.specs.Lines.{first_line, later_lines}
use Rattle.l4_judging.specs.Judging.{has_said}

-- the lines of an answer, of which the last need not end with a newline
abbrev pub said_lines : List ℕ → List (List ℕ)
said_lines text = map (λ line. line.bytes) (lines_of text)

-- The place of the first line of an answer that is not the line due there, and the line due there. The first line has this place. Where more
-- lines are due than the answer has, it differs behind its last line.
abbrev pub differs_from : ℕ → List ℕ → List (List ℕ) → Option (ℕ × List ℕ)
differs_from place due [] = if length due == 0 then None else Some (place, first_line due)
differs_from place due (said ∷ lines) = if has_said due said then differs_from (place + 1) (later_lines due) lines else Some (place, first_line due)

abbrev pub parts_of : Difference → ℕ × List ℕ
parts_of difference = (difference.place, difference.expected.items)

-- the machine does what the line asks for, and this is its answer
abbrev pub Executes : Machine → List ℕ → List ℕ → Machine → Type 0
Executes old line text new = (request : Request) × (request_of (tokens_of line) ≡ Some request) × Answers old request text new

-- Why there is no answer: the line asks for nothing, and nothing has changed; or there is no memory for it, and the machine has done what the
-- line asks for.
abbrev pub HasNoAnswer : Machine → List ℕ → Unjudged → Machine → Type 0
HasNoAnswer old line Unread new = (request_of (tokens_of line) ≡ None) × (new ≡ old)
HasNoAnswer old line Memory new = (text : List ℕ) × Executes old line text new

-- The machine does what the line asks for, and the answer is compared with the machine's. A line that asks for nothing changes nothing. Where
-- there is no memory for the comparison, the machine has done what the line asks for.
abbrev pub JudgesStep : Machine → List ℕ → List ℕ → Result Judgement Unjudged → Machine → Type 0
JudgesStep old line said (Ok judgement) new =
    (request : Request) × (request_of (tokens_of line) ≡ Some request) × (text : List ℕ) × Answers old request text new
    × (option_map parts_of judgement.difference ≡ differs_from 0 text (said_lines said)) × MatchOption judgement.next (IsIdle new) (IsNext new)
JudgesStep old line said (Err Unread) new = (request_of (tokens_of line) ≡ None) × (new ≡ old)
JudgesStep old line said (Err Memory) new = (request : Request) × (request_of (tokens_of line) ≡ Some request) × (text : List ℕ) × Answers old request text new
