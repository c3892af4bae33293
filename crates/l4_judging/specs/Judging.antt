-- What is reported of a list of steps and queries with another kernel's answers (this profile's own).
use Rattle.std.specs.Prelude.{ℕ, ◌≡◌, ◌+◌, ◌==◌, ◌||◌, ◌&&◌, ◌⊎◌, not, Bool, true, false, List, [], ◌∷◌, ◌++◌, length, filter, codes, decimal, Option, Some, None, is_none, option_map, MatchOption, Result, Ok, Err, if◌then◌else◌}
use Rattle.std.specs.FinMap as fin
use Rattle.std.specs.Str.{bytes_eq}
use Rattle.std.specs.Io.KnownBytes.{Consumes, Appends, IsAtEnd}
use Rattle.l4_answers.specs.Replies.{newline}
use Rattle.l4_fpage.specs.declared.sizes.PageSize.{PageSize}
use Rattle.l4_ipc.specs.declared.steps.Step.{Step}
use Rattle.l4_ipc.specs.Machine.{Machine, IsBoot}
use Rattle.l4_ipc.specs.Steps.{IsNext, IsIdle}
use Rattle.l4_answers.specs.Lines.{first_line, later_lines, is_next}
use Rattle.l4_text.specs.Streams.{WentOut}
use Rattle.l4_text.specs.declared.lines.Ending.{Ending}
use Rattle.l4_text.specs.declared.lines.Ending.TheVariants.{Whole, Cut as IsCut}
use Rattle.l4_text.specs.declared.faults.RunFault.TheVariants.{Read, Write, Memory}
use Rattle.l4_text.specs.Grammar.{TextLine, lines_of, ending_of}
use Rattle.l4_step_lines.specs.declared.requests.Request.{Request}
use Rattle.l4_step_lines.specs.declared.requests.Request.TheVariants.{Do}
use Rattle.l4_step_lines.specs.declared.running.Fault.{Fault}
use Rattle.l4_step_lines.specs.declared.running.Fault.TheVariants.{Stopped}
use Rattle.l4_step_lines.specs.Answers.{next_name}
use Rattle.l4_step_lines.specs.Lists.{asked_at, Answers}
use Rattle.l4_judging.specs.declared.expected.Expected.{Expected}
use Rattle.l4_judging.specs.declared.judging.Judged.{Judged}
use Rattle.l4_judging.specs.declared.judging.JudgeFault.{JudgeFault}
use Rattle.l4_judging.specs.declared.judging.JudgeFault.TheVariants.{List as OfList, NoStep, Empty, Uncompared}
use Rattle.l4_judging.specs.declared.judging.Wanted.{Wanted}
use Rattle.l4_judging.specs.Calls.{Calls, starts_call, calls_of, with_last}

-- AN ANSWER OF THE LIST

-- what stands behind `# `; other comments are skipped
abbrev pub said_in : List ℕ → Option (List ℕ)
said_in (first ∷ second ∷ said) = if first == 35 && second == 32 then Some said else None
said_in bytes = None

-- stands for any line of an answer
abbrev pub is_unknown : List ℕ → Bool
is_unknown said = bytes_eq said (codes "?")

-- WHAT IS EXPECTED BELOW A STEP OR QUERY

-- an answer is the first line that is due, or stands for it
abbrev pub has_said : List ℕ → List ℕ → Bool
has_said due said = if length due == 0 then false else is_unknown said || bytes_eq said (first_line due)

-- the machine's answer to the request of the line with this number, of which nothing was compared yet, the last calls of the threads that it names,
-- and the step that is enabled after it
pub record IsExpected (old : Machine) (calls : Calls) (request : Request) (number : ℕ) (line : List ℕ) (expected : Expected) (new : Machine) : Type 0 where
  pub answers : Answers old request expected.due new
  pub next : MatchOption expected.next (IsIdle new) (IsNext new)
  pub line_is : expected.line.items ≡ line
  pub calls_are : expected.calls.items ≡ calls_of calls request
  pub last : expected.last ≡ number
  pub none : expected.answered ≡ false

-- what is expected after the answer at this line
abbrev pub after_answer : Expected → ℕ → Expected
after_answer expected number = record { line = expected.line; due = later_lines expected.due; calls = expected.calls; next = expected.next; last = number; answered = true }

-- DIFFERENCES

-- behind K1, the step that is enabled
abbrev pub hint : List ℕ → Option Step → List ℕ
hint first next = if bytes_eq first (codes "refused K1") then codes " (enabled " ++ next_name next ++ codes ")" else []

abbrev pub wanted : List ℕ → Option Step → List ℕ
wanted due next = if length due == 0 then codes "no further answer" else first_line due ++ hint (first_line due) next

-- something else was expected than what was found at this line; the last calls follow
abbrev pub difference : Expected → ℕ → List ℕ → List ℕ
difference expected number found =
    codes "line " ++ decimal number ++ codes ": " ++ expected.line.items ++ codes ": expected " ++ wanted expected.due expected.next ++ codes ", found " ++ found ++ newline
    ++ expected.calls.items

-- lines are due that the list does not give; where answers may be left out, only if it gives others
abbrev pub lacks : Bool → Expected → Bool
lacks partial expected = if length expected.due == 0 then false else expected.answered || not partial

abbrev pub no_answer : Bool → List ℕ
no_answer answered = if answered then codes "no further answer" else codes "no answer"

abbrev pub lack_of : Bool → Expected → List ℕ
lack_of partial expected = if lacks partial expected then difference expected expected.last (no_answer expected.answered) else []

-- where a step, a query or the end follows, of the answers above it
abbrev pub is_short : Bool → Option Expected → Bool
is_short partial None = false
is_short partial (Some expected) = lacks partial expected

abbrev pub short_text : Bool → Option Expected → List ℕ
short_text partial None = []
short_text partial (Some expected) = lack_of partial expected

-- REQUESTS

-- after a difference nothing more is judged, unless all are wanted
abbrev pub stops : Bool → Bool → Bool
stops all differs = differs && not all

-- the first of the requests that are left, each with a newline
abbrev pub wanted_request : List ℕ → List ℕ
wanted_request requests = if length requests == 0 then codes "the end of the list" else first_line requests

-- another request was found at this line
abbrev pub other_request : List ℕ → ℕ → List ℕ → List ℕ
other_request requests number found = codes "line " ++ decimal number ++ codes ": " ++ codes "expected " ++ wanted_request requests ++ codes ", found " ++ found ++ newline

-- a request is the first of those that are left; if none are given, or a report has ended the list, each is
abbrev pub is_wanted : Bool → Option (List ℕ) → List ℕ → Bool
is_wanted ended None line = true
is_wanted ended (Some requests) line = ended || is_next line requests

abbrev pub other_text : Bool → Option (List ℕ) → ℕ → List ℕ → List ℕ
other_text ended None number line = []
other_text ended (Some requests) number line = if ended || is_next line requests then [] else other_request requests number line

-- at the end no request is left
abbrev pub has_all : Bool → Option (List ℕ) → Bool
has_all ended None = true
has_all ended (Some requests) = ended || length requests == 0

abbrev pub missing_text : Bool → Option (List ℕ) → ℕ → List ℕ
missing_text ended None number = []
missing_text ended (Some requests) number = if ended || length requests == 0 then [] else other_request requests number (codes "the end of the list")

-- THE LINES OF A LIST

abbrev pub answer_count : List ℕ → ℕ
answer_count said = if is_unknown said then 0 else 1

abbrev pub step_count : Request → ℕ
step_count (Do step) = 1
step_count request = 0

-- an answer was compared
abbrev pub with_answer : Judged → Expected → ℕ → List ℕ → Judged
with_answer judged expected number said = record {
  alloc = judged.alloc;
  requests = judged.requests;
  partial = judged.partial;
  all = judged.all;
  keeps_calls = judged.keeps_calls;
  calls = judged.calls;
  expected = Some (after_answer expected number);
  steps = judged.steps;
  answers = judged.answers + answer_count said;
  differs = judged.differs || not (has_said expected.due said);
}

-- the report that the answers above are too few ends the list
abbrev pub ends_short : Judged → Bool
ends_short judged = stops judged.all (is_short judged.partial judged.expected)

-- a request was executed, of which so many steps are counted and below which this is expected
abbrev pub with_request : Judged → ℕ → Expected → Judged
with_request judged steps expected = record {
  alloc = judged.alloc;
  requests = option_map later_lines judged.requests;
  partial = judged.partial;
  all = judged.all;
  keeps_calls = judged.keeps_calls;
  calls = judged.calls;
  expected = Some expected;
  steps = judged.steps + steps;
  answers = judged.answers;
  differs = (judged.differs || is_short judged.partial judged.expected) || not (is_wanted (ends_short judged) judged.requests expected.line.items);
}

-- the call that a request starts is the last one of its thread
abbrev pub with_call : Judged → Option ℕ → ℕ → List ℕ → Judged
with_call judged caller number line = record {
  alloc = judged.alloc;
  requests = judged.requests;
  partial = judged.partial;
  all = judged.all;
  keeps_calls = judged.keeps_calls;
  calls = with_last judged.keeps_calls judged.calls caller number line;
  expected = judged.expected;
  steps = judged.steps;
  answers = judged.answers;
  differs = judged.differs;
}

-- what is reported of a request
abbrev pub request_report : Judged → Expected → List ℕ
request_report judged expected =
    short_text judged.partial judged.expected ++ other_text (ends_short judged) judged.requests expected.last expected.line.items

-- an answer below a step or query
abbrev pub JudgesAnswer : Judged → Option Expected → ℕ → List ℕ → List ℕ → Judged → Type 0
JudgesAnswer old None number said text new = ⊥
JudgesAnswer old (Some expected) number said text new =
    (text ≡ (if has_said expected.due said then [] else difference expected number said)) × (new ≡ with_answer old expected number said)

-- the request of the line with this number, below which answers can follow
abbrev pub JudgesRequest : Machine → Judged → Request → ℕ → List ℕ → List ℕ → Machine → Judged → Type 0
JudgesRequest m old request number line text n new =
    (expected : Expected) × IsExpected m old.calls request number line expected n × (text ≡ request_report old expected)
    × (new ≡ with_request (with_call old (starts_call request) number line) (step_count request) expected)

abbrev pub JudgesAsked : Machine → Judged → Result (Option Request) Fault → ℕ → List ℕ → List ℕ → Machine → Judged → Type 0
JudgesAsked m old (Ok None) number line text n new = (text ≡ []) × (n ≡ m) × (new ≡ old)
JudgesAsked m old (Ok (Some request)) number line text n new = JudgesRequest m old request number line text n new
JudgesAsked m old (Err fault) number line text n new = ⊥

abbrev pub JudgesSaid : Machine → Judged → ℕ → Option (List ℕ) → List ℕ → List ℕ → Machine → Judged → Type 0
JudgesSaid m old number (Some said) line text n new = JudgesAnswer old old.expected number said text new × (n ≡ m)
JudgesSaid m old number None line text n new = JudgesAsked m old (asked_at number Whole line) number line text n new

-- the line of this number and ending; one that ends the list is not judged
abbrev pub JudgesAt : Machine → Judged → ℕ → Ending → List ℕ → List ℕ → Machine → Judged → Type 0
JudgesAt m old number Whole line text n new = JudgesSaid m old number (said_in line) line text n new
JudgesAt m old number ending line text n new = ⊥

-- lines, of which the first has this number, one after another; none is judged after the difference that ends the list
abbrev pub JudgesLines : Machine → Judged → ℕ → List TextLine → List ℕ → Machine → Judged → Type 0
JudgesLines m old number [] text n new = (text ≡ []) × (n ≡ m) × (new ≡ old)
JudgesLines m old number (line ∷ lines) text n new =
    (stops old.all old.differs ≡ false) × (first : List ℕ) × (rest : List ℕ) × (between : Machine) × (then' : Judged)
    × JudgesAt m old number (ending_of line) line.bytes first between then' × JudgesLines between then' (number + 1) lines rest n new × (text ≡ first ++ rest)

-- THE END OF A LIST

-- what is reported where the list ends, before the line of this number
abbrev pub end_report : Judged → ℕ → List ℕ
end_report judged number = short_text judged.partial judged.expected ++ missing_text (ends_short judged) judged.requests number

-- something differs in the list, or at its end
abbrev pub differs_at_end : Judged → Bool
differs_at_end judged = (judged.differs || is_short judged.partial judged.expected) || not (has_all (ends_short judged) judged.requests)

-- A list agrees if nothing differs, and if it has a step or query, and an answer that was compared.
abbrev pub verdict_of : Bool → Judged → ℕ → Result Bool JudgeFault
verdict_of differs judged number =
    if differs then Ok false else (if is_none judged.expected then Err (Empty number) else (if judged.answers == 0 then Err Uncompared else Ok true))

abbrev pub is_agreement : Result Bool JudgeFault → Bool
is_agreement (Ok agrees) = agrees
is_agreement (Err fault) = false

-- the ending of a noun that follows a number
abbrev pub plural : ℕ → List ℕ
plural number = if number == 1 then [] else codes "s"

abbrev pub agreement_text : ℕ → ℕ → List ℕ
agreement_text steps answers =
    codes "agrees: " ++ decimal steps ++ codes " step" ++ plural steps ++ codes ", " ++ decimal answers ++ codes " answer" ++ plural answers ++ newline

-- `agrees` with the counts, where the list agrees
abbrev pub agreed_text : Result Bool JudgeFault → Judged → List ℕ
agreed_text verdict judged = if is_agreement verdict then agreement_text judged.steps judged.answers else []

-- A RUN

pub record IsStart (wanted : Wanted) (judged : Judged) : Type 0 where
  pub requests : judged.requests ≡ wanted.requests
  pub partial : judged.partial ≡ wanted.partial
  pub all : judged.all ≡ wanted.all
  pub keeps_calls : judged.keeps_calls ≡ wanted.calls
  pub calls : judged.calls ≡ fin.empty
  pub expected : judged.expected ≡ None
  pub steps : judged.steps ≡ 0
  pub answers : judged.answers ≡ 0
  pub differs : judged.differs ≡ false

-- of the lines that were read the first are judged, over a machine with so many frames of this size as it boots, and the later ones are not
pub record JudgesFirst (frames : ℕ) (size : PageSize) (wanted : Wanted) (old new : Option (List ℕ)) : Type 0 where
  pub read : List ℕ
  pub from : Consumes old new read
  pub lines : List TextLine
  pub later : List TextLine
  pub parts : lines_of read ≡ lines ++ later
  pub boot : Machine
  pub boots : IsBoot frames boot
  pub sized : boot.size ≡ size
  pub start : Judged
  pub starts : IsStart wanted start
  pub last : Machine
  pub judged : Judged
  pub text : List ℕ
  pub judges : JudgesLines boot start 1 lines text last judged

-- why the line of this number and ending ends the list
abbrev pub EndsAt : Judged → ℕ → Ending → List ℕ → JudgeFault → Type 0
EndsAt judged number ending line (OfList fault) = asked_at number ending line ≡ Err fault
EndsAt judged number ending line (NoStep n) = (n ≡ number) × (ending ≡ Whole) × (judged.expected ≡ None) × (said : List ℕ) × (said_in line ≡ Some said)
EndsAt judged number ending line fault = ⊥

-- the first of the later lines, which has this number, ends the list; if it is cut, the input ends with it
abbrev pub EndsWith : Judged → ℕ → List TextLine → Option (List ℕ) → JudgeFault → Type 0
EndsWith judged number [] new fault = ⊥
EndsWith judged number (line ∷ lines) new fault = EndsAt judged number (ending_of line) line.bytes fault × (ending_of line ≡ IsCut → IsAtEnd new)

-- a difference ended it, and the rest was read to its end
abbrev pub EndsByDifference : Judged → Option (List ℕ) → List ℕ → Result Bool JudgeFault → List ℕ → Type 0
EndsByDifference judged new text result told = (stops judged.all judged.differs ≡ true) × IsAtEnd new × (result ≡ Ok false) × (told ≡ text)

-- all of it was judged
abbrev pub EndsAtEnd : Judged → ℕ → List TextLine → Option (List ℕ) → List ℕ → Result Bool JudgeFault → List ℕ → Type 0
EndsAtEnd judged number later new text result told =
    (stops judged.all judged.differs ≡ false) × (later ≡ []) × IsAtEnd new × (result ≡ verdict_of (differs_at_end judged) judged number)
    × (told ≡ text ++ end_report judged number ++ agreed_text result judged)

-- a line ended it
abbrev pub EndsByLine : Judged → ℕ → List TextLine → Option (List ℕ) → List ℕ → Result Bool JudgeFault → List ℕ → Type 0
EndsByLine judged number later new text result told =
    (stops judged.all judged.differs ≡ false) × (fault : JudgeFault) × EndsWith judged number later new fault × (result ≡ Err fault) × (told ≡ text)

-- a read failed, when every whole line was judged or after a difference
abbrev pub EndsUnread : Judged → List TextLine → List ℕ → Result Bool JudgeFault → List ℕ → Type 0
EndsUnread judged later text result told =
    ((stops judged.all judged.differs ≡ true) ⊎ (filter (λ line. line.whole) later ≡ [])) × (result ≡ Err (OfList (Stopped Read))) × (told ≡ text)

-- memory ran out at a step or query, which is not judged
abbrev pub EndsFull : Judged → List ℕ → Result Bool JudgeFault → List ℕ → Type 0
EndsFull judged text result told = (stops judged.all judged.differs ≡ false) × (result ≡ Err (OfList (Stopped Memory))) × (told ≡ text)

-- how a list ends, and all that is told of it. What is told of the lines that were judged is given. The next line has this number.
abbrev pub Ends : Judged → ℕ → List TextLine → Option (List ℕ) → List ℕ → Result Bool JudgeFault → List ℕ → Type 0
Ends judged number later new text result told =
    EndsByDifference judged new text result told ⊎ (EndsAtEnd judged number later new text result told
    ⊎ (EndsByLine judged number later new text result told ⊎ (EndsUnread judged later text result told ⊎ EndsFull judged text result told)))

-- a write failed
abbrev pub IsUnwritten : Result Bool JudgeFault → Type 0
IsUnwritten result = result ≡ Err (OfList (Stopped Write))

-- What a run judges of what it reads, and what goes out of what it tells: all of it, unless a write fails. Memory may run out before all else.
abbrev pub Judges : ℕ → PageSize → Wanted → Option (List ℕ) → Option (List ℕ) → Option (List ℕ) → Option (List ℕ) → Result Bool JudgeFault → Type 0
Judges frames size wanted old new written now result =
    ((new ≡ old) × (now ≡ written) × (result ≡ Err (OfList (Stopped Memory))))
    ⊎ ((f : JudgesFirst frames size wanted old new) × (told : List ℕ)
    × ((Ends f.judged (1 + length f.lines) f.later new f.text result told × Appends written now told)
    ⊎ (IsUnwritten result × ((told ≡ f.text) ⊎ ((ended : Result Bool JudgeFault) × Ends f.judged (1 + length f.lines) f.later new f.text ended told)) × WentOut written now told)))
