-- What is told of a judged list before what is held back goes out.
use Rattle.std.specs.Prelude.{ℕ, ◌≡◌, ◌+◌, ◌⊎◌, Bool, true, false, List, [], ◌++◌, length, Option, None, Result, Ok, Err}
use Rattle.std.specs.Io.KnownBytes.{Consumes, IsAtEnd}
use Rattle.l4_ipc.specs.Machine.{Machine}
use Rattle.l4_text.specs.Grammar.{TextLine, lines_of}
use Rattle.l4_text.specs.Streams.{Tells}
use Rattle.l4_text.specs.declared.lines.Ending.{Ending}
use Rattle.l4_text.specs.declared.lines.Ending.TheVariants.{Whole, Long as TooLong, Cut as IsCut}
use Rattle.l4_text.specs.declared.faults.RunFault.TheVariants.{Read, Write, Memory}
use Rattle.l4_step_lines.specs.declared.running.Fault.{Fault}
use Rattle.l4_step_lines.specs.declared.running.Fault.TheVariants.{Stopped, Cut, Long}
use Rattle.l4_judging.specs.declared.expected.Expected.{Expected}
use Rattle.l4_judging.specs.declared.judging.Judged.{Judged}
use Rattle.l4_judging.specs.declared.judging.JudgeFault.{JudgeFault}
use Rattle.l4_judging.specs.declared.judging.JudgeFault.TheVariants.{List as OfList}
use Rattle.l4_judging.specs.Requests.{request_text}
use Rattle.l4_judging.specs.Judging.{with_request, request_report, end_report, differs_at_end, verdict_of, agreed_text, JudgesAnswer, JudgesAt, JudgesLines, EndsAt, Ends, IsUnwritten}

-- the ending of a line ends the list, or doesn't
abbrev pub EndsBy : ℕ → Ending → Result (Unit {0}) Fault → Type 0
EndsBy number ending (Ok u) = ending ≡ Whole
EndsBy number ending (Err fault) = ((ending ≡ TooLong) × (fault ≡ Long number)) ⊎ ((ending ≡ IsCut) × (fault ≡ Cut number))

-- the request of a line was kept behind others, or there was no memory
abbrev pub KeepsLine : List ℕ → List ℕ → List ℕ → Bool → Type 0
KeepsLine old line new true = new ≡ old ++ request_text line
KeepsLine old line new false = Unit {0}

-- an answer was judged, unless there is no step above it
abbrev pub MatchesAnswer : Judged → Judged → ℕ → List ℕ → Option (List ℕ) → Option (List ℕ) → List ℕ × Bool → List ℕ × Bool → Bool → Type 0
MatchesAnswer old new number said written now before after true = (text : List ℕ) × JudgesAnswer old old.expected number said text new × Tells written now before after text
MatchesAnswer old new number said written now before after false = (old.expected ≡ None) × (new ≡ old) × Tells written now before after []

-- a step or query was judged
abbrev pub TellsRequest : Judged → Judged → ℕ → Expected → Option (List ℕ) → Option (List ℕ) → List ℕ × Bool → List ℕ × Bool → Type 0
TellsRequest old new steps expected written now before after = (new ≡ with_request old steps expected) × Tells written now before after (request_report old expected)

-- a line was judged, or ends the list, or there was no memory
abbrev pub TellsJudged : Machine → Machine → Judged → Judged → ℕ → List ℕ → Option (List ℕ) → Option (List ℕ) → List ℕ × Bool → List ℕ × Bool → Result (Unit {0}) JudgeFault → Type 0
TellsJudged m n old new number line written now before after (Ok u) = (text : List ℕ) × JudgesAt m old number Whole line text n new × Tells written now before after text
TellsJudged m n old new number line written now before after (Err fault) =
    (EndsAt old number Whole line fault ⊎ (fault ≡ OfList (Stopped Memory))) × Tells written now before after []

-- the end of a list was judged
abbrev pub TellsEnd : Judged → ℕ → Option (List ℕ) → Option (List ℕ) → List ℕ × Bool → List ℕ × Bool → Result Bool JudgeFault → Type 0
TellsEnd judged number written now before after result =
    (result ≡ verdict_of (differs_at_end judged) judged number) × Tells written now before after (end_report judged number ++ agreed_text result judged)

-- a stream was read to its end, or a read failed
abbrev pub SkipsRest : Option (List ℕ) → Option (List ℕ) → Bool → Type 0
SkipsRest old new true = (read : List ℕ) × Consumes old new read × IsAtEnd new
SkipsRest old new false = (read : List ℕ) × Consumes old new read

-- a list that a difference ended was read to its end, or a read failed
abbrev pub EndsEarly : Option (List ℕ) → Option (List ℕ) → Option (List ℕ) → Option (List ℕ) → List ℕ × Bool → List ℕ × Bool → Result Bool JudgeFault → Type 0
EndsEarly old new written now before after result =
    (read : List ℕ) × Consumes old new read × (((result ≡ Ok false) × IsAtEnd new) ⊎ (result ≡ Err (OfList (Stopped Read)))) × Tells written now before after []

-- of the lines that were read the first were judged
pub record JudgesSome (m : Machine) (start : Judged) (old new : Option (List ℕ)) : Type 0 where
  pub read : List ℕ
  pub from : Consumes old new read
  pub lines : List TextLine
  pub later : List TextLine
  pub parts : lines_of read ≡ lines ++ later
  pub last : Machine
  pub judged : Judged
  pub text : List ℕ
  pub judges : JudgesLines m start 1 lines text last judged

-- the lines of a list were judged until it ended, or until a write failed
abbrev pub TellsLines : Machine → Judged → Option (List ℕ) → Option (List ℕ) → Option (List ℕ) → Option (List ℕ) → List ℕ × Bool → List ℕ × Bool → Result Bool JudgeFault → Type 0
TellsLines m start old new written now before after result =
    (j : JudgesSome m start old new) × (told : List ℕ)
    × (Ends j.judged (1 + length j.lines) j.later new j.text result told ⊎ (IsUnwritten result × (told ≡ j.text))) × Tells written now before after told
