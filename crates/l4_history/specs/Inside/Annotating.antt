-- The lines of a script that were answered with annotations so far.
use Rattle.std.specs.Prelude.{ℕ, ◌≡◌, ◌⊎◌, Bool, true, false, List, [], ◌++◌, length, filter, Option, None, is_some, Result, Ok, Err, if◌then◌else◌}
use Rattle.std.specs.List.{All}
use Rattle.std.specs.Io.KnownBytes.{Consumes, IsAtEnd}
use Rattle.l4_fpage.specs.declared.sizes.PageSize.{PageSize}
use Rattle.l4_answers.specs.Reports.{Report}
use Rattle.l4_text.specs.Grammar.{TextLine, lines_of, is_comment}
use Rattle.l4_text.specs.Streams.{Tells}
use Rattle.l4_text.specs.declared.faults.RunFault.{RunFault}
use Rattle.l4_text.specs.declared.faults.RunFault.TheVariants.{Read, Write, Memory}
use Rattle.l4_text.specs.declared.lines.Ending.{Ending}
use Rattle.l4_commands.specs.Requests.{asked_at}
use Rattle.l4_shell.specs.Sessions.{State, AnswersLine}
use Rattle.l4_sinks.specs.Scripts.{StopsAtRefusal}
use Rattle.l4_sinks.specs.Texts.{AreAnswerTexts, last_refusal}
use Rattle.l4_sinks.specs.declared.scripts.Ended.{Ended}
use Rattle.l4_history.specs.Annotations.{number_text, tells_transfer, Annotates, AnnotatesPart, AnnotatesLines, IsNextPart}
use Rattle.l4_record.specs.declared.entries.Entry.{Entry}
use Rattle.l4_history.specs.declared.moves.Follower.{Follower}

-- why a line was refused, if that ends a strict script
abbrev pub refusal_of : Bool → List Report → Option (List ℕ)
refusal_of strict told = if strict then last_refusal None told else None

-- the line of this number was answered, and this is the text of its answers
pub record Answered (explains : Option PageSize) (strict : Bool) (m : State) (line : ℕ) (ending : Ending) (bytes text : List ℕ) (refused : Option (List ℕ)) (n : State) : Type 0 where
  pub told : List Report
  pub answers : AnswersLine m line (asked_at m.session.machine.size m.names ending bytes) told n
  pub texts : AreAnswerTexts explains told text
  pub refused_is : refused ≡ refusal_of strict told

-- it was answered with annotations, and the text of these was told
pub record TellsLine (explains : Option PageSize) (strict numbers : Bool) (m : State) (line : ℕ) (ending : Ending) (bytes : List ℕ) (follower : Option Follower) (refused : Option (List ℕ)) (n : State) (after : Option Follower) (written now : Option (List ℕ)) (before out : List ℕ × Bool) : Type 0 where
  pub plain : List ℕ
  pub answered : Answered explains strict m line ending bytes plain refused n
  pub text : List ℕ
  pub annotated : Annotates numbers line n.session.history follower (lines_of plain) text after
  pub tells : Tells written now before out text

-- the line was answered, and memory ran out in the annotations
pub record TellsSome (explains : Option PageSize) (strict numbers : Bool) (m : State) (line : ℕ) (ending : Ending) (bytes : List ℕ) (follower : Option Follower) (text : List ℕ) : Type 0 where
  pub plain : List ℕ
  pub refused : Option (List ℕ)
  pub n : State
  pub answered : Answered explains strict m line ending bytes plain refused n
  pub part : AnnotatesPart numbers line n.session.history follower (lines_of plain) text

-- what was told when memory ran out in a line: nothing, or a part of the text of its answers
abbrev pub RanOut : Option PageSize → Bool → Bool → State → ℕ → Ending → List ℕ → Option Follower → Option (List ℕ) → Option (List ℕ) → List ℕ × Bool → List ℕ × Bool → RunFault → Type 0
RanOut explains strict numbers m line ending bytes follower written now before out fault =
    (fault ≡ Memory)
    × ((text : List ℕ) × ((text ≡ []) ⊎ TellsSome explains strict numbers m line ending bytes follower text) × Tells written now before out text)

-- what was told when memory ran out in the annotations of answers
abbrev pub RanOutIn : Bool → ℕ → List Entry → Option Follower → List TextLine → Option (List ℕ) → Option (List ℕ) → List ℕ × Bool → List ℕ × Bool → RunFault → Type 0
RanOutIn numbers line history follower answers written now before out fault =
    (fault ≡ Memory) × ((text : List ℕ) × AnnotatesPart numbers line history follower answers text × Tells written now before out text)

-- what was told when memory ran out below an answer: its number and the answer, about a transfer whose moves are written
abbrev pub RanOutBelow : Bool → ℕ → Option Follower → List ℕ → Option (List ℕ) → Option (List ℕ) → List ℕ × Bool → List ℕ × Bool → RunFault → Type 0
RanOutBelow numbers line follower bytes written now before out fault =
    (fault ≡ Memory) × (is_comment bytes ≡ false) × (tells_transfer bytes ≡ true) × (is_some follower ≡ true)
    × Tells written now before out (number_text numbers line ++ bytes)

-- the first lines that were read were answered with annotations, and this left this session
pub record TellsFirst (explains : Option PageSize) (strict numbers : Bool) (m n : State) (follower after : Option Follower) (old new : Option (List ℕ)) : Type 0 where
  pub read : List ℕ
  pub from : Consumes old new read
  pub lines : List TextLine
  pub later : List TextLine
  pub parts : lines_of read ≡ lines ++ later
  pub sure : All (λ line. line.whole ≡ true) lines ⊎ IsAtEnd new
  pub told : List Report
  pub text : List ℕ
  pub annotates : AnnotatesLines explains numbers m 1 follower lines told text n after
  pub stops : strict ≡ true → StopsAtRefusal (length lines) told

module _ (explains : Option PageSize) (strict numbers : Bool) (m : State) (follower : Option Follower) (old new : Option (List ℕ)) (written now : Option (List ℕ)) (before out : List ℕ × Bool) where
  abbrev pub Some' : Type 0
  Some' = (n : State) × (after : Option Follower) × TellsFirst explains strict numbers m n follower after old new

  -- all lines were answered, or a refused one ended the script; or all whole lines; or, before a fault, the first lines and a part of the next one
  abbrev pub TellsLines : Result Ended RunFault → Type 0
  TellsLines (Ok ended) =
      (s : Some') × Tells written now before out s.2.text × (ended.lines ≡ length s.2.lines) × (ended.refused ≡ refusal_of strict s.2.told)
      × ((IsAtEnd new × (s.2.lines ≡ lines_of s.2.read)) ⊎ (is_some ended.refused ≡ true))
  TellsLines (Err Read) = (s : Some') × Tells written now before out s.2.text × (s.2.lines ≡ filter (λ line. line.whole) (lines_of s.2.read))
  TellsLines (Err Write) = (s : Some') × Tells written now before out s.2.text × (out.1 ≡ true)
  TellsLines (Err Memory) =
      (s : Some') × (more : List ℕ) × IsNextPart explains strict numbers s.0 s.1 s.2.lines s.2.later s.2.told new more × Tells written now before out (s.2.text ++ more)
