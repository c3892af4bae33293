-- The answers of a script with the numbers of their lines, and with the pages that transfers moved (this profile's own).
use Rattle.std.specs.Prelude.{ℕ, ◌≡◌, ◌+◌, ◌==◌, ◌⊎◌, Bool, true, false, List, [], ◌∷◌, ◌++◌, length, filter, drop, codes, decimal, Option, Some, None, is_some, Result, Ok, Err, if◌then◌else◌}
use Rattle.std.specs.List.{All, starts_with}
use Rattle.std.specs.Io.KnownBytes.{Consumes, Appends, IsAtEnd}
use Rattle.l4_fpage.specs.declared.sizes.PageSize.{PageSize}
use Rattle.l4_ipc.specs.Machine.{Machine, IsBoot}
use Rattle.l4_record.specs.declared.entries.Entry.{Entry}
use Rattle.l4_answers.specs.Reports.{Report, has_refusal}
use Rattle.l4_answers.specs.Replies.{newline}
use Rattle.l4_text.specs.Grammar.{TextLine, lines_of, is_comment}
use Rattle.l4_text.specs.Streams.{WentOut}
use Rattle.l4_text.specs.declared.faults.RunFault.{RunFault}
use Rattle.l4_text.specs.declared.faults.RunFault.TheVariants.{Read, Write, Memory}
use Rattle.l4_commands.specs.Requests.{asked_of}
use Rattle.l4_shell.specs.Sessions.{State, first_state, AnswersLine}
use Rattle.l4_sinks.specs.Scripts.{explains_by, StopsAtRefusal}
use Rattle.l4_sinks.specs.Texts.{AreAnswerTexts, last_refusal}
use Rattle.l4_sinks.specs.declared.scripts.Ended.{Ended}
use Rattle.l4_history.specs.Moves.{NextMoves}
use Rattle.l4_history.specs.declared.annotating.Annotations.{Annotations}
use Rattle.l4_history.specs.declared.moves.Follower.{Follower}

-- THE ANSWERS TO ONE LINE

-- the number of a script's line before an answer, if numbers are written
abbrev pub number_text : Bool → ℕ → List ℕ
number_text false line = []
number_text true line = decimal line ++ codes ": "

-- a line of a text, with its newline
abbrev pub line_text : TextLine → List ℕ
line_text line = line.bytes ++ (if line.whole then newline else [])

-- the line says what happened to a transfer
abbrev pub tells_transfer : List ℕ → Bool
tells_transfer bytes = starts_with ◌==◌ bytes (codes "transfer ")

-- The text of the moves below a line of answers. If it tells of a transfer, and a second kernel follows the script, they are those of the next
-- transfer of the history.
abbrev pub HasMoves : Bool → List Entry → Option Follower → List ℕ → Option Follower → Type 0
HasMoves false history follower moves after = (moves ≡ []) × (after ≡ follower)
HasMoves true history None moves after = (moves ≡ []) × (after ≡ None)
HasMoves true history (Some follower) moves after =
    (new : Follower) × (after ≡ Some new) × NextMoves (drop follower.next history) follower.kernel follower.next moves new.kernel new.next

-- A line of answers with its annotations: the number before it and the moves below it. A line that explains an answer has none.
abbrev pub IsAnnotated : Bool → ℕ → List Entry → Option Follower → Bool → List ℕ → List ℕ → Option Follower → Type 0
IsAnnotated numbers line history follower true bytes text after = (text ≡ bytes) × (after ≡ follower)
IsAnnotated numbers line history follower false bytes text after =
    (moves : List ℕ) × HasMoves (tells_transfer bytes) history follower moves after × (text ≡ number_text numbers line ++ (bytes ++ moves))

-- the answers to the script's line with this number, one after another; the history is that after this line
abbrev pub Annotates : Bool → ℕ → List Entry → Option Follower → List TextLine → List ℕ → Option Follower → Type 0
Annotates numbers line history follower [] text after = (text ≡ []) × (after ≡ follower)
Annotates numbers line history follower (answer ∷ answers) text after =
    (first : List ℕ) × (rest : List ℕ) × (between : Option Follower)
    × IsAnnotated numbers line history follower (is_comment (line_text answer)) (line_text answer) first between
    × Annotates numbers line history between answers rest after × (text ≡ first ++ rest)

-- A part of these answers, one after another, up to one about a transfer of which the moves are to follow. It is told where there is no memory to
-- find them.
abbrev pub AnnotatesPart : Bool → ℕ → List Entry → Option Follower → List TextLine → List ℕ → Type 0
AnnotatesPart numbers line history follower [] text = ⊥
AnnotatesPart numbers line history follower (answer ∷ answers) text =
    ((is_comment (line_text answer) ≡ false) × (tells_transfer (line_text answer) ≡ true) × (is_some follower ≡ true) × (text ≡ number_text numbers line ++ line_text answer))
    ⊎ ((first : List ℕ) × (rest : List ℕ) × (between : Option Follower)
    × IsAnnotated numbers line history follower (is_comment (line_text answer)) (line_text answer) first between
    × AnnotatesPart numbers line history between answers rest × (text ≡ first ++ rest))

-- THE ANSWERS TO A SCRIPT

-- the line with this number was answered, and this is the text of its answers with annotations
pub record AnnotatesLine (explains : Option PageSize) (numbers : Bool) (old : State) (number : ℕ) (follower : Option Follower) (line : TextLine) (told : List Report) (text : List ℕ) (new : State) (after : Option Follower) : Type 0 where
  pub answers : AnswersLine old number (asked_of old.session.machine.size old.names line) told new
  pub plain : List ℕ
  pub is_plain : AreAnswerTexts explains told plain
  pub annotated : Annotates numbers number new.session.history follower (lines_of plain) text after

-- lines, one after another, of which the first has this number
abbrev pub AnnotatesLines : Option PageSize → Bool → State → ℕ → Option Follower → List TextLine → List Report → List ℕ → State → Option Follower → Type 0
AnnotatesLines explains numbers old number follower [] told text new after = (told ≡ []) × (text ≡ []) × (new ≡ old) × (after ≡ follower)
AnnotatesLines explains numbers old number follower (line ∷ lines) told text new after =
    (first : List Report) × (rest : List Report) × (one : List ℕ) × (others : List ℕ) × (between : State) × (then' : Option Follower)
    × AnnotatesLine explains numbers old number follower line first one between then'
    × AnnotatesLines explains numbers between (number + 1) then' lines rest others new after × (told ≡ first ++ rest) × (text ≡ one ++ others)

-- the line with this number was answered, and this is a part of the text of its answers with annotations
pub record AnnotatesSome (explains : Option PageSize) (numbers : Bool) (old : State) (number : ℕ) (follower : Option Follower) (line : TextLine) (text : List ℕ) : Type 0 where
  pub told : List Report
  pub new : State
  pub answers : AnswersLine old number (asked_of old.session.machine.size old.names line) told new
  pub plain : List ℕ
  pub is_plain : AreAnswerTexts explains told plain
  pub part : AnnotatesPart numbers number new.session.history follower (lines_of plain) text

-- The text of the line behind the answered ones where memory ran out: none, or a part of the text of its answers. In a strict run, no line
-- before it was refused.
abbrev pub IsNextPart : Option PageSize → Bool → Bool → State → Option Follower → List TextLine → List TextLine → List Report → Option (List ℕ) → List ℕ → Type 0
IsNextPart explains strict numbers last follower lines later told new text =
    (text ≡ [])
    ⊎ ((line : TextLine) × (rest : List TextLine) × (later ≡ line ∷ rest) × ((line.whole ≡ true) ⊎ IsAtEnd new)
    × (strict ≡ true → has_refusal told ≡ false) × AnnotatesSome explains numbers last (length lines + 1) follower line text)

-- the second kernel at the start, if moves are written
abbrev pub IsFirstFollower : ℕ → PageSize → Bool → Option Follower → Type 0
IsFirstFollower frames size false follower = follower ≡ None
IsFirstFollower frames size true follower =
    (first : Follower) × (follower ≡ Some first) × IsBoot frames first.kernel × (first.kernel.size ≡ size) × (first.next ≡ 0)

-- The first lines of what was read were answered, each of them whole unless the input has ended; in a strict run none behind a refused one.
-- This is the text of their answers with annotations.
pub record AnnotatesFirst (frames : ℕ) (size : PageSize) (notes : Annotations) (old new : Option (List ℕ)) : Type 0 where
  pub read : List ℕ
  pub from : Consumes old new read
  pub lines : List TextLine
  pub later : List TextLine
  pub parts : lines_of read ≡ lines ++ later
  pub sure : All (λ line. line.whole ≡ true) lines ⊎ IsAtEnd new
  pub boot : Machine
  pub boots : IsBoot frames boot
  pub sized : boot.size ≡ size
  pub follower : Option Follower
  pub follows : IsFirstFollower frames size notes.moves follower
  pub told : List Report
  pub text : List ℕ
  pub last : State
  pub after : Option Follower
  pub annotates : AnnotatesLines (explains_by notes.style.explain size) notes.number (first_state frames boot) 1 follower lines told text last after
  pub stops : notes.style.strict ≡ true → StopsAtRefusal (length lines) told

-- the text of these lines, and then that of the next one as far as there was memory
abbrev pub IsTextBefore : (frames : ℕ) (size : PageSize) (notes : Annotations) (old new : Option (List ℕ)) → AnnotatesFirst frames size notes old new → List ℕ → Type 0
IsTextBefore frames size notes old new a text =
    (more : List ℕ) × IsNextPart (explains_by notes.style.explain size) notes.style.strict notes.number a.last a.after a.lines a.later a.told new more × (text ≡ a.text ++ more)

-- A RUN OF A SCRIPT WITH ANNOTATIONS: the text of all lines is written, unless a refused line ended a strict run. After a failed read, it is that
-- of the whole lines. If memory ran out, nothing was read or written, or the text of the first lines and a part of that of the next line was
-- written. After a failed write, a beginning of such a text was written.
abbrev pub AnnotatesScript : ℕ → PageSize → Annotations → Option (List ℕ) → Option (List ℕ) → Option (List ℕ) → Option (List ℕ) → Result Ended RunFault → Type 0
AnnotatesScript frames size notes old new written now (Ok ended) =
    (a : AnnotatesFirst frames size notes old new) × Appends written now a.text
    × (ended.lines ≡ length a.lines) × (ended.refused ≡ (if notes.style.strict then last_refusal None a.told else None))
    × ((IsAtEnd new × (a.lines ≡ lines_of a.read)) ⊎ (is_some ended.refused ≡ true))
AnnotatesScript frames size notes old new written now (Err Read) =
    (a : AnnotatesFirst frames size notes old new) × (a.lines ≡ filter (λ line. line.whole) (lines_of a.read)) × Appends written now a.text
AnnotatesScript frames size notes old new written now (Err Write) =
    (a : AnnotatesFirst frames size notes old new) × (text : List ℕ) × IsTextBefore frames size notes old new a text × WentOut written now text
AnnotatesScript frames size notes old new written now (Err Memory) =
    ((new ≡ old) × (now ≡ written)) ⊎ ((a : AnnotatesFirst frames size notes old new) × (text : List ℕ) × IsTextBefore frames size notes old new a text × Appends written now text)
