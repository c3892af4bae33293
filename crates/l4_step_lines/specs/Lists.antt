-- What a list of steps and questions is answered (this profile's own).
use Rattle.std.specs.Prelude.{ℕ, ◌≡◌, ◌+◌, ◌<◌, ◌↔◌, List, [], ◌∷◌, ◌++◌, length, filter, Contains, Option, Some, None, option_map, ok_or, MatchOption, Result, Ok, Err, if◌then◌else◌}
use Rattle.std.specs.List.{flat_map, AllPairs}
use Rattle.std.specs.Option.{option_map_or}
use Rattle.std.specs.Io.KnownBytes.{Consumes, Appends, IsAtEnd}
use Rattle.l4_fpage.specs.declared.sizes.PageSize.{PageSize}
use Rattle.l4_mapdb.specs.declared.Place.{Place}
use Rattle.l4_mapdb.specs.Mappings.{IsPresent, shown}
use Rattle.l4_threads.specs.Threads.{space_of}
use Rattle.l4_ipc.specs.declared.steps.Answer.{Answer}
use Rattle.l4_ipc.specs.declared.steps.Refused.{Refused}
use Rattle.l4_ipc.specs.declared.steps.Step.{Step}
use Rattle.l4_ipc.specs.Machine.{Machine, IsBoot}
use Rattle.l4_ipc.specs.Reading.{reply_of}
use Rattle.l4_ipc.specs.Steps.{Steps, IsNext, IsIdle}
use Rattle.l4_answers.specs.Pages.{shown_text}
use Rattle.l4_text.specs.Streams.{WentOut}
use Rattle.l4_text.specs.Tokens.{tokens_of}
use Rattle.l4_text.specs.declared.lines.Ending.{Ending}
use Rattle.l4_text.specs.declared.lines.Ending.TheVariants.{Whole, Long as TooLong, Cut as IsCut}
use Rattle.l4_text.specs.declared.faults.RunFault.TheVariants.{Read, Write, Memory}
use Rattle.l4_step_lines.specs.declared.requests.Request.{Request}
use Rattle.l4_step_lines.specs.declared.requests.Request.TheVariants.{Do, Enabled, Reply, Space, Pages}
use Rattle.l4_step_lines.specs.declared.running.Fault.{Fault}
use Rattle.l4_step_lines.specs.declared.running.Fault.TheVariants.{Stopped, Cut, Long, Unread}
use Rattle.l4_step_lines.specs.Answers.{answer_lines, enabled_line, reply_line, space_line, page_line}
use Rattle.l4_text.specs.Grammar.{TextLine, lines_of, ending_of, is_silent}
use Rattle.l4_step_lines.specs.Requests.{request_of}
use Rattle.l4_step_lines.specs.Stops.{unread_says}

-- WHAT A LINE ASKS FOR

-- what the line of this number and ending asks for, None where it is empty or a comment, or why the list ends with it
abbrev pub asked_at : ℕ → Ending → List ℕ → Result (Option Request) Fault
asked_at number IsCut bytes = Err (Cut number)
asked_at number TooLong bytes = Err (Long number)
asked_at number Whole bytes =
    if is_silent bytes then Ok None else ok_or (option_map Some (request_of (tokens_of bytes))) (Unread number (unread_says number (tokens_of bytes)))

abbrev pub asked_of : ℕ → TextLine → Result (Option Request) Fault
asked_of number line = asked_at number (ending_of line) line.bytes

-- WHAT IT IS ANSWERED

abbrev pub place_in : ℕ → ℕ → Place
place_in space page = record { space = space; page = page }

-- the line of a page that the space shows
abbrev pub place_line : Machine → ℕ → ℕ → List ℕ
place_line m space page = option_map_or (page_line page) (shown m.mappings (place_in space page)) []

-- the present pages of a space, by rising number, and then how many they are
pub record ListsPages (m : Machine) (space : ℕ) (text : List ℕ) : Type 0 where
  pub pages : List ℕ
  pub rising : AllPairs (λ a b. a < b) pages
  pub each : (page : ℕ) → Contains pages page ↔ IsPresent m.mappings (place_in space page)
  pub text_is : text ≡ flat_map (place_line m space) pages ++ shown_text (length pages)

-- a step is done, or a question answered, by this text
abbrev pub Answers : Machine → Request → List ℕ → Machine → Type 0
Answers old (Do step) text new = (answer : Result Answer Refused) × Steps old step answer new × (text ≡ answer_lines [] answer new)
Answers old Enabled text new = (next : Option Step) × MatchOption next (IsIdle old) (IsNext old) × (text ≡ enabled_line next) × (new ≡ old)
Answers old (Reply number) text new = (text ≡ reply_line (reply_of old.threads number)) × (new ≡ old)
Answers old (Space number) text new = (text ≡ space_line (space_of old.threads number)) × (new ≡ old)
Answers old (Pages space) text new = ListsPages old space text × (new ≡ old)

-- the answer to what a line asks for; a line that ends the list has none
abbrev pub AnswersAsked : Machine → Result (Option Request) Fault → List ℕ → Machine → Type 0
AnswersAsked old (Ok None) text new = (text ≡ []) × (new ≡ old)
AnswersAsked old (Ok (Some request)) text new = Answers old request text new
AnswersAsked old (Err fault) text new = ⊥

-- the answers to lines, of which the first has this number, one after another
abbrev pub AnswersLines : Machine → ℕ → List TextLine → List ℕ → Machine → Type 0
AnswersLines old number [] text new = (text ≡ []) × (new ≡ old)
AnswersLines old number (line ∷ lines) text new =
    (first : List ℕ) × (rest : List ℕ) × (between : Machine) × AnswersAsked old (asked_of number line) first between
    × AnswersLines between (number + 1) lines rest new × (text ≡ first ++ rest)

-- the answers to a list's lines, over a machine with so many frames of this size as it boots
pub record IsListText (frames : ℕ) (size : PageSize) (lines : List TextLine) (text : List ℕ) : Type 0 where
  pub boot : Machine
  pub boots : IsBoot frames boot
  pub sized : boot.size ≡ size
  pub last : Machine
  pub answers : AnswersLines boot 1 lines text last

-- A RUN

-- of the lines that were read the first are answered by this text, and the later ones are not answered
pub record Reads (frames : ℕ) (size : PageSize) (old new : Option (List ℕ)) (later : List TextLine) (text : List ℕ) : Type 0 where
  pub read : List ℕ
  pub from : Consumes old new read
  pub lines : List TextLine
  pub parts : lines_of read ≡ lines ++ later
  pub is_text : IsListText frames size lines text

-- the first of these lines, which has this number, ends the list with this fault; if it is cut, the input ends with it
abbrev pub EndsWith : ℕ → List TextLine → Option (List ℕ) → Fault → Type 0
EndsWith number [] new fault = ⊥
EndsWith number (line ∷ lines) new fault = (asked_of number line ≡ Err fault) × (ending_of line ≡ IsCut → IsAtEnd new)

-- What a run leaves unanswered of what it read, and what went out of the text of the answers: all of it, but where a write failed. Want of
-- memory comes before all else.
abbrev pub Runs : ℕ → PageSize → Option (List ℕ) → Option (List ℕ) → Option (List ℕ) → Option (List ℕ) → Result (Unit {0}) Fault → Type 0
Runs frames size old new written now (Ok u) = (text : List ℕ) × Reads frames size old new [] text × IsAtEnd new × Appends written now text
Runs frames size old new written now (Err (Stopped Read)) =
    (later : List TextLine) × (text : List ℕ) × Reads frames size old new later text × (filter (λ line. line.whole) later ≡ []) × Appends written now text
Runs frames size old new written now (Err (Stopped Write)) =
    (later : List TextLine) × (text : List ℕ) × Reads frames size old new later text × WentOut written now text
Runs frames size old new written now (Err (Stopped Memory)) = (new ≡ old) × (now ≡ written)
Runs frames size old new written now (Err fault) =
    (later : List TextLine) × (text : List ℕ) × (r : Reads frames size old new later text) × EndsWith (1 + length r.lines) later new fault × Appends written now text
