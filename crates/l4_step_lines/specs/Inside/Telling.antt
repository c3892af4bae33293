-- The answers to a list before what is held back goes out.
use Rattle.std.specs.Prelude.{ℕ, ◌≡◌, ◌+◌, ◌<◌, ◌↔◌, Bool, List, [], ◌++◌, length, filter, Contains, Option, Result, Ok, Err}
use Rattle.std.specs.List.{flat_map, AllPairs}
use Rattle.std.specs.Io.KnownBytes.{Consumes, IsAtEnd}
use Rattle.l4_ipc.specs.Machine.{Machine}
use Rattle.l4_mapdb.specs.Mappings.{IsPresent}
use Rattle.l4_text.specs.Streams.{Tells}
use Rattle.l4_text.specs.declared.faults.RunFault.TheVariants.{Read, Write, Memory}
use Rattle.l4_step_lines.specs.declared.requests.Request.{Request}
use Rattle.l4_step_lines.specs.declared.running.Fault.{Fault}
use Rattle.l4_step_lines.specs.declared.running.Fault.TheVariants.{Stopped}
use Rattle.l4_text.specs.Grammar.{TextLine, lines_of}
use Rattle.l4_step_lines.specs.Lists.{place_in, place_line, AnswersAsked, AnswersLines, EndsWith}

-- the present pages of the space were told, and there are so many
pub record TellsPages (m : Machine) (space shown : ℕ) (written now : Option (List ℕ)) (before after : List ℕ × Bool) : Type 0 where
  pub pages : List ℕ
  pub rising : AllPairs (λ a b. a < b) pages
  pub each : (page : ℕ) → Contains pages page ↔ IsPresent m.mappings (place_in space page)
  pub number : shown ≡ length pages
  pub tells : Tells written now before after (flat_map (place_line m space) pages)

-- a line was answered, or ends the list
abbrev pub TellsLine : Machine → Machine → Result (Option Request) Fault → Option (List ℕ) → Option (List ℕ) → List ℕ × Bool → List ℕ × Bool → Result (Unit {0}) Fault → Type 0
TellsLine old new asked written now before after (Ok u) = (text : List ℕ) × AnswersAsked old asked text new × Tells written now before after text
TellsLine old new asked written now before after (Err fault) = (asked ≡ Err fault) × (new ≡ old) × Tells written now before after []

-- of the lines that were read the first were answered, and that told
pub record TellsFirst (m last : Machine) (old new written now : Option (List ℕ)) (before after : List ℕ × Bool) : Type 0 where
  pub read : List ℕ
  pub from : Consumes old new read
  pub lines : List TextLine
  pub later : List TextLine
  pub parts : lines_of read ≡ lines ++ later
  pub text : List ℕ
  pub answers : AnswersLines m 1 lines text last
  pub tells : Tells written now before after text

-- the lines of a list were answered, to its end or to a fault
abbrev pub TellsList : Machine → Machine → Option (List ℕ) → Option (List ℕ) → Option (List ℕ) → Option (List ℕ) → List ℕ × Bool → List ℕ × Bool → Result (Unit {0}) Fault → Type 0
TellsList m last old new written now before after (Ok u) = (t : TellsFirst m last old new written now before after) × (t.later ≡ []) × IsAtEnd new
TellsList m last old new written now before after (Err (Stopped Read)) = (t : TellsFirst m last old new written now before after) × (filter (λ line. line.whole) t.later ≡ [])
TellsList m last old new written now before after (Err (Stopped Write)) = TellsFirst m last old new written now before after
TellsList m last old new written now before after (Err (Stopped Memory)) = ⊥
TellsList m last old new written now before after (Err fault) = (t : TellsFirst m last old new written now before after) × EndsWith (1 + length t.lines) t.later new fault
