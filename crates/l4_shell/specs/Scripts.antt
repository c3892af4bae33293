-- A script from its first line to its last (this profile's own).
use Rattle.std.specs.Prelude.{ℕ, ◌≡◌, ◌⊎◌, Bool, true, false, List, [], ◌∷◌, ◌++◌, length, filter, Option, Some, Result, Ok, Err}
use Rattle.std.specs.List.{All}
use Rattle.std.specs.Io.KnownBytes.{Consumes, IsAtEnd}
use Rattle.l4_fpage.specs.declared.sizes.PageSize.{PageSize}
use Rattle.l4_answers.specs.Reports.{Report, refused_line, has_refusal, AddsAll}
use Rattle.l4_text.specs.Grammar.{TextLine, lines_of}
use Rattle.l4_record.specs.declared.entries.Entry.{Entry}
use Rattle.l4_record.specs.declared.segments.Segment.{Segment}
use Rattle.l4_record.specs.Segments.{entries_of, AreNumbered, KeepsAll}
use Rattle.l4_shell.specs.Sessions.{IsAnswered}
use Rattle.l4_text.specs.declared.faults.RunFault.{RunFault}
use Rattle.l4_text.specs.declared.faults.RunFault.TheVariants.{Read, Write, Memory}

-- a line of this number was answered without a refusal, or by its refusal alone
abbrev pub IsOneAnswer : ℕ → List Report → Type 0
IsOneAnswer number told = (has_refusal told ≡ false) ⊎ ((report : Report) × (refused_line report ≡ Some number) × (told ≡ report ∷ []))

-- the sink was open before the last line, which has this number, was answered
pub record WasOpen {T : Type 0} (has_told : T → T → List Report → Type 0) (closed : T → Bool) (old : T) (number : ℕ) (told : List Report) : Type 0 where
  pub earlier : List Report
  pub last : List Report
  pub parts : told ≡ earlier ++ last
  pub one : IsOneAnswer number last
  pub between : T
  pub adds : AddsAll has_told old between earlier
  pub opened : closed between ≡ false

-- The first lines of the input were answered. Each of them is whole unless the input has ended, so any longer script has these answers
-- first. Nothing was reported, or the sink was open before the last of these lines.
pub record AnswersFirst {T : Type 0} (hands_out : Bool) (frames : ℕ) (size : PageSize) (old new : Option (List ℕ)) (has_told : T → T → List Report → Type 0) (closed : T → Bool) (sink : T) : Type 0 where
  pub read : List ℕ
  pub from : Consumes old new read
  pub lines : List TextLine
  pub later : List TextLine
  pub parts : lines_of read ≡ lines ++ later
  pub sure : All (λ line. line.whole ≡ true) lines ⊎ IsAtEnd new
  pub told : List Report
  pub is_answered : IsAnswered hands_out frames size lines told
  pub was_open : (told ≡ []) ⊎ WasOpen has_told closed sink (length lines) told

-- whatever was reported before, that and these answers have been written
abbrev pub AddsOut : {T : Type 0} → (T → T → List Report → Type 0) → (T → T → List Report → Type 0) → T → T → List Report → Type 0
AddsOut has_told is_out old new told = (first : _) (earlier : List Report) → has_told first old earlier → is_out first new (earlier ++ told)

-- the first entries of this history were kept in segments, one after another
pub record KeepsFirst {K : Type 0} (has_kept : K → K → List Segment → Type 0) (before after : K) (history : List Entry) : Type 0 where
  pub segments : List Segment
  pub rest : List Entry
  pub numbered : AreNumbered 0 segments
  pub history_is : history ≡ entries_of segments ++ rest
  pub keeps : KeepsAll has_kept before after segments

-- the same, and if the history is handed out, all its entries were kept
abbrev pub KeepsHistory : {K : Type 0} → Bool → (K → K → List Segment → Type 0) → K → K → List Entry → Type 0
KeepsHistory hands_out has_kept before after history = (k : KeepsFirst has_kept before after history) × (hands_out ≡ true → k.rest ≡ [])

-- A run of a script: to its end, or until the sink closed; or to a read that failed, with the answers to all whole lines before it; or to a
-- write that failed, of the answers or of a segment of the history. NoMemory comes before everything else.
abbrev pub Runs : {T K : Type 0} → Bool → ℕ → PageSize → Option (List ℕ) → Option (List ℕ) → (T → T → List Report → Type 0) → (T → T → List Report → Type 0) → (T → Bool) → T → T → (K → K → List Segment → Type 0) → K → K → Result ℕ RunFault → Type 0
Runs hands_out frames size old new has_told is_out closed before after has_kept had has (Ok count) =
    (a : AnswersFirst hands_out frames size old new has_told closed before) × (count ≡ length a.lines) × AddsOut has_told is_out before after a.told
    × ((IsAtEnd new × (a.lines ≡ lines_of a.read)) ⊎ (closed after ≡ true))
    × KeepsHistory hands_out has_kept had has a.is_answered.last.session.history
Runs hands_out frames size old new has_told is_out closed before after has_kept had has (Err Read) =
    (a : AnswersFirst hands_out frames size old new has_told closed before) × (a.lines ≡ filter (λ line. line.whole) (lines_of a.read))
    × AddsOut has_told is_out before after a.told × KeepsHistory hands_out has_kept had has a.is_answered.last.session.history
Runs hands_out frames size old new has_told is_out closed before after has_kept had has (Err Write) =
    (a : AnswersFirst hands_out frames size old new has_told closed before) × (AddsAll has_told before after a.told ⊎ AddsOut has_told is_out before after a.told)
    × KeepsFirst has_kept had has a.is_answered.last.session.history
Runs hands_out frames size old new has_told is_out closed before after has_kept had has (Err Memory) = (new ≡ old) × (after ≡ before) × (has ≡ had)
