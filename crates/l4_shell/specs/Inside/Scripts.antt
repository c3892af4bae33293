-- The answers to a script's lines before what is held back goes out.
use Rattle.std.specs.Prelude.{ℕ, ◌≡◌, ◌<◌, ◌≤◌, ◌⊎◌, Bool, true, false, List, [], ◌∷◌, ◌++◌, length, filter, Option, Result, Ok, Err}
use Rattle.std.specs.List.{All}
use Rattle.std.specs.Io.KnownBytes.{Consumes, IsAtEnd}
use Rattle.l4_text.specs.Grammar.{TextLine, lines_of}
use Rattle.l4_answers.specs.Reports.{Report, AddsAll}
use Rattle.l4_fpage.specs.declared.sizes.PageSize.{PageSize}
use Rattle.l4_ipc.specs.Machine.{IsBoot}
use Rattle.l4_record.specs.declared.segments.Segment.{Segment}
use Rattle.l4_record.specs.Seated.{Seated, HandsOut}
use Rattle.l4_record.specs.Segments.{kept_count, entries_of, KeepsAll}
use Rattle.l4_shell.specs.Scripts.{WasOpen, KeepsFirst}
use Rattle.l4_shell.specs.Sessions.{Session, State, segment_entries, AnswersLines}
use Rattle.l4_text.specs.declared.faults.RunFault.{RunFault}
use Rattle.l4_text.specs.declared.faults.RunFault.TheVariants.{Read, Write, Memory}

-- the answers to the first lines that were read were told, each of them whole unless the input has ended, and left this state
pub record TellsBeginning {T : Type 0} (hands_out : Bool) (m last : State) (old new : Option (List ℕ)) (has_told : T → T → List Report → Type 0) (closed : T → Bool) (before after : T) : Type 0 where
  pub read : List ℕ
  pub from : Consumes old new read
  pub lines : List TextLine
  pub later : List TextLine
  pub parts : lines_of read ≡ lines ++ later
  pub sure : All (λ line. line.whole ≡ true) lines ⊎ IsAtEnd new
  pub told : List Report
  pub answers : AnswersLines hands_out m 1 lines told last
  pub was_open : (told ≡ []) ⊎ WasOpen has_told closed before (length lines) told
  pub adds : AddsAll has_told before after told

-- all lines were answered, or the sink closed
pub record TellsAll {T : Type 0} (hands_out : Bool) (m last : State) (old new : Option (List ℕ)) (has_told : T → T → List Report → Type 0) (closed : T → Bool) (before after : T) (count : ℕ) : Type 0 where
  pub some : TellsBeginning hands_out m last old new has_told closed before after
  pub number : count ≡ length some.lines
  pub end : (IsAtEnd new × (some.lines ≡ lines_of some.read)) ⊎ (closed after ≡ true)

-- all whole lines were answered
pub record TellsWhole {T : Type 0} (hands_out : Bool) (m last : State) (old new : Option (List ℕ)) (has_told : T → T → List Report → Type 0) (closed : T → Bool) (before after : T) : Type 0 where
  pub some : TellsBeginning hands_out m last old new has_told closed before after
  pub whole : some.lines ≡ filter (λ line. line.whole) (lines_of some.read)

-- Lines were answered, to a segment that could not be kept.
pub record TellsSome {T : Type 0} (hands_out : Bool) (m last : State) (old new : Option (List ℕ)) (has_told : T → T → List Report → Type 0) (closed : T → Bool) (before after : T) : Type 0 where
  pub hands : hands_out ≡ true
  pub end : State
  pub some : TellsBeginning hands_out m end old new has_told closed before after
  pub history : end.session.history ≡ last.session.history

-- the lines of a script were answered, to its end or to a fault
abbrev pub TellsScript : {T : Type 0} → Bool → State → State → Option (List ℕ) → Option (List ℕ) → (T → T → List Report → Type 0) → (T → Bool) → T → T → Result ℕ RunFault → Type 0
TellsScript hands_out m last old new has_told closed before after (Ok count) = TellsAll hands_out m last old new has_told closed before after count
TellsScript hands_out m last old new has_told closed before after (Err Read) = TellsWhole hands_out m last old new has_told closed before after
TellsScript hands_out m last old new has_told closed before after (Err Write) = TellsSome hands_out m last old new has_told closed before after
TellsScript hands_out m last old new has_told closed before after (Err Memory) = ⊥

-- Segments were kept so far, with all entries that are no longer kept by the kernel. None was, unless the history is handed out.
pub record KeepsSoFar {K : Type 0} (hands_out : Bool) (has_kept : K → K → List Segment → Type 0) (before after : K) (s : Session) : Type 0 where
  pub first : KeepsFirst has_kept before after s.history
  pub count : length (entries_of first.segments) ≡ s.kept_from
  pub none : hands_out ≡ false → s.kept_from ≡ 0

-- the segments of a script whose lines were answered
abbrev pub KeepsScript : {K : Type 0} → Bool → (K → K → List Segment → Type 0) → K → K → Session → Result ℕ RunFault → Type 0
KeepsScript hands_out has_kept before after s (Ok count) = KeepsSoFar hands_out has_kept before after s
KeepsScript hands_out has_kept before after s (Err Read) = KeepsSoFar hands_out has_kept before after s
KeepsScript hands_out has_kept before after s (Err Write) = KeepsFirst has_kept before after s.history
KeepsScript hands_out has_kept before after s (Err Memory) = ⊥

-- the kept entries were handed out, and the segment was kept
abbrev pub HandsOn : {K : Type 0} → (K → K → List Segment → Type 0) → K → K → Seated → Seated → Type 0
HandsOn has_kept before after old new = (segment : Segment) × HandsOut old new segment × KeepsAll has_kept before after (segment ∷ [])

-- the same between two lines, if the history is handed out and is long enough
abbrev pub PassesOn : {K : Type 0} → Bool → (K → K → List Segment → Type 0) → K → K → Seated → Seated → Type 0
PassesOn hands_out has_kept before after old new =
    (((hands_out ≡ false) ⊎ (kept_count old.kept_from old.history < segment_entries)) × (new ≡ old) × (after ≡ before))
    ⊎ ((hands_out ≡ true) × (segment_entries ≤ kept_count old.kept_from old.history) × HandsOn has_kept before after old new)

-- a segment could not be kept
abbrev pub LosesSegment : {K : Type 0} → (K → K → List Segment → Type 0) → K → K → Seated → Seated → Type 0
LosesSegment has_kept before after old new = (new.history ≡ old.history) × KeepsAll has_kept before after []

-- whether a segment could not be kept
abbrev pub has_lost : Result ℕ RunFault → Bool
has_lost (Ok count) = false
has_lost (Err Write) = true
has_lost (Err Read) = false
has_lost (Err Memory) = false

-- The entries that were kept at the end of a script were handed out, if the history is. The script ended in this way, or because a segment
-- could not be kept.
abbrev pub EndsSegments : {K : Type 0} → Bool → (K → K → List Segment → Type 0) → K → K → Seated → Seated → Result ℕ RunFault → Result ℕ RunFault → Type 0
EndsSegments hands_out has_kept before after old new answered result =
    (((has_lost answered ≡ true) ⊎ (hands_out ≡ false)) × (new ≡ old) × (after ≡ before) × (result ≡ answered))
    ⊎ ((has_lost answered ≡ false) × (hands_out ≡ true) × HandsOn has_kept before after old new × (result ≡ answered))
    ⊎ ((has_lost answered ≡ false) × (hands_out ≡ true) × LosesSegment has_kept before after old new × (result ≡ Err Write))

-- a kernel as it boots with pages of this size, in which sigma0 and root have their seats
abbrev pub HasFirstSeats : ℕ → PageSize → Seated → Type 0
HasFirstSeats frames size kernel =
    IsBoot frames kernel.machine × (kernel.history ≡ []) × (kernel.numbers ≡ 1 ∷ 2 ∷ []) × (kernel.seen ≡ 0) × (kernel.machine.size ≡ size) × (kernel.kept_from ≡ 0)
