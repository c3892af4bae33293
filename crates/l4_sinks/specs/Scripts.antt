-- A script's run as its text, or as its history.
use Rattle.std.specs.Prelude.{ℕ, ◌≡◌, ◌⊎◌, Bool, true, false, List, [], ◌∷◌, ◌++◌, length, filter, Option, None, Some, is_some, Result, Ok, Err, if◌then◌else◌}
use Rattle.std.specs.List.{All}
use Rattle.std.specs.Io.KnownBytes.{Consumes, Appends, IsAtEnd}
use Rattle.l4_fpage.specs.declared.sizes.PageSize.{PageSize}
use Rattle.l4_answers.specs.Reports.{Report, refused_line, has_refusal}
use Rattle.l4_record.specs.declared.entries.Entry.{Entry}
use Rattle.l4_text.specs.Grammar.{TextLine, lines_of}
use Rattle.l4_record.specs.declared.segments.Segment.{Segment}
use Rattle.l4_shell.specs.Sessions.{IsAnswered}
use Rattle.l4_shell.specs.Scripts.{KeepsFirst, KeepsHistory}
use Rattle.l4_sinks.specs.declared.reasons.LineRefusal.{LineRefusal}
use Rattle.l4_sinks.specs.declared.scripts.Ended.{Ended}
use Rattle.l4_sinks.specs.Texts.{AreAnswerTexts, last_refusal, last_refused}
use Rattle.l4_text.specs.Streams.{WentOut}
use Rattle.l4_text.specs.declared.faults.RunFault.{RunFault}
use Rattle.l4_text.specs.declared.faults.RunFault.TheVariants.{Read, Write, Memory}

-- no line is refused, or only the last one of this number of lines, and its refusal is the last answer
abbrev pub StopsAtRefusal : ℕ → List Report → Type 0
StopsAtRefusal count told =
    (has_refusal told ≡ false) ⊎ ((earlier : List Report) × (report : Report) × (refused_line report ≡ Some count) × (has_refusal earlier ≡ false) × (told ≡ earlier ++ report ∷ []))

-- The first lines of what was read were answered, each of them whole unless the input has ended; in a strict run none behind a refused one.
pub record AnswersFirst (hands_out : Bool) (frames : ℕ) (size : PageSize) (strict : Bool) (old new : Option (List ℕ)) : Type 0 where
  pub read : List ℕ
  pub from : Consumes old new read
  pub lines : List TextLine
  pub later : List TextLine
  pub parts : lines_of read ≡ lines ++ later
  pub sure : All (λ line. line.whole ≡ true) lines ⊎ IsAtEnd new
  pub told : List Report
  pub is_answered : IsAnswered hands_out frames size lines told
  pub stops : strict ≡ true → StopsAtRefusal (length lines) told

-- the size of pages by which answers are explained, where they are
abbrev pub explains_by : Bool → PageSize → Option PageSize
explains_by explain size = if explain then Some size else None

-- the text of these answers was written
abbrev pub IsWritten : Option PageSize → List Report → Option (List ℕ) → Option (List ℕ) → Type 0
IsWritten explains told written now = (text : List ℕ) × AreAnswerTexts explains told text × Appends written now text

-- a beginning of it was written
abbrev pub IsBegun : Option PageSize → List Report → Option (List ℕ) → Option (List ℕ) → Type 0
IsBegun explains told written now = (text : List ℕ) × AreAnswerTexts explains told text × WentOut written now text

-- A RUN OF A SCRIPT, which returns how many lines were answered, and why a refused one ended a strict run: the text of the answers is
-- written, of all lines unless it did. If the history is handed out, the segments that were kept are the history of these lines.
-- Where a read failed, the text of the whole lines is written; where a write failed, a beginning of the text, and the first entries of the
-- history were kept. Want of memory comes before all else.
abbrev pub RunsScript : {K : Type 0} → Bool → ℕ → PageSize → Bool → Bool → Option (List ℕ) → Option (List ℕ) → Option (List ℕ) → Option (List ℕ) → (K → K → List Segment → Type 0) → K → K → Result Ended RunFault → Type 0
RunsScript hands_out frames size strict explain old new written now has_kept had has (Ok ended) =
    (a : AnswersFirst hands_out frames size strict old new) × IsWritten (explains_by explain size) a.told written now
    × (ended.lines ≡ length a.lines) × (ended.refused ≡ (if strict then last_refusal None a.told else None))
    × ((IsAtEnd new × (a.lines ≡ lines_of a.read)) ⊎ (is_some ended.refused ≡ true))
    × KeepsHistory hands_out has_kept had has a.is_answered.last.session.history
RunsScript hands_out frames size strict explain old new written now has_kept had has (Err Read) =
    (a : AnswersFirst hands_out frames size strict old new) × (a.lines ≡ filter (λ line. line.whole) (lines_of a.read))
    × IsWritten (explains_by explain size) a.told written now × KeepsHistory hands_out has_kept had has a.is_answered.last.session.history
RunsScript hands_out frames size strict explain old new written now has_kept had has (Err Write) =
    (a : AnswersFirst hands_out frames size strict old new) × IsBegun (explains_by explain size) a.told written now
    × KeepsFirst has_kept had has a.is_answered.last.session.history
RunsScript hands_out frames size strict explain old new written now has_kept had has (Err Memory) = (new ≡ old) × (now ≡ written) × (has ≡ had)

-- THE HISTORY OF A SCRIPT, with how many lines were answered, and why a refused one ended a strict run: it is that of all lines unless it did.
-- Where a read failed, it is the history of the whole lines.
abbrev pub RecordsScript : ℕ → PageSize → Bool → Option (List ℕ) → Option (List ℕ) → List Entry → Result Ended RunFault → Type 0
RecordsScript frames size strict old new history (Ok ended) =
    (a : AnswersFirst false frames size strict old new) × (history ≡ a.is_answered.last.session.history) × (ended.lines ≡ length a.lines)
    × (ended.refused ≡ (if strict then last_refusal None a.told else None))
    × ((IsAtEnd new × (a.lines ≡ lines_of a.read)) ⊎ (is_some ended.refused ≡ true))
RecordsScript frames size strict old new history (Err Read) =
    (a : AnswersFirst false frames size strict old new) × (history ≡ a.is_answered.last.session.history) × (a.lines ≡ filter (λ line. line.whole) (lines_of a.read))
RecordsScript frames size strict old new history (Err Write) = ⊥
RecordsScript frames size strict old new history (Err Memory) = ⊥

-- THE FIRST REFUSED LINE OF A SCRIPT, if there is one: the lines up to it were answered, or all of them. Where a read failed, no whole line
-- before that is refused.
abbrev pub FindsRefusal : ℕ → PageSize → Option (List ℕ) → Option (List ℕ) → Result (Option LineRefusal) RunFault → Type 0
FindsRefusal frames size old new (Ok found) =
    (a : AnswersFirst false frames size true old new) × (found ≡ last_refused None a.told)
    × ((IsAtEnd new × (a.lines ≡ lines_of a.read)) ⊎ (is_some found ≡ true))
FindsRefusal frames size old new (Err Read) = (a : AnswersFirst false frames size true old new) × (a.lines ≡ filter (λ line. line.whole) (lines_of a.read))
FindsRefusal frames size old new (Err Write) = ⊥
FindsRefusal frames size old new (Err Memory) = new ≡ old
