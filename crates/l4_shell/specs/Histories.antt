-- The history that a script leaves (this profile's own).
use Rattle.std.specs.Prelude.{ℕ, ◌≡◌, ◌⊎◌, Bool, true, false, List, length, filter, Option, Result, Ok, Err}
use Rattle.std.specs.Io.KnownBytes.{IsAtEnd}
use Rattle.l4_fpage.specs.declared.sizes.PageSize.{PageSize}
use Rattle.l4_record.specs.declared.entries.Entry.{Entry}
use Rattle.l4_text.specs.Grammar.{lines_of}
use Rattle.l4_shell.specs.Scripts.{AnswersFirst}
use Rattle.l4_answers.specs.Reports.{Report, AddsAll}
use Rattle.l4_text.specs.declared.faults.RunFault.{RunFault}
use Rattle.l4_text.specs.declared.faults.RunFault.TheVariants.{Read, Write, Memory}

-- the first lines of a script were answered, this was reported of them, and this is the history after them
pub record HasHistory {T : Type 0} (frames : ℕ) (size : PageSize) (old new : Option (List ℕ)) (has_told : T → T → List Report → Type 0) (closed : T → Bool) (before after : T) (history : List Entry) : Type 0 where
  pub first : AnswersFirst false frames size old new has_told closed before
  pub adds : AddsAll has_told before after first.told
  pub is_history : history ≡ first.is_answered.last.session.history

-- A script was executed, and this is its history: of all lines, and also a last line that is cut, or of those before the sink closed; or only of
-- whole lines if a read failed.
abbrev pub Records : {T : Type 0} → ℕ → PageSize → Option (List ℕ) → Option (List ℕ) → (T → T → List Report → Type 0) → (T → Bool) → T → T → List Entry → Result ℕ RunFault → Type 0
Records frames size old new has_told closed before after history (Ok count) =
    (h : HasHistory frames size old new has_told closed before after history) × (count ≡ length h.first.lines)
    × ((IsAtEnd new × (h.first.lines ≡ lines_of h.first.read)) ⊎ (closed after ≡ true))
Records frames size old new has_told closed before after history (Err Read) =
    (h : HasHistory frames size old new has_told closed before after history) × (h.first.lines ≡ filter (λ line. line.whole) (lines_of h.first.read))
Records frames size old new has_told closed before after history (Err Write) = ⊥
Records frames size old new has_told closed before after history (Err Memory) = ⊥
