-- Scripts whose history is handed out (this profile's own).
use Rattle.std.specs.Prelude.{◌≡◌, ℕ, Bool, true, false, List, codes, bytes_eq}
use Rattle.std.specs.List.{list_any}
use Rattle.l4_fpage.specs.declared.sizes.PageSize.{PageSize}
use Rattle.l4_answers.specs.Refusals.{Refusal}
use Rattle.l4_answers.specs.Reports.{Report, RefusedLine, UnreadLine, RefusedAct}
use Rattle.l4_text.specs.Grammar.{TextLine}
use Rattle.l4_shell.specs.Sessions.{IsAnswered}

-- whether a refusal says that the history is full
abbrev pub is_full : Refusal → Bool
is_full refusal = bytes_eq refusal.name (codes "L1")

-- whether an answer says so
abbrev pub says_full : Report → Bool
says_full (RefusedLine line refusal) = is_full refusal
says_full (UnreadLine size names line refusal bytes) = is_full refusal
says_full (RefusedAct thread refusal) = is_full refusal
says_full report = false

abbrev pub any_full : List Report → Bool
any_full told = list_any says_full told

-- No answer of a script whose history is handed out says that the history is full. All answers that a script can have without one that says
-- so, it can also have if its history is handed out.
abbrev pub NeverFull : Type 0
NeverFull =
    ((frames : ℕ) (size : PageSize) (lines : List TextLine) (told : List Report) → IsAnswered true frames size lines told → any_full told ≡ false)
    × ((frames : ℕ) (size : PageSize) (lines : List TextLine) (told : List Report) → IsAnswered false frames size lines told → any_full told ≡ false
    → IsAnswered true frames size lines told)
