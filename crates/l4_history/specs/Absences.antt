-- The text about a page that is not present (this profile's own).
use Rattle.std.specs.Prelude.{ℕ, List, [], ◌++◌, Option, Some, None, codes, decimal, slice_get}
use Rattle.l4_record.specs.declared.entries.Entry.{Entry}
use Rattle.l4_answers.specs.Replies.{space, newline}
use Rattle.l4_step_lines.specs.Steps.{step_line}

abbrev pub absent_line : List ℕ
absent_line = codes "absent" ++ newline

unfoldable pub removed_by : ℕ → List ℕ
removed_by number = codes "removed by entry " ++ decimal number ++ space

-- the step that removed the page: the number of its entry, from 0, and the line that requests it
abbrev pub removed_line : ℕ → Option Entry → List ℕ
removed_line number None = []
removed_line number (Some entry) = removed_by number ++ step_line entry.step

abbrev pub removed_text : List Entry → Option ℕ → List ℕ
removed_text history None = []
removed_text history (Some number) = removed_line number (slice_get history number)

-- the text for a page that is not present, and that the step of this entry removed, if there is one
abbrev pub absent_text : List Entry → Option ℕ → List ℕ
absent_text history removed = absent_line ++ removed_text history removed
