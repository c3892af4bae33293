-- The text of the control of an Unmap (this profile's own).
use Rattle.std.specs.Prelude.{ℕ, List, ◌++◌, if◌then◌else◌, codes, decimal}
use Rattle.l4_unmap.specs.Unmap.{fpage_count, with_own}
use Rattle.l4_decode.specs.Spelling.{meaning_line}

-- whether the caller's own pages lose the rights too, and the number of fpages
unfoldable pub control_text : ℕ → List ℕ
control_text control = (if with_own control then codes "flush" else codes "unmap") ++ codes ", fpages " ++ decimal (fpage_count control)

unfoldable pub control_line : ℕ → List ℕ
control_line word = meaning_line (codes "control ") word (control_text word)
