-- A text as it is stored (this profile's own).
use Rattle.std.specs.Prelude.{ℕ, List}
use Rattle.l4_refusals.specs.declared.Text.{Text}

abbrev pub bytes_of : Text → List ℕ × List ℕ
bytes_of text = (text.code.now, text.line.now)
