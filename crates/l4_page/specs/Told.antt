-- Texts in the page's memory, and the results of calls (this profile's own).
use Rattle.std.specs.Prelude.{◌≡◌, ℕ, Bool, List, ◌++◌, length, take, drop, min, if◌then◌else◌}
use Rattle.l4_refusals.specs.Texts.{spelled}
use Rattle.l4_page.specs.declared.telling.Told.{Told as Answer}

-- the memory after as many of the items as fit were written to it; the rest is unchanged
abbrev pub placed : {A : Type 0} → List A → List A → List A
placed items places = take (min (length items) (length places)) items ++ drop (min (length items) (length places)) places

abbrev pub text_told : {A : Type 0} → List A → Bool → ℕ → Answer
text_told text found lines = record { refusal = 0; found = if found then 1 else 0; length = length text; lines = lines }

abbrev pub refused : ℕ → Answer
refused refusal = record { refusal = refusal; found = 0; length = 0; lines = 0 }

-- the call is refused, and nothing is written
abbrev pub TellsNothing : List ℕ → List ℕ → List ℕ → Answer → Type 0
TellsNothing code old new told = (told ≡ refused (spelled code)) × (new ≡ old)

-- the result is this text, and it is written
abbrev pub IsTold : List ℕ → Bool → ℕ → List ℕ → List ℕ → Answer → Type 0
IsTold text found lines old new told = (told ≡ text_told text found lines) × (new ≡ placed text old)
