-- What is known of a teller, the sink that writes answers.
use Rattle.std.specs.Prelude.{ℕ, ◌≡◌, ◌||◌, Bool, false, List, Option, None, is_some, if◌then◌else◌}
use Rattle.std.specs.Io.KnownBytes.{Appends}
use Rattle.l4_text.specs.Streams.{HasTold}
use Rattle.l4_answers.specs.Reports.{Report}
use Rattle.l4_sinks.specs.declared.teller.Teller.{Teller}
use Rattle.l4_sinks.specs.Texts.{AreAnswerTexts, last_refusal}

-- a teller stayed what it was: it explains or doesn't, it is strict or isn't; and a strict one keeps what the last refusal of a line says
pub record IsSame {W : Type 0} (first now : Teller W) (told : List Report) : Type 0 where
  pub explains : now.explains ≡ first.explains
  pub strict : now.strict ≡ first.strict
  pub refused : now.refused ≡ (if first.strict then last_refusal None told else None)

-- these answers were reported, and their text is written but for what is held back or lost
abbrev pub HasReported : {W : Type 0} → (W → Option (List ℕ)) → Teller W → Teller W → List Report → Type 0
HasReported contents first now told =
    IsSame first now told × ((text : List ℕ) × AreAnswerTexts first.explains told text × HasTold (contents first.writer) (contents now.writer) now.out.0 now.out.1 text)

-- these answers were reported, their text is written, and no write failed
abbrev pub HasWritten : {W : Type 0} → (W → Option (List ℕ)) → Teller W → Teller W → List Report → Type 0
HasWritten contents first now told =
    IsSame first now told × ((text : List ℕ) × AreAnswerTexts first.explains told text × Appends (contents first.writer) (contents now.writer) text) × (now.out.1 ≡ false)

-- a write failed, or a line was refused in a strict run
abbrev pub is_over : {W : Type 0} → Teller W → Bool
is_over teller = teller.out.1 || is_some teller.refused
