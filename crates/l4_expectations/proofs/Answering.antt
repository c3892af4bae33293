-- The text of a line's answers, from a teller that wrote nothing else.
use Rattle.std.proofs.Common.{ℕ, false, List, [], Option, None, subst}
use Rattle.std.specs.Io.KnownBytes.{Appends}
use Rattle.l4_fpage.specs.declared.sizes.PageSize.{PageSize}
use Rattle.l4_answers.specs.Reports.{Report, AddsAll, AllOut}
use Rattle.l4_sinks.specs.declared.teller.Teller.{Teller}
use Rattle.l4_sinks.specs.Texts.{AreAnswerTexts}
use Rattle.l4_sinks.specs.Tellers.{HasReported, HasWritten}
use Rattle.l4_sinks.proofs.Running.{IsNew, nothing_reported}

pub teller_text : {W : Type 0} (contents : W → Option (List ℕ)) (first told_to sent : Teller W) (writer : W) (told : List Report) → IsNew first writer false None
    → AddsAll (HasReported contents) first told_to told → AllOut (HasReported contents) (HasWritten contents) told_to sent
    → (text : List ℕ) × AreAnswerTexts None told text × Appends (contents writer) (contents sent.writer) text
teller_text {W = W} contents first told_to sent writer told is adds out =
    let w : HasWritten contents first sent told = out first told (adds first [] (nothing_reported contents first writer false None is)) in (
      w.1.0,
      subst (λ (e : Option PageSize). AreAnswerTexts e told w.1.0) is.explains_is w.1.1,
      subst (λ (x : W). Appends (contents x) (contents sent.writer) w.1.0) is.writer_is w.1.2,
    )
