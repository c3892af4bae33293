use Rattle.std.proofs.Common.{◌≡◌, IfOk, List, Some, map, subst}
use Rattle.clap.specs.Walk.{Text}
use Rattle.l4_text.specs.Numbers.{number_of}
use Rattle.l4_options.proofs.Words.{words_are}
use Rattle.l4_options.proofs.values.words_of.Goals as goal

pub returns : goal.returns
returns c =
    subst (λ (texts : List Text). IfOk c.numbers_in.result (λ words. map number_of texts ≡ map Some words.items)) (words_are (map (λ s. s.now) c.in-Some.texts.now) _ c.in-Some.ensures) c.numbers_in.ensures
