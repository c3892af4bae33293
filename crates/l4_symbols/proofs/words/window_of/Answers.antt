use Rattle.std.proofs.Common.{sym, ap, ◌∙◌}
use Rattle.l4_fpage.specs.Rights.{RightsSet}
use Rattle.l4_symbols.specs.Computed.{pages_word, window_word_of}
use Rattle.l4_symbols.proofs.words.window_of.Goals as goal

pub returns-in-Run-clause-value : goal.returns-in-Run-clause-value
returns-in-Run-clause-value c =
    c.fpage_of.ensures.value ∙ ap (λ (rights : RightsSet). pages_word c.args.size c.in-Run.pages rights) c.of_bits-in-Run.ensures ∙ ap (window_word_of c.args.size) (sym c.in-Run.is)
