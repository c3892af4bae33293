use Rattle.std.proofs.Common.{sym, ◌∙◌}
use Rattle.l4_symbols.specs.declared.words.WordKind.TheVariants.{Fpage}
use Rattle.l4_commands.proofs.InTurn.{symbol_number}
use Rattle.l4_commands.proofs.symbols.next_fpage.Goals as goal

pub returns-in-Some : goal.returns-in-Some
returns-in-Some c = (
  c.in_ok-number.ensures.0,
  c.in_ok-number.ensures.1,
  sym (symbol_number Fpage c.args.size c.in-Some.word _ (sym c.in-Some.is ∙ c.in_ok-number.ensures.2)),
)
