use Rattle.l4_options.proofs.Words.{AreRead}
use Rattle.l4_options.proofs.values.numbers_in.Given as goal

abbrev pub invariant-loop-text : goal.invariant-loop-text
invariant-loop-text l = AreRead l.texts l.text-index l.words.items
