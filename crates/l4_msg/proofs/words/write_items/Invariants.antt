use Rattle.std.proofs.Common.{◌≡◌, ◌*◌, ◌++◌, length, drop}
use Rattle.l4_msg.specs.Words.{items_words}
use Rattle.l4_msg.proofs.words.write_items.Given as goal

abbrev pub invariant-loop-i : goal.invariant-loop-i
invariant-loop-i l = record {
  count : length l.words.items ≡ 2 * l.i;
  rest : l.words.items ++ items_words (drop l.i l.items) ≡ items_words l.items;
}
