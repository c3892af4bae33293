use Rattle.std.proofs.Common.{◌≡◌, ◌+◌, ◌++◌, take, vec_len, vec_capacity}
use Rattle.l4_journal.proofs.store.put_few.Given as goal

abbrev pub invariant-loop-word : goal.invariant-loop-word
invariant-loop-word l = record {
  items : l.out.items ≡ l.fn.out.items ++ take l.word-index l.words;
  len : vec_len l.out ≡ vec_len l.fn.out + l.word-index;
  capacity : vec_capacity l.out ≡ vec_capacity l.fn.out;
}
