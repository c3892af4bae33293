use Rattle.std.proofs.Common.{◌≡◌, ◌++◌, take}
use Rattle.l4_keys.proofs.names.put_bytes.Given as goal

abbrev pub invariant-loop-byte : goal.invariant-loop-byte
invariant-loop-byte l = l.out.items ≡ l.initial.out.items ++ take l.byte-index l.bytes
