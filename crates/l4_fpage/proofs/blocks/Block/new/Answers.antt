use Rattle.std.proofs.Common.{◌≡◌, ◌*◌, ◌%◌, ◌^◌, arith}
use Rattle.std.proofs.lemmas.Nat.{one_shl}
use Rattle.l4_fpage.proofs.Powers.{aligned_step, pow_aligned}
use Rattle.l4_fpage.proofs.blocks.Block.new.Goals as goal

pub invariant_of-result : goal.invariant_of-result
invariant_of-result c =
    let n = c.args.first in
    let k = c.args.log in
    let e : (1 * 2 ^ k) % 2 ^ 32 ≡ 2 ^ k = one_shl k 32 (omega arith) in
    let a : n % 2 ^ k ≡ 0 = rw e at c.if-first-size-eq0.true in
    record { block = record { small = c.if-log-le-MOST_SPACE_LOG.true; aligned = a; inside = aligned_step k n (2 ^ 22) a (pow_aligned k 22 c.if-log-le-MOST_SPACE_LOG.true) (omega arith) } }
