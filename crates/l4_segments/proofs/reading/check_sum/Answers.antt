use Rattle.std.proofs.Common.{arith}
use Rattle.l4_segments.proofs.Several.{sum_ends}
use Rattle.l4_segments.proofs.reading.check_sum.Goals as goal

pub returns-clause-ok : goal.returns-clause-ok
returns-clause-ok c =
    let left = c.if-left-lt-DIGEST_BYTES.false in
    let within = c.requires in
    sum_ends c.args.bytes.now c.digest-digest.result c.args.at c.digest-digest.ensures (omega (arith, left, within)) (c.are_at.ensures.0 c.if-not-are_at.false)
