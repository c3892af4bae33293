use Rattle.std.proofs.Common.{refl, arith}
use Rattle.std.proofs.lemmas.Bool.{false≢true}
use Rattle.l4_checkpoints.proofs.Forming.{right_end}
use Rattle.l4_checkpoints.proofs.Refusing.{other_length, other_sum}
use Rattle.l4_checkpoints.proofs.headings.check_end.Goals as goal

pub returns-then-count-whole-clause-end : goal.returns-then-count-whole-clause-end
returns-then-count-whole-clause-end c =
    let least = c.requires in
    let many = c.if-count-whole.true in
    other_length c.args.bytes.now c.args.count (λ e. omega (arith, least, many, e))

pub returns-then-left-lt-DIGEST_BYTES-clause-end : goal.returns-then-left-lt-DIGEST_BYTES-clause-end
returns-then-left-lt-DIGEST_BYTES-clause-end c =
    let least = c.requires in
    let within = c.if-count-whole.false in
    let short = c.if-left-lt-DIGEST_BYTES.true in
    other_length c.args.bytes.now c.args.count (λ e. omega (arith, least, within, short, e))

pub returns-then-left-gt-DIGEST_BYTES-clause-end : goal.returns-then-left-gt-DIGEST_BYTES-clause-end
returns-then-left-gt-DIGEST_BYTES-clause-end c =
    let least = c.requires in
    let within = c.if-count-whole.false in
    let more = c.if-left-gt-DIGEST_BYTES.true in
    other_length c.args.bytes.now c.args.count (λ e. omega (arith, least, within, more, e))

pub returns-then-not-are_at-clause-end : goal.returns-then-not-are_at-clause-end
returns-then-not-are_at-clause-end c =
    other_sum c.args.bytes.now c.digest-digest.result c.args.count c.digest-digest.ensures (λ h. false≢true (c.if-not-are_at.ensures.1 h))

pub returns-clause-end : goal.returns-clause-end
returns-clause-end c =
    let within = c.if-count-whole.false in
    let short = c.if-left-lt-DIGEST_BYTES.false in
    let more = c.if-left-gt-DIGEST_BYTES.false in
    let least = c.requires in
    right_end c.args.bytes.now c.digest-digest.result c.args.count (omega (arith, least, within, short, more)) c.digest-digest.ensures (c.if-not-are_at.ensures.0 refl)
