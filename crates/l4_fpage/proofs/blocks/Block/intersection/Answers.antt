use Rattle.std.proofs.Common.{inr, refl, arith}
use Rattle.std.proofs.lemmas.Bool.{false≢true}
use Rattle.l4_fpage.proofs.Nested.{nested, disjoint}
use Rattle.l4_fpage.proofs.blocks.Block.intersection.Goals as goal

pub returns-then-contains-clause-both : goal.returns-then-contains-clause-both
returns-then-contains-clause-both c page =
    let a = c.args.self in
    let b = c.args.other in
    (λ h. (nested b.first b.log a.first a.log page b.block a.block (omega (arith, c.if-self-other.true)) (c.if-contains.ensures.0 refl) h, h), λ h. h.1)

pub returns-else-contains-clause-disjoint : goal.returns-else-contains-clause-disjoint
returns-else-contains-clause-disjoint c =
    let a = c.args.self in
    let b = c.args.other in
    inr (λ page h k. disjoint b.first b.log a.first a.log page b.block a.block (omega (arith, c.if-self-other.true)) (λ p. false≢true (c.if-contains.ensures.1 p)) k h)

pub returns-then-contains-2-clause-both : goal.returns-then-contains-2-clause-both
returns-then-contains-2-clause-both c page =
    let a = c.args.self in
    let b = c.args.other in
    (λ h. (h, nested a.first a.log b.first b.log page a.block b.block c.if-self-other.false (c.if-contains-2.ensures.0 refl) h), λ h. h.0)

pub returns-clause-disjoint : goal.returns-clause-disjoint
returns-clause-disjoint c =
    let a = c.args.self in
    let b = c.args.other in
    inr (λ page h k. disjoint a.first a.log b.first b.log page a.block b.block c.if-self-other.false (λ p. false≢true (c.if-contains-2.ensures.1 p)) h k)
