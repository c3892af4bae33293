use Rattle.std.proofs.Common.{◌∙◌, sym}
use Rattle.l4_c_queries.proofs.Plain.{plain_end, plain_next, not_plain}
use Rattle.l4_c_queries.proofs.tracing.are_plain.Goals as goal

pub returns-then-links-at-ne0 : goal.returns-then-links-at-ne0
returns-then-links-at-ne0 c = not_plain c.args.links.now c.loop-at.at _ c.loop-at-test.true _ c.loop-at.invariant c.if-links-at-ne0.true

pub loop-at-preserved : goal.loop-at-preserved
loop-at-preserved c = plain_next c.args.links.now c.loop-at.at _ c.loop-at-test.true _ c.loop-at.invariant c.if-links-at-ne0.false

pub returns : goal.returns
returns c = sym (plain_end c.args.links.now c.loop-at.at c.loop-at-test.false) ∙ c.loop-at.invariant
