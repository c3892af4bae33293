use Rattle.std.proofs.Common.{ne_eqb}
use Rattle.l4_text.proofs.Parts.{three_after}
use Rattle.l4_text.proofs.tokens.last_three.Goals as goal

pub returns : goal.returns
returns c =
    three_after c.args.line.now _ _ _ _ c.if-line-ne4.false c.if-line-ne32.false (ne_eqb _ 32 c.if-line-eq32.false) (ne_eqb _ 32 c.if-line-eq32-2.false)
    (ne_eqb _ 32 c.if-line-eq32-3.false)
