use Rattle.std.proofs.Common.{arith, rules}
use Rattle.l4_symbols.specs.Items.{IsItemOf}
use Rattle.l4_symbols.proofs.Computed.{item_is, item_beyond, item_fails}
use Rattle.l4_symbols.proofs.items.item_of.Goals as goal

pub returns-in-Err-clause-value : goal.returns-in-Err-clause-value
returns-in-Err-clause-value c = item_fails c.args.size c.args.parts.now c.in-Err.reason c.in-Err.ensures.value

pub returns-then-parts-space_pages-clause-value : goal.returns-then-parts-space_pages-clause-value
returns-then-parts-space_pages-clause-value c =
    item_beyond c.args.size c.args.parts.now c.in-Ok.fpage c.in-Ok.ensures.ok (omega (arith, c.space_pages.ensures.value))

pub returns-clause-value : goal.returns-clause-value
returns-clause-value c =
    let is : IsItemOf c.args.size c.args.parts.now c.if-parts.result = search rules in
    item_is c.args.size c.args.parts.now c.if-parts.result is
