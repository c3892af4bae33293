use Rattle.std.proofs.Common.{rules}
use Rattle.l4_symbols.specs.Items.{IsFpageOf}
use Rattle.l4_symbols.proofs.Computed.{pages_are, pages_fail}
use Rattle.l4_symbols.proofs.pages.fpage_of.Goals as goal

pub returns-in-Ok-clause-value : goal.returns-in-Ok-clause-value
returns-in-Ok-clause-value c =
    let is : IsFpageOf c.args.size c.args.pages.now c.args.rights c.of_block.result = search rules in
    pages_are c.args.size c.args.pages.now c.args.rights c.of_block.result is

pub returns-in-Err-clause-value : goal.returns-in-Err-clause-value
returns-in-Err-clause-value c = pages_fail c.args.size c.args.pages.now c.args.rights c.in-Err.reason c.in-Err.ensures.value
