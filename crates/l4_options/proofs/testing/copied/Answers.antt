use Rattle.std.specs.String.{string_bytes}
use Rattle.l4_options.proofs.Words.{all_copies, one_copy}
use Rattle.l4_options.proofs.testing.copied.Goals as goal

pub loop-name-preserved : goal.loop-name-preserved
loop-name-preserved c = one_copy string_bytes c.args.names.now c.loop-name.name-index _ c.loop-name.copy.items c.push.new.self.items c.in-Ok.text c.loop-name-test.true c.loop-name.invariant c.in-Ok.ensures.ok c.in-Ok-push.ensures.items

pub returns : goal.returns
returns c = all_copies string_bytes c.args.names.now c.loop-name.name-index c.loop-name.copy.items c.loop-name-test.false c.loop-name.invariant
