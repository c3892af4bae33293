use Rattle.std.proofs.Common.{arith}
use Rattle.l4_mapdb.proofs.Tangling.{not_so, clashes_in}
use Rattle.l4_mapdb.proofs.Apart.{none_clashes}
use Rattle.l4_mapdb.proofs.tangles.clashes.Goals as goal

pub returns : goal.returns
returns c = not_so (λ h.
    let k = clashes_in c.args.links.now.entries c.args.from c.args.to c.args.items.now c.args.used.now h in
    c.loop-other.invariant k.0 (omega (arith, k.1, c.loop-other-test.false)) k.2)

pub returns-then-apart : goal.returns-then-apart
returns-then-apart c = not_so (none_clashes c.args.links.now.entries c.args.from c.args.to c.args.items.now (c.requires.apart c.if-apart.true) c.args.used.now c.requires.used)
