use Rattle.std.proofs.Common.{arith}
use Rattle.std.proofs.lemmas.Bool.Decides.{nat_tests}
use Rattle.l4_mapdb.proofs.Clashing.{read_there}
use Rattle.l4_mapdb.proofs.Tangling.{into_of}
use Rattle.l4_mapdb.proofs.tangles.move_into.Goals as goal

pub returns : goal.returns
returns c =
    into_of c.args.links.now.entries c.args.from c.args.to c.args.items.now c.args.item c.index-items-item.result c.args.place c.move_out.result
    (read_there _ _ _ c.requires c.index-items-item.is) (grind (arith, nat_tests, c.if-place-to.false)) (c.contains.ensures.0 c.if-not-contains.false).from c.move_out.ensures
