use Rattle.std.proofs.Common.{IsTrue, subst, arith}
use Rattle.std.specs.Ordering.{nat_cmp}
use Rattle.std.specs.FinSet as set
use Rattle.l4_spaces.proofs.Showing.{whole_long}
use Rattle.l4_parts_tests.proofs.spaces.clear_aside.Goals as goal

pub put_tables-requires-clause-there : goal.put_tables-requires-clause-there
put_tables-requires-clause-there c = subst (λ (v : set.FinSet nat_cmp). IsTrue (set.contains v c.args.space)) c.take_tables-tables.ensures.out.spaces c.requires.there

pub put_tables-requires-clause-whole : goal.put_tables-requires-clause-whole
put_tables-requires-clause-whole c = whole_long c.take_tables-tables.result.items c.clear.new.tables.items c.clear.ensures.long c.take_tables-tables.ensures.out.here.whole

pub put_tables-requires-clause-full : goal.put_tables-requires-clause-full
put_tables-requires-clause-full c = let e = c.clear.ensures.full in let f = c.take_tables-tables.ensures.out.here.full in omega (arith, e, f)
