use Rattle.std.proofs.Common.{arith}
use Rattle.l4_journal.proofs.Storing.{cut_length}
use Rattle.l4_journal.proofs.store.Store.reserve.Goals as goal

pub returns-clause-ok : goal.returns-clause-ok
returns-clause-ok c =
    omega (arith, c.max-self-inside.ensures, c.len-2.ensures, c.reserve-2.new.self.ok.0, cut_length 0 c.reserve-2.new.self.items c.reserve.new.self.items)
