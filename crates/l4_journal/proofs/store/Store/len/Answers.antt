use Rattle.std.proofs.Common.{length, ap, arith}
use Rattle.l4_journal.specs.Inside.Stored.{RecordList}
use Rattle.l4_journal.proofs.Storing.{cut_length}
use Rattle.l4_journal.proofs.store.Store.len.Goals as goal

pub returns : goal.returns
returns c =
    omega (arith, c.len.ensures, c.self.inside.ends.ok.0, cut_length 0 c.self.inside.ends.items c.self.inside.words.items, ap (λ (l : RecordList). length l.records) c.self.view_is)
