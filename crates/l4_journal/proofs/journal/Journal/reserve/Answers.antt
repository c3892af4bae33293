use Rattle.std.proofs.Common.{sym, subst, List, ℕ}
use Rattle.l4_journal.specs.Inside.ReadRecords.{AreRead}
use Rattle.l4_journal.proofs.ReadRecords.{length_read}
use Rattle.l4_journal.proofs.journal.Journal.reserve.Goals as goal

pub returns-clause-ok : goal.returns-clause-ok
returns-clause-ok g c =
    let item_at = g.T.FromWords.item_at in
    let each : AreRead item_at c.reserve.new.self.records = subst (λ (records : List (List ℕ)). AreRead item_at records) (sym c.reserve.ensures.records) c.self.invariant in
    rw (length_read item_at c.reserve.new.self.records each) c.reserve.ensures.ok
