use Rattle.std.proofs.Common.{length, ap, arith}
use Rattle.l4_journal.specs.ItemLists.{ItemList}
use Rattle.l4_journal.proofs.ReadRecords.{length_read}
use Rattle.l4_journal.proofs.journal.Journal.clear.Goals as goal

pub returns-clause-room : goal.returns-clause-room
returns-clause-room g c =
    let count = length_read g.T.FromWords.item_at c.self.inside.store.records c.self.invariant in
    let items = ap (λ (l : ItemList g.row.T.Denot). length l.items) c.self.view_is in
    let room = ap (λ (l : ItemList g.row.T.Denot). l.room) c.self.view_is in
    omega (arith, c.clear.ensures.room, count, items, room)
