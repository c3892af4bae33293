use Rattle.std.proofs.Common.{◌+◌, ◌<◌, length, drop, subst, List, arith}
use Rattle.std.specs.Iterator.{YieldsFirst}
use Rattle.l4_journal.proofs.ReadRecords.{yields}
use Rattle.l4_journal.proofs.journal.ItemsFromIterator.next.Goals as goal

pub returns-clause-steps : goal.returns-clause-steps
returns-clause-steps g c =
    let items = c.self.inside.list.now.items in
    let lt : c.self.inside.place < length items = omega (arith, c.len.ensures) in
    subst (λ (left : List g.row.T.Denot). YieldsFirst (λ (s : List g.row.T.Denot). s) left c.get-item.result (drop (c.self.inside.place + 1) items)) c.self.view_is
    (yields items c.self.inside.place c.get-item.result lt c.get-item.ensures)
