use Rattle.std.proofs.Common.{length, ap, arith}
use Rattle.l4_journal.specs.Inside.Stored.{RecordList}
use Rattle.l4_journal.proofs.Storing.{cut_length}
use Rattle.l4_journal.proofs.store.Store.clear.Goals as goal

pub returns-clause-room : goal.returns-clause-room
returns-clause-room c =
    let count = cut_length 0 c.self.inside.ends.items c.self.inside.words.items in
    let records = ap (λ (l : RecordList). length l.records) c.self.view_is in
    let room = ap (λ (l : RecordList). l.room) c.self.view_is in
    let within = c.self.invariant.within in
    omega (arith, within, c.len.ensures, c.self.inside.ends.ok.0, count, records, room)
