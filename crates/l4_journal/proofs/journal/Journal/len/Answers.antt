use Rattle.std.proofs.Common.{length, sym, ap, ◌∙◌}
use Rattle.l4_journal.specs.ItemLists.{ItemList}
use Rattle.l4_journal.proofs.ReadRecords.{length_read}
use Rattle.l4_journal.proofs.journal.Journal.len.Goals as goal

pub returns : goal.returns
returns g c =
    c.len.ensures ∙ sym (length_read g.T.FromWords.item_at c.self.inside.store.records c.self.invariant) ∙ ap (λ (l : ItemList g.row.T.Denot). length l.items) c.self.view_is
