use Rattle.std.proofs.Common.{◌≡◌, None, subst, MatchOption}
use Rattle.std.specs.Prelude.{slice_get, IsTrue, is_some}
use Rattle.l4_journal.specs.ItemLists.{ItemList}
use Rattle.l4_journal.proofs.ReadRecords.{words_read}
use Rattle.l4_journal.proofs.journal.Journal.words.Goals as goal

pub returns : goal.returns
returns g c =
    let item_at = g.T.FromWords.item_at in
    subst
    (λ (l : ItemList g.row.T.Denot). MatchOption c.get.result (slice_get l.items c.args.place ≡ None) (λ words. (slice_get l.items c.args.place ≡ item_at words) × IsTrue (is_some (item_at words))))
    c.self.view_is
    (words_read item_at c.self.inside.store.records c.args.place c.get.result c.self.invariant c.get.ensures)
