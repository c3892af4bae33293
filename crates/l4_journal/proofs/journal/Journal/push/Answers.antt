use Rattle.std.proofs.Common.{◌++◌, ◌∙◌, ap}
use Rattle.l4_journal.specs.ItemLists.{ItemList}
use Rattle.l4_journal.proofs.ReadRecords.{room_read, are_read_pushed, items_pushed, length_pushed}
use Rattle.l4_journal.proofs.journal.Journal.push.Goals as goal

pub push-requires-clause-room : goal.push-requires-clause-room
push-requires-clause-room g c = room_read g.T.FromWords.item_at c.self.inside.store.records c.self.inside.store.room c.args.self.now c.self.view_is c.self.invariant c.requires.room

pub invariant_of-self : goal.invariant_of-self
invariant_of-self g c =
    are_read_pushed g.T.FromWords.item_at c.self.inside.store.records c.self.inside.store.room c.args.self.now c.self.view_is c.self.invariant c.push.new.self.records (c.args.head.now ++ c.args.tail.now) c.push.ensures.records c.requires.read

pub returns-clause-items : goal.returns-clause-items
returns-clause-items g c =
    items_pushed g.T.FromWords.item_at c.self.inside.store.records c.self.inside.store.room c.args.self.now c.self.view_is c.self.invariant c.push.new.self.records (c.args.head.now ++ c.args.tail.now) c.push.ensures.records c.requires.read

pub returns-clause-room : goal.returns-clause-room
returns-clause-room g c = (
  length_pushed g.T.FromWords.item_at c.self.inside.store.records c.self.inside.store.room c.args.self.now c.self.view_is c.self.invariant c.push.new.self.records (c.args.head.now ++ c.args.tail.now) c.push.ensures.records c.requires.read,
  c.push.ensures.room ∙ ap (λ (l : ItemList g.row.T.Denot). l.room) c.self.view_is,
)
