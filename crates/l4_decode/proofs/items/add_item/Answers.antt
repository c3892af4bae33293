use Rattle.l4_decode.specs.Items.{item_text}
use Rattle.l4_decode.proofs.items.add_item.Goals as goal

pub returns-in-6-clause-value : goal.returns-in-6-clause-value
unfolding item_text
returns-in-6-clause-value c = rw c.in-6.is c.add.ensures.value

pub returns-in-7-clause-value : goal.returns-in-7-clause-value
unfolding item_text
returns-in-7-clause-value c = rw c.in-7.is c.add-in-7.ensures.value
