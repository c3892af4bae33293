use Rattle.std.proofs.Common.{sym, ap, ◌∙◌}
use Rattle.l4_lock.specs.Inside.Accounts.{replies_in}
use Rattle.l4_lock.proofs.Forgetting.{replies_forgotten}
use Rattle.l4_lock.proofs.accounts.Accounts.forget.Goals as goal

pub invariant_of-self : goal.invariant_of-self
invariant_of-self c = c.self.invariant ∙ sym (replies_forgotten c.self.inside.items.items) ∙ sym (ap replies_in c.forget_all.ensures)
