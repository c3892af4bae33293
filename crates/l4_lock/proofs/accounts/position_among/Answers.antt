use Rattle.std.proofs.Common.{sym, ap, ◌∙◌}
use Rattle.l4_lock.specs.Books.{Book}
use Rattle.l4_lock.proofs.Books.{at_first}
use Rattle.l4_lock.proofs.accounts.position_among.Goals as goal

pub returns-then-number : goal.returns-then-number
returns-then-number c =
    (c.loop-i-test.true, c.loop-i.invariant ∙ at_first c.args.accounts.now c.args.number c.loop-i.i c.index-accounts-i.result c.loop-i-test.true (ap (λ (b : Book). b.number) (sym c.index-accounts-i.is) ∙ sym c.number.ensures ∙ c.if-number.true))
