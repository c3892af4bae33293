use Rattle.std.proofs.Common.{sym, ◌∙◌, subst}
use Rattle.l4_lock.specs.Books.{book_at}
use Rattle.l4_lock.specs.Locked.{Lock, Cancels}
use Rattle.l4_seated_lock.proofs.Keeping.{same_plain}
use Rattle.l4_seated_lock.proofs.seated.SeatedLock.cancel.Goals as goal

pub invariant_of-self-2 : goal.invariant_of-self-2
invariant_of-self-2 c = λ n.
    c.self.invariant n
    ∙ sym (same_plain (book_at c.cancel-canceled.new.self.books n) (book_at c.self.inside.locked.books n) (c.in_default.ensures.ok.books n))

pub returns-clause-ok : goal.returns-clause-ok
returns-clause-ok c = subst (λ (l : Lock). Cancels l c.cancel-canceled.new.self c.args.number c.args.cause) c.self.view_is c.in_default.ensures.ok
