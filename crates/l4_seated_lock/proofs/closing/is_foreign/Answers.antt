use Rattle.l4_seated_lock.proofs.Naming.{first_has}
use Rattle.l4_seated_lock.proofs.closing.is_foreign.Goals as goal

pub returns-clause-fine : goal.returns-clause-fine
returns-clause-fine c = λ fine. (first_has c.args.seats.now c.args.number _ c.in-Some.ensures, c.has_number.ensures.lacks fine)
