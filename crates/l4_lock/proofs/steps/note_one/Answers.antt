use Rattle.l4_lock.proofs.Noting.{note_at, not_noted}
use Rattle.l4_lock.proofs.steps.note_one.Goals as goal

pub returns-in-Some : goal.returns-in-Some
returns-in-Some c = note_at c.args.kernel.now c.args.place c.args.number c.args.accounts.now.items c.end.new.self.items c.in-Some.at c.requires c.in-Some.ensures.0 c.in-Some.ensures.1 c.end.ensures

pub returns-in_default : goal.returns-in_default
returns-in_default c = not_noted c.args.kernel.now c.args.place c.args.number c.args.accounts.now.items c.in_default.ensures
