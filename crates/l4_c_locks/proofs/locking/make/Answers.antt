use Rattle.std.proofs.Common.{Some, Option, inl, refl, sym, ap, ◌∙◌, subst}
use Rattle.l4_lock.specs.Locked.{Lock}
use Rattle.l4_c_locks.specs.Locking.{MakesLock}
use Rattle.l4_c_locks.proofs.locking.make.Goals as goal

pub returns-in-Ok-new : goal.returns-in-Ok-new
returns-in-Ok-new c =
    let e = c.in-Ok.ensures in
    subst (λ (old : Option Lock). MakesLock old c.args.size c.args.frames 0 c.put-in-Ok-new.new.self.value) (sym c.in_default.ensures.taken)
    (inl (c.in-Ok.lock, e.0, e.1, e.2, e.3, e.4, refl, c.put-in-Ok-new.ensures ∙ ap Some c.in-Ok-new.ensures.ok))
