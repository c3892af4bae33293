use Rattle.std.proofs.Common.{Some, Option, inl, refl, sym, ap, ◌∙◌, subst}
use Rattle.l4_ipc.specs.Machine.{Machine}
use Rattle.l4_c.specs.Exports.{Boots}
use Rattle.l4_c.proofs.owning.boot.Goals as goal

pub returns-in-Ok-new : goal.returns-in-Ok-new
returns-in-Ok-new c =
    subst (λ (old : Option Machine). Boots old c.args.size c.args.frames 0 c.put-in-Ok-new.new.self.value) (sym c.in_default.ensures.taken)
    (inl (c.in-Ok.kernel, c.in-Ok.ensures.0, c.in-Ok.ensures.1, refl, c.put-in-Ok-new.ensures ∙ ap Some c.in-Ok-new.ensures.ok))
