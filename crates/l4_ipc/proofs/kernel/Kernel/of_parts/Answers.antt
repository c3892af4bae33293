use Rattle.l4_ipc.proofs.Holding.{parts_sound}
use Rattle.l4_ipc.proofs.kernel.Kernel.of_parts.Goals as goal

pub invariant_of-result : goal.invariant_of-result
invariant_of-result c =
    let parts = c.are_parts.ensures.0 c.if-not-are_parts.false in
    record { sound = parts_sound c.args.size c.args.threads c.args.forest parts; fits = parts.pages }
