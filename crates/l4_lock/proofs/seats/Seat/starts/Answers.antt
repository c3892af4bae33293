use Rattle.std.proofs.Common.{arith}
use Rattle.l4_lock.proofs.seats.Seat.starts.Goals as goal

pub overflow_add-result : goal.overflow_add-result
overflow_add-result c = omega (arith, c.len.ensures.bound, c.self.invariant.0, c.self.invariant.1)
