use Rattle.std.proofs.Common.{◌≤◌, subst, arith}
use Rattle.l4_threads.proofs.ControlLemmas.{next_space_seen, later_table}
use Rattle.l4_threads.proofs.table.Threads.skip_spaces.Goals as goal

pub invariant_of-self : goal.invariant_of-self
invariant_of-self c =
    let rises : c.self.inside.next_space ≤ c.args.next =
    subst (λ n. n ≤ c.args.next) (next_space_seen c.self.inside.threads c.self.inside.queue.items c.self.inside.next_space c.args.self.now c.self.invariant.table c.self.view_is) c.requires in
    record {
      table = later_table c.self.inside.threads c.self.inside.queue.items c.self.inside.next_space c.args.next c.self.invariant.table rises (omega (arith, c.ranges.next.fits));
      focused = c.self.invariant.focused;
    }
