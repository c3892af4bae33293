use Rattle.std.proofs.Common.{List, ℕ, sym, subst}
use Rattle.std.specs.Ordering.{nat_cmp}
use Rattle.std.specs.List.Sorted.{IsStrictlySortedBy}
use Rattle.l4_servers.proofs.Numbers.{none_rise}
use Rattle.l4_servers.proofs.served.ServedThreads.new.Goals as goal

pub invariant_of-result : goal.invariant_of-result
invariant_of-result c = subst (λ (ks : List ℕ). IsStrictlySortedBy nat_cmp ks) (sym c.new.ensures.items) none_rise
