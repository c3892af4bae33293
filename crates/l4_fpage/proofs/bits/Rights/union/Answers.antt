use Rattle.std.proofs.Common.{◌∙◌, ap}
use Rattle.std.proofs.lemmas.Nat.{or_lt}
use Rattle.l4_fpage.specs.Rights.{set_of_bits, either}
use Rattle.l4_fpage.proofs.Eight.{or_is}
use Rattle.l4_fpage.proofs.bits.Rights.union.Goals as goal

pub returns : goal.returns
returns c = ap set_of_bits (c.union.ensures tt) ∙ or_is _ _ c.self.invariant c.other.invariant ∙ (λ i. either (c.self.view_is i) (c.other.view_is i))

pub invariant_of-result : goal.invariant_of-result
invariant_of-result c = rw (c.union.ensures tt) (or_lt 3 _ _ c.self.invariant c.other.invariant)
