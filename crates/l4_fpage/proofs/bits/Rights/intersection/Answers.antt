use Rattle.std.proofs.Common.{◌∙◌, ap}
use Rattle.l4_fpage.specs.Rights.{set_of_bits, common}
use Rattle.l4_fpage.proofs.Eight.{and_is}
use Rattle.l4_fpage.proofs.bits.Rights.intersection.Goals as goal

pub returns : goal.returns
returns c = ap set_of_bits (c.intersection.ensures tt) ∙ and_is _ _ c.self.invariant c.other.invariant ∙ (λ i. common (c.self.view_is i) (c.other.view_is i))
