use Rattle.std.proofs.Common.{◌≡◌, ◌-◌, ◌∙◌, ap, arith}
use Rattle.std.proofs.lemmas.Nat.{and_le_l}
use Rattle.bitflags.specs.Sets.{without as bits_without}
use Rattle.l4_fpage.specs.Rights.{set_of_bits, without}
use Rattle.l4_fpage.proofs.Eight.{without_is}
use Rattle.l4_fpage.proofs.bits.Rights.difference.Goals as goal

pub invariant_of-result : goal.invariant_of-result
invariant_of-result c =
    let e : c.difference.result.0 ≡ bits_without 8 c.self.inside.set.0 c.other.inside.set.0 = c.difference.ensures tt in
    omega (arith, e, c.self.invariant, and_le_l c.self.inside.set.0 (255 - c.other.inside.set.0))

pub returns : goal.returns
returns c = ap set_of_bits (c.difference.ensures tt) ∙ without_is _ _ c.self.invariant c.other.invariant ∙ (λ i. without (c.self.view_is i) (c.other.view_is i))
