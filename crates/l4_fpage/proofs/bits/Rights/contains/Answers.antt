use Rattle.std.proofs.Common.{◌≡◌, ◌∙◌, sym}
use Rattle.l4_fpage.specs.Rights.{without, is_none}
use Rattle.l4_fpage.proofs.Eight.{contains_is, within_if_none, none_if_within}
use Rattle.l4_fpage.proofs.bits.Rights.contains.Goals as goal
use Rattle.l4_fpage.proofs.bits.Rights.contains.Goals.{After-contains}

lacks : (c : After-contains) → c.contains.result ≡ is_none (without c.args.other c.args.self)
lacks c = c.contains.ensures tt ∙ contains_is _ _ c.self.invariant c.other.invariant ∙ (λ i. is_none (without (c.other.view_is i) (c.self.view_is i)))

pub returns-clause-lacks : goal.returns-clause-lacks
returns-clause-lacks c = lacks c

pub returns-clause-within : goal.returns-clause-within
returns-clause-within c = (
  λ h. within_if_none c.args.other c.args.self (sym (lacks c) ∙ h),
  λ h. lacks c ∙ none_if_within c.args.other c.args.self h,
)
