use Rattle.std.proofs.Common.{List, inl, refl, subst}
use Rattle.l4_msg.specs.Protocols.{nothing, one_item}
use Rattle.l4_msg.specs.declared.items.Item.TheVariants.{Map}
use Rattle.l4_pager.specs.Briefs.{brief_message}
use Rattle.l4_pager.specs.Regions.{Answers, Regions}
use Rattle.l4_pager.specs.declared.regions.Entry.{Entry}
use Rattle.l4_servers.proofs.Kept.{has_regions, no_regions}
use Rattle.l4_servers.proofs.servers.Servers.brief_region_answer.Goals as goal

pub returns-clause-answers : goal.returns-clause-answers
returns-clause-answers c =
    subst (λ (es : Regions). Answers es (brief_message c.args.brief.now) (one_item (Map c.answer_fault_near-base.result.0 c.answer_fault_near-base.result.1))) (has_regions _ _ _ _ _ _ c.self.view_is c.in-Some-get.ensures.value)
    (inl (c.in-Some.fault, c.in-Some.ensures, c.answer_fault_near-base.ensures.answers))

pub returns-in_default-get-clause-answers : goal.returns-in_default-get-clause-answers
returns-in_default-get-clause-answers c =
    subst (λ (es : Regions). Answers es (brief_message c.args.brief.now) nothing) (no_regions _ _ _ _ _ c.self.view_is c.in_default-get.ensures.value) (inl (c.in-Some.fault, c.in-Some.ensures, refl))
