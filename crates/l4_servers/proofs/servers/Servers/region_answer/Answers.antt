use Rattle.std.proofs.Common.{List, ◌∙◌, subst, ap}
use Rattle.l4_pager.specs.declared.regions.Entry.{Entry}
use Rattle.l4_pager.specs.Regions.{Answers, Regions, no_entries}
use Rattle.l4_servers.proofs.Kept.{has_regions, no_regions}
use Rattle.l4_servers.proofs.servers.Servers.region_answer.Goals as goal

pub returns-in-Some-clause-answers : goal.returns-in-Some-clause-answers
returns-in-Some-clause-answers c =
    subst (λ (es : Regions). Answers es c.args.message.now c.answer.result) (has_regions _ _ _ _ _ _ c.self.view_is c.in-Some.ensures.value) c.answer.ensures.answers

pub returns-in-None-clause-answers : goal.returns-in-None-clause-answers
returns-in-None-clause-answers c =
    subst (λ (es : Regions). Answers es c.args.message.now c.answer-in-None.result) (c.new.ensures ∙ ap no_entries c.page_size.ensures ∙ no_regions _ _ _ _ _ c.self.view_is c.in-None.ensures.value) c.answer-in-None.ensures.answers
