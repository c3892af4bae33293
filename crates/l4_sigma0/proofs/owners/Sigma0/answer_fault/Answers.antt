use Rattle.std.proofs.Common.{◌≡◌, ◌/◌, inl, refl, ap, ◌∙◌}
use Rattle.l4_fpage.specs.Pages.{page_bytes}
use Rattle.l4_sigma0.specs.Owners.{Owners}
use Rattle.l4_sigma0.proofs.Wanted.{fault_alone}
use Rattle.l4_sigma0.proofs.owners.Sigma0.answer_fault.Goals as goal

pub returns-clause-answers : goal.returns-clause-answers
returns-clause-answers c = λ m reads.
    let same : c.page_of-page.result ≡ c.args.fault.now.address / page_bytes c.args.self.now.size = c.page_of-page.ensures.value ∙ ap (λ (t : Owners). c.args.fault.now.address / page_bytes t.size) c.self.view_is in
    let alone = fault_alone c.args.self.now.size m c.args.fault.now reads in
    c.give.ensures.answers m (inl (c.args.fault.now, reads, same, refl)) (λ first log wants. (same ∙ (alone first log wants).0, (alone first log wants).1))
