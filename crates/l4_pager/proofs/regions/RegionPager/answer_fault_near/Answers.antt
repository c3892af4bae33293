use Rattle.std.proofs.Common.{◌≡◌, ◌+◌, ◌-◌, ◌/◌, ◌<◌, ◌≤◌, arith, ap, subst, sym, ◌∙◌}
use Rattle.l4_fpage.specs.declared.sizes.PageSize.{PageSize}
use Rattle.l4_fpage.specs.Pages.{space_pages}
use Rattle.l4_fpage.proofs.PageSizes.{pages_most, whole_units}
use Rattle.l4_pager.specs.Regions.{Regions}
use Rattle.l4_pager.proofs.Tables.{entry_holds, gives}
use Rattle.l4_pager.proofs.regions.RegionPager.answer_fault_near.Goals as goal

pub overflow_sub-source : goal.overflow_sub-source
overflow_sub-source c = (entry_holds c.args.self.now.size c.args.self.now.entries c.page_of-page.result c.args.fault.now.access c.in-Some.entry c.law_table.ensures.good c.in-Some.ensures.0).0

pub overflow_add-source : goal.overflow_add-source
overflow_add-source c =
    let h = entry_holds c.args.self.now.size c.args.self.now.entries c.page_of-page.result c.args.fault.now.access c.in-Some.entry c.law_table.ensures.good c.in-Some.ensures.0 in
    omega (arith, h.0, h.1, h.2, pages_most c.args.self.now.size)

pub invariant_of-source : goal.invariant_of-source
invariant_of-source c =
    let h = entry_holds c.args.self.now.size c.args.self.now.entries c.page_of-page.result c.args.fault.now.access c.in-Some.entry c.law_table.ensures.good c.in-Some.ensures.0 in
    record { block = record { small = omega arith; aligned = omega arith; inside = omega (arith, h.0, h.1, h.2, pages_most c.args.self.now.size) } }

pub of_block-fpage-requires : goal.of_block-fpage-requires
of_block-fpage-requires c =
    let h = entry_holds c.args.self.now.size c.args.self.now.entries c.page_of-page.result c.args.fault.now.access c.in-Some.entry c.law_table.ensures.good c.in-Some.ensures.0 in
    let same : c.self.inside.size ≡ c.args.self.now.size = ap (λ (t : Regions). t.size) c.self.view_is in
    subst (λ (s : PageSize). c.in-Some.entry.source + (c.page_of-page.result - c.in-Some.entry.first) + 1 ≤ space_pages s) (sym same) (omega (arith, h.0, h.1, h.2))

pub returns-clause-whole : goal.returns-clause-whole
returns-clause-whole c = rw c.address_of.ensures (whole_units c.self.inside.size c.page_of-page.result)

pub returns-clause-answers : goal.returns-clause-answers
returns-clause-answers c =
    gives c.args.self.now c.self.inside.size (ap (λ (t : Regions). t.size) c.self.view_is) c.args.fault.now c.page_of-page.result c.page_of-page.ensures.value c.in-Some.entry c.in-Some.ensures.0
    c.address_of.result c.of_block-fpage.result c.address_of.ensures c.of_block-fpage.ensures.bytes c.of_block-fpage.ensures.rights
