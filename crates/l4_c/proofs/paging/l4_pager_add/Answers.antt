use Rattle.std.proofs.Common.{Option, Some, inr, sym, ap, ◌∙◌, subst}
use Rattle.l4_pager.specs.declared.regions.Entry.{Entry}
use Rattle.l4_pager.specs.Regions.{Regions, AddFails}
use Rattle.l4_c.specs.Served.{Adds}
use Rattle.l4_c_values.specs.Regions.{entry_of}
use Rattle.l4_c.proofs.paging.l4_pager_add.Goals as goal

pub returns-in-Err : goal.returns-in-Err
returns-in-Err c =
    let refusal = c.in-Err.refusal in let before = c.deref_mut.ensures.value in let said = c.in-Err.ensures in
    let fails = subst (λ (e : Entry). AddFails c.deref_mut.result.now e refusal) c.entry_of.ensures said.0 in
    subst (λ (old : Option Regions). Adds old c.args.region.now c.entry_number.result c.put.new.self.value) (sym c.in-Some.ensures.taken)
    (inr (refusal, subst (λ (t : Regions). AddFails t (entry_of c.args.region.now) refusal) before fails, c.entry_number.ensures, c.put.ensures ∙ ap Some (said.1 ∙ before)))
