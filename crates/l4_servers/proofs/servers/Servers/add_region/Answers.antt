use Rattle.std.proofs.Common.{ℕ, List, sym, ap, ◌∙◌, subst, refl}
use Rattle.std.specs.Option.{is_some}
use Rattle.std.specs.Ordering.{nat_cmp}
use Rattle.std.specs.Map.{set_value}
use Rattle.std.specs.BTreeMap.{BTreeMap, is_at}
use Rattle.std.proofs.lemmas.Map.Steps.{set_value_same}
use Rattle.l4_pager.specs.declared.regions.Entry.{Entry}
use Rattle.l4_pager.specs.Regions.{AddFails, CanAdd, Regions, no_entries}
use Rattle.l4_servers.proofs.Kept.{has_regions, no_regions, no_table, region_added, same_tables}
use Rattle.l4_servers.proofs.servers.Servers.add_region.Goals as goal

pub returns-in_default-add : goal.returns-in_default-add
returns-in_default-add c =
    let is = has_regions _ _ _ _ _ _ c.self.view_is c.in-Some.ensures.value in (
      subst (λ (es : Regions). CanAdd es c.args.entry) is c.in_default-add.ensures.0,
      region_added _ _ _ _ _ _ _ _ _ _ c.self.view_is is c.in_default-add.ensures.1 refl
          ((c.get_mut.follows.holds c.add.new.self).3 (ap is_some (sym c.in-Some.ensures.value))).0,
    )

pub returns-in-Some : goal.returns-in-Some
returns-in-Some c =
    let is = has_regions _ _ _ _ _ _ c.self.view_is c.in-Some.ensures.value in (
      subst (λ (es : Regions). AddFails es c.args.entry c.in-Err.refusal) is c.in-Err.ensures.0,
      same_tables _ _ _ _ _ c.self.view_is ((c.get_mut.follows.holds c.add.new.self).0
          ∙ ap (set_value (is_at (nat_cmp c.args.thread)) c.self.inside.tables.entries) c.in-Err.ensures.1
          ∙ set_value_same (is_at (nat_cmp c.args.thread)) c.self.inside.tables.entries c.in-Some.table.now (sym c.in-Some.ensures.value)),
    )

pub returns-in-Err-add : goal.returns-in-Err-add
returns-in-Err-add c = (
  subst (λ (es : Regions). AddFails es c.args.entry c.in-Err-add.refusal) (c.new-table.ensures ∙ ap no_entries c.page_size.ensures ∙ no_regions _ _ _ _ _ c.self.view_is c.in_default.ensures.value) c.in-Err-add.ensures.0,
  same_tables _ _ _ _ _ c.self.view_is (ap (λ (m : BTreeMap ℕ Regions). m.entries) c.get_mut.follows.holds-at-none),
)

pub returns-in_default-insert : goal.returns-in_default-insert
returns-in_default-insert c = (
  (
    subst (λ (es : Regions). CanAdd es c.args.entry) (c.new-table.ensures ∙ ap no_entries c.page_size.ensures ∙ no_regions _ _ _ _ _ c.self.view_is c.in_default.ensures.value) c.in_default-add-2.ensures.0,
    no_table _ _ _ _ _ c.self.view_is c.in_default.ensures.value,
  ),
  same_tables _ _ _ _ _ c.self.view_is (c.in_default-insert.ensures.err ∙ ap (λ (m : BTreeMap ℕ Regions). m.entries) c.get_mut.follows.holds-at-none),
)

pub returns : goal.returns
returns c =
    let is = c.new-table.ensures ∙ ap no_entries c.page_size.ensures ∙ no_regions _ _ _ _ _ c.self.view_is c.in_default.ensures.value in (
      subst (λ (es : Regions). CanAdd es c.args.entry) is c.in_default-add-2.ensures.0,
      region_added _ _ _ _ _ _ _ _ _ _ c.self.view_is is c.in_default-add-2.ensures.1 (ap (λ (m : BTreeMap ℕ Regions). m.entries) c.get_mut.follows.holds-at-none) c.in-Ok.ensures.updates.0,
    )
