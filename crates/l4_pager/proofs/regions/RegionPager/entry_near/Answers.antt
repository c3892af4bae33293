use Rattle.l4_pager.proofs.Places.{guessed}
use Rattle.l4_pager.proofs.regions.RegionPager.entry_near.Goals as goal
use Rattle.l4_pager.specs.Regions.{Regions}
use Rattle.std.proofs.Common.{ap}

pub returns-in-Some : goal.returns-in-Some
returns-in-Some c =
    guessed c.self.inside.entries.items c.as_slice-entries.result.now c.args.self.now.entries c.args.page c.args.access c.args.guess c.in-Some.entry (ap (λ (t : Regions). t.entries) c.self.view_is) c.as_slice-entries.ensures.value c.self.invariant.apart c.in-Some.ensures

pub returns-in-Some-entry_at : goal.returns-in-Some-entry_at
returns-in-Some-entry_at c =
    guessed c.self.inside.entries.items c.as_slice-entries.result.now c.args.self.now.entries c.args.page c.args.access _ c.in-Some-entry_at.entry (ap (λ (t : Regions). t.entries) c.self.view_is) c.as_slice-entries.ensures.value c.self.invariant.apart c.in-Some-entry_at.ensures
