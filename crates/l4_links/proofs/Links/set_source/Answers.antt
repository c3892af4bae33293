use Rattle.std.proofs.Common.{subst}
use Rattle.l4_links.specs.Entries.{Linked, SetsSource}
use Rattle.l4_links.specs.Inside.Keeping.{entries_of}
use Rattle.l4_links.proofs.Noting.{quiet_source, less_source, sound_quiet, sound_noted}
use Rattle.l4_links.proofs.Naming.{indexed_same}
use Rattle.l4_links.proofs.Views.{view_source}
use Rattle.l4_links.proofs.Stacking.{stack_quiet}
use Rattle.l4_links.proofs.Links.set_source.Goals as goal

-- where the mark was taken away
pub invariant_of-self : goal.invariant_of-self
invariant_of-self c = search (sound_quiet, quiet_source, less_source, indexed_same, stack_quiet)

pub returns-then-not-source-clause-sets : goal.returns-then-not-source-clause-sets
returns-then-not-source-clause-sets c =
    subst (λ (s : Linked). SetsSource c.args.key c.args.source s.entries (entries_of c.set_source.new.nodes.slots)) c.self.view_is
    (view_source c.self.inside.nodes.slots c.set_source.new.nodes.slots c.args.key c.args.source c.set_source.ensures)

pub invariant_of-self-2 : goal.invariant_of-self-2
invariant_of-self-2 c = search (sound_noted, quiet_source, indexed_same, stack_quiet)

pub returns-clause-sets : goal.returns-clause-sets
returns-clause-sets c =
    subst (λ (s : Linked). SetsSource c.args.key c.args.source s.entries (entries_of c.set_source.new.nodes.slots)) c.self.view_is
    (view_source c.self.inside.nodes.slots c.set_source.new.nodes.slots c.args.key c.args.source c.set_source.ensures)
