use Rattle.std.proofs.Common.{subst}
use Rattle.l4_links.specs.Entries.{Linked, SetsPlain}
use Rattle.l4_links.specs.Inside.Keeping.{entries_of}
use Rattle.l4_links.proofs.Noting.{quiet_plain, less_plain, sound_quiet}
use Rattle.l4_links.proofs.Naming.{indexed_same}
use Rattle.l4_links.proofs.Views.{view_plain}
use Rattle.l4_links.proofs.Stacking.{stack_quiet}
use Rattle.l4_links.proofs.Links.set_plain.Goals as goal

pub invariant_of-self : goal.invariant_of-self
invariant_of-self c = search (sound_quiet, quiet_plain, less_plain, indexed_same, stack_quiet)

pub returns-clause-sets : goal.returns-clause-sets
returns-clause-sets c =
    subst (λ (s : Linked). SetsPlain c.args.key s.entries (entries_of c.set_plain.new.nodes.slots)) c.self.view_is
    (view_plain c.self.inside.nodes.slots c.set_plain.new.nodes.slots c.args.key c.set_plain.ensures)
