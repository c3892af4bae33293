use Rattle.std.proofs.Common.{refl, inr}
use Rattle.l4_links.proofs.Renewing.{unmarked_same, unmarked_all}
use Rattle.l4_links.proofs.walks.stamp_for.Goals as goal

pub returns-then-stamp-eq0-clause-same : goal.returns-then-stamp-eq0-clause-same
returns-then-stamp-eq0-clause-same c = unmarked_same c.args.nodes.now.slots c.clear_notes.new.self.slots c.clear_notes.ensures

pub returns-then-stamp-eq0-clause-begins : goal.returns-then-stamp-eq0-clause-begins
returns-then-stamp-eq0-clause-begins c = inr (inr (refl, unmarked_all c.args.nodes.now.slots c.clear_notes.new.self.slots c.clear_notes.ensures))
