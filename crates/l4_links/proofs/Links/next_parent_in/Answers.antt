use Rattle.std.proofs.Common.{MatchOption, subst}
use Rattle.l4_links.specs.Entries.{Linked, NoParentIn, IsNextParentIn}
use Rattle.l4_links.proofs.ParentWalk.{view_parent}
use Rattle.l4_links.proofs.Links.next_parent_in.Goals as goal

pub returns : goal.returns
returns c =
    subst (λ (s : Linked). MatchOption c.next_parent.result (NoParentIn s.entries c.args.space c.args.page c.args.end) (λ found. IsNextParentIn s.entries c.args.space c.args.page c.args.end found.0 found.1)) c.self.view_is
    (view_parent c.self.inside.nodes.slots c.self.inside.pages c.args.space c.args.page c.args.end c.next_parent.result c.self.invariant.indexed c.next_parent.ensures)
