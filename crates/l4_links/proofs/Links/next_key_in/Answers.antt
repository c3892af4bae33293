use Rattle.std.proofs.Common.{MatchOption, subst}
use Rattle.l4_links.specs.Entries.{Linked, NoKeyIn, IsNextKeyIn, IsKeyOf}
use Rattle.l4_links.proofs.Naming.{next_in_is}
use Rattle.l4_links.proofs.Links.next_key_in.Goals as goal

pub returns : goal.returns
returns c =
    subst (λ (s : Linked). MatchOption c.next_node.result (NoKeyIn s.entries c.args.space c.args.page c.args.end)
    (λ found. IsNextKeyIn s.entries c.args.space c.args.page c.args.end found.0 × IsKeyOf s.entries (record { space = c.args.space; page = found.0 }) found.1)) c.self.view_is
    (next_in_is c.self.inside.nodes.slots c.self.inside.pages c.args.space c.args.page c.args.end c.next_node.result c.self.invariant.indexed c.next_node.ensures)
