use Rattle.std.proofs.Common.{MatchOption, subst}
use Rattle.l4_links.specs.Entries.{Linked, NoKeyFrom, IsNextKey}
use Rattle.l4_links.proofs.Naming.{next_is}
use Rattle.l4_links.proofs.Links.next_key.Goals as goal

pub returns : goal.returns
returns c =
    subst (λ (s : Linked). MatchOption c.next_present.result (NoKeyFrom s.entries c.args.space c.args.page) (IsNextKey s.entries c.args.space c.args.page)) c.self.view_is
    (next_is c.self.inside.nodes.slots c.self.inside.pages c.args.space c.args.page c.next_present.result c.self.invariant.indexed c.next_present.ensures)
