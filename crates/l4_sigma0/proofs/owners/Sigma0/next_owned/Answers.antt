use Rattle.std.proofs.Common.{subst}
use Rattle.l4_sigma0.specs.Owners.{Owners}
use Rattle.l4_sigma0.specs.Listed.{NoneOwnedFrom, IsNextOwned}
use Rattle.l4_sigma0.proofs.Maps.{none_owned, next_owned}
use Rattle.l4_sigma0.proofs.owners.Sigma0.next_owned.Goals as goal

pub returns-in_default : goal.returns-in_default
returns-in_default c =
    subst (λ (t : Owners). NoneOwnedFrom t c.args.from) c.self.view_is
    (none_owned c.self.inside.size c.self.inside.frames c.self.inside.owners c.args.from c.in_default.ensures)

pub returns : goal.returns
returns c =
    subst (λ (t : Owners). IsNextOwned t c.args.from c.in-Some.frame c.in-Some.owner) c.self.view_is
    (next_owned c.self.inside.size c.self.inside.frames c.self.inside.owners c.args.from _ _ c.in-Some.ensures)
