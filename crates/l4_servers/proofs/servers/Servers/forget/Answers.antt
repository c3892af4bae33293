use Rattle.l4_servers.proofs.Kept.{forgets}
use Rattle.l4_servers.proofs.servers.Servers.forget.Goals as goal

pub returns : goal.returns
returns c = forgets _ _ _ _ _ _ _ c.self.view_is c.remove.ensures.updates.0 c.take_back.ensures
