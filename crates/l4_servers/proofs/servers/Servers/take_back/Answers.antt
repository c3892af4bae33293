use Rattle.l4_servers.proofs.Kept.{takes_back}
use Rattle.l4_servers.proofs.servers.Servers.take_back.Goals as goal

pub returns : goal.returns
returns c = takes_back _ _ _ _ _ _ c.self.view_is c.remove.ensures
