use Rattle.l4_keys.proofs.Same.{same_servers}
use Rattle.l4_keys.proofs.laws.words_determine_servers.Goals as goal

pub returns : goal.returns
returns c = same_servers
